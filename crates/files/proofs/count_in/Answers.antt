-- Stopped by 13 or 14, or counted.
-- Assumes nothing.
use mathlib.Core.Path.{sym, ap, ◌∙◌}
use Rattle.standard.proofs.RefusalLaws.{handed_on}
use Rattle.standard.specs.Layout.{label_at}
use Rattle.promises.specs.Volumes.AcceptedLaws.{label_in_range}
use Rattle.promises.specs.Volumes.VolumeNumbers.{numbers_of_lem}
use Rattle.volume.proofs.NumberLaws.{slotted_of}
use Rattle.finding.proofs.AskLaws.{known_facts, known_room}
use Rattle.files.specs.declared.Numbers.{Numbers}
use Rattle.files.specs.Numbers.{numbers_of, tallied}
use Rattle.files.proofs.Blocks.{tally_is}
use Rattle.files.proofs.Accepted.{behind, ready}
use Rattle.files.proofs.Laws.{count_stopped, count_on}
use Rattle.files.proofs.count_in.Goals as goal

pub known_file-requires : goal.known_file-requires
known_file-requires c = slotted_of _ _ c.requires

pub returns-in_err-known_file : goal.returns-in_err-known_file
returns-in_err-known_file c = handed_on _ _ c.from_residual.ensures ∙ count_stopped _ _ _ _ (sym c.known_file.ensures ∙ c.in_err-known_file.was)

pub label_at-requires : goal.label_at-requires
label_at-requires c =
    known_room _ _ _ (slotted_of _ _ c.requires) (sym c.known_file.ensures ∙ c.in_ok-known_file.was)

pub numbers_of-requires : goal.numbers_of-requires
numbers_of-requires c = (c.label_at.ensures.1, (numbers_of_lem _ _ c.requires).size_low)

pub tally-requires : goal.tally-requires
tally-requires c =
    let x = c.args in
    let k = known_facts x.g x.image.now x.slot (sym c.known_file.ensures ∙ c.in_ok-known_file.was) in
    ready x.image.now x.g x.slot c.requires k.0 k.1 c.numbers_of.result (c.numbers_of.ensures ∙ ap (numbers_of x.g) c.label_at.ensures.0)

pub returns : goal.returns
returns c =
    let x = c.args in
    let i = x.image.now in
    let p = sym c.known_file.ensures ∙ c.in_ok-known_file.was in
    let k = known_facts x.g i x.slot p in
    let n = c.numbers_of.ensures ∙ ap (numbers_of x.g) c.label_at.ensures.0 in
    c.tally.ensures ∙ ap (λ (m : Numbers). tallied x.g i m x.slot) n
    ∙ sym (tally_is x.g i (label_at x.g i x.slot) (label_in_range i x.g x.slot c.requires k.0) (behind i x.g x.slot c.requires k.0 k.1) x.slot)
    ∙ count_on x.g i x.slot p
