-- Shut by 13 to 16, or as 17 and 18 say.
-- Assumes nothing.
use mathlib.Core.Path.{sym, ◌∙◌}
use Rattle.standard.proofs.RefusalLaws.{handed_on}
use Rattle.volume.proofs.NumberLaws.{slotted_of}
use Rattle.finding.proofs.FindLaws.{room_there}
use Rattle.opening.proofs.OpenLaws.{usable_facts, open_stopped, open_usable}
use Rattle.opening.proofs.open_in.Goals as goal

pub returns-in_err-usable : goal.returns-in_err-usable
returns-in_err-usable c = handed_on _ _ c.from_residual.ensures ∙ open_stopped _ _ _ _ (sym c.usable.ensures ∙ c.in_err-usable.was)

pub label_at-h-requires : goal.label_at-h-requires
label_at-h-requires c =
    let x = c.args in
    let j = c.requires in
    let s = usable_facts x.g x.image.now x.slot (sym c.usable.ensures ∙ c.in_ok-usable.was) in
    room_there x.g x.image.now x.slot (slotted_of x.image.now x.g j) s.0

pub concluded-requires : goal.concluded-requires
concluded-requires c =
    let x = c.args in
    let s = usable_facts x.g x.image.now x.slot (sym c.usable.ensures ∙ c.in_ok-usable.was) in
    (c.requires, s.0, s.1, c.label_at-h.ensures.0, c.label_at-h.ensures.1)

pub returns : goal.returns
returns c = c.concluded.ensures ∙ open_usable _ _ _ (sym c.usable.ensures ∙ c.in_ok-usable.was)
