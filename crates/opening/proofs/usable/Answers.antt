-- Stopped by 13 or 14, or as positions 42 and 45 say.
-- Assumes nothing.
use Rattle.std.specs.Prelude.{Err}
use mathlib.Core.Path.{sym, ap, ◌∙◌}
use Rattle.standard.proofs.RefusalLaws.{handed_on}
use Rattle.volume.proofs.NumberLaws.{slotted_of}
use Rattle.finding.proofs.AskLaws.{known_room}
use Rattle.opening.proofs.OpenLaws.{space_told, other_told, usable_stopped, usable_15, usable_16, usable_all}
use Rattle.opening.proofs.usable.Goals as goal

pub known_file-requires : goal.known_file-requires
known_file-requires c = slotted_of _ _ c.requires

pub returns-in_err-known_file : goal.returns-in_err-known_file
returns-in_err-known_file c = handed_on _ _ c.from_residual.ensures ∙ usable_stopped _ _ _ _ (sym c.known_file.ensures ∙ c.in_err-known_file.was)

pub label_at-h-requires : goal.label_at-h-requires
label_at-h-requires c = known_room _ _ _ (slotted_of _ _ c.requires) (sym c.known_file.ensures ∙ c.in_ok-known_file.was)

pub returns-then-from-ne32 : goal.returns-then-from-ne32
returns-then-from-ne32 c =
    let k = sym c.known_file.ensures ∙ c.in_ok-known_file.was in
    ap Err c.at.ensures ∙ usable_15 _ _ _ k (other_told _ _ 42 _ c.label_at-h.ensures.0 c.from.ensures c.if-from-ne32.true)

pub returns-then-from-ne32-2 : goal.returns-then-from-ne32-2
returns-then-from-ne32-2 c =
    let k = sym c.known_file.ensures ∙ c.in_ok-known_file.was in
    let d = space_told _ _ 42 _ c.label_at-h.ensures.0 c.from.ensures c.if-from-ne32.false in
    ap Err c.at-then-from-ne32-2.ensures ∙ usable_16 _ _ _ k d (other_told _ _ 45 _ c.label_at-h.ensures.0 c.from-2.ensures c.if-from-ne32-2.true)

pub returns : goal.returns
returns c =
    let k = sym c.known_file.ensures ∙ c.in_ok-known_file.was in
    let d = space_told _ _ 42 _ c.label_at-h.ensures.0 c.from.ensures c.if-from-ne32.false in
    usable_all _ _ _ k d (space_told _ _ 45 _ c.label_at-h.ensures.0 c.from-2.ensures c.if-from-ne32-2.false)
