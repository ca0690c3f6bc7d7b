-- `find_slot` meets its contract: a refused volume, a label, no label.
-- Assumes nothing.
use mathlib.Core.Path.{sym, ap, ◌∙◌}
use Rattle.std.specs.Prelude.{Err}
use Rattle.volume.specs.Stages.{refusal_of}
use Rattle.volume.proofs.NumberLaws.{slotted_of}
use Rattle.finding.proofs.FindLaws.{room_there, slot_refused, no_slot, slot_there}
use Rattle.finding.proofs.find_slot.Goals as goal

pub returns-in_default : goal.returns-in_default
returns-in_default c = ap Err (c.refusal_of.ensures ∙ ap refusal_of c.in_default.is) ∙ slot_refused _ _ (sym c.judge-verdict.ensures ∙ c.in_default.is) _

pub has_label-requires : goal.has_label-requires
has_label-requires c = slotted_of _ _ (sym c.judge-verdict.ensures ∙ c.in-Ok.is)

pub label_offset-requires : goal.label_offset-requires
label_offset-requires c =
    let r = room_there _ _ _ (slotted_of _ _ (sym c.judge-verdict.ensures ∙ c.in-Ok.is)) (sym c.has_label.ensures ∙ c.if-has_label.true) in
    (r.small, r.indexed)

pub returns-then-has_label : goal.returns-then-has_label
returns-then-has_label c = slot_there _ _ _ (sym c.judge-verdict.ensures ∙ c.in-Ok.is) _ (sym c.has_label.ensures ∙ c.if-has_label.true) c.label_offset.ensures.0

pub returns : goal.returns
returns c = c.unfound.ensures ∙ no_slot _ _ _ (sym c.judge-verdict.ensures ∙ c.in-Ok.is) (sym c.has_label.ensures ∙ c.if-has_label.false)
