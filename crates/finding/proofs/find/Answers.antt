-- `find` meets its contract: a refused volume, no label of that name, a label.
-- Assumes nothing.
use mathlib.Core.Path.{sym, ap, ◌∙◌}
use Rattle.std.specs.Prelude.{Err}
use native.Mathlib.Omega.{arith}
use Rattle.volume.specs.Stages.{refusal_of}
use Rattle.volume.proofs.NumberLaws.{slotted_of}
use Rattle.finding.proofs.FindLaws.{room, found_refused, not_found, found_there, named_slot, no_named}
use Rattle.finding.proofs.find.Goals as goal

pub returns-in_default : goal.returns-in_default
returns-in_default c = ap Err (c.refusal_of.ensures ∙ ap refusal_of c.in_default.is) ∙ found_refused _ _ (sym c.judge-verdict.ensures ∙ c.in_default.is) _

pub slot_named-requires : goal.slot_named-requires
slot_named-requires c = slotted_of _ _ (sym c.judge-verdict.ensures ∙ c.in-Ok.is)

pub returns-in_default-slot_named : goal.returns-in_default-slot_named
returns-in_default-slot_named c =
    c.unfound.ensures ∙ not_found _ _ _ (sym c.judge-verdict.ensures ∙ c.in-Ok.is) (no_named _ _ _ _ c.slot_named.ensures.0 c.in_default-slot_named.is)

-- From here on a label has the name: `bearer` is its slot, and no slot is 0,
-- which is what the definition says where no label has it.

pub label_offset-requires : goal.label_offset-requires
label_offset-requires c =
    let s = c.slot_named.ensures in
    let b = named_slot _ _ _ _ _ s.0 c.in-Some.is in
    let r = room _ _ c.in-Some.bearer (slotted_of _ _ (sym c.judge-verdict.ensures ∙ c.in-Ok.is)) (omega (arith, b.0, s.1)) in
    (r.small, r.indexed)

pub returns : goal.returns
returns c =
    let b = named_slot _ _ _ _ _ c.slot_named.ensures.0 c.in-Some.is in
    found_there _ _ _ (sym c.judge-verdict.ensures ∙ c.in-Ok.is) _ _ b.0 b.1 c.label_offset.ensures.0
