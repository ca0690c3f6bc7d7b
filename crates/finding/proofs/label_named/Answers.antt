-- `label_named` meets its contract: a refused volume, no label of that name, a label.
-- Assumes nothing.
use mathlib.Core.Path.{refl, sym, ◌∙◌}
use native.Mathlib.Omega.{arith}
use Rattle.volume.proofs.NumberLaws.{slotted_of}
use Rattle.finding.proofs.FindLaws.{room, label_refused, no_label_named, label_of_name, found_refused, not_found, found_there, named_slot, no_named, hands_nothing, hands_label}
use Rattle.finding.proofs.label_named.Goals as goal

pub returns-in_default : goal.returns-in_default
returns-in_default c =
    let j = sym c.judge.ensures ∙ c.in_default.is in
    let e = c.nothing.ensures in
    (e ∙ label_refused _ _ j _, hands_nothing _ _ _ _ (found_refused _ _ j _) e)

pub slot_named-requires : goal.slot_named-requires
slot_named-requires c = slotted_of _ _ (sym c.judge.ensures ∙ c.in-Ok.is)

pub returns-in_default-slot_named : goal.returns-in_default-slot_named
returns-in_default-slot_named c =
    let j = sym c.judge.ensures ∙ c.in-Ok.is in
    let none = no_named _ _ _ _ c.slot_named.ensures.0 c.in_default-slot_named.is in
    let e = c.nothing-in_default-slot_named.ensures in
    (e ∙ no_label_named _ _ _ j none, hands_nothing _ _ _ _ (not_found _ _ _ j none) e)

-- From here on a label has the name: `slot` is its slot, and no slot is 0,
-- which is what the definition says where no label has it.

pub label_at-requires : goal.label_at-requires
label_at-requires c =
    let s = c.slot_named.ensures in
    let b = named_slot _ _ _ _ _ s.0 c.in-Some.is in
    room _ _ c.in-Some.slot (slotted_of _ _ (sym c.judge.ensures ∙ c.in-Ok.is)) (omega (arith, b.0, s.1))

pub returns : goal.returns
returns c =
    let j = sym c.judge.ensures ∙ c.in-Ok.is in
    let b = named_slot _ _ _ _ _ c.slot_named.ensures.0 c.in-Some.is in
    let l = c.label_at.ensures in
    (label_of_name _ _ _ j _ _ b.0 b.1 l.0, hands_label _ _ _ _ _ (found_there _ _ _ j _ _ b.0 b.1 refl) l.0 l.1 l.2)
