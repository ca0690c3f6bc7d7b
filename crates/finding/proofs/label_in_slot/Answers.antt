-- `label_in_slot` meets its contract: a refused volume, no label, a label.
-- Assumes nothing.
use mathlib.Core.Path.{refl, sym, ◌∙◌}
use borrow.Author.Tests.{not-true, not-false}
use Rattle.volume.proofs.NumberLaws.{slotted_of}
use Rattle.finding.proofs.FindLaws.{room_there, slot_label_refused, no_label_there, label_there, slot_refused, no_slot, slot_there, hands_nothing, hands_label}
use Rattle.finding.proofs.label_in_slot.Goals as goal

pub returns-in_default : goal.returns-in_default
returns-in_default c =
    let j = sym c.judge.ensures ∙ c.in_default.is in
    let e = c.nothing.ensures in
    (e ∙ slot_label_refused _ _ j _, hands_nothing _ _ _ _ (slot_refused _ _ j _) e)

pub has_label-requires : goal.has_label-requires
has_label-requires c = slotted_of _ _ (sym c.judge.ensures ∙ c.in-Ok.is)

pub returns-then-not-has_label : goal.returns-then-not-has_label
returns-then-not-has_label c =
    let j = sym c.judge.ensures ∙ c.in-Ok.is in
    let none = sym c.has_label.ensures ∙ not-true c.has_label.result c.if-not-has_label.true-raw in
    let e = c.nothing-then-not-has_label.ensures in
    (e ∙ no_label_there _ _ _ j none, hands_nothing _ _ _ _ (no_slot _ _ _ j none) e)

pub label_at-requires : goal.label_at-requires
label_at-requires c = room_there _ _ _ (slotted_of _ _ (sym c.judge.ensures ∙ c.in-Ok.is)) (sym c.has_label.ensures ∙ not-false c.has_label.result c.if-not-has_label.false-raw)

pub returns : goal.returns
returns c =
    let j = sym c.judge.ensures ∙ c.in-Ok.is in
    let there = sym c.has_label.ensures ∙ not-false c.has_label.result c.if-not-has_label.false-raw in
    let l = c.label_at.ensures in
    (label_there _ _ _ j _ there l.0, hands_label _ _ _ _ _ (slot_there _ _ _ j _ there refl) l.0 l.1 l.2)
