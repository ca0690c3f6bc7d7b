-- `slot_named` meets its contract: found from here on is found from the first slot.
-- Assumes nothing.
use mathlib.Core.Path.{◌≡◌, sym, ap, ◌∙◌}
use native.Mathlib.Omega.{arith}
use Rattle.index.specs.Whole.{some_slot}
use Rattle.index.proofs.SlotLaws.{slot_is, slot_none}
use Rattle.finding.specs.Slot.{slot_named}
use Rattle.finding.proofs.FindLaws.{walk_start, walk_met, walk_more, walk_end}
use Rattle.finding.proofs.slot_named.Goals as goal

pub loop-slot-init : goal.loop-slot-init
loop-slot-init c = walk_start _ _ _

pub returns-then-is_named : goal.returns-then-is_named
returns-then-is_named c =
    let a = c.args in
    let w = c.loop-slot in
    let e = w.invariant ∙ walk_met a.g a.image.now a.name.now w.slot (omega arith) (sym c.is_named.ensures ∙ c.if-is_named.true) in
    (slot_is w.slot (omega arith) ∙ ap some_slot (sym e), omega (arith, e))

pub loop-slot-preserved : goal.loop-slot-preserved
loop-slot-preserved c =
    let a = c.args in
    let w = c.loop-slot in
    w.invariant ∙ walk_more a.g a.image.now a.name.now w.slot (omega arith) (sym c.is_named.ensures ∙ c.if-is_named.false)

pub returns : goal.returns
returns c =
    let a = c.args in
    let e : slot_named a.g a.image.now a.name.now ≡ 0 = c.loop-slot.invariant ∙ walk_end a.g a.image.now a.name.now c.loop-slot.slot (omega arith) in
    (slot_none _ e, omega (arith, e))
