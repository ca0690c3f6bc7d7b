-- `lowest_deleted` meets its contract: deleted from here on is deleted from the first slot.
-- Assumes nothing.
use mathlib.Core.Path.{◌≡◌, sym, ap, ◌∙◌}
use native.Mathlib.Omega.{arith}
use Rattle.standard.specs.Creating.{lowest_deleted}
use Rattle.index.specs.Whole.{some_slot}
use Rattle.index.proofs.SlotLaws.{slot_is, slot_none}
use Rattle.vacancy.proofs.PassLaws.{deleted_start, deleted_here, deleted_more, deleted_all}
use Rattle.vacancy.proofs.lowest_deleted.Goals as goal

pub loop-slot-init : goal.loop-slot-init
loop-slot-init c = deleted_start _ _

pub returns-then-not-is_label : goal.returns-then-not-is_label
returns-then-not-is_label c =
    let a = c.args in
    let w = c.loop-slot in
    let e = w.invariant ∙ deleted_here a.g a.image.now c.requires w.slot (omega arith) (omega arith) (sym c.is_label.ensures ∙ c.if-not-is_label.true) in
    (slot_is w.slot (omega arith) ∙ ap some_slot (sym e), omega (arith, e))

pub loop-slot-preserved : goal.loop-slot-preserved
loop-slot-preserved c =
    let a = c.args in
    let w = c.loop-slot in
    w.invariant ∙ deleted_more a.g a.image.now c.requires w.slot (omega arith) (omega arith) (sym c.is_label.ensures ∙ c.if-not-is_label.false)

pub returns : goal.returns
returns c =
    let a = c.args in
    let e : lowest_deleted a.g a.image.now ≡ 0 = c.loop-slot.invariant ∙ deleted_all a.g a.image.now c.loop-slot.slot (omega arith) in
    (slot_none _ e, omega (arith, e))
