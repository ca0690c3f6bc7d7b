-- `has_label` meets its contract: below the first slot, behind the last, and between.
-- Assumes nothing.
use Rattle.finding.proofs.FindLaws.{slot_low, slot_high, slot_inside}
use native.Mathlib.Omega.{arith}
use Rattle.finding.proofs.has_label.Goals as goal

pub returns-then-slot-lt1 : goal.returns-then-slot-lt1
returns-then-slot-lt1 c = slot_low _ _ _ c.if-slot-lt1.true

pub returns-then-n-slot : goal.returns-then-n-slot
returns-then-n-slot c = slot_high _ _ _ c.if-slot-lt1.false (omega arith)

pub returns : goal.returns
returns c = slot_inside _ _ _ _ c.if-slot-lt1.false (omega arith) c.is_label.ensures
