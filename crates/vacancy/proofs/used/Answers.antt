-- `used` meets its contract: the total is of the slots passed.
-- Assumes nothing.
use Prim.Native.Nat.{◌+◌, ◌-◌}
use mathlib.Core.Path.{◌≡◌, sym}
use native.Mathlib.Omega.{arith}
use Rattle.vacancy.proofs.FreeLaws.{extents_none, extents_more}
use Rattle.vacancy.proofs.used.Goals as goal

pub loop-slot-init : goal.loop-slot-init
loop-slot-init c = (omega arith, sym (extents_none _ _))

pub loop-slot-preserved : goal.loop-slot-preserved
loop-slot-preserved c =
    let a = c.args in
    let w = c.loop-slot in
    let s = c.size_in-total.ensures in
    let e : w.slot - 1 + 1 ≡ w.slot = omega arith in
    let f : w.slot + 1 - 1 ≡ w.slot = omega arith in
    let more = rw e at (extents_more a.g a.image.now (w.slot - 1)) in
    (omega (arith, s.1), rw f (omega (arith, w.invariant.1, s.0, more)))
