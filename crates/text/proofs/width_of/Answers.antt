-- The digits counted, and those of what is left, are all.
-- Assumes nothing.
use native.Mathlib.Omega.{arith}
use Rattle.text.proofs.Digits.{length_more, length_one, shown_bounded}
use Rattle.text.proofs.width_of.Goals as goal

pub overflow_add-width : goal.overflow_add-width
overflow_add-width c = omega (arith, shown_bounded c.args.n c.loop-m.invariant.0)

pub loop-m-preserved : goal.loop-m-preserved
loop-m-preserved c = (c.loop-m.invariant.0, omega (arith, c.loop-m.invariant.1, length_more c.loop-m.m (omega arith)))

pub returns : goal.returns
returns c =
    let w = c.loop-m in
    let one = length_one w.m (omega arith) in
    (omega (arith, w.invariant.1, one), omega (arith, w.invariant.1, one, shown_bounded c.args.n w.invariant.0))
