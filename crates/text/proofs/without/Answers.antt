-- Digit after digit is taken off.
-- Assumes nothing.
use native.Mathlib.Omega.{arith}
use Rattle.text.proofs.Digits.{without_next, without_all}
use Rattle.text.proofs.without.Goals as goal

pub loop-preserved : goal.loop-preserved
loop-preserved c = without_next c.args.digits c.loop.counter c.args.n c.loop.m (omega arith) c.loop.invariant

pub returns : goal.returns
returns c = without_all c.args.digits c.loop.counter c.args.n c.loop.m (omega arith) c.loop.invariant
