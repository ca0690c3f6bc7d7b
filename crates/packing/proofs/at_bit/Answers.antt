-- `at_bit` meets its contract: a byte is at most 255, so that the product has room.
-- Assumes nothing.
use native.Mathlib.Omega.{arith}
use native.Mathlib.Nat.{mul-le-mul_right}
use Rattle.packing.proofs.at_bit.Goals as goal

pub overflow_mul-result : goal.overflow_mul-result
overflow_mul-result c = omega (arith, mul-le-mul_right {m = c.from.result} {n = 255} c.args.bit (omega arith))

pub returns : goal.returns
returns c = (cc, mul-le-mul_right _ (omega arith))
