-- `sized` meets its contract.
-- Assumes nothing.
use native.Mathlib.Omega.{arith}
use Rattle.pieces.proofs.WordLaws.{part_none, part_small, part_over, part_large, part_right}
use Rattle.pieces.proofs.sized.Goals as goal

pub returns-in_default : goal.returns-in_default
returns-in_default c = part_none _ _ _ _ _ c.in_default.is

pub returns-then-z-low : goal.returns-then-z-low
returns-then-z-low c = part_small _ _ _ _ _ _ c.in-Some.is (omega arith)

pub returns-then-high-z : goal.returns-then-high-z
returns-then-high-z c = part_over _ _ _ _ _ _ c.in-Some.is (omega arith) (omega arith)

pub returns-then-n-z : goal.returns-then-n-z
returns-then-n-z c = part_large _ _ _ _ _ _ c.in-Some.is (omega arith) (omega arith) (omega arith)

pub returns : goal.returns
returns c = part_right _ _ _ _ _ _ c.in-Some.is (omega arith) (omega arith) (omega arith)
