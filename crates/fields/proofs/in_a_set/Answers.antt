-- `in_a_set` meets its contract: below, above, and in between (CharacterLaws).
-- Assumes nothing.
use native.Mathlib.Omega.{arith}
use Rattle.fields.proofs.CharacterLaws.{below_set, above_set, inside_set}
use Rattle.fields.proofs.in_a_set.Goals as goal

pub returns-then-c-lt32 : goal.returns-then-c-lt32
returns-then-c-lt32 c = below_set _ (omega arith)

pub returns-then-c-gt95 : goal.returns-then-c-gt95
returns-then-c-gt95 c = above_set _ (omega arith)

pub returns : goal.returns
returns c = inside_set _ (omega arith) (omega arith)
