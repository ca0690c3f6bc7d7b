-- `slot_count` meets its contract: two sides, and one.
-- Assumes nothing.
use Rattle.layout.proofs.Laws.{two_sides, one_side}
use native.Mathlib.Omega.{arith}
use borrow.Author.Rules.{rules}
use Rattle.layout.proofs.slot_count.Goals as goal

pub returns-then-sides-eq2 : goal.returns-then-sides-eq2
returns-then-sides-eq2 c = (two_sides _ _ (search rules) (cc), omega arith)

pub returns : goal.returns
returns c = (one_side _ _ (search rules) (cc), omega arith)
