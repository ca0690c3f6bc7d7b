-- `kind_offset` meets its contract: in the index cylinder, and behind it.
-- Assumes nothing.
use Rattle.layout.proofs.Laws.{offset_first, offset_later}
use native.Mathlib.Omega.{arith}
use Rattle.layout.proofs.kind_offset.Goals as goal

pub returns-then-n-first : goal.returns-then-n-first
returns-then-n-first c = (offset_first _ _ _ (omega arith) (cc), omega arith)

pub returns : goal.returns
returns c = (offset_later _ _ _ (omega arith) (cc), omega arith)
