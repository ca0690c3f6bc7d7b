-- `rank_of` meets its contract: the products stay small.
-- Assumes nothing.
use native.Mathlib.Omega.{arith}
use Rattle.standard.specs.Addresses.{rank}
use Rattle.fields.proofs.rank_of.Goals as goal

pub returns : goal.returns
unfolding rank
returns c = (cc, omega arith)
