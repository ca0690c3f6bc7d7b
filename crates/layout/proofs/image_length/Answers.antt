-- `image_length` meets its contract.
-- Assumes nothing.
use Rattle.standard.specs.Layout.{image_length}
use native.Mathlib.Omega.{arith}
use Rattle.layout.proofs.image_length.Goals as goal

pub returns : goal.returns
unfolding image_length
returns c = (cc, omega arith)
