-- `pack_place` meets its contract: the three parts have room, and fill 32 bits.
-- Assumes nothing.
use native.Mathlib.Omega.{arith}
use Rattle.standard.specs.Packed.{packed_place}
use Rattle.packing.proofs.pack_place.Goals as goal

pub returns : goal.returns
unfolding packed_place
returns c = (cc, omega arith)
