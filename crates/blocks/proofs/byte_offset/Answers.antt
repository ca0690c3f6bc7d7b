-- Behind the kind.
-- Assumes nothing.
use native.Mathlib.Omega.{arith}
use Rattle.standard.specs.Layout.{body_offset}
use Rattle.extents.proofs.CursorLaws.{legal_head}
use Rattle.blocks.proofs.byte_offset.Goals as goal

pub kind_of-requires : goal.kind_of-requires
kind_of-requires c = let x = c.args in legal_head x.g x.c.left x.c.at (omega arith) (cc)

pub returns : goal.returns
unfolding body_offset
returns c = (cc, omega arith)
