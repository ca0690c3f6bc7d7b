-- A cursor with an address left stands at a legal one.
-- Assumes nothing.
use native.Mathlib.Omega.{arith}
use Rattle.extents.proofs.CursorLaws.{legal_head}
use Rattle.extents.proofs.Walk.begin.Goals as goal

pub kind_of-requires : goal.kind_of-requires
kind_of-requires c = legal_head _ _ _ (omega arith) c.requires.0
