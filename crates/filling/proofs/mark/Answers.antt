-- Where its address says that it stands.
-- Assumes nothing.
use native.Mathlib.Omega.{arith}
use Rattle.extents.proofs.CursorLaws.{legal_head}
use Rattle.filling.proofs.mark.Goals as goal

pub kind_of-at-requires : goal.kind_of-at-requires
kind_of-at-requires c =
    let x = c.args in
    legal_head x.g x.c.left x.c.at (omega arith) c.requires.1
