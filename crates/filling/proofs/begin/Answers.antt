-- `begin` meets its contract.
-- Assumes nothing.
use Rattle.filling.proofs.PenLaws.{begins}
use Rattle.filling.proofs.begin.Goals as goal

pub returns : goal.returns
returns c =
    let x = c.args in
    let p = c.requires in
    let m = c.mark.ensures in
    (begins x.g x.image.now p.0 x.c p.1 p.2 _ _ m, m.placed)
