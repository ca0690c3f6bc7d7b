-- `mark_at` meets its contract.
-- Assumes nothing.
use native.Mathlib.Omega.{arith}
use Rattle.filling.proofs.PenLaws.{mark_room, marked}
use Rattle.filling.proofs.mark_at.Goals as goal

pub bounds-image-at : goal.bounds-image-at
bounds-image-at c =
    let x = c.args in
    let p = c.requires in
    omega (arith, mark_room x.g x.image.now p.0 x.c p.1 p.2, p.3)

pub overflow_add-result : goal.overflow_add-result
overflow_add-result c =
    let x = c.args in
    let p = c.requires in
    omega (arith, mark_room x.g x.image.now p.0 x.c p.1 p.2, p.3)

pub returns : goal.returns
returns c =
    let x = c.args in
    let p = c.requires in
    marked x.g x.image.now p.0 x.c p.1 p.2 x.at p.3
