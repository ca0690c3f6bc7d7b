-- Behind the kind and the body.
-- Assumes nothing.
use native.Mathlib.Omega.{arith}
use Rattle.standard.specs.Layout.{body_offset}
use Rattle.layout.proofs.TrackLaws.{offset_low}
use Rattle.layout.proofs.kind_after.Goals as goal

pub overflow_add-at : goal.overflow_add-at
overflow_add-at c =
    let x = c.args in
    let p = c.requires in
    omega (arith, p.2, offset_low x.g (omega arith) (omega arith) (omega arith) (omega arith) (omega arith) x.a p.0)

pub overflow_add-at-2 : goal.overflow_add-at-2
overflow_add-at-2 c =
    let x = c.args in
    let p = c.requires in
    omega (arith, p.2, c.from.ensures, offset_low x.g (omega arith) (omega arith) (omega arith) (omega arith) (omega arith) x.a p.0)

pub kind_behind-requires : goal.kind_behind-requires
unfolding body_offset
kind_behind-requires c =
    let p = c.requires in
    (p.0, p.1, omega (arith, p.2, c.from.ensures))
