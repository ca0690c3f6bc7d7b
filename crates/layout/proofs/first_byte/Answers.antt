-- The byte behind the kind.
-- Assumes nothing.
use mathlib.Core.Path.{◌∙◌}
use native.Mathlib.Omega.{arith}
use Rattle.layout.proofs.TrackLaws.{first_is, offset_low}
use Rattle.layout.proofs.first_byte.Goals as goal

pub overflow_add-at : goal.overflow_add-at
overflow_add-at c =
    let x = c.args in
    let p = c.requires in
    omega (arith, p.1, offset_low x.g (omega arith) (omega arith) (omega arith) (omega arith) (omega arith) x.a p.0)

pub returns : goal.returns
returns c =
    let x = c.args in
    let p = c.requires in
    (c.byte_at.ensures.0 ∙ first_is x.g x.image.now x.a p.0 x.at p.1, c.byte_at.ensures.1)
