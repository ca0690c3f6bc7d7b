-- By its ordinal.
-- Assumes nothing.
use mathlib.Core.Path.{ap, ◌∙◌}
use native.Mathlib.Omega.{arith}
use Rattle.standard.specs.Layout.{kind_offset}
use Rattle.layout.proofs.TrackLaws.{legal_small, offset_low}
use Rattle.layout.proofs.kind_of.Goals as goal

pub ordinal_of-requires : goal.ordinal_of-requires
ordinal_of-requires c = let x = c.args in legal_small x.g x.a (omega arith) (omega arith) (omega arith) c.requires

pub returns : goal.returns
returns c =
    let x = c.args in
    let e = c.kind_offset.ensures.0 ∙ ap (kind_offset x.g) c.ordinal_of.ensures.0 in
    (e, omega (arith, e, offset_low x.g (omega arith) (omega arith) (omega arith) (omega arith) (omega arith) x.a c.requires))
