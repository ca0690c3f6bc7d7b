-- On the track, and from track to track.
-- Assumes nothing.
use mathlib.Core.Path.{◌∙◌}
use native.Mathlib.Omega.{arith}
use Rattle.layout.proofs.TrackLaws.{track_next, step_small}
use Rattle.layout.proofs.kind_behind.Goals as goal

pub returns-then-n-from : goal.returns-then-n-from
returns-then-n-from c =
    let x = c.args in
    let p = c.requires in
    p.2 ∙ track_next x.g x.a x.next p.0 p.1 (omega (arith, c.if-n-from.true, c.from.ensures))

pub ordinal_of-requires : goal.ordinal_of-requires
ordinal_of-requires c =
    let x = c.args in
    let p = c.requires in
    step_small x.g x.a x.next p.0 p.1 (omega arith) (omega arith) (omega arith)
