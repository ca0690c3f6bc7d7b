-- The rest of the block lies in the bytes ahead of its first record.
-- Assumes nothing.
use mathlib.Core.Path.{ap, ◌∙◌}
use native.Mathlib.Omega.{arith}
use Rattle.standard.specs.Pieces.{is_fill}
use Rattle.opening.proofs.OpenedLaws.{facts}
use Rattle.walks.proofs.WalkLaws.{size_most, rest_by}
use Rattle.walks.proofs.rest_is_fill.Goals as goal

pub content_size-requires : goal.content_size-requires
content_size-requires c =
    let x = c.args in
    let p = c.requires in
    let k = facts x.image.now x.f p.0.0 in
    (k.U-low, omega (arith, k.count_few, p.0.2))

pub onward-s-requires : goal.onward-s-requires
onward-s-requires c =
    let x = c.args in
    let p = c.requires in
    let k = facts x.image.now x.f p.0.0 in
    ((k.long, k.P-low), p.0.1.0.1, omega arith, omega (arith, p.1))

pub all_fill-requires : goal.all_fill-requires
all_fill-requires c =
    let x = c.args in
    let p = c.requires in
    let k = facts x.image.now x.f p.0.0 in
    ((k.long, k.P-low), c.onward-s.ensures.1, c.onward-s.ensures.2, omega (arith, c.minus-n.ensures, c.content_size.ensures, size_most x.f x.w.place.block, k.B-low))

pub returns : goal.returns
returns c =
    let x = c.args in
    c.all_fill.ensures
    ∙ ap is_fill (rest_by x.image.now x.f x.w x.from _ _ _ c.content_size.ensures c.minus-n.ensures c.onward-s.ensures.0)
