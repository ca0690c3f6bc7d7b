-- What stands at a walk's place.
-- Assumes nothing.
use mathlib.Core.Path.{ap, ◌∙◌}
use Prim.Native.Nat.{ℕ}
use mathlib.Core.List.{List}
use native.Mathlib.Omega.{arith}
use Rattle.standard.specs.Pieces.{look_in}
use Rattle.labels.specs.Forms.{format_for}
use Rattle.pieces.specs.Looks.{seen_of}
use Rattle.opening.proofs.OpenedLaws.{facts}
use Rattle.walks.proofs.WalkLaws.{size_most, rest_by, rest_there}
use Rattle.walks.proofs.seen.Goals as goal

pub content_size-requires : goal.content_size-requires
content_size-requires c =
    let x = c.args in
    let p = c.requires in
    let k = facts x.image.now x.f p.0 in
    (k.U-low, omega (arith, k.count_few, p.2))

pub onward-s-requires : goal.onward-s-requires
onward-s-requires c =
    let x = c.args in
    let p = c.requires in
    let k = facts x.image.now x.f p.0 in
    ((k.long, k.P-low), p.1.0.1, omega arith, omega (arith, p.1.2))

pub look-requires : goal.look-requires
look-requires c =
    let x = c.args in
    let p = c.requires in
    let k = facts x.image.now x.f p.0 in (
      (k.long, k.P-low),
      c.onward-s.ensures.1,
      c.onward-s.ensures.2,
      omega (arith, c.minus-n.ensures, c.content_size.ensures, size_most x.f x.w.place.block, k.B-low),
      rest_there x.image.now x.f x.w p x.w.place.offset _ _ _ c.content_size.ensures c.minus-n.ensures c.onward-s.ensures.0,
    )

pub returns : goal.returns
returns c =
    let x = c.args in
    c.look.ensures
    ∙ ap (λ (s : List ℕ). seen_of (look_in (format_for x.f.form) x.f.R x.f.blocked x.w.place.offset s))
    (rest_by x.image.now x.f x.w x.w.place.offset _ _ _ c.content_size.ensures c.minus-n.ensures c.onward-s.ensures.0)
