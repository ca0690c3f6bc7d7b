-- The bytes of the body that stand behind a control word.
-- Assumes nothing.
use Prim.Native.Nat.{ℕ, ◌-◌}
use mathlib.Core.Path.{refl, ap, ◌∙◌}
use native.Mathlib.Omega.{arith}
use mathlib.Core.List.{List}
use lib.ListN.{length}
use lib.Seq.{paste}
use Rattle.walks.specs.Walks.{body_ahead}
use Rattle.reading.proofs.MeetingLaws.{head_low, ahead_by}
use Rattle.opening.proofs.OpenedLaws.{facts}
use Rattle.reading.proofs.put.Goals as goal

pub overflow_add-w : goal.overflow_add-w
overflow_add-w c =
    let x = c.args in
    let p = c.requires in
    omega (arith, p.1.2, head_low x.f.form, c.head.ensures)

pub onward-s-requires : goal.onward-s-requires
onward-s-requires c =
    let x = c.args in
    let p = c.requires in
    let k = facts x.image.now x.f p.0 in
    ((k.long, k.P-low), p.1.0.1, omega arith, omega (arith, p.1.2, head_low x.f.form, c.head.ensures))

pub copy-requires : goal.copy-requires
copy-requires c =
    let x = c.args in
    let p = c.requires in
    let k = facts x.image.now x.f p.0 in
    let e = c.length_of-so_far.ensures in
    let a = ap length (ahead_by x.image.now x.f x.w _ _ _ c.head.ensures refl c.onward-s.ensures.0) in (
      (k.long, k.P-low),
      c.onward-s.ensures.1,
      c.onward-s.ensures.2,
      omega (arith, e, p.2.2),
      omega (arith, e, a, p.2.0, p.2.1),
      omega (arith, e, p.2.0, p.3),
      omega (arith, e, p.1.1, p.1.2, p.1.3, k.count_few),
    )

pub returns : goal.returns
returns c =
    let x = c.args in
    let p = c.requires in
    let e = c.length_of-so_far.ensures in
    let a = ahead_by x.image.now x.f x.w _ _ _ c.head.ensures refl c.onward-s.ensures.0 in
    c.copy.ensures
    ∙ (ap (λ (s : List ℕ). paste x.out.now c.length_of-so_far.result s (x.to - c.length_of-so_far.result)) a
    ∙ ap (λ (n : ℕ). paste x.out.now n (body_ahead x.image.now x.f x.w) (x.to - n)) e)
