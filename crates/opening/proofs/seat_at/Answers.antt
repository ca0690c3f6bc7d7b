-- The same seat, one reckoned or walked to from the extent's start, or one further on.
-- Assumes nothing.
use Prim.Native.Nat.{ℕ, ◌+◌, ◌-◌, ◌*◌, ◌≤◌}
use mathlib.Core.Path.{◌≡◌, refl, ap, ◌∙◌}
use lib.ListN.{drop}
use lib.Seq.{drop-drop}
use lib.Dec.{ltb}
use native.Mathlib.Omega.{arith}
use native.Mathlib.Nat.{mul-le-mul_right}
use borrow.Author.Tests.{ltb-false}
use Rattle.standard.specs.Files.{good_records}
use Rattle.promises.specs.Ground.Basics.{or_r}
use Rattle.opening.specs.Opened.{label_in}
use Rattle.opening.proofs.OpenedLaws.{facts}
use Rattle.opening.proofs.seat_at.Goals as goal

further : (a b m : ℕ) → a ≤ b → a * m + (b - a) * m ≡ b * m
further a b m l =
    let d : a + (b - a) ≡ b = omega arith in
    let e : a * m + (b - a) * m ≡ (a + (b - a)) * m = omega arith in
    e ∙ ap (λ (k : ℕ). k * m) d

pub returns-then-b-block : goal.returns-then-b-block
returns-then-b-block c =
    let x = c.args in
    let p = c.requires in
    let e : x.s.block ≡ x.b = cc in
    ((p.1.0 ∙ ap (λ (k : ℕ). drop (k * x.f.m) (good_records x.f.g x.image.now (label_in x.image.now x.f))) e, p.1.1), e)

pub overflow_sub-b : goal.overflow_sub-b
overflow_sub-b c = let x = c.args in let l = ltb-false x.b x.s.block (or_r x.f.whole (ltb x.b x.s.block) c.if-f-b.false) in omega (arith, l)

pub overflow_mul-b : goal.overflow_mul-b
overflow_mul-b c =
    let x = c.args in
    let p = c.requires in
    let k = facts x.image.now x.f p.0 in
    let l : x.b - x.s.block ≤ 4992 = omega (arith, p.2, k.count_few) in
    omega (arith, mul-le-mul_right x.f.m l, k.m_high)

pub returns : goal.returns
returns c =
    let x = c.args in
    let p = c.requires in
    let m = x.f.m in
    let good = good_records x.f.g x.image.now (label_in x.image.now x.f) in
    let l = ltb-false x.b x.s.block (or_r x.f.whole (ltb x.b x.s.block) c.if-f-b.false) in
    let n = further x.s.block x.b m l in
    ((c.skip_good.ensures.0 ∙ (ap (drop ((x.b - x.s.block) * m)) p.1.0 ∙ (drop-drop ((x.b - x.s.block) * m) (x.s.block * m) good ∙ ap (λ (k : ℕ). drop k good) n)), c.skip_good.ensures.1), refl)
