-- The record under the cursor, and then as many good ones behind it as are left to pass.
-- Assumes nothing.
use Prim.Native.Nat.{ℕ, ◌+◌, ◌-◌, ◌≤◌}
use mathlib.Core.Path.{◌≡◌, ap, ◌∙◌}
use lib.ListN.{drop}
use lib.Seq.{drop-drop}
use native.Mathlib.Omega.{arith}
use Rattle.extents.specs.Cursors.{good_from, standing}
use Rattle.extents.proofs.CursorLaws.{some_of, skip_none, stand_next}
use Rattle.extents.proofs.skip_good.Goals as goal

pub returns-then-n-from : goal.returns-then-n-from
returns-then-n-from c =
    let x = c.args in
    let s = skip_none x.g x.image.now x.from x.n c.if-n-from.true in
    (s.0, c.requires, omega arith, s.1)

pub returns : goal.returns
returns c =
    let x = c.args in
    let g = x.g in
    let image = x.image.now in
    let left = some_of x.n x.from.left c.if-n-from.false in
    let b = c.begin.ensures in
    let s = c.step.ensures in
    let p = c.past_good.ensures in
    let m : 1 + (x.n - 1) ≡ x.n = omega (arith, left.0) in
    let less : c.past_good.result.left ≤ x.from.left - 1 = omega (arith, p.2, s.2, b.2) in
    let next : good_from g image c.step.result.left c.step.result.at ≡ drop 1 (standing g image x.from) = rw (s.1, s.2, b.1, b.2) (stand_next g image x.from.left x.from.at left.1) in
    (p.0 ∙ ap (drop (x.n - 1)) next ∙ drop-drop (x.n - 1) 1 (standing g image x.from) ∙ ap (λ (k : ℕ). drop k (standing g image x.from)) m, p.1, omega (arith, less), λ _. less)
