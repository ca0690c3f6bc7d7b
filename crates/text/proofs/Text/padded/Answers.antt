-- The digits from the first on: what puts the rest from here puts the whole.
-- Assumes nothing.
use Prim.Native.Nat.{ℕ, ◌-◌}
use mathlib.Core.Path.{◌≡◌, sym, ap, ◌∙◌}
use mathlib.Core.List.{◌∷◌}
use native.Mathlib.Omega.{arith}
use Rattle.standard.specs.Characters.{padded, digit_of}
use Rattle.text.specs.Laid.{without}
use Rattle.text.proofs.LaidLaws.{rest_more, rest_end}
use Rattle.text.proofs.Digits.{padded_first, padded_none}
use Rattle.text.proofs.Text.padded.Goals as goal

pub loop-left-preserved : goal.loop-left-preserved
loop-left-preserved c =
    let a = c.args in
    let w = c.loop-left in
    let p = c.byte.ensures in
    let d : c.last_digit.result ≡ digit_of (without (w.left - 1) a.n) = cc in (
      omega (arith, p.puts.next, w.invariant.0),
      rest_more w.invariant.1 (padded_first w.left a.n (omega arith) ∙ ap (λ (x : ℕ). x ∷ padded (w.left - 1) a.n) (sym d)) p,
    )

pub returns : goal.returns
returns c =
    let a = c.args in
    let w = c.loop-left in
    let z : w.left ≡ 0 = omega arith in
    (rest_end w.invariant.1 (ap (λ (k : ℕ). padded k a.n) z ∙ padded_none a.n) (omega (arith, w.invariant.0)), omega (arith, w.invariant.0))
