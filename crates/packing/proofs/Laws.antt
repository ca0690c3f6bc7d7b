-- Each case of an answer, packed: from what the code has of the case.
-- Assumes nothing.
use Rattle.std.specs.Prelude.{Result, Ok}
use Prim.Native.Nat.{ℕ, ◌+◌, ◌*◌, ◌^◌}
use mathlib.Core.Path.{◌≡◌, sym, ap, ◌∙◌}
use Rattle.standard.specs.Packed.{most, packed_refusal, packed_judged, packed_place, packed_answer}
use Rattle.standard.specs.declared.Refusal.{Refusal}
use Rattle.standard.specs.declared.Geometry.{Geometry}
use Rattle.standard.specs.declared.Place.{Place}
use Rattle.standard.specs.declared.Answer.{Answer}
use Rattle.standard.specs.declared.Answer.TheVariants.{Record, Gap, End}

pub refusal_packed : (r : Refusal) (n a b c : ℕ) → n ≡ r.number * 2 ^ 56 → a ≡ most 32 r.first → b ≡ most 20 r.second → c ≡ most 4 r.third
    → n + a * 2 ^ 24 + b * 2 ^ 4 + c ≡ packed_refusal r
unfolding packed_refusal
refusal_packed r n a b c hn ha hb hc = rw (hn, ha, hb, hc)

pub volume_packed : (j : Result Geometry Refusal) (g : Geometry) (l i d k s a b : ℕ) → j ≡ Ok g → l ≡ g.L → i ≡ g.I * 2 ^ 8 → d ≡ g.D * 2 ^ 16 → k ≡ g.k * 2 ^ 24 → s ≡ g.S * 2 ^ 28
    → a ≡ g.d1 * 2 ^ 32 → b ≡ g.d2 * 2 ^ 40 → l + i + d + k + s + a + b ≡ packed_judged j
unfolding packed_judged
volume_packed j g l i d k s a b hj hl hi hd hk hs ha hb = rw (hj, hl, hi, hd, hk, hs, ha, hb)

module _ (a : Result Answer Refusal) (pl : Place) (p : ℕ) (e : p ≡ packed_place pl) where
  pub record_packed : (n : ℕ) → a ≡ Ok (Record n pl) → n * 2 ^ 32 + p ≡ packed_answer a
  unfolding packed_answer
  record_packed n h = ap (λ (q : ℕ). n * 2 ^ 32 + q) e ∙ sym (ap packed_answer h)

  pub gap_packed : a ≡ Ok (Gap pl) → 128 * 2 ^ 56 + p ≡ packed_answer a
  unfolding packed_answer
  gap_packed h = ap (λ (q : ℕ). 128 * 2 ^ 56 + q) e ∙ sym (ap packed_answer h)

  pub end_packed : a ≡ Ok (End pl) → 129 * 2 ^ 56 + p ≡ packed_answer a
  unfolding packed_answer
  end_packed h = ap (λ (q : ℕ). 129 * 2 ^ 56 + q) e ∙ sym (ap packed_answer h)
