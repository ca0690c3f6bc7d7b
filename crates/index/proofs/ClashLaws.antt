-- "11, 12 name the lowest slot clashing with a lower one": one turn and the end of each loop, for any clash.
-- Assumes nothing.
use Rattle.std.specs.Prelude.{Result, Ok, Err, ⊤}
use Rattle.std.proofs.Common.{◌≡◌, ℕ, zero, suc, ◌+◌, ◌-◌, ◌<◌, ◌≤◌, Bool, true, false, cond, ◌||◌, refl, sym, ap, ◌∙◌, eq-or-lt_of_le, arith}
use mathlib.Core.Bool.{or-true}
use Rattle.promises.specs.Ground.Basics.{either}
use Rattle.standard.specs.Refusals.{refuse}
use Rattle.standard.specs.declared.Refusal.{Refusal}
use Rattle.standard.specs.Judgement.{clashes_below, clashes_from}

-- with the slots below: n of them are left
module _ (clash : ℕ → ℕ → Bool) (slot : ℕ) where
  below_go : (n k : ℕ) → n ≡ suc k → clashes_below clash slot n ≡ (clash slot (suc k) || clashes_below clash slot k)
  unfolding clashes_below
  below_go n k e = rw e

  add_back : (n : ℕ) → 0 < n → suc (n - 1) ≡ n
  add_back n h = omega arith

  -- no slot up to n clashes with it, and then none up to the next; and one does
  pub below_start : clashes_below clash slot 0 ≡ false
  unfolding clashes_below
  below_start = refl

  pub below_more : (n m : ℕ) → 0 < n → m ≡ n → clash slot n ≡ false → clashes_below clash slot (n - 1) ≡ false → clashes_below clash slot m ≡ false
  below_more n m h q t e = below_go m (n - 1) (omega arith) ∙ ap (λ (k : ℕ). clash slot k || clashes_below clash slot (n - 1)) (add_back n h) ∙ ap (λ (b : Bool). b || clashes_below clash slot (n - 1)) t ∙ e

  pub below_yes : (n lower : ℕ) → 0 < lower → lower ≤ n → clash slot lower ≡ true → clashes_below clash slot n ≡ true
  unfolding clashes_below
  below_yes zero lower h l t = absurd (omega arith)
  below_yes (suc n) lower h l t =
      either (eq-or-lt_of_le l)
      (λ (e : lower ≡ suc n). rw (sym e, t))
      (λ (k : lower < suc n). rw (below_yes n lower h (omega arith) t) (or-true (clash slot (suc n))))

  pub below_none : ((lower : ℕ) → clash slot lower ≡ false) → (n : ℕ) → clashes_below clash slot n ≡ false
  unfolding clashes_below
  below_none h zero = refl
  below_none h (suc n) = rw (h (suc n), below_none h n)

-- the loops over the slots: those below this one are passed, and none of them clashes with a lower one
abbrev pub Passing : (ℕ → ℕ → Bool) → ℕ → ℕ → ℕ → Type 0
Passing clash number count slot = clashes_from clash number count 1 ≡ clashes_from clash number (count + 1 - slot) slot

module _ (clash : ℕ → ℕ → Bool) (number count slot : ℕ) (p : Passing clash number count slot) where
  abbrev Next : Bool → Result ⊤ Refusal
  Next t = cond t (Err (refuse number slot)) (clashes_from clash number (count + 1 - (slot + 1)) (slot + 1))

  next_go : (k : ℕ) → count + 1 - slot ≡ suc k
      → clashes_from clash number (count + 1 - slot) slot ≡ cond (clashes_below clash slot (slot - 1)) (Err (refuse number slot)) (clashes_from clash number k (slot + 1))
  unfolding clashes_from
  next_go k e = rw e

  next : slot < count + 1 → (t : Bool) → clashes_below clash slot (slot - 1) ≡ t → clashes_from clash number count 1 ≡ Next t
  next h t e = p ∙ next_go (count + 1 - (slot + 1)) (omega arith) ∙ ap Next e

  pub passing_stop : slot < count + 1 → clashes_below clash slot (slot - 1) ≡ true → clashes_from clash number count 1 ≡ Err (refuse number slot)
  passing_stop h t = next h true t

  pub passing_more : slot < count + 1 → clashes_below clash slot (slot - 1) ≡ false → Passing clash number count (slot + 1)
  passing_more h t = next h false t

  pub passing_end : count + 1 ≤ slot → clashes_from clash number count 1 ≡ Ok tt
  unfolding clashes_from
  passing_end h = let e : count + 1 - slot ≡ 0 = omega arith in p ∙ rw e
