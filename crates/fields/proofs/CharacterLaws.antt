-- The a-set is hex 20-5F but for seven characters: below, above, and in between by computation, character by character.
-- Assumes nothing.
use Prim.Native.Nat.{ℕ, zero, suc, ◌+◌, ◌-◌, ◌<◌, ◌≤◌}
use mathlib.Core.Path.{◌≡◌, refl, sym, subst}
use mathlib.Core.Bool.{Bool, true, false, not, ◌&&◌, ◌||◌}
use mathlib.Core.Logic.{⊎_elim}
use lib.Dec.{eqb}
use native.Mathlib.Omega.{arith}
use native.Mathlib.Nat.{eq-or-lt_of_le}
use borrow.Author.Tests.{le-leb, lt-leb, ne_eqb}
use Rattle.standard.specs.Characters.{a_set}
use Rattle.promises.specs.Ground.Basics.{and_l, and_r}

pub below_set : (c : ℕ) → c < 32 → false ≡ a_set c
unfolding a_set
below_set c h =
    rw (lt-leb 32 c (omega arith), lt-leb 37 c (omega arith), lt-leb 65 c (omega arith), ne_eqb c 95 (λ (e : c ≡ 95). omega arith))

pub above_set : (c : ℕ) → 95 < c → false ≡ a_set c
unfolding a_set
above_set c h =
    rw (le-leb 32 c (omega arith), lt-leb c 34 (omega arith), le-leb 37 c (omega arith), lt-leb c 63 (omega arith), le-leb 65 c (omega arith), lt-leb c 90 (omega arith), ne_eqb c 95 (λ (e : c ≡ 95). omega arith))

-- a test that holds of every number below one, tried on each
each_below : (ℕ → Bool) → ℕ → Bool
each_below test zero = true
each_below test (suc n) = test n && each_below test n

each_below_lem : (test : ℕ → Bool) (n k : ℕ) → each_below test n ≡ true → k < n → test k ≡ true
unfolding each_below
each_below_lem test zero k h l = absurd (omega arith)
each_below_lem test (suc n) k h l =
    ⊎_elim
    (λ (e : suc k ≡ suc n). subst (λ (x : ℕ). test x ≡ true) (omega arith) (and_l (test n) _ h))
    (λ (m : suc k < suc n). each_below_lem test n k (and_r (test n) _ h) (omega arith))
    (eq-or-lt_of_le l)

alike : Bool → Bool → Bool
alike true b = b
alike false b = not b

alike_is : (a b : Bool) → alike a b ≡ true → a ≡ b
unfolding alike
alike_is true true h = refl
alike_is true false h = sym h
alike_is false true h = h
alike_is false false h = refl

out_of_set : ℕ → Bool
out_of_set c = eqb c 35 || eqb c 36 || eqb c 64 || eqb c 91 || eqb c 92 || eqb c 93 || eqb c 94

all_tried : each_below (λ k. alike (not (out_of_set (k + 32))) (a_set (k + 32))) 64 ≡ true
unfolding each_below alike out_of_set a_set
all_tried = refl

pub inside_set : (c : ℕ) → 32 ≤ c → c ≤ 95
    → not (eqb c 35 || eqb c 36 || eqb c 64 || eqb c 91 || eqb c 92 || eqb c 93 || eqb c 94) ≡ a_set c
unfolding out_of_set
inside_set c l h =
    let e : c - 32 + 32 ≡ c = omega arith in
    rw e at (alike_is _ _ (each_below_lem (λ k. alike (not (out_of_set (k + 32))) (a_set (k + 32))) 64 (c - 32) all_tried (omega arith)))
