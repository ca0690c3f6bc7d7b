-- The digits of a number: from the front, how many, and how a number of no fixed width has them.
-- Assumes nothing.
use Prim.Native.Nat.{ℕ, zero, suc, ◌+◌, ◌-◌, ◌*◌, ◌/◌, ◌^◌, ◌≤◌, ◌<◌}
use mathlib.Core.Path.{◌≡◌, refl, sym, ap, subst, ◌∙◌}
use mathlib.Core.List.{List, [], ◌∷◌, ◌++◌}
use lib.ListN.{length, length-append}
use native.Mathlib.Omega.{arith}
use native.Mathlib.Nat.{pow-suc}
use native.Mathlib.Numerals.{add-one}
use borrow.Author.Tests.{lt-ltb, le-ltb}
use Rattle.standard.specs.Characters.{digit_of, padded, shown_by, shown}
use Rattle.promises.specs.Ground.Basics.{either, lt_or_le}
use Rattle.text.specs.Laid.{without}

-- so many digits: the first of them, then the others
pub padded_front : (width n : ℕ) → padded (suc width) n ≡ (digit_of (without width n) ∷ padded width n)
unfolding padded without
padded_front zero n = refl
padded_front (suc width) n = ap (λ (t : List ℕ). t ++ (digit_of n ∷ [])) (padded_front width (n / 10))

pub padded_first : (width n : ℕ) → 0 < width → padded width n ≡ (digit_of (without (width - 1) n) ∷ padded (width - 1) n)
padded_first width n h =
    let e : width ≡ suc (width - 1) = omega arith in
    ap (λ (w : ℕ). padded w n) e ∙ padded_front (width - 1) n

pub without_more : (digits n : ℕ) → without (suc digits) n ≡ without digits (n / 10)
unfolding without
without_more digits n = refl

pub without_none : (n : ℕ) → without 0 n ≡ n
unfolding without
without_none n = refl

-- a digit more taken off the rest of them
pub without_next : (digits i n m : ℕ) → i < digits → without digits n ≡ without (digits - i) m → without digits n ≡ without (digits - (i + 1)) (m / 10)
without_next digits i n m l h =
    let e : digits - i ≡ suc (digits - (i + 1)) = omega arith in
    h ∙ ap (λ (k : ℕ). without k m) e ∙ without_more (digits - (i + 1)) m

pub without_all : (digits i n m : ℕ) → digits ≤ i → without digits n ≡ without (digits - i) m → m ≡ without digits n
without_all digits i n m l h =
    let z : digits - i ≡ 0 = omega arith in
    sym (h ∙ ap (λ (k : ℕ). without k m) z ∙ without_none m)

pub padded_none : (n : ℕ) → padded 0 n ≡ []
unfolding padded
padded_none n = refl

-- enough room for the digits is enough
pub shown_fuel : (f f' n : ℕ) → n < f → n < f' → shown_by f n ≡ shown_by f' n
unfolding shown_by
shown_fuel zero f' n h k = absurd (omega arith)
shown_fuel (suc f) zero n h k = absurd (omega arith)
shown_fuel (suc f) (suc f') n h k = either (lt_or_le n 10)
    (λ (l : n < 10). simp (lt-ltb n 10 l))
    (λ (l : 10 ≤ n). simp (le-ltb n 10 l) (ap (λ (t : List ℕ). t ++ (digit_of n ∷ [])) (shown_fuel f f' (n / 10) (omega arith) (omega arith))))

shown_step : (f n : ℕ) → 10 ≤ n → shown_by (suc f) n ≡ shown_by f (n / 10) ++ (digit_of n ∷ [])
unfolding shown_by
shown_step f n h = simp (le-ltb n 10 h)

pub shown_more : (n : ℕ) → 10 ≤ n → shown n ≡ shown (n / 10) ++ (digit_of n ∷ [])
shown_more n h = shown_step n n h ∙ ap (λ (t : List ℕ). t ++ (digit_of n ∷ [])) (shown_fuel n (suc (n / 10)) (n / 10) (omega arith) (omega arith))

pub shown_one : (n : ℕ) → n < 10 → shown n ≡ (digit_of n ∷ [])
unfolding shown_by
shown_one n h = simp (lt-ltb n 10 h)

pub length_more : (n : ℕ) → 10 ≤ n → length (shown n) ≡ length (shown (n / 10)) + 1
length_more n h = ap length (shown_more n h) ∙ length-append (shown (n / 10)) (digit_of n ∷ [])

pub length_one : (n : ℕ) → n < 10 → length (shown n) ≡ 1
length_one n h = ap length (shown_one n h)

-- a number that so many digits hold has no more
shown_most : (k n : ℕ) → n < 10 ^ suc k → length (shown n) ≤ suc k
shown_most zero n h = omega (arith, length_one n (omega (arith, h)))
shown_most (suc k) n h = either (lt_or_le n 10)
    (λ (l : n < 10). omega (arith, length_one n l))
    (λ (l : 10 ≤ n). omega (arith, length_more n l, shown_most k (n / 10) (div_below n (10 ^ suc k) (subst (λ (m : ℕ). n < m) (pow-suc 10 (suc k)) h))))
  where
    div_below : (n p : ℕ) → n < p * 10 → n / 10 < p
    div_below n p h = omega arith

pub shown_bounded : (n : ℕ) → n < 2 ^ 64 → length (shown n) ≤ 20
shown_bounded n h = shown_most 19 n (omega (arith, h))

-- a number in as many digits as it has
padded_one : (n : ℕ) → padded 1 n ≡ (digit_of n ∷ [])
unfolding padded
padded_one n = refl

padded_next : (w n : ℕ) → padded (suc w) n ≡ padded w (n / 10) ++ (digit_of n ∷ [])
unfolding padded
padded_next w n = refl

padded_by : (f n : ℕ) → n < f → padded (length (shown n)) n ≡ shown n
padded_by zero n h = absurd (omega arith)
padded_by (suc f) n h = either (lt_or_le n 10)
    (λ (l : n < 10). ap (λ (w : ℕ). padded w n) (length_one n l) ∙ padded_one n ∙ sym (shown_one n l))
    (λ (l : 10 ≤ n).
    ap (λ (w : ℕ). padded w n) (length_more n l ∙ add-one (length (shown (n / 10)))) ∙ padded_next (length (shown (n / 10))) n
    ∙ ap (λ (t : List ℕ). t ++ (digit_of n ∷ [])) (padded_by f (n / 10) (omega arith)) ∙ sym (shown_more n l))

pub padded_shown : (n : ℕ) → padded (length (shown n)) n ≡ shown n
padded_shown n = padded_by (suc n) n (omega arith)
