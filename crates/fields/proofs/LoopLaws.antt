-- One turn of the loops `decimal_in`, `number_in` and `hex_in`, and their ends; what the library's tests of items say.
-- Assumes nothing.
use Prim.Native.Nat.{ℕ, ◌+◌, ◌*◌, ◌^◌, ◌≤◌, ◌<◌}
use mathlib.Core.Path.{◌≡◌, refl}
use mathlib.Core.List.{List, [], ◌∷◌}
use mathlib.Core.Bool.{Bool, true, false, not}
use native.Mathlib.Numerals.{add-one}
use native.Mathlib.Omega.{arith}
use native.Mathlib.Nat.{pow-suc, pow-le-pow_right}
use borrow.Author.Tests.{leb-true, not-true, not-false}
use lib.Dec.{eqb, leb}
use lib.ListN.{length, drop, get_or, drop_of_length-le}
use lib.Seq.{drop-cons}
use Rattle.standard.specs.Characters.{one_of, every, same, is_digit, digit_value, number_from, hex_value, hex_from}
use Rattle.std.specs.Prelude.{nat_eq}
use Rattle.std.specs.List.{list_all, list_any}
use Rattle.std.specs.Cmp.Lexicographic.{pointwise}
use Rattle.promises.specs.Ground.Basics.{and_r}

module _ (test : ℕ → Bool) (s : List ℕ) (i : ℕ) where
  pub every_more : i < length s → not (test (get_or s i 0)) ≡ false → every test (drop i s) ≡ every test (drop (i + 1) s)
  unfolding every
  every_more h t = rw (drop-cons s i 0, add-one) (simp (not-false (test (get_or s i 0)) t))

  pub every_stop : i < length s → not (test (get_or s i 0)) ≡ true → every test (drop i s) ≡ false
  unfolding every
  every_stop h t = rw (drop-cons s i 0) (simp (not-true (test (get_or s i 0)) t))

  pub every_end : length s ≤ i → every test (drop i s) ≡ true
  unfolding every
  every_end h = rw (drop_of_length-le s h)

-- what the library's tests of items say in the words of the standard
pub every_all : (test : ℕ → Bool) (s : List ℕ) → list_all test s ≡ every test s
unfolding every
every_all test [] = refl
every_all test (x ∷ s) = rw (every_all test s)

pub one_of_any : (c : ℕ) (xs : List ℕ) → list_any (λ x. eqb c x) xs ≡ one_of xs c
unfolding one_of
one_of_any c [] = refl
one_of_any c (x ∷ xs) = rw (one_of_any c xs)

pub same_pointwise : (s w : List ℕ) → pointwise nat_eq s w ≡ same s w
unfolding same
same_pointwise [] [] = refl
same_pointwise [] (y ∷ w) = refl
same_pointwise (x ∷ s) [] = refl
same_pointwise (x ∷ s) (y ∷ w) = rw (same_pointwise s w)

-- the number so far, and its bound
module _ (f : List ℕ) (n i : ℕ) where
  pub number_more : i < length f → number_from n (drop i f) ≡ number_from (n * 10 + digit_value (get_or f i 0)) (drop (i + 1) f)
  unfolding number_from
  number_more h = rw (drop-cons f i 0, add-one)

  pub number_end : length f ≤ i → number_from n (drop i f) ≡ n
  unfolding number_from
  number_end h = rw (drop_of_length-le f h)

  pub hex_more : i < length f → hex_from n (drop i f) ≡ hex_from (n * 16 + hex_value (get_or f i 0)) (drop (i + 1) f)
  unfolding hex_from
  hex_more h = rw (drop-cons f i 0, add-one)

  pub hex_end : length f ≤ i → hex_from n (drop i f) ≡ n
  unfolding hex_from
  hex_end h = rw (drop_of_length-le f h)

-- two digits at most
pub power_two : (i : ℕ) → i ≤ 2 → 16 ^ i ≤ 256
power_two i h = pow-le-pow_right {n = 16} (omega arith) {j = 2} h

-- one character more, of digits and of any bytes
pub bound_more : (n d i : ℕ) → n < 10 ^ i → d < 10 → n * 10 + d < 10 ^ (i + 1)
bound_more n d i h k = rw (add-one) (omega (arith, pow-suc 10 i))

pub bytes_more : (n d i : ℕ) → n + 29 ≤ 29 * 10 ^ i → d < 256 → n * 10 + d + 29 ≤ 29 * 10 ^ (i + 1)
bytes_more n d i h k = rw (add-one) (omega (arith, pow-suc 10 i))

pub hex_bytes_more : (n d i : ℕ) → n * 15 + 511 ≤ 511 * 16 ^ i → d < 512 → (n * 16 + d) * 15 + 511 ≤ 511 * 16 ^ (i + 1)
hex_bytes_more n d i h k = rw (add-one) (omega (arith, pow-suc 16 i))

-- and of one alone
pub hex_one : (n i : ℕ) → n * 15 + 511 ≤ 511 * 16 ^ i → i ≤ 1 → n < 512
hex_one n i h l = let p : 16 ^ i ≤ 16 ^ 1 = pow-le-pow_right {n = 16} (omega arith) {j = 1} l in omega (arith, h, p)

pub digit_most : (c : ℕ) → is_digit c ≡ true → digit_value c < 10
unfolding is_digit digit_value
digit_most c h = omega (arith, leb-true c 57 (and_r (leb 48 c) (leb c 57) h))
