-- Numbers and addresses written in digits are read back.
-- Assumes nothing.
use Rattle.std.specs.Prelude.{ℕ, zero, suc, ◌+◌, ◌-◌, ◌*◌, ◌/◌, ◌%◌, ◌<◌, ◌≡◌, refl, Bool, true, false, cond, ◌||◌, [], ◌∷◌, length, eqb}
use Rattle.std.proofs.Common.{sym, ◌∙◌, length-append, arith, le-leb, ne_eqb, eqb-true}
use Rattle.standard.specs.Characters.{bytes, every, spaces, is_digit, digits, digit_value, number_from, number, digit_of, padded}
use Rattle.standard.specs.Addresses.{five_digits, address_in, address_number, five_bytes}
use Rattle.standard.specs.Writing.{unused_field}
use Rattle.standard.specs.declared.Address.{Address}
use Rattle.promises.specs.Images.AddressLaws.{address_eq}

pub digit_is : (n : ℕ) → is_digit (digit_of n) ≡ true
unfolding is_digit
digit_is n = rw (le-leb 48 (48 + n % 10) (omega arith), le-leb (48 + n % 10) 57 (omega arith))

pub padded_length : (width n : ℕ) → length (padded width n) ≡ width
unfolding padded
padded_length zero n = refl
padded_length (suc width) n = length-append (padded width (n / 10)) (digit_of n ∷ []) ∙ omega (arith, padded_length width (n / 10))

pub padded_digits : (n : ℕ) → digits (padded 5 n) ≡ true
unfolding padded every
padded_digits n = rw (digit_is (n / 10 / 10 / 10 / 10), digit_is (n / 10 / 10 / 10), digit_is (n / 10 / 10), digit_is (n / 10), digit_is n)

pub padded_number : (n : ℕ) → n < 100000 → number (padded 5 n) ≡ n
unfolding padded number_from digit_value
padded_number n h = omega arith

pub padded_spaces : (n : ℕ) → spaces (padded 5 n) ≡ false
unfolding padded every
padded_spaces n = rw (ne_eqb (48 + n / 10 / 10 / 10 / 10 % 10) 32 (λ (e : 48 + n / 10 / 10 / 10 / 10 % 10 ≡ 32). omega arith))

pub five_digits_lem : (a : Address) → five_digits (five_bytes a) ≡ true
unfolding padded five_digits
five_digits_lem a =
    let n = address_number a in
    rw (digit_is (n / 10 / 10 / 10 / 10), digit_is (n / 10 / 10 / 10), digit_is (n / 10 / 10), digit_is (n / 10), digit_is n)

parts_back : (c s n : ℕ) → s < 10 → n < 100 → (N : ℕ) → N ≡ c * 1000 + s * 100 + n → (N / 10 / 10 / 10 ≡ c) × (N / 10 / 10 % 10 ≡ s) × (N / 10 % 10 * 10 + N % 10 ≡ n)
parts_back c s n hs hn N e = (omega arith, omega arith, omega arith)

two_digits_lem : (M : ℕ) → M < 100 → (48 + M / 10 % 10 - 48) * 10 + (48 + M % 10 - 48) ≡ M
two_digits_lem M h = let k : M / 10 < 10 = omega arith in omega arith

pub address_back_lem : (a : Address) → a.cylinder < 100 → a.side < 10 → a.sector < 100 → address_in (five_bytes a) ≡ a
unfolding padded address_in digit_value
address_back_lem a hc hs hn =
    let N = address_number a in
    let p = parts_back a.cylinder a.side a.sector hs hn N refl in
    address_eq _ a (two_digits_lem (N / 10 / 10 / 10) (omega (arith, p)) ∙ p.0) (omega (arith, p)) (omega (arith, p))

-- U, spaces for 0
pub unused_length : (U : ℕ) → length (unused_field U) ≡ 5
unused_length U = go (eqb U 0)
  where
    go : (t : Bool) → length (cond t (bytes "     ") (padded 5 U)) ≡ 5
    go true = refl
    go false = padded_length 5 U

pub unused_legal : (U : ℕ) → (spaces (unused_field U) || digits (unused_field U)) ≡ true
unfolding every
unused_legal U = go (eqb U 0)
  where
    go : (t : Bool) → (spaces (cond t (bytes "     ") (padded 5 U)) || digits (cond t (bytes "     ") (padded 5 U))) ≡ true
    go true = refl
    go false = rw (padded_spaces U, padded_digits U)

pub unused_back : (U : ℕ) → U < 100000 → cond (spaces (unused_field U)) 0 (number (unused_field U)) ≡ U
unfolding every
unused_back U h = go (eqb U 0) refl
  where
    go : (t : Bool) → eqb U 0 ≡ t → cond (spaces (cond t (bytes "     ") (padded 5 U))) 0 (number (cond t (bytes "     ") (padded 5 U))) ≡ U
    go true e = sym (eqb-true U 0 e)
    go false e = rw (padded_spaces U) (padded_number U h)
