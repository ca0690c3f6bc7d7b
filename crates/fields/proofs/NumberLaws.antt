-- The small laws of the reckoning: a hex digit's value, and the exits of `spaces_or_number`.
-- Assumes nothing.
use Prim.Native.Nat.{ℕ, ◌+◌, ◌-◌}
use mathlib.Core.Path.{◌≡◌}
use mathlib.Core.Bool.{true, false}
use mathlib.Core.List.{List}
use Rattle.standard.specs.Characters.{between, spaces, digits, spaces_or_number, number, digit_value, is_digit, hex_value}

pub hex_yes : (c r : ℕ) → is_digit c ≡ true → r ≡ digit_value c → r ≡ hex_value c
unfolding hex_value
hex_yes c r t e = simp t e

pub hex_not : (c r : ℕ) → is_digit c ≡ false → r ≡ c - 65 + 10 → r ≡ hex_value c
unfolding hex_value
hex_not c r t e = simp t e

-- the exits of `spaces_or_number`
module _ (low high : ℕ) (f : List ℕ) where
  pub blank_yes : spaces f ≡ true → true ≡ spaces_or_number low high f
  unfolding spaces_or_number
  blank_yes t = simp t

  pub number_no : spaces f ≡ false → digits f ≡ false → false ≡ spaces_or_number low high f
  unfolding spaces_or_number
  number_no t d = simp (t, d)

  pub number_yes : (n : ℕ) → spaces f ≡ false → digits f ≡ true → n ≡ number f → between low high n ≡ spaces_or_number low high f
  unfolding spaces_or_number
  number_yes n t d e = simp (t, d, e)
