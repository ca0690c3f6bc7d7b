-- What reading five digits says of the address.
-- Assumes nothing.
use Rattle.std.specs.Prelude.{Some, None}
use Prim.Native.Nat.{ℕ, ◌<◌}
use mathlib.Core.Path.{◌≡◌, refl}
use mathlib.Core.Bool.{Bool, true, false, cond, ◌||◌}
use mathlib.Core.List.{List}
use lib.ListN.{get_or}
use native.Mathlib.Omega.{arith}
use Rattle.standard.specs.Characters.{is_digit}
use Rattle.standard.specs.Addresses.{five_digits, address_in, five_read, legal, is_address, past_last, is_data_end}
use Rattle.standard.specs.declared.Geometry.{Geometry}
use Rattle.standard.specs.declared.Address.{Address}
use Rattle.promises.specs.Ground.Basics.{and_l, and_r}
use Rattle.fields.proofs.LoopLaws.{digit_most}

module _ (f : List ℕ) where
  pub not_digits : five_read f ≡ None → five_digits f ≡ false
  unfolding five_read
  not_digits h = go (five_digits f) h
    where
      go : (t : Bool) → cond t (Some (address_in f)) None ≡ None → t ≡ false
      go true e = cc
      go false e = refl

  pub are_digits : (a : Address) → five_read f ≡ Some a → five_digits f ≡ true
  unfolding five_read
  are_digits a h = go (five_digits f) h
    where
      go : (t : Bool) → cond t (Some (address_in f)) None ≡ Some a → t ≡ true
      go true e = refl
      go false e = cc

  pub address_is : (a : Address) → five_read f ≡ Some a → a ≡ address_in f
  unfolding five_read
  address_is a h = go (five_digits f) h
    where
      go : (t : Bool) → cond t (Some (address_in f)) None ≡ Some a → a ≡ address_in f
      go true e = cc
      go false e = cc

  small : five_digits f ≡ true → ((address_in f).cylinder < 3000) × ((address_in f).side < 256) × ((address_in f).sector < 3000)
  unfolding five_digits address_in
  small h =
      let d0 : is_digit (get_or f 0 0) ≡ true = search (and_l, and_r) depth 9 in
      let d1 : is_digit (get_or f 1 0) ≡ true = search (and_l, and_r) depth 9 in
      let d2 : is_digit (get_or f 2 0) ≡ true = search (and_l, and_r) depth 9 in
      let d3 : is_digit (get_or f 3 0) ≡ true = search (and_l, and_r) depth 9 in
      let d4 : is_digit (get_or f 4 0) ≡ true = search (and_l, and_r) depth 9 in (
        omega (arith, digit_most (get_or f 0 0) d0, digit_most (get_or f 1 0) d1),
        omega (arith, digit_most (get_or f 2 0) d2),
        omega (arith, digit_most (get_or f 3 0) d3, digit_most (get_or f 4 0) d4),
      )

  pub address_small : (a : Address) → five_read f ≡ Some a → (a.cylinder < 3000) × (a.side < 256) × (a.sector < 3000)
  address_small a h = rw (address_is a h) (small (are_digits a h))

-- an address; a data end
module _ (g : Geometry) (f : List ℕ) where
  pub no_address : five_read f ≡ None → is_address g f ≡ false
  unfolding is_address
  no_address h = rw (not_digits f h)

  pub address_legal : (a : Address) → five_read f ≡ Some a → legal g a ≡ is_address g f
  unfolding is_address
  address_legal a h = rw (are_digits f a h, address_is f a h)

  pub no_data_end : five_read f ≡ None → is_data_end g f ≡ false
  unfolding is_data_end
  no_data_end h = rw (not_digits f h)

  pub data_end_legal : (a : Address) → five_read f ≡ Some a → (legal g a || past_last g a) ≡ is_data_end g f
  unfolding is_data_end
  data_end_legal a h = rw (are_digits f a h, address_is f a h)
