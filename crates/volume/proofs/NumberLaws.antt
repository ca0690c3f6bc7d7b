-- The numbers of VOL1 bound the slots and the addresses, and refusals 5 and 6 do not ask for defective cylinders.
-- Assumes nothing.
use Rattle.std.specs.Prelude.{Ok}
use Prim.Native.Nat.{ℕ, zero, suc, ◌+◌, ◌-◌, ◌*◌, ◌<◌, ◌≤◌}
use mathlib.Core.Path.{◌≡◌, refl, ap, ◌∙◌}
use mathlib.Core.Bool.{Bool, true, false, cond}
use mathlib.Core.List.{List}
use lib.ListN.{length}
use lib.Dec.{eqb}
use native.Mathlib.Omega.{arith}
use native.Mathlib.Nat.{le_refl, mul-le-mul_left}
use Rattle.standard.specs.Layout.{index_sectors, sector_count, image_length, slot_count, slot_ordinal, k_at, kind_offset, kind_at, valid_mark, incorrect_mark, check_failed}
use Rattle.standard.specs.Addresses.{address_count}
use Rattle.standard.specs.Judgement.{numbers_in, judged, legal_kind, kinds_from, refusal6}
use Rattle.standard.specs.declared.Geometry.{Geometry}
use Rattle.promises.specs.Volumes.Judging.{accepted}
use Rattle.promises.specs.Volumes.VolumeNumbers.{Numbers, numbers_of_lem, slot_in_index}
use Rattle.promises.specs.Volumes.AcceptedLaws.{image_length_lem}
use Rattle.numbers.specs.Numbers.{bare}
use Rattle.index.specs.Whole.{Whole, Slotted}

-- before and after ERMAP
module _ (v e : List ℕ) where
  pub length_same : image_length (bare v) ≡ image_length (numbers_in v e)
  unfolding image_length bare numbers_in
  length_same = refl

  pub cylinders_same : (bare v).L ≡ (numbers_in v e).L
  unfolding bare numbers_in
  cylinders_same = refl

  kind_same : (image : List ℕ) (n : ℕ) → legal_kind (bare v) image n ≡ legal_kind (numbers_in v e) image n
  unfolding legal_kind valid_mark incorrect_mark check_failed kind_at kind_offset k_at bare numbers_in
  kind_same image n = refl

  from_same : (image : List ℕ) (left n : ℕ) → kinds_from (bare v) image left n ≡ kinds_from (numbers_in v e) image left n
  unfolding kinds_from
  from_same image zero n = refl
  from_same image (suc left) n = rw (kind_same image n, from_same image left (n + 1))

  count_same : sector_count (bare v) ≡ sector_count (numbers_in v e)
  unfolding sector_count bare numbers_in
  count_same = refl

  pub kinds_same : (image : List ℕ) → refusal6 (bare v) image ≡ refusal6 (numbers_in v e) image
  kinds_same image = from_same image (sector_count (bare v)) 0 ∙ ap (λ (n : ℕ). kinds_from (numbers_in v e) image n 0) count_same

-- what the numbers of VOL1 say of slots and addresses
module _ (g : Geometry) (n : Numbers g) where
  slots_few : slot_count g ≤ 45
  unfolding slot_count
  slots_few = go (eqb g.S 2)
    where
      go : (t : Bool) → (g.I - 7) + cond t g.I 0 ≤ 45
      go true = omega (arith, n.index_high)
      go false = omega (arith, n.index_high)

  slots_indexed : slot_count g + 6 < index_sectors g
  unfolding slot_ordinal
  slots_indexed = slot_in_index g (slot_count g) n (le_refl (slot_count g))

  addresses_few : address_count g < 65536
  addresses_few =
      let x = mul-le-mul_left g.L n.side_high in
      let y = mul-le-mul_left (g.L * g.S) n.sectors in
      omega (arith, n.cylinders)

  pub whole_of : (image : List ℕ) → length image ≡ image_length g → Whole g image
  unfolding image_length
  whole_of image e = record { few = slots_few; indexed = slots_indexed; inside = omega (arith, e); addresses = addresses_few }

-- WHAT AN ACCEPTED VOLUME GIVES to the code that reads its slots
pub slotted_of : (image : List ℕ) (g : Geometry) → judged image ≡ Ok g → Slotted g image
slotted_of image g j = record { whole = whole_of g (numbers_of_lem image g j) image (image_length_lem image g j); passed = (accepted image g j).slots }
