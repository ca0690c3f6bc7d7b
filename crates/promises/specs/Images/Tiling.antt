-- The layout of the image: its sectors stand one behind the other and fill it; the slots are the sectors that the document names.
-- Assumes nothing.
use Rattle.std.specs.Prelude.{ℕ, zero, suc, ◌+◌, ◌-◌, ◌*◌, ◌<◌, ◌≤◌, ◌≡◌, refl, true}
use Rattle.std.proofs.Common.{ap, inl, inr, lt-ltb, le-ltb}
use native.Mathlib.Omega.{arith}
use Rattle.standard.specs.Layout.{ordinal_at, index_sectors, sector_count, body_size, kind_offset, body_offset, image_length, slot_ordinal}
use Rattle.standard.specs.Addresses.{legal, rank, ordinal}
use Rattle.standard.specs.declared.Geometry.{Geometry}
use Rattle.standard.specs.declared.Address.{Address}
use Rattle.promises.specs.Ground.Basics.{either, lt_or_le}
use Rattle.promises.specs.Ground.Splices.{Outside}
use Rattle.promises.specs.Images.AddressLaws.{ordinal_lt, ordinal_ge, ordinal_inj}

module _ (g : Geometry) where
  pub offset_index : (n : ℕ) → n < index_sectors g → kind_offset g n ≡ n * 129
  unfolding kind_offset
  offset_index n l = simp (lt-ltb n (index_sectors g) l)

  pub offset_data : (n : ℕ) → index_sectors g ≤ n → kind_offset g n ≡ index_sectors g * 129 + (n - index_sectors g) * (g.P + 1)
  unfolding kind_offset
  offset_data n l = simp (le-ltb n (index_sectors g) l)

  pub size_index : (n : ℕ) → n < index_sectors g → body_size g n ≡ 128
  unfolding body_size
  size_index n l = simp (lt-ltb n (index_sectors g) l)

  pub size_data : (n : ℕ) → index_sectors g ≤ n → body_size g n ≡ g.P
  unfolding body_size
  size_data n l = simp (le-ltb n (index_sectors g) l)

  next_data : (n N P : ℕ) → N ≤ n → (suc n - N) * (P + 1) ≡ (n - N) * (P + 1) + (1 + P)
  next_data n N P l =
      let e : suc n - N ≡ suc (n - N) = omega arith in
      rw e (omega arith)

  -- EACH SECTOR IS ONE BYTE OF KIND, THEN ITS BODY, and the next sector begins behind it
  pub next_sector : (n : ℕ) → kind_offset g (suc n) ≡ kind_offset g n + (1 + body_size g n)
  next_sector n =
      either (lt_or_le (suc n) (index_sectors g))
      (λ (l : suc n < index_sectors g).
      let m : n < index_sectors g = omega arith in
      omega (arith, offset_index (suc n) l, offset_index n m, size_index n m))
      (λ (r : index_sectors g ≤ suc n).
      either (lt_or_le n (index_sectors g))
      (λ (m : n < index_sectors g).
      let z : (suc n - index_sectors g) * (g.P + 1) ≡ 0 = (let e : suc n - index_sectors g ≡ 0 = omega arith in rw e (omega arith)) in
      omega (arith, offset_data (suc n) r, offset_index n m, size_index n m, z))
      (λ (m : index_sectors g ≤ n).
      omega (arith, offset_data (suc n) r, offset_data n m, size_data n m, next_data n (index_sectors g) g.P m)))

  -- sectors do not overlap
  apart_by : (d n : ℕ) → kind_offset g n + (1 + body_size g n) ≤ kind_offset g (suc (n + d))
  apart_by zero n =
      let e : suc (n + zero) ≡ suc n = omega arith in
      omega (arith, next_sector n, ap (kind_offset g) e)
  apart_by (suc d) n =
      let e : suc (n + suc d) ≡ suc (suc (n + d)) = omega arith in
      omega (arith, apart_by d n, next_sector (suc (n + d)), ap (kind_offset g) e)

  pub sectors_apart : (n m : ℕ) → n < m → kind_offset g n + (1 + body_size g n) ≤ kind_offset g m
  sectors_apart n m l =
      let e : suc (n + (m - suc n)) ≡ m = omega arith in
      omega (arith, apart_by (m - suc n) n, ap (kind_offset g) e)

  -- THE SECTORS FILL THE IMAGE
  pub last_sector : kind_offset g (sector_count g) ≡ image_length g
  unfolding sector_count image_length
  last_sector = rw (offset_data (index_sectors g + (g.L + 3) * g.S * g.D) (omega arith))
      (let e : index_sectors g + (g.L + 3) * g.S * g.D - index_sectors g ≡ (g.L + 3) * g.S * g.D = omega arith in rw e)

  pub sector_in_image : (n : ℕ) → n < sector_count g → body_offset g n + body_size g n ≤ image_length g
  unfolding body_offset
  sector_in_image n l = omega (arith, sectors_apart n (sector_count g) l, last_sector)

  -- an offset of one sector is outside every other
  pub sector_outside : (n k i : ℕ) → (n ≡ k → ⊥) → kind_offset g n ≤ i → i < kind_offset g n + (1 + body_size g n)
      → Outside i (kind_offset g k) (body_size g k + 1)
  sector_outside n k i ne lo hi =
      either (lt_or_le n k)
      (λ (l : n < k). inl (omega (arith, sectors_apart n k l)))
      (λ (r : k ≤ n).
      either (lt_or_le k n)
      (λ (l : k < n). inr (omega (arith, sectors_apart k n l)))
      (λ (q : n ≤ k). absurd (ne (omega arith))))

  -- the sector of a data address: P bytes behind its kind, behind the index cylinder, inside the image; and of two addresses two sectors
  module _ (a : Address) (h : legal g a ≡ true) where
    pub address_size : body_size g (ordinal g a) ≡ g.P
    address_size = size_data (ordinal g a) (ordinal_ge g a h)

    pub address_inside : ordinal g a < sector_count g
    unfolding sector_count
    address_inside = omega (arith, ordinal_lt g a h)

    pub address_room : body_offset g (ordinal g a) + g.P ≤ image_length g
    address_room = omega (arith, sector_in_image (ordinal g a) address_inside, address_size)

    pub addresses_apart : (b : Address) → legal g b ≡ true → rank g a < rank g b → (ordinal g a ≡ ordinal g b → ⊥)
    addresses_apart b hb l e = omega (arith, ap (rank g) (ordinal_inj g a b h hb e))

  -- the slots: "08 to I are label slots 1 to I-7. On two-sided volumes, side 1 sectors 01 to I continue the slots."
  pub slot_side_0 : (slot : ℕ) → slot_ordinal slot ≡ ordinal_at g 0 0 (slot + 7)
  unfolding slot_ordinal ordinal_at
  slot_side_0 slot = omega arith

  pub slot_side_1 : (slot : ℕ) → 7 ≤ g.I → g.I - 7 < slot → slot_ordinal slot ≡ ordinal_at g 0 1 (slot - (g.I - 7))
  unfolding slot_ordinal ordinal_at
  slot_side_1 slot h l = omega arith

-- "from 1,548 to 5,283,408"
abbrev volume : ℕ → ℕ → ℕ → ℕ → ℕ → Geometry
volume L I D P S = record { L = L; I = I; D = D; k = 0; P = P; S = S; d1 = 0; d2 = 0 }

pub lengths : (image_length (volume 1 8 1 128 1) ≡ 1548) × (image_length (volume 96 26 26 1024 2) ≡ 5283408)
unfolding image_length
lengths = (refl, refl)
