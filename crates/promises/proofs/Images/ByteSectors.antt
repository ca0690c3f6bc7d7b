-- EVERY BYTE OF AN IMAGE IS IN ONE SECTOR, and what follows: images that agree on every sector are equal; what a failure or a write can have changed.
-- Assumes nothing.
use Rattle.std.specs.Prelude.{ℕ, zero, suc, ◌+◌, ◌-◌, ◌<◌, ◌≤◌, ◌≡◌, refl, Bool, true, false, ◌||◌, ◌⊎◌, List, [], ◌∷◌, length, drop, eqb, Ok}
use Rattle.std.proofs.Common.{sym, ◌∙◌, inl, inr, ext_get_or, eq-eqb}
use Rattle.std.proofs.Math.Path.{ap}
use Rattle.std.proofs.Math.ListN.{get_or, get_or-eq_default}
use Rattle.std.proofs.Math.Seq.{get_or-take, get_or-drop}
use native.Mathlib.Omega.{arith}
use Rattle.standard.specs.Layout.{index_sectors, sector_count, body_size, kind_offset, image_length, label_offset, label_at}
use Rattle.standard.specs.Addresses.{legal, ordinal}
use Rattle.standard.specs.Judgement.{judged}
use Rattle.standard.specs.Writing.{needed, write_refusal, image_after}
use Rattle.standard.specs.declared.Geometry.{Geometry}
use Rattle.standard.specs.declared.Address.{Address}
use Rattle.promises.specs.Ground.Basics.{either, lt_or_le}
use Rattle.promises.specs.Images.Tiling.{offset_index, offset_data, next_sector, sectors_apart, last_sector, address_inside, address_size}
use Rattle.promises.specs.Images.Sectors.{sector_at, sector_of}
use Rattle.promises.specs.Salvage.Failing.{Failed}
use Rattle.promises.specs.Ground.Splices.{Outside}
use Rattle.promises.specs.Ground.Lists.{Every}
use Rattle.promises.specs.Volumes.AcceptedLaws.{image_length_lem}
use Rattle.promises.proofs.Writing.AcceptedWrite.{taken_by, taken_legal}
use Rattle.promises.proofs.Writing.WritingPromises.{bytes_stay}

-- Sector n of the image holds its byte i. "Each is one byte of kind, then a body."
pub record InSector (g : Geometry) (i n : ℕ) : Type 0 where
  pub sector : n < sector_count g
  pub from : kind_offset g n ≤ i
  pub to : i < kind_offset g n + (1 + body_size g n)

module _ (g : Geometry) where
  first_offset : kind_offset g 0 ≡ 0
  first_offset =
      either (lt_or_le 0 (index_sectors g))
      (λ (l : 0 < index_sectors g). offset_index g 0 l)
      (λ (l : index_sectors g ≤ 0).
      let z : index_sectors g ≡ 0 = omega arith in
      offset_data g 0 l ∙ rw z (omega arith))

  below : (count i : ℕ) → i < kind_offset g count → (n : ℕ) × (n < count) × (kind_offset g n ≤ i) × (i < kind_offset g n + (1 + body_size g n))
  below zero i l = absurd (omega (arith, first_offset))
  below (suc count) i l =
      either (lt_or_le i (kind_offset g count))
      (λ (k : i < kind_offset g count). let (n, a, b, c) = below count i k in (n, omega arith, b, c))
      (λ (k : kind_offset g count ≤ i). (count, omega arith, k, omega (arith, next_sector g count)))

  -- EVERY BYTE IS IN A SECTOR, and in no other
  pub sector_of_byte : (i : ℕ) → i < image_length g → (n : ℕ) × InSector g i n
  sector_of_byte i l =
      let (n, a, b, c) = below (sector_count g) i (omega (arith, last_sector g)) in
      (n, record { sector = a; from = b; to = c })

  pub only_sector : (i n m : ℕ) → InSector g i n → InSector g i m → n ≡ m
  only_sector i n m p q =
      either (lt_or_le n m)
      (λ (l : n < m). absurd (omega (arith, p.to, q.from, sectors_apart g n m l)))
      (λ (r : m ≤ n).
      either (lt_or_le m n)
      (λ (l : m < n). absurd (omega (arith, q.to, p.from, sectors_apart g m n l)))
      (λ (l : n ≤ m). omega arith))

  -- the byte is read of its sector
  byte_of : (image : List ℕ) (i n : ℕ) → InSector g i n → get_or (sector_at g image n) (i - kind_offset g n) 0 ≡ get_or image i 0
  unfolding sector_at
  byte_of image i n p =
      let l = p.to in
      let f = p.from in
      let e : kind_offset g n + (i - kind_offset g n) ≡ i = omega arith in
      get_or-take (suc (body_size g n)) (drop (kind_offset g n) image) (i - kind_offset g n) 0 (omega arith)
      ∙ get_or-drop (kind_offset g n) image (i - kind_offset g n) 0
      ∙ ap (λ (k : ℕ). get_or image k 0) e

  pub same_byte : (image image' : List ℕ) (i n : ℕ) → InSector g i n → sector_at g image n ≡ sector_at g image' n → get_or image i 0 ≡ get_or image' i 0
  same_byte image image' i n p e =
      sym (byte_of image i n p) ∙ ap (λ (s : List ℕ). get_or s (i - kind_offset g n) 0) e ∙ byte_of image' i n p

  -- IMAGES THAT AGREE ON EVERY SECTOR ARE EQUAL
  pub sectors_decide : (image image' : List ℕ) → length image ≡ image_length g → length image' ≡ image_length g
      → ((n : ℕ) → n < sector_count g → sector_at g image n ≡ sector_at g image' n) → image ≡ image'
  sectors_decide image image' l l' h =
      ext_get_or 0 image image' (l ∙ sym l')
      (λ i k. let (n, p) = sector_of_byte i (omega arith) in same_byte image image' i n p (h n p.sector))

-- WHAT A FAILURE CAN HAVE CHANGED: a byte is as before, or it is in a sector that failed.
pub failure_changes : (image image' : List ℕ) (g : Geometry) (hit : ℕ → Bool) → judged image ≡ Ok g → Failed g hit image image'
    → (i : ℕ) → (get_or image i 0 ≡ get_or image' i 0) ⊎ ((n : ℕ) × InSector g i n × (hit n ≡ true))
failure_changes image image' g hit j fail i =
    either (lt_or_le i (image_length g))
    (λ (l : i < image_length g). let (n, p) = sector_of_byte g i l in go n p (hit n) refl)
    (λ (l : image_length g ≤ i).
    let e = image_length_lem image g j in
    inl (get_or-eq_default image 0 (omega arith) ∙ sym (get_or-eq_default image' 0 (omega (arith, fail.same_length)))))
  where
    go : (n : ℕ) → InSector g i n → (t : Bool) → hit n ≡ t → (get_or image i 0 ≡ get_or image' i 0) ⊎ ((n : ℕ) × InSector g i n × (hit n ≡ true))
    go n p true e = inr (n, p, e)
    go n p false e = inl (same_byte g image image' i n p (fail.others n e))

-- ---- WHAT A WRITE CAN HAVE CHANGED

-- The bytes that a write of so many blocks to the file in a slot may change: those of the sectors that the blocks fill, and positions 58-62 and 75-79 of
-- the label. "Then U (spaces for 0) and the data end are set."
pub data MayChange (g : Geometry) (image : List ℕ) (slot blocks i : ℕ) : Type 0 where
  of_blocks : (n : ℕ) → InSector g i n → sector_of g (taken_by g image (label_at g image slot) blocks) n ≡ true → MayChange g image slot blocks i
  of_unused : label_offset g slot + 57 ≤ i → i < label_offset g slot + 62 → MayChange g image slot blocks i
  of_data_end : label_offset g slot + 74 ≤ i → i < label_offset g slot + 79 → MayChange g image slot blocks i

-- an offset is outside so many bytes, or among them
outside_or_in : (i a n : ℕ) → Outside i a n ⊎ ((a ≤ i) × (i < a + n))
outside_or_in i a n =
    either (lt_or_le i a)
    (λ (l : i < a). inl (inl l))
    (λ (r : a ≤ i). either (lt_or_le i (a + n)) (λ (l : i < a + n). inr (r, l)) (λ (k : a + n ≤ i). inl (inr k)))

abbrev Among : Geometry → ℕ → List Address → Type 0
Among g i xs = (n : ℕ) × InSector g i n × (sector_of g xs n ≡ true)

among_or_not : (g : Geometry) (i : ℕ) (xs : List Address) → Every (λ a. legal g a ≡ true) xs
    → Every (λ a. Outside i (kind_offset g (ordinal g a)) (g.P + 1)) xs ⊎ Among g i xs
unfolding sector_of
among_or_not g i [] h = inl tt
among_or_not g i (a ∷ xs) h =
    either (outside_or_in i (kind_offset g (ordinal g a)) (g.P + 1))
    (λ (o : Outside i (kind_offset g (ordinal g a)) (g.P + 1)).
    either (among_or_not g i xs h.1)
    (λ (e : Every (λ b. Outside i (kind_offset g (ordinal g b)) (g.P + 1)) xs). inl (o, e))
    (λ (m : Among g i xs). inr (m.0, m.1, further (eqb (ordinal g a) m.0) m.2)))
    (λ (p : (kind_offset g (ordinal g a) ≤ i) × (i < kind_offset g (ordinal g a) + (g.P + 1))).
    let s = address_size g a h.0 in
    inr (
      ordinal g a,
      record { sector = address_inside g a h.0; from = p.0; to = omega (arith, p.1) },
      rw (eq-eqb (ordinal g a) (ordinal g a) refl),
    ))
  where
    further : {b : Bool} (t : Bool) → b ≡ true → (t || b) ≡ true
    further true e = refl
    further false e = e

module _ (image : List ℕ) (g : Geometry) (slot : ℕ) (bodies lengths : List ℕ) (j : judged image ≡ Ok g)
    (w : write_refusal g image slot bodies lengths ≡ Ok tt) where
  abbrev blocks : ℕ
  blocks = needed (label_at g image slot) bodies lengths

  -- of every byte: it is as before, or one that the write may change
  pub write_changes : (i : ℕ) → (get_or (image_after image slot bodies lengths) i 0 ≡ get_or image i 0) ⊎ MayChange g image slot blocks i
  write_changes i =
      either (outside_or_in i (label_offset g slot + 57) 5)
      (λ (u : Outside i (label_offset g slot + 57) 5).
      either (outside_or_in i (label_offset g slot + 74) 5)
      (λ (d : Outside i (label_offset g slot + 74) 5).
      either (among_or_not g i (taken_by g image (label_at g image slot) blocks) (taken_legal image g slot bodies lengths j w))
      (λ (e : Every (λ a. Outside i (kind_offset g (ordinal g a)) (g.P + 1)) (taken_by g image (label_at g image slot) blocks)).
      inl (bytes_stay image g slot bodies lengths j w i e u d))
      (λ (m : Among g i (taken_by g image (label_at g image slot) blocks)). inr (of_blocks m.0 m.1 m.2)))
      (λ (p : (label_offset g slot + 74 ≤ i) × (i < label_offset g slot + 74 + 5)). inr (of_data_end p.0 (omega (arith, p.1)))))
      (λ (p : (label_offset g slot + 57 ≤ i) × (i < label_offset g slot + 57 + 5)). inr (of_unused p.0 (omega (arith, p.1))))
