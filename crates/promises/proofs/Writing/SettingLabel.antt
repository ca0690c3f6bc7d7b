-- What setting U and the data end does to an image.
-- Assumes nothing.
use Rattle.std.specs.Prelude.{ℕ, ◌+◌, ◌<◌, ◌≤◌, ◌≡◌, true, List, length, get_or, take, drop}
use Rattle.std.proofs.Math.Path.{sym}
use Rattle.std.proofs.Common.{◌∙◌, inl, inr, arith}
use Rattle.standard.specs.Layout.{kind_at, kind_offset, body_offset, slot_count, slot_ordinal, label_offset}
use Rattle.standard.specs.Addresses.{five_bytes, legal, ordinal, address_number}
use Rattle.standard.specs.Writing.{splice, unused_field, set_label}
use Rattle.standard.specs.declared.Geometry.{Geometry}
use Rattle.standard.specs.declared.Address.{Address}
use Rattle.promises.specs.Ground.Basics.{either}
use Rattle.promises.specs.Ground.Splices.{Outside, splice_length, splice_before, splice_part, splice_outside, part_same}
use Rattle.promises.specs.Images.AddressLaws.{ordinal_ge}
use Rattle.promises.specs.Images.Tiling.{size_index, sector_outside}
use Rattle.promises.specs.Images.Sectors.{sector_at}
use Rattle.promises.specs.Images.SectorLaws.{sector_from_bytes}
use Rattle.promises.specs.Volumes.VolumeNumbers.{Numbers, slot_in_index, label_room}
use Rattle.promises.specs.Ground.Digits.{padded_length, unused_length}
use Rattle.promises.proofs.Writing.Storing.{WholeImage}

module _ (g : Geometry) (n : Numbers g) (slot : ℕ) (inside : slot ≤ slot_count g) (U : ℕ) (e : Address) (s : List ℕ) (l : WholeImage g s) where
  abbrev at : ℕ
  at = label_offset g slot

  abbrev once : List ℕ
  once = splice (at + 57) (unused_field U) s

  once_room : at + 57 + length (unused_field U) ≤ length s
  once_room = rw (unused_length U) (omega (arith, label_room g slot n inside))

  once_length : length once ≡ length s
  once_length = splice_length (at + 57) (unused_field U) s once_room

  twice_room : at + 74 + length (five_bytes e) ≤ length once
  twice_room = rw (padded_length 5 (address_number e), once_length) (omega (arith, label_room g slot n inside))

  pub set_length : length (set_label g slot U e s) ≡ length s
  unfolding set_label
  set_length = splice_length (at + 74) (five_bytes e) once twice_room ∙ once_length

  pub set_outside : (i : ℕ) → Outside i (at + 57) 5 → Outside i (at + 74) 5 → get_or (set_label g slot U e s) i 0 ≡ get_or s i 0
  unfolding set_label
  set_outside i a b =
      splice_outside (at + 74) (five_bytes e) once twice_room i (rw (padded_length 5 (address_number e)) b)
      ∙ splice_outside (at + 57) (unused_field U) s once_room i (rw (unused_length U) a)

  pub set_end : take 5 (drop (at + 74) (set_label g slot U e s)) ≡ five_bytes e
  unfolding set_label
  set_end = rw (padded_length 5 (address_number e)) at (splice_part (at + 74) (five_bytes e) once twice_room)

  pub set_unused : take 5 (drop (at + 57) (set_label g slot U e s)) ≡ unused_field U
  unfolding set_label
  set_unused =
      part_same (at + 57) 5 once (splice (at + 74) (five_bytes e) once) (splice_length (at + 74) (five_bytes e) once twice_room)
      (λ i a b. splice_before (at + 74) (five_bytes e) once twice_room i (omega arith))
      ∙ (rw (unused_length U) at (splice_part (at + 57) (unused_field U) s once_room))

  -- every other sector stays, and so does this one's kind
  pub set_other : (k : ℕ) → (k ≡ slot_ordinal slot → ⊥) → sector_at g s k ≡ sector_at g (set_label g slot U e s) k
  unfolding label_offset body_offset
  set_other k ne =
      let z = size_index g (slot_ordinal slot) (slot_in_index g slot n inside) in
      sector_from_bytes g s (set_label g slot U e s) k (sym set_length)
      (λ i lo hi.
      let o : Outside i (kind_offset g (slot_ordinal slot)) (128 + 1) = rw z at (sector_outside g k (slot_ordinal slot) i ne lo hi) in
      either o
      (λ (b : i < kind_offset g (slot_ordinal slot)). sym (set_outside i (inl (omega arith)) (inl (omega arith))))
      (λ (b : kind_offset g (slot_ordinal slot) + (128 + 1) ≤ i). sym (set_outside i (inr (omega arith)) (inr (omega arith)))))

  pub set_kind : kind_at g s (slot_ordinal slot) ≡ kind_at g (set_label g slot U e s) (slot_ordinal slot)
  unfolding kind_at label_offset body_offset
  set_kind = sym (set_outside (kind_offset g (slot_ordinal slot)) (inl (omega arith)) (inl (omega arith)))

  pub set_data : (a : Address) → legal g a ≡ true → sector_at g s (ordinal g a) ≡ sector_at g (set_label g slot U e s) (ordinal g a)
  set_data a h =
      set_other (ordinal g a) (λ (q : ordinal g a ≡ slot_ordinal slot). omega (arith, ordinal_ge g a h, slot_in_index g slot n inside))
