-- After an accepted write every other file is the same: its label, and the sectors of its extent.
-- Assumes nothing.
use Rattle.std.specs.Prelude.{ℕ, ◌*◌, ◌≡◌, true, List, Ok}
use Rattle.std.proofs.Common.{ap, inl, arith}
use Rattle.standard.specs.Layout.{slot_ordinal, label_at}
use Rattle.standard.specs.Addresses.{rank, ordinal}
use Rattle.standard.specs.Labels.{start_of, end_of}
use Rattle.standard.specs.Slots.{has_label}
use Rattle.standard.specs.Judgement.{judged}
use Rattle.standard.specs.Files.{extent, good_records, records_to_block}
use Rattle.standard.specs.Writing.{needed, write_refusal}
use Rattle.standard.specs.declared.Geometry.{Geometry}
use Rattle.standard.specs.declared.Address.{Address}
use Rattle.promises.specs.Ground.Lists.{every_take, every_map}
use Rattle.promises.specs.Images.AddressLaws.{ordinal_ge, ordinal_inj}
use Rattle.promises.specs.Volumes.AcceptedLaws.{has_slot, label_in_range, bounds_extent, labels_apart}
use Rattle.promises.specs.Volumes.VolumeNumbers.{numbers_of_lem, slot_in_index}
use Rattle.promises.specs.Volumes.IndexLaws.{same_label, same_has_label}
use Rattle.promises.specs.Extents.ExtentAddresses.{Between, rising_every, extent_rising, good_rising}
use Rattle.promises.proofs.Extents.ExtentReads.{SameSector, AlikeRecord}
use Rattle.promises.proofs.Locality.{SameFile}
use Rattle.promises.proofs.Writing.Storing.{NotOf}
use Rattle.promises.proofs.Writing.AcceptedWrite.{passing, taken_by, label_range, slot_inside}
use Rattle.promises.proofs.Writing.WrittenImage.{result, result_sector}
use Rattle.promises.proofs.Writing.AcceptedAgain.{other_sector, views}

module _ (image : List ℕ) (g : Geometry) (slot : ℕ) (bodies lengths : List ℕ) (j : judged image ≡ Ok g)
    (w : write_refusal g image slot bodies lengths ≡ Ok tt) where
  abbrev t : List ℕ
  t = result image g slot bodies lengths j w

  abbrev h : List ℕ
  h = label_at g image slot

  module _ (other : ℕ) (ne : other ≡ slot → ⊥) where
    abbrev k : List ℕ
    k = label_at g image other

    -- a record of the other file is no record of this one
    apart : has_label g image other ≡ true → (a : Address) → Between g (rank g (start_of k)) (rank g (end_of k)) a
        → (b : Address) → Between g (rank g (start_of h)) (rank g (end_of h)) b → NotOf g (ordinal g a) b
    apart ho a p b q = (
      q.0,
      λ (e : ordinal g a ≡ ordinal g b).
          let i : rank g a ≡ rank g b = ap (rank g) (ordinal_inj g a b p.0 q.0 e) in
          ne (labels_apart image g other slot (rank g a) j ho (passing g image slot bodies lengths w).labelled
          (bounds_extent g k (rank g a) p.1 p.2) (bounds_extent g h (rank g a) (omega (arith, q.1)) (omega (arith, q.2)))),
    )

    record_kept : has_label g image other ≡ true → (a : Address) → Between g (rank g (start_of k)) (rank g (end_of k)) a → SameSector g image t a
    record_kept ho a p =
        let r = label_range image g slot bodies lengths j w in
        let B = Between g (rank g (start_of h)) (rank g (end_of h)) in
        result_sector image g slot bodies lengths j w (ordinal g a)
        (every_map B (NotOf g (ordinal g a)) (apart ho a p) (taken_by g image h (needed h bodies lengths))
        (every_take B (needed h bodies lengths * records_to_block g h) (good_records g image h)
        (rising_every g (rank g (start_of h)) (rank g (end_of h)) (good_records g image h) (good_rising g h r image))))
        (λ (e : ordinal g a ≡ slot_ordinal slot).
        omega (arith, ordinal_ge g a p.0, slot_in_index g slot (numbers_of_lem image g j) (slot_inside image g slot bodies lengths j w)))

    -- THE OTHER FILE IS THE SAME
    pub other_same : SameFile g image t other
    other_same =
        record {
          has = same_has_label g image t (views image g slot bodies lengths j w) other;
          label = λ ho. let i = (has_slot g image other ho).1 in
              same_label g image t (numbers_of_lem image g j) other i (other_sector image g slot bodies lengths j w other i ne);
          sectors = λ ho.
              every_map (Between g (rank g (start_of k)) (rank g (end_of k))) (AlikeRecord g image t) (λ a p. inl (record_kept ho a p)) (extent g k)
              (rising_every g (rank g (start_of k)) (rank g (end_of k)) (extent g k) (extent_rising g k (label_in_range image g other j ho)));
        }
