-- What was written is read back from the image; and the file can be written again.
-- Assumes nothing.
use Prim.Native.Nat.{ℕ, ◌+◌, ◌<◌, suc, ◌*◌, ◌≤◌}
use Rattle.std.specs.Prelude.{◌≡◌, ◌&&◌, ltb, Ok}
use Rattle.std.proofs.Math.Path.{refl, sym, ap}
use Rattle.std.proofs.Common.{◌∙◌, arith, le-div_iff_mul-le, ne_eqb}
use Rattle.std.proofs.Math.Bool.{and-false, true, false}
use mathlib.Core.List.{List, [], ◌∷◌, map}
use Rattle.std.proofs.Math.ListN.{length}
use Rattle.std.proofs.Math.Dec.{eqb}
use Rattle.standard.specs.Layout.{label_at}
use Rattle.standard.specs.Slots.{has_label}
use Rattle.standard.specs.Judgement.{judged}
use Rattle.standard.specs.Files.{extent, wrong_among, blocks_held, extent_size, is_defective, good_among, good_records, records_to_block, good_before, data_end_at_start, data_end_in_extent, block_count, is_wrong, splits_block, open_refusal, blocks_from, file_in}
use Rattle.standard.specs.Writing.{wrong_length, lengths_from, packing, write_refusal, needed, image_with}
use Rattle.standard.specs.Refusals.{given_when}
use Rattle.standard.specs.Characters.{at, is_space, number}
use Rattle.standard.specs.Addresses.{legal, rank}
use Rattle.standard.specs.Labels.{known_level, block_length, unused_count, start_of, end_of, params_of}
use Rattle.standard.specs.Pieces.{held}
use Rattle.standard.specs.Packing.{file_of}
use Rattle.standard.specs.declared.Geometry.{Geometry}
use Rattle.standard.specs.declared.Address.{Address}
use Rattle.promises.specs.Ground.Lists.{Every, every_map, every_both}
use Rattle.promises.specs.Images.AddressLaws.{Legal}
use Rattle.promises.specs.Images.Tiling.{lengths}
use Rattle.promises.specs.Volumes.Judging.{order_all}
use Rattle.promises.specs.Volumes.AcceptedLaws.{image_length_lem, InRange}
use Rattle.promises.specs.Volumes.LabelRules.{block_fits}
use Rattle.promises.specs.Volumes.VolumeNumbers.{numbers_of_lem}
use Rattle.promises.specs.Extents.ExtentAddresses.{good_rising, extent_legal, good_legal}
use Rattle.promises.proofs.Extents.ExtentReads.{none_wrong, wrong_none, SameSector, SameDefect, same_defect, same_wrong, same_good}
use Rattle.promises.specs.Writing.PackedRecords.{Sized}
use Rattle.promises.proofs.Writing.Storing.{blocks_right, blocks_defective}
use Rattle.promises.proofs.Writing.SettingLabel.{set_data}
use Rattle.promises.proofs.Writing.AcceptedWrite.{passing, taken_by, stored, label_range, slot_inside, taken_legal, taken_good, stored_whole}
use Rattle.promises.specs.Writing.AlikeLabels.{Alike, f23, f29, f35, a42, a43, a45, known, format_same, record_same, params_same}
use Rattle.promises.proofs.Writing.WrittenImage.{unused, data_end, result, result_label}
use Rattle.promises.proofs.Writing.WrittenLabel.{old_rules, packing_right, new_unused, records_some, ends, new_end}
use Rattle.promises.proofs.Writing.AcceptedAgain.{this_is_label}
use Rattle.promises.proofs.Writing.StoredBlocks.{Holds, holds_same, stored_holds, sizes_fitting, file_blocks}

lengths_same : (h k : List ℕ) → Alike h k → (i : ℕ) (lengths : List ℕ) → lengths_from k i lengths ≡ lengths_from h i lengths
unfolding lengths_from wrong_length
lengths_same h k a i [] = refl
lengths_same h k a i (n ∷ lengths) = rw (format_same h k a, f23 h k a, record_same h k a, lengths_same h k a (i + 1) lengths)

module _ (image : List ℕ) (g : Geometry) (slot : ℕ) (bodies lengths : List ℕ) (j : judged image ≡ Ok g)
    (w : write_refusal g image slot bodies lengths ≡ Ok tt) where
  abbrev h : List ℕ
  h = label_at g image slot

  abbrev t : List ℕ
  t = result image g slot bodies lengths j w

  abbrev k : List ℕ
  k = label_at g t slot

  abbrev U : ℕ
  U = unused image g slot bodies lengths j w

  abbrev st : List ℕ
  st = stored image g slot bodies lengths j w

  abbrev cs : List (List ℕ)
  cs = (packing h bodies lengths).contents

  alike : Alike h k
  alike = result_label image g slot bodies lengths j w

  range : InRange g h
  range = label_range image g slot bodies lengths j w

  room : 0 < g.P
  room = (numbers_of_lem image g j).size_low

  -- setting the label leaves the data
  pub set_same : (a : Address) → legal g a ≡ true → SameSector g st t a
  unfolding image_with
  set_same a la =
      set_data g (numbers_of_lem image g j) slot (slot_inside image g slot bodies lengths j w) U (data_end image g slot bodies lengths j w) st
      (stored_whole image g slot bodies lengths j w) a la

  -- the extent and its good records are the same
  extent_same : extent g k ≡ extent g h
  unfolding extent extent_size
  extent_same = rw (f29 h k alike, f35 h k alike)

  defective_kept : (a : Address) → legal g a ≡ true → is_defective g image a ≡ is_defective g t a
  defective_kept a la =
      blocks_defective g room a (records_to_block g h) cs (good_records g image h) image
      (every_both (Legal g) (λ x. is_defective g image x ≡ false) (taken_by g image h (needed h bodies lengths))
      (taken_legal image g slot bodies lengths j w) (taken_good image g slot bodies lengths j w)) (image_length_lem image g j)
      ∙ same_defect g st t room a (set_same a la)

  good_kept : good_records g t k ≡ good_records g image h
  unfolding good_records
  good_kept =
      ap (good_among g t) extent_same
      ∙ sym (same_good g image t (extent g h) (every_map (Legal g) (SameDefect g image t) defective_kept (extent g h) (extent_legal g h range)))

  wrong_kept : (a : Address) → (legal g a ≡ true) × (is_wrong g image a ≡ false) → is_wrong g t a ≡ false
  wrong_kept a q =
      sym (same_wrong g st t room a (set_same a q.0))
      ∙ blocks_right g room a (records_to_block g h) cs (good_records g image h) image (taken_legal image g slot bodies lengths j w) (image_length_lem image g j) q.1

  right_kept : wrong_among g t (extent g k) ≡ Ok tt
  right_kept =
      ap (wrong_among g t) extent_same
      ∙ wrong_none g t (extent g h)
      (every_map (λ a. (legal g a ≡ true) × (is_wrong g image a ≡ false)) (λ a. is_wrong g t a ≡ false) wrong_kept (extent g h)
      (every_both (Legal g) (λ a. is_wrong g image a ≡ false) (extent g h) (extent_legal g h range)
      (none_wrong g image (extent g h) (passing g image slot bodies lengths w).right)))

  -- m, and the number of blocks
  m_same : records_to_block g k ≡ records_to_block g h
  unfolding records_to_block
  m_same = rw (f23 h k alike)

  pub count_back : block_count g t k ≡ needed h bodies lengths
  unfolding block_count data_end_at_start data_end_in_extent good_before blocks_held
  count_back =
      rw (new_end image g slot bodies lengths j w, f29 h k alike, f35 h k alike, good_kept, m_same) (ends image g slot bodies lengths j w).count

  splits_none : splits_block g t k ≡ false
  unfolding splits_block data_end_at_start data_end_in_extent good_before
  splits_none =
      rw (new_end image g slot bodies lengths j w, f29 h k alike, f35 h k alike, good_kept, m_same) (ends image g slot bodies lengths j w).whole

  unused_none : (ltb 0 (unused_count k) && eqb (block_count g t k) 0) ≡ false
  unfolding packing
  unused_none = rw (new_unused image g slot bodies lengths j w, count_back) (go cs (packing_right image g slot bodies lengths j w).sized)
    where
      go : (ds : List (List ℕ)) → Sized (block_length h) U ds → (ltb 0 U && eqb (length ds) 0) ≡ false
      go [] z = rw z
      go (d ∷ ds) z = rw (ne_eqb (suc (length ds)) 0 (λ (q : suc (length ds) ≡ 0). omega arith)) (and-false (ltb 0 U))

  -- THE FILE OPENS
  pub opens_back : open_refusal g t slot ≡ Ok tt
  unfolding open_refusal has_label given_when
  opens_back =
      let p = passing g image slot bodies lengths w in
      let l : has_label g t slot ≡ true = rw (this_is_label image g slot bodies lengths j w) at p.labelled in
      let kn : known_level k ≡ true = known h k alike ∙ p.known in
      let s42 : is_space (at k 42) ≡ true = rw (a42 h k alike) p.plain42 in
      let s45 : is_space (at k 45) ≡ true = rw (a45 h k alike) p.plain45 in
      order_all _ (rw l, (rw kn, (rw s42, (rw s45, (right_kept, (rw (splits_none, unused_none), tt))))))

  -- the good records suffice, and the blocks have room
  pub enough_records : length cs * records_to_block g h ≤ length (good_records g image h)
  unfolding blocks_held
  enough_records = (le-div_iff_mul-le (records_some image g slot bodies lengths j w)).0 (passing g image slot bodies lengths w).held

  fitting : Every (λ c. length c ≤ records_to_block g h * g.P) cs
  unfolding packing
  fitting = go cs (packing_right image g slot bodies lengths j w).sized
    where
      go : (ds : List (List ℕ)) → Sized (block_length h) U ds → Every (λ c. length c ≤ records_to_block g h * g.P) ds
      go [] z = tt
      go (d ∷ ds) z = sizes_fitting (block_length h) U d ds (records_to_block g h * g.P) z (block_fits g h (old_rules image g slot bodies lengths j w))

  holds : Holds g (records_to_block g h) t cs (good_records g image h)
  holds =
      let r = good_rising g h range image in
      holds_same g (records_to_block g h) st t cs (good_records g image h)
      (every_map (Legal g) (SameSector g st t) set_same (good_records g image h) (good_legal g h range image))
      (stored_holds g (records_to_block g h) (rank g (start_of h)) (rank g (end_of h)) cs (good_records g image h) image r enough_records fitting (image_length_lem image g j))

  blocks_back : (ds : List (List ℕ)) → Sized (block_length h) U ds → Holds g (records_to_block g h) t ds (good_records g image h)
      → blocks_from g t k (length ds) (good_records g image h) ≡ map held ds
  blocks_back [] z q = unfold blocks_from in refl
  blocks_back (d ∷ ds) z q =
      file_blocks g k t (records_to_block g h) (block_length h) U m_same (ap number (f23 h k alike)) (new_unused image g slot bodies lengths j w) d ds
      (good_records g image h) z q

  -- THE FILE IS WHAT WAS PACKED
  pub file_back : file_in g t k ≡ file_of (params_of h) cs
  unfolding file_in file_of
  file_back =
      let b : blocks_from g t k (length cs) (good_records g image h) ≡ map held cs = blocks_back cs (unfold packing in (packing_right image g slot bodies lengths j w).sized) holds in
      rw (count_back, good_kept, b, params_same h k alike)

  -- WRITTEN AGAIN: the same writes are accepted and refused as before
  has_kept : has_label g t slot ≡ has_label g image slot
  unfolding has_label
  has_kept = rw (sym (this_is_label image g slot bodies lengths j w))

  right_same : wrong_among g t (extent g k) ≡ wrong_among g image (extent g h)
  right_same = right_kept ∙ sym (passing g image slot bodies lengths w).right

  room_same : blocks_held g t k ≡ blocks_held g image h
  unfolding blocks_held
  room_same = rw (good_kept, m_same)

  pub packed_same : (b l : List ℕ) → packing k b l ≡ packing h b l
  unfolding packing
  packed_same b l = rw (params_same h k alike, f23 h k alike)

  pub written_again : (b l : List ℕ) → write_refusal g t slot b l ≡ write_refusal g image slot b l
  unfolding write_refusal given_when
  written_again b l =
      rw (has_kept, known h k alike, a42 h k alike, a45 h k alike, a43 h k alike, right_same, lengths_same h k alike 0 l, room_same, packed_same b l)
