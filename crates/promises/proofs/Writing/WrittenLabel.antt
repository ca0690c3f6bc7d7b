-- The label after an accepted write: U and the data end as packed, and no rule broken.
-- Assumes nothing.
use Rattle.std.specs.Prelude.{ℕ, ◌%◌, ◌<◌, ◌≤◌, ◌≡◌, Bool, ◌&&◌, ◌||◌, List, Ok}
use Rattle.std.proofs.Math.Path.{refl}
use Rattle.std.proofs.Math.Bool.{true, false, not}
use Rattle.std.proofs.Math.Dec.{ltb, eqb}
use Rattle.std.proofs.Common.{arith}
use borrow.Author.Tests.{lt-ltb, le-ltb, eq-eqb}
use Rattle.standard.specs.Characters.{field, spaces, digits}
use Rattle.standard.specs.Layout.{label_at}
use Rattle.standard.specs.Addresses.{rank, before, address_in, is_data_end, five_bytes}
use Rattle.standard.specs.Labels.{format_of, is_fixed, block_length, record_length, unused_count, is_blocked, start_of, end_of, data_end_of, rule23, rule29, rule40, rule54, rule63, rule58, rule75, label_fault}
use Rattle.standard.specs.Judgement.{judged}
use Rattle.standard.specs.Files.{good_records, records_to_block, blocks_held}
use Rattle.standard.specs.Writing.{parted, needed, packing, write_refusal, data_end_after}
use Rattle.standard.specs.declared.Geometry.{Geometry}
use Rattle.standard.specs.declared.Address.{Address}
use Rattle.promises.specs.Ground.Basics.{or_right}
use Rattle.promises.specs.Volumes.AcceptedLaws.{label_faultless}
use Rattle.promises.specs.Volumes.LabelRules.{Rules, label_rules, fixed_format}
use Rattle.promises.specs.Volumes.VolumeNumbers.{numbers_of_lem}
use Rattle.promises.specs.Extents.FullBlocks.{block_low, records_one}
use Rattle.promises.specs.Extents.ExtentAddresses.{good_rising}
use Rattle.promises.specs.Ground.Digits.{five_digits_lem, address_back_lem, unused_legal, unused_back}
use Rattle.promises.specs.Writing.PackedRecords.{Right, packed_right}
use Rattle.promises.proofs.Writing.AcceptedWrite.{passing, label_range}
use Rattle.promises.specs.Writing.AlikeLabels.{Alike, f23, f29, a40, a63, record_same, still_right}
use Rattle.promises.specs.Writing.DataEnds.{Ending, ending}
use Rattle.promises.proofs.Writing.WrittenImage.{unused, data_end, result, result_label, result_unused, result_end}

module _ (image : List ℕ) (g : Geometry) (slot : ℕ) (bodies lengths : List ℕ) (j : judged image ≡ Ok g)
    (w : write_refusal g image slot bodies lengths ≡ Ok tt) where
  abbrev h : List ℕ
  h = label_at g image slot

  abbrev k : List ℕ
  k = label_at g (result image g slot bodies lengths j w) slot

  abbrev U : ℕ
  U = unused image g slot bodies lengths j w

  abbrev e : Address
  e = data_end image g slot bodies lengths j w

  alike : Alike h k
  alike = result_label image g slot bodies lengths j w

  old_right : label_fault g h ≡ 0
  old_right = label_faultless image g slot j (passing g image slot bodies lengths w).labelled

  pub old_rules : Rules g h
  old_rules = label_rules image g slot j (passing g image slot bodies lengths w).labelled (passing g image slot bodies lengths w).known

  pub packing_right : Right (format_of h) (record_length h) (is_blocked h) (block_length h) (parted bodies lengths)
  packing_right =
      let p = passing g image slot bodies lengths w in
      packed_right g h bodies lengths old_rules p.fits p.sum

  unused_below : U < block_length h
  unfolding packing
  unused_below = packing_right.below

  -- U, read back
  pub new_unused : unused_count k ≡ U
  unfolding unused_count
  new_unused = rw (result_unused image g slot bodies lengths j w) (unused_back U (omega (arith, unused_below, block_low g h (numbers_of_lem image g j) old_rules)))

  -- m
  pub records_some : 1 ≤ records_to_block g h
  records_some = records_one g h (numbers_of_lem image g j).size_low

  -- the data end
  pub ends : Ending g (start_of h) (end_of h) (records_to_block g h) (good_records g image h)
      (label_range image g slot bodies lengths j w).start_legal (label_range image g slot bodies lengths j w).end_legal
      (label_range image g slot bodies lengths j w).ordered (good_rising g h (label_range image g slot bodies lengths j w) image) records_some
      (needed h bodies lengths) e
  unfolding data_end_after blocks_held
  ends =
      ending g (start_of h) (end_of h) (records_to_block g h) (good_records g image h)
      (label_range image g slot bodies lengths j w).start_legal (label_range image g slot bodies lengths j w).end_legal
      (label_range image g slot bodies lengths j w).ordered (good_rising g h (label_range image g slot bodies lengths j w) image) records_some
      (needed h bodies lengths) (passing g image slot bodies lengths w).held

  end_back : address_in (five_bytes e) ≡ e
  end_back =
      let n = numbers_of_lem image g j in
      let r = ends.right in
      address_back_lem e (omega (arith, r.cylinder_most, n.cylinders)) (omega (arith, r.side_most, n.side_high)) (omega (arith, r.sector_most, n.sectors))

  pub new_end : data_end_of k ≡ e
  new_end = rw (result_end image g slot bodies lengths j w) end_back

  new58 : rule58 g k ≡ true
  unfolding rule58
  new58 =
      let c1 : (spaces (field k 58 62) || digits (field k 58 62)) ≡ true = rw (result_unused image g slot bodies lengths j w) (unused_legal U) in
      let c2 : (not (rule23 g k) || ltb (unused_count k) (block_length k)) ≡ true =
      or_right (not (rule23 g k)) (ltb (unused_count k) (block_length k)) (rw (new_unused, f23 h k alike) (lt-ltb U (block_length h) unused_below)) in
      let c3 : (not (rule63 k) || (not (not (is_blocked k)) || eqb (unused_count k) 0)) ≡ true =
      or_right (not (rule63 k)) (not (not (is_blocked k)) || eqb (unused_count k) 0) (rw (new_unused, a63 h k alike) (unblocked (is_blocked h) refl)) in
      let c4 : (not (rule23 g k && rule40 k && rule54 g k) || (not (is_fixed k) || eqb (unused_count k % record_length k) 0)) ≡ true =
      or_right (not (rule23 g k && rule40 k && rule54 g k)) (not (is_fixed k) || eqb (unused_count k % record_length k) 0)
      (rw (new_unused, a40 h k alike, record_same h k alike) (multiple (is_fixed h) refl)) in
      rw (c1, c2, c3, c4)
    where
      unblocked : (t : Bool) → is_blocked h ≡ t → (not (not t) || eqb U 0) ≡ true
      unblocked true q = refl
      unblocked false q = eq-eqb U 0 (unfold packing in packing_right.unblocked q)

      multiple : (t : Bool) → is_fixed h ≡ t → (not t || eqb (U % record_length h) 0) ≡ true
      multiple true q = eq-eqb (U % record_length h) 0 (unfold packing in packing_right.multiple (fixed_format h q))
      multiple false q = refl

  new75 : rule75 g k ≡ true
  unfolding rule75 is_data_end before
  new75 =
      let r = ends.right in
      let c1 : is_data_end g (field k 75 79) ≡ true = rw (result_end image g slot bodies lengths j w, five_digits_lem e, end_back) r.either_way in
      let c2 : (not (rule29 g k) || not (ltb (rank g (data_end_of k)) (rank g (start_of k)))) ≡ true =
      or_right (not (rule29 g k)) (not (ltb (rank g (data_end_of k)) (rank g (start_of k))))
      (rw (new_end, f29 h k alike, le-ltb (rank g e) (rank g (start_of h)) ends.behind)) in
      rw (c1, c2)

  -- THE NEW LABEL BREAKS NO RULE
  pub new_right : label_fault g k ≡ 0
  new_right = still_right h k alike g old_right new58 new75
