-- The number of blocks from the good records before the data end, as the definition has it.
-- Assumes nothing.
use Prim.Native.Nat.{ℕ, zero, suc, ◌+◌, ◌-◌, ◌/◌, ◌%◌, ◌<◌, ◌≤◌}
use mathlib.Core.Path.{◌≡◌, refl, sym, ap, ◌∙◌}
use Rattle.std.specs.Prelude.{Result, Ok, Err}
use mathlib.Core.Bool.{Bool, true, false, not, ◌&&◌, ◌||◌}
use mathlib.Core.List.{List, [], ◌∷◌}
use lib.ListN.{length}
use lib.Dec.{ltb, eqb}
use native.Mathlib.Omega.{arith}
use native.Mathlib.Nat.{zero-mod, zero-div}
use borrow.Author.Tests.{lt-ltb, le-ltb, leb-true, leb-false, eqb-true, ne_eqb}
use Rattle.standard.specs.Addresses.{rank, before, stepped}
use Rattle.standard.specs.Labels.{unused_count, start_of, end_of, data_end_of}
use Rattle.standard.specs.Refusals.{given_when, in_order}
use Rattle.standard.specs.Files.{addresses_from, extent_size, extent, is_defective, good_among, good_records, records_to_block, count_before, good_before, data_end_at_start, data_end_in_extent, blocks_held, block_count, refusal17, splits_block, refusal18, count_or}
use Rattle.standard.specs.declared.Geometry.{Geometry}
use Rattle.standard.specs.declared.Address.{Address}
use Rattle.standard.specs.declared.Refusal.{Refusal}
use Rattle.promises.specs.Ground.Basics.{either, lt_or_le, by_test}
use Rattle.promises.specs.Ground.Lists.{Every}
use Rattle.promises.specs.Images.AddressLaws.{Legal, step_rank}
use Rattle.promises.specs.Volumes.AcceptedLaws.{InRange}
use Rattle.promises.specs.Extents.ExtentAddresses.{extent_legal}
use Rattle.extents.specs.Cursors.{legal_on, good_from}
use Rattle.extents.specs.Surveys.{surveyed}
use Rattle.extents.proofs.CursorLaws.{first_legal, good_empty}
use Rattle.extents.proofs.SurveyLaws.{Says, says}
use Rattle.extents.proofs.RankLaws.{whole_front}
use Rattle.files.specs.Numbers.{size_before, numbers_of, ended_by, tallied}
use Rattle.files.proofs.Laws.{tally_by}

-- legal addresses, one behind the other
on_legal : (g : Geometry) (left : ℕ) (a : Address) → Every (Legal g) (addresses_from g left a) → legal_on g left a ≡ true
unfolding legal_on addresses_from
on_legal g zero a h = refl
on_legal g (suc left) a h = rw (h.0, on_legal g left (stepped g a) h.1)

pub extent_on : (g : Geometry) (h : List ℕ) → InRange g h → legal_on g (extent_size g h) (start_of h) ≡ true
unfolding extent
extent_on g h r = on_legal g (extent_size g h) (start_of h) (extent_legal g h r)

-- good records before an address of the extent: those of the addresses up to it
module _ (g : Geometry) (image : List ℕ) (e : Address) where
  none_before : (left : ℕ) (a : Address) → legal_on g left a ≡ true → rank g e ≤ rank g a → count_before g e (good_from g image left a) ≡ 0
  unfolding addresses_from good_among before
  none_before zero a h l = refl
  none_before (suc left) a h l =
      let f = first_legal g left a h in
      let more = none_before left (stepped g a) f.1 (omega (arith, step_rank g a f.0)) in
      by_test (is_defective g image a) (λ d. rw d more) (λ d. rw (d, le-ltb (rank g a) (rank g e) l, more))

  one_more : (left n : ℕ) (a : Address) → rank g a < rank g e → count_before g e (good_from g image left (stepped g a)) ≡ length (good_from g image n (stepped g a))
      → count_before g e (good_from g image (suc left) a) ≡ length (good_from g image (suc n) a)
  unfolding addresses_from good_among before
  one_more left n a k h =
      by_test (is_defective g image a) (λ d. rw d h) (λ d. rw (d, lt-ltb (rank g a) (rank g e) k, h) (omega arith))

  pub count_before_lem : (left : ℕ) (a : Address) → legal_on g left a ≡ true → rank g a ≤ rank g e → rank g e ≤ rank g a + left
      → count_before g e (good_from g image left a) ≡ length (good_from g image (rank g e - rank g a) a)
  count_before_lem zero a h l m = none_before zero a h (omega (arith, m)) ∙ sym (good_empty g image (rank g e - rank g a) a (omega arith))
  count_before_lem (suc left) a h l m =
      let f = first_legal g left a h in
      either (lt_or_le (rank g a) (rank g e))
      (λ (k : rank g a < rank g e).
      let s = step_rank g a f.0 in
      let n : rank g e - rank g a ≡ suc (rank g e - rank g (stepped g a)) = omega arith in
      let i = count_before_lem left (stepped g a) f.1 (omega arith) (omega arith) in
      one_more left (rank g e - rank g (stepped g a)) a k i ∙ ap (λ (j : ℕ). length (good_from g image j a)) (sym n))
      (λ (k : rank g e ≤ rank g a). none_before (suc left) a h k ∙ sym (good_empty g image (rank g e - rank g a) a (omega arith)))

-- THE NUMBER OF BLOCKS
module _ (g : Geometry) (image h : List ℕ) where
  -- the good records before the data end, or all where it is beyond
  abbrev pub good_ones : ℕ
  good_ones = length (good_from g image (size_before g h) (start_of h))

  size_inside : data_end_in_extent g h ≡ true → size_before g h ≡ rank g (data_end_of h) - rank g (start_of h)
  unfolding size_before
  size_inside t = rw t

  size_beyond : data_end_in_extent g h ≡ false → size_before g h ≡ extent_size g h
  unfolding size_before
  size_beyond t = rw t

  end_inside : data_end_in_extent g h ≡ true → rank g (data_end_of h) ≤ rank g (end_of h)
  unfolding data_end_in_extent
  end_inside t = leb-true (rank g (data_end_of h)) (rank g (end_of h)) t

  end_beyond : data_end_in_extent g h ≡ false → rank g (end_of h) < rank g (data_end_of h)
  unfolding data_end_in_extent
  end_beyond t = leb-false (rank g (data_end_of h)) (rank g (end_of h)) t

  at_start : data_end_at_start g h ≡ true → rank g (data_end_of h) ≡ rank g (start_of h)
  unfolding data_end_at_start
  at_start t = eqb-true (rank g (data_end_of h)) (rank g (start_of h)) t

  not_start : rank g (start_of h) < rank g (data_end_of h) → data_end_at_start g h ≡ false
  unfolding data_end_at_start
  not_start l = ne_eqb (rank g (data_end_of h)) (rank g (start_of h)) (λ (e : rank g (data_end_of h) ≡ rank g (start_of h)). omega arith)

  good_all : length (good_records g image h) ≡ length (good_from g image (extent_size g h) (start_of h))
  unfolding good_records extent
  good_all = refl

  good_before_lem : good_before g image h ≡ count_before g (data_end_of h) (good_from g image (extent_size g h) (start_of h))
  unfolding good_before good_records extent
  good_before_lem = refl

  size_is : extent_size g h ≡ suc (rank g (end_of h)) - rank g (start_of h)
  unfolding extent_size
  size_is = refl

  module _ (r : InRange g h) (o : rank g (start_of h) ≤ rank g (data_end_of h)) where
    inside_good : data_end_in_extent g h ≡ true → good_before g image h ≡ good_ones
    inside_good t =
        let c = count_before_lem g image (data_end_of h) (extent_size g h) (start_of h) (extent_on g h r) o (omega (arith, end_inside t, size_is, r.ordered)) in
        good_before_lem ∙ c ∙ ap (λ (n : ℕ). length (good_from g image n (start_of h))) (sym (size_inside t))

    none_good : data_end_in_extent g h ≡ true → data_end_at_start g h ≡ true → good_ones ≡ 0
    none_good t z = good_empty g image (size_before g h) (start_of h) (omega (arith, size_inside t, at_start z))

    beyond_good : data_end_in_extent g h ≡ false → length (good_records g image h) ≡ good_ones
    beyond_good t = good_all ∙ ap (λ (n : ℕ). length (good_from g image n (start_of h))) (sym (size_beyond t))

    pub blocks_are : block_count g image h ≡ good_ones / records_to_block g h
    unfolding block_count blocks_held
    blocks_are =
        by_test (data_end_in_extent g h)
        (λ t. by_test (data_end_at_start g h)
        (λ z. rw (z, none_good t z) (sym (zero-div (records_to_block g h))))
        (λ z. rw (z, t, inside_good t)))
        (λ t. rw (not_start (omega (arith, end_beyond t, r.ordered)), t, beyond_good t))

    pub splits_are : splits_block g image h ≡ (data_end_in_extent g h && not (eqb (good_ones % records_to_block g h) 0))
    unfolding splits_block
    splits_are =
        by_test (data_end_in_extent g h)
        (λ t. by_test (data_end_at_start g h)
        (λ z. rw (z, t, none_good t z, zero-mod (records_to_block g h)))
        (λ z. rw (z, t, inside_good t)))
        (λ t. rw (not_start (omega (arith, end_beyond t, r.ordered)), t))

    pub size_most : size_before g h ≤ extent_size g h
    size_most =
        by_test (data_end_in_extent g h)
        (λ t. omega (arith, size_inside t, end_inside t, size_is, r.ordered))
        (λ t. omega (arith, size_beyond t))

    ended_is : (slot : ℕ) → count_or (in_order (refusal18 g image h slot ∷ [])) (block_count g image h) ≡ ended_by (numbers_of g h) slot good_ones
    unfolding given_when in_order ended_by numbers_of
    ended_is slot =
        rw (splits_are, blocks_are)
        (by_test ((data_end_in_extent g h && not (eqb (good_ones % records_to_block g h) 0)) || (ltb 0 (unused_count h) && eqb (good_ones / records_to_block g h) 0))
        (λ t. rw t) (λ t. rw t))

    -- 17, THEN 18, OR THE NUMBER OF BLOCKS
    pub tally_is : (slot : ℕ) → count_or (in_order (refusal17 g image h ∷ refusal18 g image h slot ∷ [])) (block_count g image h) ≡ tallied g image (numbers_of g h) slot
    unfolding in_order extent numbers_of
    tally_is slot = go (surveyed g image false (addresses_from g (extent_size g h) (start_of h))) refl
      where
        s : Says g image false (addresses_from g (extent_size g h) (start_of h))
        s = says g image false (addresses_from g (extent_size g h) (start_of h))

        go : (k : Result Bool Refusal) → surveyed g image false (addresses_from g (extent_size g h) (start_of h)) ≡ k
            → count_or (in_order (refusal17 g image h ∷ refusal18 g image h slot ∷ [])) (block_count g image h) ≡ tallied g image (numbers_of g h) slot
        go (Err r) e = rw (s.wrong r e) (sym (tally_by g image (numbers_of g h) slot (Err r) e))
        go (Ok true) e =
            let w = s.whole e in
            rw w.1
            (ended_is slot ∙ ap (ended_by (numbers_of g h) slot) (whole_front g image (size_before g h) (extent_size g h) (start_of h) size_most w.2)
            ∙ sym (tally_by g image (numbers_of g h) slot (Ok true) e))
        go (Ok false) e = rw (s.holes e) (ended_is slot ∙ sym (tally_by g image (numbers_of g h) slot (Ok false) e))
