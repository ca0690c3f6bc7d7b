-- What failed sectors do to a volume and to a file: the volume stays accepted, the file may be opened, and it is the file with the hit blocks lost.
-- Assumes nothing.
use Prim.Native.Nat.{ℕ, zero, suc, ◌+◌, ◌*◌, ◌<◌, ◌≤◌}
use Rattle.std.specs.Prelude.{◌≡◌, ◌&&◌, Bool, ◌||◌, length, take, eqb, Ok}
use Rattle.std.proofs.Math.Path.{refl, sym, ap}
use Rattle.std.proofs.Common.{◌∙◌, length-drop, drop-drop, arith, zero-mul}
use Rattle.std.proofs.Math.Bool.{true, false, cond}
use mathlib.Core.List.{List, [], ◌∷◌}
use Rattle.std.proofs.Math.ListN.{drop}
use borrow.Author.Tests.{ltb-true}
use Rattle.standard.specs.Characters.{byte}
use Rattle.standard.specs.Layout.{first_byte, index_sectors, valid_mark, incorrect_mark, check_failed, label_at}
use Rattle.standard.specs.Addresses.{ordinal}
use Rattle.standard.specs.Pieces.{lost_block, held, size_of}
use Rattle.standard.specs.Judgement.{legal_kind, judged}
use Rattle.standard.specs.Damage.{damage, damaged}
use Rattle.standard.specs.Files.{extent, is_defective, good_among, good_records, records_to_block, block_count, is_wrong, wrong_among, refusal17, content_size, any_failed, bytes_of, block_of, blocks_from, open_refusal, file_in}
use Rattle.standard.specs.declared.Geometry.{Geometry}
use Rattle.standard.specs.declared.Address.{Address}
use Rattle.promises.specs.Ground.Basics.{by_test, true_not_false, or_l, or_r, or_right}
use Rattle.promises.specs.Ground.Lists.{Every, every_drop, every_map}
use Rattle.promises.specs.Images.AddressLaws.{Legal}
use Rattle.promises.specs.Images.Sectors.{AgreeOn, in_index, sector_of}
use Rattle.promises.specs.Images.SectorLaws.{failed_correct, same_legal_kind}
use Rattle.promises.specs.Volumes.Judging.{order_each, accepted, judged_from}
use Rattle.promises.specs.Volumes.AcceptedLaws.{has_slot}
use Rattle.promises.specs.Volumes.VolumeNumbers.{numbers_of_lem}
use Rattle.promises.specs.Volumes.IndexLaws.{index_label, index_has, accepted_too}
use Rattle.promises.specs.Extents.ExtentAddresses.{good_sound, good_legal}
use Rattle.promises.proofs.Extents.ExtentReads.{every_sector, sector_every, none_wrong, wrong_none, SameSector, SameDefect, same_defect, same_wrong, same_good, same_block, same_count, same_splits}
use Rattle.promises.specs.Extents.FullBlocks.{count_held, open_label, content_fits, SoundFile, block_size}
use Rattle.promises.proofs.Locality.{SameForFile}
use Rattle.promises.specs.Salvage.Failing.{Failed, records_of, Spares, any_hit, gone}

-- a check-failed sector has a legal kind
failed_legal : (g : Geometry) (image : List ℕ) (n : ℕ) → check_failed g image n ≡ true → legal_kind g image n ≡ true
unfolding legal_kind
failed_legal g image n h = or_right (valid_mark g image n || incorrect_mark g image n) (check_failed g image n) h

-- a record with the sector of a good one is not defective
of_good : (g : Geometry) (image : List ℕ) (xs : List Address) (a : Address) → sector_of g (good_among g image xs) (ordinal g a) ≡ true → is_defective g image a ≡ false
unfolding is_defective
of_good g image xs a h =
    sector_every (λ n. (incorrect_mark g image n && eqb (first_byte g image n) (byte "F")) ≡ false) g (good_among g image xs) (good_sound g image xs) (ordinal g a) h

module _ (g : Geometry) (hit : ℕ → Bool) (image image' : List ℕ) (fail : Failed g hit image image') where
  kinds_legal : (n : ℕ) → legal_kind g image n ≡ true → legal_kind g image' n ≡ true
  kinds_legal n h =
      by_test (hit n) (λ t. failed_legal g image' n (fail.failed n t)) (λ t. sym (same_legal_kind g image image' n (fail.others n t)) ∙ h)

  -- THE VOLUME
  index_agrees : ((n : ℕ) → hit n ≡ true → index_sectors g ≤ n) → AgreeOn g (in_index g) image image'
  unfolding AgreeOn
  index_agrees s n l = by_test (hit n) (λ t. absurd (omega (arith, s n t, ltb-true n (index_sectors g) l))) (fail.others n)

  pub failed_volume : ((n : ℕ) → hit n ≡ true → index_sectors g ≤ n) → judged image ≡ Ok g → judged image' ≡ Ok g
  failed_volume s j =
      judged_from image' g
      (accepted_too g image image' (numbers_of_lem image g j) (index_agrees s) fail.same_length kinds_legal (accepted image g j))

  -- the good records
  defect_kept : 0 < g.P → (a : Address) → (hit (ordinal g a) ≡ true → is_defective g image a ≡ false) → SameDefect g image image' a
  unfolding is_defective
  defect_kept p a k =
      by_test (hit (ordinal g a))
      (λ (t : hit (ordinal g a) ≡ true). k t ∙ rw (failed_correct g image' (ordinal g a) (fail.failed (ordinal g a) t)))
      (λ (t : hit (ordinal g a) ≡ false). same_defect g image image' p a (fail.others (ordinal g a) t))

  good_kept : 0 < g.P → (h : List ℕ) → Spares g hit image h → good_records g image h ≡ good_records g image' h
  unfolding good_records
  good_kept p h s =
      same_good g image image' (extent g h)
      (every_map (λ a. hit (ordinal g a) ≡ true → sector_of g (good_among g image (extent g h)) (ordinal g a) ≡ true) (SameDefect g image image')
      (λ a k. defect_kept p a (λ t. of_good g image (extent g h) a (k t))) (extent g h)
      (every_sector (λ n. hit n ≡ true → sector_of g (good_among g image (extent g h)) n ≡ true) g (extent g h) (λ n l t. s.defects n t l)))

  wrong_kept : 0 < g.P → (a : Address) → is_wrong g image a ≡ false → is_wrong g image' a ≡ false
  unfolding is_wrong
  wrong_kept p a k =
      by_test (hit (ordinal g a))
      (λ (t : hit (ordinal g a) ≡ true). rw (failed_correct g image' (ordinal g a) (fail.failed (ordinal g a) t)))
      (λ (t : hit (ordinal g a) ≡ false). sym (same_wrong g image image' p a (fail.others (ordinal g a) t)) ∙ k)

  wrongs_kept : 0 < g.P → (xs : List Address) → wrong_among g image xs ≡ Ok tt → wrong_among g image' xs ≡ Ok tt
  wrongs_kept p xs k =
      wrong_none g image' xs (every_map (λ a. is_wrong g image a ≡ false) (λ a. is_wrong g image' a ≡ false) (wrong_kept p) xs (none_wrong g image xs k))

  -- a block
  hit_failed : (xs : List Address) → any_hit g hit xs ≡ true → any_failed g image' xs ≡ true
  unfolding any_hit any_failed
  hit_failed [] k = k
  hit_failed (a ∷ xs) k = go (hit (ordinal g a)) refl k (λ k'. hit_failed xs k')
    where
      go : (t : Bool) → hit (ordinal g a) ≡ t → (t || any_hit g hit xs) ≡ true → (any_hit g hit xs ≡ true → any_failed g image' xs ≡ true)
          → (check_failed g image' (ordinal g a) || any_failed g image' xs) ≡ true
      go true e q ih = rw (fail.failed (ordinal g a) e)
      go false e q ih = or_right (check_failed g image' (ordinal g a)) (any_failed g image' xs) (ih q)

  unhit_same : (xs : List Address) → any_hit g hit xs ≡ false → Every (SameSector g image image') xs
  unfolding any_hit
  unhit_same [] k = tt
  unhit_same (a ∷ xs) k =
      (fail.others (ordinal g a) (or_l (hit (ordinal g a)) _ k), unhit_same xs (or_r (hit (ordinal g a)) _ k))

  block_damaged : (size : ℕ) (xs : List Address) → size_of (block_of g image size xs) ≡ size
      → block_of g image' size xs ≡ cond (any_hit g hit xs) (lost_block (size_of (block_of g image size xs))) (block_of g image size xs)
  unfolding block_of
  block_damaged size xs e = go (any_hit g hit xs) refl
    where
      go : (t : Bool) → any_hit g hit xs ≡ t
          → block_of g image' size xs ≡ cond t (lost_block (size_of (block_of g image size xs))) (block_of g image size xs)
      go true q = ap (λ (t : Bool). cond t (lost_block size) (held (take size (bytes_of g image' xs)))) (hit_failed xs q) ∙ ap lost_block (sym e)
      go false q = sym (same_block g image image' size xs (unhit_same xs q))

  module _ (h : List ℕ) (snd : SoundFile g image h) where
    head_damaged : (left b : ℕ) (xs : List Address) → drop (b * records_to_block g h) (good_records g image h) ≡ xs → Every (Legal g) xs
        → suc left * records_to_block g h ≤ length xs
        → block_of g image' (content_size h left) (take (records_to_block g h) xs)
        ≡ cond (gone g hit image h b) (lost_block (size_of (block_of g image (content_size h left) (take (records_to_block g h) xs))))
        (block_of g image (content_size h left) (take (records_to_block g h) xs))
    unfolding gone records_of
    head_damaged left b xs e k l =
        rw e
        (block_damaged (content_size h left) (take (records_to_block g h) xs)
        (block_size g image h snd (content_size h left) (content_fits h left) xs k (omega arith)))

    next_records : (b : ℕ) (xs : List Address) → drop (b * records_to_block g h) (good_records g image h) ≡ xs
        → drop (suc b * records_to_block g h) (good_records g image h) ≡ drop (records_to_block g h) xs
    next_records b xs e =
        let q : suc b * records_to_block g h ≡ b * records_to_block g h + records_to_block g h = omega arith in
        rw (q, ← e) (sym (drop-drop (records_to_block g h) (b * records_to_block g h) (good_records g image h)))

    blocks_damaged : (left b : ℕ) (xs : List Address) → drop (b * records_to_block g h) (good_records g image h) ≡ xs → Every (Legal g) xs
        → left * records_to_block g h ≤ length xs
        → blocks_from g image' h left xs ≡ damage (gone g hit image h) b (blocks_from g image h left xs)
    unfolding blocks_from damage
    blocks_damaged zero b xs e k l = refl
    blocks_damaged (suc left) b xs e k l =
        rw (
          head_damaged left b xs e k l,
          blocks_damaged left (suc b) (drop (records_to_block g h) xs) (next_records b xs e) (every_drop (Legal g) (records_to_block g h) xs k)
              (rw (length-drop (records_to_block g h) xs) (omega arith)),
        )

    -- THE FILE
    pub failed_file : 0 < g.P → Spares g hit image h → file_in g image' h ≡ damaged (gone g hit image h) (file_in g image h)
    unfolding file_in damaged
    failed_file p s =
        let e = good_kept p h s in
        let c = same_count g image image' h e in
        let z : drop (0 * records_to_block g h) (good_records g image h) ≡ good_records g image h = rw (zero-mul (records_to_block g h)) in
        rw (
          ← c,
          ← e,
          blocks_damaged (block_count g image h) 0 (good_records g image h) z (good_legal g h snd.in_range image) (count_held g image h),
        )

  -- it may be opened
  module _ (slot : ℕ) (j : judged image ≡ Ok g) (s : Spares g hit image (label_at g image slot)) (ok : open_refusal g image slot ≡ Ok tt) where
    pub failed_label : label_at g image slot ≡ label_at g image' slot
    failed_label =
        index_label g image image' (numbers_of_lem image g j) (index_agrees s.index) slot (has_slot g image slot (open_label g image slot ok)).1

    wrongs_passed : refusal17 g image (label_at g image slot) ≡ Ok tt
    unfolding open_refusal
    wrongs_passed = let (r13, (r14, (r15, (r16, (r17, _))))) = order_each _ ok in r17

    pub failed_open : open_refusal g image' slot ≡ Ok tt
    unfolding open_refusal
    failed_open =
        let h = label_at g image slot in
        let p = (numbers_of_lem image g j).size_low in
        let e = good_kept p h s in
        let w : refusal17 g image' h ≡ refusal17 g image h = wrongs_kept p (extent g h) wrongs_passed ∙ sym wrongs_passed in
        rw (
          ← failed_label,
          w,
          ← (same_splits g image image' h e),
          ← (same_count g image image' h e),
          ← (index_has g image image' (numbers_of_lem image g j) (index_agrees s.index) slot),
        )
        ok

-- sectors that fail neither in the index cylinder nor in the file's extent leave what every reading of the file reads
pub elsewhere_same : (image image' : List ℕ) (g : Geometry) (slot : ℕ) (hit : ℕ → Bool) → Failed g hit image image'
    → ((n : ℕ) → hit n ≡ true → index_sectors g ≤ n) → ((n : ℕ) → hit n ≡ true → sector_of g (extent g (label_at g image slot)) n ≡ false)
    → SameForFile g image image' slot
unfolding SameForFile AgreeOn
elsewhere_same image image' g slot hit fail index apart = (
  index_agrees g hit image image' fail index,
  λ _ n l. by_test (hit n) (λ t. absurd (true_not_false (sector_of g (extent g (label_at g image slot)) n) l (apart n t))) (fail.others n),
)
