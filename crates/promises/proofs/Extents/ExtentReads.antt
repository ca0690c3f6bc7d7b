-- What is read of an extent: the good records, their number, the blocks.
-- Assumes nothing.
use Prim.Native.Nat.{ℕ, zero, suc, ◌<◌}
use Rattle.std.proofs.Common.{subst, ◌∙◌, inl, eqb-true, eq-eqb}
use Rattle.std.specs.Prelude.{◌≡◌, true, false, take, drop, Ok}
use Rattle.std.proofs.Math.Path.{refl, sym}
use Rattle.std.proofs.Math.Bool.{not}
use mathlib.Core.List.{List, [], ◌∷◌}
use Rattle.std.proofs.Math.Dec.{eqb}
use Rattle.standard.specs.Characters.{byte}
use Rattle.standard.specs.Layout.{check_failed}
use Rattle.standard.specs.Addresses.{ordinal}
use Rattle.standard.specs.Files.{extent, is_defective, good_among, good_records, records_to_block, good_before, blocks_held, block_count, is_wrong, wrong_among, splits_block, any_failed, bytes_of, block_of, blocks_from, file_in}
use Rattle.standard.specs.declared.Geometry.{Geometry}
use Rattle.standard.specs.declared.Address.{Address}
use Rattle.promises.specs.Ground.Basics.{by_test, true_not_false, or_l, or_r, or_right, or_rest}
use Rattle.promises.specs.Ground.Lists.{Every, every_take, every_drop, every_map}
use Rattle.promises.specs.Images.Sectors.{sector_at, sector_of}
use Rattle.promises.specs.Images.SectorLaws.{same_body}
use Rattle.promises.proofs.Images.Alike.{SameOrFailed, unfailed_same, alike_failed, alike_marked}
use Rattle.promises.specs.Volumes.Judging.{stop_first, stop_rest}
use Rattle.promises.specs.Extents.ExtentAddresses.{every_good}

-- a fact of the sectors of a list of addresses is one of each, and the other way round
pub every_sector : (Q : ℕ → Type 0) (g : Geometry) (xs : List Address) → ((n : ℕ) → sector_of g xs n ≡ true → Q n) → Every (λ a. Q (ordinal g a)) xs
unfolding sector_of
every_sector Q g [] k = tt
every_sector Q g (a ∷ xs) k = (
  k (ordinal g a) (rw (eq-eqb (ordinal g a) (ordinal g a) refl)),
  every_sector Q g xs (λ n h. k n (or_right (eqb (ordinal g a) n) (sector_of g xs n) h)),
)

pub sector_every : (Q : ℕ → Type 0) (g : Geometry) (xs : List Address) → Every (λ a. Q (ordinal g a)) xs → (n : ℕ) → sector_of g xs n ≡ true → Q n
unfolding sector_of
sector_every Q g [] h n e = absurd (true_not_false false e refl)
sector_every Q g (a ∷ xs) h n e =
    by_test (eqb (ordinal g a) n)
    (λ t. subst Q (eqb-true (ordinal g a) n t) h.0)
    (λ t. sector_every Q g xs h.1 n (or_rest (eqb (ordinal g a) n) (sector_of g xs n) t e))

-- 17 is not given where no record is wrong, and the other way round
pub none_wrong : (g : Geometry) (image : List ℕ) (xs : List Address) → wrong_among g image xs ≡ Ok tt → Every (λ a. is_wrong g image a ≡ false) xs
unfolding wrong_among
none_wrong g image [] h = tt
none_wrong g image (a ∷ xs) h =
    (stop_first (is_wrong g image a) _ (wrong_among g image xs) h, none_wrong g image xs (stop_rest (is_wrong g image a) _ (wrong_among g image xs) h))

pub wrong_none : (g : Geometry) (image : List ℕ) (xs : List Address) → Every (λ a. is_wrong g image a ≡ false) xs → wrong_among g image xs ≡ Ok tt
unfolding wrong_among
wrong_none g image [] h = refl
wrong_none g image (a ∷ xs) h = rw h.0 (wrong_none g image xs h.1)

module _ (g : Geometry) (image image' : List ℕ) where
  abbrev pub SameSector : Address → Type 0
  SameSector a = sector_at g image (ordinal g a) ≡ sector_at g image' (ordinal g a)

  abbrev pub SameDefect : Address → Type 0
  SameDefect a = is_defective g image a ≡ is_defective g image' a

  -- the record's sector is the same, or check-failed in both images
  abbrev pub AlikeRecord : Address → Type 0
  AlikeRecord a = SameOrFailed g image image' (ordinal g a)

  pub same_alike : (xs : List Address) → Every SameSector xs → Every AlikeRecord xs
  same_alike = every_map SameSector AlikeRecord (λ a e. inl e)

  alike_defect : 0 < g.P → (a : Address) → AlikeRecord a → SameDefect a
  unfolding is_defective
  alike_defect p a s = alike_marked g image image' (ordinal g a) s p (λ b. eqb b (byte "F"))

  alike_wrong : 0 < g.P → (a : Address) → AlikeRecord a → is_wrong g image a ≡ is_wrong g image' a
  unfolding is_wrong
  alike_wrong p a s = alike_marked g image image' (ordinal g a) s p (λ b. not (eqb b (byte "F")))

  pub same_defect : 0 < g.P → (a : Address) → SameSector a → SameDefect a
  same_defect p a e = alike_defect p a (inl e)

  pub same_wrong : 0 < g.P → (a : Address) → SameSector a → is_wrong g image a ≡ is_wrong g image' a
  same_wrong p a e = alike_wrong p a (inl e)

  pub same_good : (xs : List Address) → Every SameDefect xs → good_among g image xs ≡ good_among g image' xs
  unfolding good_among
  same_good [] h = refl
  same_good (a ∷ xs) h = rw (h.0, same_good xs h.1)

  pub alike_wrongs : 0 < g.P → (xs : List Address) → Every AlikeRecord xs → wrong_among g image xs ≡ wrong_among g image' xs
  unfolding wrong_among
  alike_wrongs p [] h = refl
  alike_wrongs p (a ∷ xs) h = rw (alike_wrong p a h.0, alike_wrongs p xs h.1)

  alike_any_failed : (xs : List Address) → Every AlikeRecord xs → any_failed g image xs ≡ any_failed g image' xs
  unfolding any_failed
  alike_any_failed [] h = refl
  alike_any_failed (a ∷ xs) h = rw (alike_failed g image image' (ordinal g a) h.0, alike_any_failed xs h.1)

  -- the bytes of a block are read only where no record of it is check-failed
  trusted_bytes : (xs : List Address) → Every AlikeRecord xs → any_failed g image xs ≡ false → bytes_of g image xs ≡ bytes_of g image' xs
  unfolding bytes_of any_failed
  trusted_bytes [] h k = refl
  trusted_bytes (a ∷ xs) h k =
      let e = unfailed_same g image image' (ordinal g a) h.0 (or_l (check_failed g image (ordinal g a)) _ k) in
      rw (same_body g image image' (ordinal g a) e, trusted_bytes xs h.1 (or_r (check_failed g image (ordinal g a)) _ k))

  alike_block : (size : ℕ) (xs : List Address) → Every AlikeRecord xs → block_of g image size xs ≡ block_of g image' size xs
  unfolding block_of
  alike_block size xs h =
      by_test (any_failed g image xs)
      (λ (t : any_failed g image xs ≡ true). rw (t, sym (alike_any_failed xs h) ∙ t))
      (λ (t : any_failed g image xs ≡ false). rw (alike_any_failed xs h, trusted_bytes xs h t))

  pub same_block : (size : ℕ) (xs : List Address) → Every SameSector xs → block_of g image size xs ≡ block_of g image' size xs
  same_block size xs h = alike_block size xs (same_alike xs h)

  alike_blocks : (h : List ℕ) (left : ℕ) (xs : List Address) → Every AlikeRecord xs → blocks_from g image h left xs ≡ blocks_from g image' h left xs
  unfolding blocks_from
  alike_blocks h zero xs k = refl
  alike_blocks h (suc left) xs k =
      rw (
        alike_block _ (take (records_to_block g h) xs) (every_take AlikeRecord (records_to_block g h) xs k),
        alike_blocks h left (drop (records_to_block g h) xs) (every_drop AlikeRecord (records_to_block g h) xs k),
      )

  -- what hangs on the good records alone
  module _ (h : List ℕ) (e : good_records g image h ≡ good_records g image' h) where
    same_before : good_before g image h ≡ good_before g image' h
    unfolding good_before
    same_before = rw e

    pub same_held : blocks_held g image h ≡ blocks_held g image' h
    unfolding blocks_held
    same_held = rw e

    pub same_count : block_count g image h ≡ block_count g image' h
    unfolding block_count
    same_count = rw (same_before, same_held)

    pub same_splits : splits_block g image h ≡ splits_block g image' h
    unfolding splits_block
    same_splits = rw same_before

  -- what hangs on the sectors of the extent
  module _ (p : 0 < g.P) (h : List ℕ) (k : Every AlikeRecord (extent g h)) where
    pub alike_good_records : good_records g image h ≡ good_records g image' h
    unfolding good_records
    alike_good_records = same_good (extent g h) (every_map AlikeRecord SameDefect (alike_defect p) (extent g h) k)

    all_good_alike : Every AlikeRecord (good_records g image h)
    unfolding good_records
    all_good_alike = every_good g image AlikeRecord (extent g h) k

    pub alike_file : file_in g image h ≡ file_in g image' h
    unfolding file_in
    alike_file =
        rw (same_count h alike_good_records, alike_blocks h (block_count g image' h) (good_records g image h) all_good_alike, alike_good_records)
