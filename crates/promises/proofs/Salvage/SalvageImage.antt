-- Salvage at the image: a file that plain reading reads to End, and sectors that then fail.
-- Assumes nothing.
use Rattle.std.specs.Prelude.{ℕ, zero, suc, ◌*◌, ◌≤◌, ◌≡◌, refl, Bool, true, false, cond, ◌&&◌, List, [], ◌∷◌, ◌++◌, map, length, take, drop, eqb, Ok}
use Rattle.std.proofs.Common.{sym, subst, ◌∙◌, append_assoc}
use Rattle.std.proofs.Math.Path.{ap}
use Rattle.standard.specs.Layout.{index_sectors, label_at}
use Rattle.standard.specs.Addresses.{ordinal}
use Rattle.standard.specs.Records.{plain, salvage, FileRecord}
use Rattle.standard.specs.Listed.{Item, rec, gap, end, read_all, listed}
use Rattle.standard.specs.Places.{start}
use Rattle.standard.specs.Judgement.{judged}
use Rattle.standard.specs.Files.{good_records, block_count, blocks_from, open_refusal, file_in, records_to_block}
use Rattle.standard.specs.Damage.{damaged, spared, ending_in, remains, records_in, gaps_in, gone_of}
use Rattle.standard.specs.declared.Geometry.{Geometry}
use Rattle.standard.specs.declared.Address.{Address}
use Rattle.promises.specs.Ground.Lists.{every_take, every_drop, every_map}
use Rattle.promises.specs.Images.AddressLaws.{Legal, ordinal_ge}
use Rattle.promises.specs.Images.Sectors.{sector_of}
use Rattle.promises.specs.Volumes.VolumeNumbers.{numbers_of_lem}
use Rattle.promises.specs.Extents.ExtentAddresses.{good_legal}
use Rattle.promises.proofs.Extents.ExtentReads.{every_sector, sector_every}
use Rattle.promises.specs.Extents.FullBlocks.{sound_file}
use Rattle.promises.specs.Reading.ReadingLaws.{read_all_listed, Clean}
use Rattle.promises.specs.Salvage.SalvageLaws.{SalvageTheorem, salvage_theorem}
use Rattle.promises.specs.Salvage.SalvageViews.{salvage_gaps, salvage_records}
use Rattle.promises.specs.Reading.Following.{following, heard, Fits}
use Rattle.promises.proofs.Reading.FollowingLaws.{following_listed}
use Rattle.promises.specs.Salvage.Failing.{Failed, records_of, OfBlocks, Spares, gone, expected, Salvaged}
use Rattle.promises.proofs.Salvage.FailedLaws.{failed_volume, failed_file, failed_label, failed_open}

blocks_count : (g : Geometry) (image h : List ℕ) (n : ℕ) (xs : List Address) → length (blocks_from g image h n xs) ≡ n
unfolding blocks_from
blocks_count g image h zero xs = refl
blocks_count g image h (suc n) xs = ap suc (blocks_count g image h n (drop (records_to_block g h) xs))

pub file_count : (g : Geometry) (image h : List ℕ) → length (file_in g image h).blocks ≡ block_count g image h
unfolding file_in
file_count g image h = blocks_count g image h (block_count g image h) (good_records g image h)

-- room for all records is room for those that remain
fits_cond : (room : ℕ) (t : Bool) (r : FileRecord) (is ms : List Item) → length r.body ≤ room → Fits room (is ++ ms) → Fits room (cond t (rec r ∷ is) is ++ ms)
fits_cond room true r is ms l h = (l, h)
fits_cond room false r is ms l h = h

fits_ending : (room : ℕ) (lost : ℕ → Bool) (b : ℕ) (rs : List FileRecord) (ms : List Item) → Fits room (map rec rs) → Fits room ms → Fits room (ending_in lost b rs ++ ms)
unfolding ending_in
fits_ending room lost b [] ms f h = h
fits_ending room lost b (r ∷ rs) ms f h =
    fits_cond room (eqb r.last_block b && spared lost r) r (ending_in lost b rs) ms f.0 (fits_ending room lost b rs ms f.1 h)

fits_block : (room : ℕ) (t : Bool) (lost : ℕ → Bool) (b : ℕ) (rs : List FileRecord) (ms : List Item) → Fits room (map rec rs) → Fits room ms
    → Fits room (cond t (gap b ∷ []) (ending_in lost b rs) ++ ms)
fits_block room true lost b rs ms f h = h
fits_block room false lost b rs ms f h = fits_ending room lost b rs ms f h

assoc : (t : Bool) (xs ys ms ns : List Item) → (cond t xs ys ++ ms) ++ ns ≡ cond t xs ys ++ (ms ++ ns)
assoc true xs ys ms ns = append_assoc xs ms ns
assoc false xs ys ms ns = append_assoc ys ms ns

fits_remains : (room : ℕ) (lost : ℕ → Bool) (n b : ℕ) (rs : List FileRecord) → Fits room (map rec rs) → Fits room (remains lost b n rs ++ (end ∷ []))
unfolding remains
fits_remains room lost zero b rs f = tt
fits_remains room lost (suc n) b rs f =
    subst (Fits room) (sym (assoc (lost b) (gap b ∷ []) (ending_in lost b rs) (remains lost (suc b) n rs) (end ∷ [])))
    (fits_block room (lost b) lost b rs (remains lost (suc b) n rs ++ (end ∷ [])) f (fits_remains room lost n (suc b) rs f))

module _ (image image' : List ℕ) (g : Geometry) (slot : ℕ) (hit : ℕ → Bool) (rs : List FileRecord) (j : judged image ≡ Ok g)
    (ok : open_refusal g image slot ≡ Ok tt) (clean : Clean (listed plain (file_in g image (label_at g image slot))) rs)
    (fail : Failed g hit image image') (s : Spares g hit image (label_at g image slot)) where
  volume_is : judged image' ≡ Ok g
  volume_is = failed_volume g hit image image' fail s.index j

  opens_is : open_refusal g image' slot ≡ Ok tt
  opens_is = failed_open g hit image image' fail slot j s ok

  label_is : label_at g image slot ≡ label_at g image' slot
  label_is = failed_label g hit image image' fail slot j s ok

  file_is : file_in g image' (label_at g image' slot) ≡ damaged (gone g hit image (label_at g image slot)) (file_in g image (label_at g image slot))
  file_is =
      ap (file_in g image') (sym label_is)
      ∙ failed_file g hit image image' fail (label_at g image slot) (sound_file image g slot j ok) (numbers_of_lem image g j).size_low s

  clean_all : Clean (read_all plain (file_in g image (label_at g image slot))) rs
  clean_all = read_all_listed plain (file_in g image (label_at g image slot)) ∙ clean

  read_is : listed salvage (file_in g image' (label_at g image' slot))
      ≡ read_all salvage (damaged (gone g hit image (label_at g image slot)) (file_in g image (label_at g image slot)))
  read_is =
      ap (listed salvage) file_is
      ∙ sym (read_all_listed salvage (damaged (gone g hit image (label_at g image slot)) (file_in g image (label_at g image slot))))

  list_is : listed salvage (file_in g image' (label_at g image' slot)) ≡ expected g hit image (label_at g image slot) rs
  unfolding SalvageTheorem
  list_is =
      read_is
      ∙ salvage_theorem (gone g hit image (label_at g image slot)) (file_in g image (label_at g image slot)) rs clean_all
      ∙ ap (λ (n : ℕ). remains (gone g hit image (label_at g image slot)) 0 n rs ++ (end ∷ [])) (file_count g image (label_at g image slot))

  answers_are : (n : ℕ) (out : List ℕ) → Fits (length out) (map rec rs)
      → following n salvage image' slot out start ≡ take n (map heard (expected g hit image (label_at g image slot) rs))
  answers_are n out k =
      following_listed image' g slot volume_is opens_is salvage n out
      (subst (Fits (length out)) (sym list_is) (fits_remains (length out) (gone g hit image (label_at g image slot)) (block_count g image (label_at g image slot)) 0 rs k))
      ∙ ap (λ (is : List Item). take n (map heard is)) list_is

  -- THE PROMISE
  pub salvage_image : Salvaged g hit image image' slot rs
  salvage_image =
      record {
        before = clean;
        volume = volume_is;
        opens = opens_is;
        label = sym label_is;
        file = file_is;
        list = list_is;
        list_records = ap records_in read_is ∙ salvage_records (gone g hit image (label_at g image slot)) (file_in g image (label_at g image slot)) rs clean_all;
        list_gaps =
            ap gaps_in read_is
            ∙ salvage_gaps (gone g hit image (label_at g image slot)) (file_in g image (label_at g image slot)) rs clean_all
            ∙ ap (gone_of (gone g hit image (label_at g image slot)) 0) (file_count g image (label_at g image slot));
        answers = answers_are;
      }

-- where only sectors of the file's good records fail, nothing else is to be asked
only_good : (image : List ℕ) (g : Geometry) (slot : ℕ) (hit : ℕ → Bool) → judged image ≡ Ok g → open_refusal g image slot ≡ Ok tt
    → ((n : ℕ) → hit n ≡ true → sector_of g (good_records g image (label_at g image slot)) n ≡ true) → Spares g hit image (label_at g image slot)
only_good image g slot hit j ok k =
    record {
      index = λ n t.
          let good = good_records g image (label_at g image slot) in
          sector_every (λ i. index_sectors g ≤ i) g good
          (every_map (Legal g) (λ a. index_sectors g ≤ ordinal g a) (ordinal_ge g) good (good_legal g (label_at g image slot) (sound_file image g slot j ok).in_range image))
          n (k n t);
      defects = λ n t e. k n t;
    }

-- a sector of a part of a list is one of the list
sector_part : (g : Geometry) (o m : ℕ) (xs : List Address) (n : ℕ) → sector_of g (take m (drop o xs)) n ≡ true → sector_of g xs n ≡ true
sector_part g o m xs =
    sector_every (λ i. sector_of g xs i ≡ true) g (take m (drop o xs))
    (every_take (λ a. sector_of g xs (ordinal g a) ≡ true) m (drop o xs)
    (every_drop (λ a. sector_of g xs (ordinal g a) ≡ true) o xs (every_sector (λ i. sector_of g xs i ≡ true) g xs (λ i e. e))))

pub only_blocks : (image : List ℕ) (g : Geometry) (slot : ℕ) (hit : ℕ → Bool) → judged image ≡ Ok g → open_refusal g image slot ≡ Ok tt
    → OfBlocks g hit image (label_at g image slot) → Spares g hit image (label_at g image slot)
unfolding OfBlocks records_of
only_blocks image g slot hit j ok k =
    let h = label_at g image slot in
    let good = good_records g image h in
    let m = records_to_block g h in
    only_good image g slot hit j ok (λ n t. sector_part g ((k n t).0 * m) m good n (k n t).2)
