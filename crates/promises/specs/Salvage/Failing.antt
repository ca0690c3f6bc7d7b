-- Sectors that fail, and what a salvage has to give then.
-- Assumes nothing.
use Rattle.std.specs.Prelude.{ℕ, ◌*◌, ◌<◌, ◌≤◌, ◌≡◌, Bool, true, false, ◌||◌, List, [], ◌∷◌, ◌++◌, map, length, take, drop, Ok}
use Rattle.standard.specs.Layout.{index_sectors, check_failed, label_at}
use Rattle.standard.specs.Addresses.{ordinal}
use Rattle.standard.specs.Records.{plain, salvage, FileRecord}
use Rattle.standard.specs.Listed.{Item, rec, end, listed}
use Rattle.standard.specs.Places.{start}
use Rattle.standard.specs.Judgement.{judged}
use Rattle.standard.specs.Files.{extent, good_records, records_to_block, block_count, open_refusal, file_in}
use Rattle.standard.specs.Damage.{damaged, remains, records_in, gaps_in, spared_of, gone_of}
use Rattle.standard.specs.declared.Geometry.{Geometry}
use Rattle.standard.specs.declared.Address.{Address}
use Rattle.promises.specs.Images.Sectors.{sector_at, sector_of}
use Rattle.promises.specs.Reading.Following.{told, done, following, heard, Fits}

-- IMAGE' IS IMAGE AFTER THE SECTORS OF A SET HAVE FAILED: the others have the same bytes; the failed ones have the kind "check failed, body not
-- trusted", and any bytes behind it.
pub record Failed (g : Geometry) (hit : ℕ → Bool) (image image' : List ℕ) : Type 0 where
  pub same_length : length image ≡ length image'
  pub others : (n : ℕ) → hit n ≡ false → sector_at g image n ≡ sector_at g image' n
  pub failed : (n : ℕ) → hit n ≡ true → check_failed g image' n ≡ true

-- "blocks take m good records in turn": those of block b
unfoldable pub records_of : Geometry → List ℕ → List ℕ → ℕ → List Address
records_of g image h b = take (records_to_block g h) (drop (b * records_to_block g h) (good_records g image h))

-- WHICH SECTORS FAIL: only sectors in which a block of the file of label h lies; not its defective records, not records behind its data end
unfoldable pub OfBlocks : Geometry → (ℕ → Bool) → List ℕ → List ℕ → Type 0
OfBlocks g hit image h =
    (n : ℕ) → hit n ≡ true → (b : ℕ) × (b < block_count g image h) × (sector_of g (records_of g image h b) n ≡ true)

-- More is allowed: any sector but one of the index cylinder, or of a record of the file's extent that is not good. (A defective record that failed would
-- count as good, and blocks would move.)
pub record Spares (g : Geometry) (hit : ℕ → Bool) (image h : List ℕ) : Type 0 where
  pub index : (n : ℕ) → hit n ≡ true → index_sectors g ≤ n
  pub defects : (n : ℕ) → hit n ≡ true → sector_of g (extent g h) n ≡ true → sector_of g (good_records g image h) n ≡ true

-- "A lost block contains a check-failed record." The blocks that the failure takes: one of their records is in a failed sector.
unfoldable pub any_hit : Geometry → (ℕ → Bool) → List Address → Bool
any_hit g hit [] = false
any_hit g hit (a ∷ more) = hit (ordinal g a) || any_hit g hit more

unfoldable pub gone : Geometry → (ℕ → Bool) → List ℕ → List ℕ → ℕ → Bool
gone g hit image h b = any_hit g hit (records_of g image h b)

-- plain reading from Start, into some output, gives these bodies and then End
pub record ReadsWhole (image : List ℕ) (slot : ℕ) (bodies : List (List ℕ)) : Type 0 where
  pub readings : ℕ
  pub out : List ℕ
  pub hears : following readings plain image slot out start ≡ map told bodies ++ (done ∷ [])

-- what the salvage has to give: block by block a gap for a block that is gone, and otherwise the spared records that end in it; then End
abbrev pub expected : Geometry → (ℕ → Bool) → List ℕ → List ℕ → List FileRecord → List Item
expected g hit image h rs = remains (gone g hit image h) 0 (block_count g image h) rs ++ (end ∷ [])

-- THE PROMISE of salvage, for the file in a slot
pub record Salvaged (g : Geometry) (hit : ℕ → Bool) (image image' : List ℕ) (slot : ℕ) (rs : List FileRecord) : Type 0 where
  -- before the failure its list is these records, each with the blocks in which it begins and ends, and End
  pub before : listed plain (file_in g image (label_at g image slot)) ≡ map rec rs ++ (end ∷ [])
  -- after it: the volume and the label as before, the file with the blocks lost that are gone
  pub volume : judged image' ≡ Ok g
  pub opens : open_refusal g image' slot ≡ Ok tt
  pub label : label_at g image' slot ≡ label_at g image slot
  pub file : file_in g image' (label_at g image' slot) ≡ damaged (gone g hit image (label_at g image slot)) (file_in g image (label_at g image slot))
  -- its list
  pub list : listed salvage (file_in g image' (label_at g image' slot)) ≡ expected g hit image (label_at g image slot) rs
  -- the records of the list: all that no gone block touches. Its gaps: one for each block that is gone
  pub list_records : records_in (listed salvage (file_in g image' (label_at g image' slot))) ≡ spared_of (gone g hit image (label_at g image slot)) rs
  pub list_gaps : gaps_in (listed salvage (file_in g image' (label_at g image' slot)))
      ≡ gone_of (gone g hit image (label_at g image slot)) 0 (block_count g image (label_at g image slot))
  -- n readings from Start, into an output with room for every record, are heard as the first n of the list
  pub answers : (n : ℕ) (out : List ℕ) → Fits (length out) (map rec rs)
      → following n salvage image' slot out start ≡ take n (map heard (expected g hit image (label_at g image slot) rs))
