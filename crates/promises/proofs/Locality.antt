-- What every answer about a file hangs on: its label and the sectors of its extent. "Two accepted images equal in the index cylinder and in one file's
-- extent give equal answers to every reading of that file."
-- Assumes nothing.
use Rattle.std.specs.Prelude.{◌<◌, ℕ, ◌≡◌, true, false, List, Ok, Err}
use Rattle.std.proofs.Common.{sym, ap, ◌∙◌}
use Rattle.standard.specs.Refusals.{refuse, in_order, given_when}
use Rattle.standard.specs.Layout.{label_at}
use Rattle.standard.specs.Slots.{has_label}
use Rattle.standard.specs.Judgement.{judged}
use Rattle.standard.specs.Records.{Mode}
use Rattle.standard.specs.Files.{extent, good_records, block_count, count_refusal, count_in, counted, open_refusal, file_in, refusal17, refusal18}
use Rattle.standard.specs.Reading.{reply}
use Rattle.standard.specs.Writing.{write_refusal}
use Rattle.standard.specs.declared.Geometry.{Geometry}
use Rattle.standard.specs.declared.Place.{Place}
use Rattle.promises.specs.Ground.Basics.{by_test}
use Rattle.promises.specs.Ground.Lists.{Every}
use Rattle.promises.specs.Images.Tiling.{lengths}
use Rattle.promises.specs.Images.Sectors.{sector_at, AgreeOn, in_index, sector_of}
use Rattle.promises.specs.Volumes.AcceptedLaws.{has_slot}
use Rattle.promises.specs.Volumes.VolumeNumbers.{Numbers, numbers_of_lem}
use Rattle.promises.specs.Volumes.IndexLaws.{index_label, index_has, index_judged}
use Rattle.promises.proofs.Extents.ExtentReads.{every_sector, AlikeRecord, same_alike, alike_wrongs, same_held, same_count, same_splits, alike_good_records, alike_file}

-- the same file in a slot of two images: its label, and the sectors of its extent, but for the bodies of check-failed ones
pub record SameFile (g : Geometry) (image image' : List ℕ) (slot : ℕ) : Type 0 where
  pub has : has_label g image slot ≡ has_label g image' slot
  pub label : has_label g image slot ≡ true → label_at g image slot ≡ label_at g image' slot
  pub sectors : has_label g image slot ≡ true → Every (AlikeRecord g image image') (extent g (label_at g image slot))

-- with no label in the slot, 13 is all
open_13 : (g : Geometry) (image : List ℕ) (slot : ℕ) → has_label g image slot ≡ false → open_refusal g image slot ≡ Err (refuse 13 0)
unfolding open_refusal in_order given_when
open_13 g image slot h = rw h

count_13 : (g : Geometry) (image : List ℕ) (slot : ℕ) → has_label g image slot ≡ false → count_refusal g image slot ≡ Err (refuse 13 0)
unfolding count_refusal in_order given_when
count_13 g image slot h = rw h

pub write_13 : (g : Geometry) (image : List ℕ) (slot : ℕ) (bodies lengths : List ℕ) → has_label g image slot ≡ false
    → write_refusal g image slot bodies lengths ≡ Err (refuse 13 0)
unfolding write_refusal in_order given_when
write_13 g image slot bodies lengths h = rw h

module _ (g : Geometry) (image image' : List ℕ) (slot : ℕ) (p : 0 < g.P) (same : SameFile g image image' slot) where
  absent : has_label g image slot ≡ false → has_label g image' slot ≡ false
  absent e = sym same.has ∙ e

  module _ (l : has_label g image slot ≡ true) where
    good_same : good_records g image (label_at g image slot) ≡ good_records g image' (label_at g image slot)
    good_same = alike_good_records g image image' p (label_at g image slot) (same.sectors l)

    wrongs_same : refusal17 g image (label_at g image slot) ≡ refusal17 g image' (label_at g image slot)
    wrongs_same = alike_wrongs g image image' p (extent g (label_at g image slot)) (same.sectors l)

    pub file_same : file_in g image (label_at g image slot) ≡ file_in g image' (label_at g image' slot)
    file_same = alike_file g image image' p (label_at g image slot) (same.sectors l) ∙ ap (file_in g image') (same.label l)

    count_same : block_count g image (label_at g image slot) ≡ block_count g image' (label_at g image' slot)
    count_same = same_count g image image' (label_at g image slot) good_same ∙ ap (block_count g image') (same.label l)

    refusal18_same : refusal18 g image (label_at g image slot) slot ≡ refusal18 g image' (label_at g image slot) slot
    refusal18_same =
        rw (same_splits g image image' (label_at g image slot) good_same, same_count g image image' (label_at g image slot) good_same)

    open_there : open_refusal g image slot ≡ open_refusal g image' slot
    unfolding open_refusal
    open_there = rw (wrongs_same, refusal18_same, same.has, same.label l)

    count_there : count_refusal g image slot ≡ count_refusal g image' slot
    unfolding count_refusal
    count_there = rw (wrongs_same, refusal18_same, same.has, same.label l)

    write_there : (bodies lengths : List ℕ) → write_refusal g image slot bodies lengths ≡ write_refusal g image' slot bodies lengths
    unfolding write_refusal
    write_there bodies lengths = rw (wrongs_same, same_held g image image' (label_at g image slot) good_same, same.has, same.label l)

  pub open_same : open_refusal g image slot ≡ open_refusal g image' slot
  open_same = by_test (has_label g image slot) open_there (λ e. open_13 g image slot e ∙ sym (open_13 g image' slot (absent e)))

  pub count_in_same : count_in g image slot ≡ count_in g image' slot
  count_in_same =
      by_test (has_label g image slot)
      (λ (e : has_label g image slot ≡ true). rw (count_there e, count_same e))
      (λ (e : has_label g image slot ≡ false). rw (count_13 g image slot e, count_13 g image' slot (absent e)))

  pub write_same : (bodies lengths : List ℕ) → write_refusal g image slot bodies lengths ≡ write_refusal g image' slot bodies lengths
  write_same bodies lengths =
      by_test (has_label g image slot) (λ e. write_there e bodies lengths)
      (λ e. write_13 g image slot bodies lengths e ∙ sym (write_13 g image' slot bodies lengths (absent e)))

  -- of two accepted images: both modes, every place, every size of the output; and the count
  module _ (j : judged image ≡ Ok g) (j' : judged image' ≡ Ok g) where
    pub reply_same : (m : Mode) (pl : Place) (room : ℕ) → reply m image slot pl room ≡ reply m image' slot pl room
    unfolding reply
    reply_same m pl room =
        rw (j, j')
        (by_test (has_label g image slot)
        (λ (e : has_label g image slot ≡ true). rw (open_there e, file_same e))
        (λ (e : has_label g image slot ≡ false). rw (open_13 g image slot e, open_13 g image' slot (absent e))))

    pub counted_same : counted image slot ≡ counted image' slot
    unfolding counted
    counted_same = rw (j, j') count_in_same

-- the index cylinder and, if there is a label in a slot, its extent
unfoldable pub SameForFile : Geometry → List ℕ → List ℕ → ℕ → Type 0
SameForFile g image image' slot =
    AgreeOn g (in_index g) image image' × (has_label g image slot ≡ true → AgreeOn g (sector_of g (extent g (label_at g image slot))) image image')

same_for_file : (g : Geometry) (image image' : List ℕ) (slot : ℕ) → Numbers g → SameForFile g image image' slot → SameFile g image image' slot
unfolding SameForFile AgreeOn
same_for_file g image image' slot numbers same =
    record {
      has = index_has g image image' numbers same.0 slot;
      label = λ l. index_label g image image' numbers same.0 slot (has_slot g image slot l).1;
      sectors = λ l.
          same_alike g image image' (extent g (label_at g image slot))
          (every_sector (λ n. sector_at g image n ≡ sector_at g image' n) g (extent g (label_at g image slot)) (same.1 l));
    }

-- LOCALITY
module _ (image image' : List ℕ) (g g' : Geometry) (slot : ℕ) (j : judged image ≡ Ok g) (j' : judged image' ≡ Ok g')
    (same : SameForFile g image image' slot) where
  judged_same : judged image' ≡ Ok g
  unfolding SameForFile
  judged_same = index_judged image image' g g' j j' same.0

  pub locality : (m : Mode) (pl : Place) (room : ℕ) → reply m image slot pl room ≡ reply m image' slot pl room
  locality =
      reply_same g image image' slot (numbers_of_lem image g j).size_low (same_for_file g image image' slot (numbers_of_lem image g j) same) j judged_same

  pub locality_count : counted image slot ≡ counted image' slot
  locality_count =
      counted_same g image image' slot (numbers_of_lem image g j).size_low (same_for_file g image image' slot (numbers_of_lem image g j) same) j judged_same
