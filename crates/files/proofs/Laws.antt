-- What a survey tells of the number of blocks; the exits of counting.
-- Assumes nothing.
use Rattle.std.specs.Prelude.{Result, Ok, Err}
use Prim.Native.Nat.{ℕ}
use mathlib.Core.Path.{◌≡◌, ap}
use mathlib.Core.Bool.{Bool, false}
use mathlib.Core.List.{List, [], ◌∷◌}
use lib.ListN.{length}
use Rattle.standard.specs.Refusals.{in_order}
use Rattle.standard.specs.Layout.{label_at}
use Rattle.standard.specs.Files.{addresses_from, block_count, refusal17, refusal18, count_refusal, count_or, count_in, counted}
use Rattle.standard.specs.Judgement.{judged}
use Rattle.standard.specs.declared.Geometry.{Geometry}
use Rattle.standard.specs.declared.Refusal.{Refusal}
use Rattle.finding.specs.Slot.{known_file}
use Rattle.finding.proofs.AskLaws.{known_stops, known_passes}
use Rattle.extents.specs.Cursors.{good_from}
use Rattle.extents.specs.Surveys.{surveyed}
use Rattle.files.specs.Numbers.{tallied_by, tallied}
use Rattle.files.specs.declared.Numbers.{Numbers}

pub tally_by : (g : Geometry) (image : List ℕ) (n : Numbers) (slot : ℕ) (k : Result Bool Refusal) → surveyed g image false (addresses_from g n.size n.start) ≡ k
    → tallied g image n slot ≡ tallied_by n slot (length (good_from g image n.before n.start)) k
unfolding tallied
tally_by g image n slot k e = ap (tallied_by n slot (length (good_from g image n.before n.start))) e

-- the exits of a count
module _ (g : Geometry) (image : List ℕ) (slot : ℕ) where
  pub count_stopped : (r : Refusal) → known_file g image slot ≡ Err r → Err r ≡ count_in g image slot
  unfolding count_refusal
  count_stopped r e = rw (known_stops g image slot r _ e)

  pub count_on : known_file g image slot ≡ Ok tt
      → count_or (in_order (refusal17 g image (label_at g image slot) ∷ refusal18 g image (label_at g image slot) slot ∷ [])) (block_count g image (label_at g image slot))
      ≡ count_in g image slot
  unfolding count_refusal
  count_on e = rw (known_passes g image slot _ e)

-- a file call on a volume that is refused, and on one that is not
pub counted_refused : (image : List ℕ) (slot : ℕ) (r : Refusal) → judged image ≡ Err r → Err r ≡ counted image slot
unfolding counted
counted_refused image slot r j = rw j

pub counted_in : (image : List ℕ) (slot : ℕ) (g : Geometry) → judged image ≡ Ok g → count_in g image slot ≡ counted image slot
unfolding counted
counted_in image slot g j = rw j
