-- A FUNCTION THAT READS: that it meets the contract, what a caller hears of it, and what it is heard to give of a file whose sectors have failed. proofs/Readers proves
-- what holds of any that meets its contract.
-- Assumes nothing.
use Rattle.std.specs.Prelude.{ℕ, zero, suc, ◌≡◌, Bool, length, take, Result}
use mathlib.Core.List.{List, [], ◌∷◌, ◌++◌, map}
use Rattle.standard.specs.Layout.{label_at}
use Rattle.standard.specs.Files.{block_count, file_in}
use Rattle.standard.specs.Records.{Mode, plain, FileRecord}
use Rattle.standard.specs.Listed.{rec, end, listed}
use Rattle.standard.specs.Places.{start}
use Rattle.standard.specs.Damage.{records_in, gaps_in, spared_of, gone_of}
use Rattle.standard.specs.declared.Geometry.{Geometry}
use Rattle.standard.specs.declared.Place.{Place}
use Rattle.standard.specs.declared.Answer.{Answer}
use Rattle.promises.specs.Reading.ReadingLaws.{body_of}
use Rattle.promises.specs.Reading.Following.{Heard, onward, heard_in}
use Rattle.promises.specs.Salvage.Failing.{gone, expected}
use Rattle.promises.proofs.Salvage.PlainFailed.{FirstGone, NoneGone, cut_at}
use Rattle.promises.proofs.Instances.{image}
use Rattle.demanded.specs.Calls.{Response, Meets, Asked, ask, read, contract}
use Rattle.standard.specs.declared.Refusal.{Refusal}
use Rattle.demanded.specs.Called.{defined}

-- A FUNCTION THAT READS, and that it meets the contract, of plain reading or of salvage
abbrev pub Reader : Type 0
Reader = Asked → Response (Result Answer Refusal)

abbrev pub Reads : Mode → Reader → Type 0
Reads m r = Meets (contract (read m)) r

-- one such function: the definitions themselves
abbrev pub as_defined : Mode → Reader
as_defined m = defined (contract (read m))

-- WHAT A CALLER HEARS who reads a place with such a function, and then each place that it hands out, at most n times, stopping at End or a refusal. Each
-- reading is into the same output, as the one before left it.
unfoldable pub followed : ℕ → Reader → List ℕ → ℕ → List ℕ → Place → List Heard
followed zero r image slot out pl = []
followed (suc n) r image slot out pl =
    onward (r (ask image slot pl out)).answer (r (ask image slot pl out)).after (λ out' pl'. followed n r image slot out' pl')

-- ======== DEMAND 3
-- THE FILE'S RECORDS, of these bodies, each with the blocks in which it begins and ends: its own list, which ends in End. So nothing of them can be chosen
-- afterwards.
pub record RecordsOf (g : Geometry) (image : List ℕ) (slot : ℕ) (bodies : List (List ℕ)) : Type 0 where
  pub records : List FileRecord
  pub list : listed plain (file_in g image (label_at g image slot)) ≡ map rec records ++ (end ∷ [])
  pub bodies_are : map body_of records ≡ bodies

-- "salvage gives, in order, every record no block of which is lost, one gap per lost block at its place, nothing more": what is heard of a file whose records had
-- these bodies, in an image where sectors have failed (`hit` names them)
pub record SalvagedAs (salvager : Reader) (g : Geometry) (hit : ℕ → Bool) (image image' : List ℕ) (slot : ℕ) (bodies : List (List ℕ)) : Type 0 where
  pub before : RecordsOf g image slot bodies
  -- `expected`: block by block a gap for a block that is gone, and otherwise the spared records that end in it; then End. `heard_in`: the list as it is heard with
  -- so much room in the output, which is the list itself up to a record that is too long, where 23 is heard
  pub is_heard : (n : ℕ) (out : List ℕ)
      → followed n salvager image' slot out start ≡ heard_in (length out) (take n (expected g hit image (label_at g image slot) before.records))
  -- its records are all that no gone block touches, in order; its gaps one for each block that is gone
  pub records_are : records_in (expected g hit image (label_at g image slot) before.records) ≡ spared_of (gone g hit image (label_at g image slot)) before.records
  pub gaps_are : gaps_in (expected g hit image (label_at g image slot) before.records)
      ≡ gone_of (gone g hit image (label_at g image slot)) 0 (block_count g image (label_at g image slot))

-- What a plain reader is heard to give then: the records that end before the first lost block, and 20 naming it; or, if no block is lost, all records and End.
-- (`FirstGone`, `NoneGone`: the first block that is gone; none is. `cut_at b`: the records that end before block b, and 20.)
pub record ReadAs (reader : Reader) (g : Geometry) (hit : ℕ → Bool) (image image' : List ℕ) (slot : ℕ) (bodies : List (List ℕ)) : Type 0 where
  pub before : RecordsOf g image slot bodies
  pub up_to : (b : ℕ) → FirstGone (gone g hit image (label_at g image slot)) (block_count g image (label_at g image slot)) b → (n : ℕ) (out : List ℕ)
      → followed n reader image' slot out start ≡ heard_in (length out) (take n (cut_at b before.records))
  pub all : NoneGone (gone g hit image (label_at g image slot)) (block_count g image (label_at g image slot)) → (n : ℕ) (out : List ℕ)
      → followed n reader image' slot out start ≡ heard_in (length out) (take n (map rec before.records ++ (end ∷ [])))
