-- The slot that finding gives; what is asked of a slot first.
-- Assumes nothing.
use Rattle.std.specs.Prelude.{ℕ, List, [], ◌∷◌, Result, Ok, Err, ⊤}
use Rattle.standard.specs.Refusals.{in_order}
use Rattle.standard.specs.Layout.{slot_count, label_at}
use Rattle.standard.specs.Files.{refusal13, refusal14}
use Rattle.standard.specs.Finding.{found_from}
use Rattle.standard.specs.declared.Geometry.{Geometry}
use Rattle.standard.specs.declared.Refusal.{Refusal}
use Rattle.standard.specs.declared.Found.{Found}

-- slots count from 1: 0 where nothing is found
abbrev pub slot_in : Result Found Refusal → ℕ
slot_in (Err r) = 0
slot_in (Ok f) = f.slot

unfoldable pub slot_named : Geometry → List ℕ → List ℕ → ℕ
slot_named g image name = slot_in (found_from g image name (slot_count g) 1)

-- 13 and 14, with which the list of every call on a file begins
unfoldable pub known_file : Geometry → List ℕ → ℕ → Result ⊤ Refusal
known_file g image slot = in_order (refusal13 g image slot ∷ refusal14 (label_at g image slot) slot ∷ [])
