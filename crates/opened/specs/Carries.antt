-- What an opened file carries beside the image, and what asking it for a place answers.
-- Assumes nothing.
use Rattle.std.specs.Prelude.{ℕ, ◌≡◌, List}
use Rattle.standard.specs.Records.{Mode}
use Rattle.standard.specs.Reading.{read_answer, output_after}
use Rattle.standard.specs.declared.Place.{Place}
use Rattle.opening.specs.Opened.{Staged}
use Rattle.opened.specs.declared.Carried.{Carried}
use Rattle.opened.specs.declared.Told.{Told}

-- "An opened file carries the lent image with it, so the read path asks it for record after record."
unfoldable pub Carries : List ℕ → Carried → Type 0
Carries image c = Staged image c.slot c.stage

-- ASKED FOR A PLACE of the file in a slot, it answers what reading that place of that slot answers, and leaves the output so ("Bytes behind a record in the
-- output stay too; gap and End change none."); it carries the same file from then on
abbrev pub Asks : List ℕ → ℕ → Mode → Place → List ℕ → List ℕ → Told → Type 0
Asks image slot m place out after r =
    (r.answer ≡ read_answer m image slot place out)
    × (after ≡ output_after m image slot place out)
    × (Carries image r.carried)
    × (r.carried.slot ≡ slot)
