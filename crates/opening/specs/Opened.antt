-- An opened file: its numbers, the sizes and starts of its blocks, and the places in it.
-- Assumes nothing.
use Rattle.std.specs.Prelude.{ℕ, ◌+◌, ◌-◌, ◌*◌, ◌≡◌, Bool, true, false, cond, ◌&&◌, List, [], ◌∷◌, drop, leb, ltb, eqb, Result, Ok, Err, ⊤}
use Rattle.standard.specs.Refusals.{in_order}
use Rattle.standard.specs.Layout.{label_at}
use Rattle.standard.specs.Labels.{block_length, record_length, unused_count, start_of, format_of, is_blocked}
use Rattle.standard.specs.Files.{extent_size, extent, good_records, records_to_block, block_count, refusal13, refusal14, refusal15, refusal16, open_refusal, file_in}
use Rattle.standard.specs.Records.{File, aligned}
use Rattle.standard.specs.Judgement.{judged}
use Rattle.standard.specs.declared.Geometry.{Geometry}
use Rattle.standard.specs.declared.Place.{Place}
use Rattle.labels.specs.Forms.{form_in, format_for}
use Rattle.extents.specs.Cursors.{legal_at, standing}
use Rattle.extents.specs.Surveys.{surveyed}
use Rattle.extents.specs.declared.Cursor.{Cursor}
use Rattle.opening.specs.declared.FileNumbers.{FileNumbers}
use Rattle.opening.specs.declared.Stage.{Stage}
use Rattle.standard.specs.declared.Refusal.{Refusal}

-- "Reading: 13-19", "Writing: 13-16, 24, 17, 25-27": what both ask of a slot first
unfoldable pub usable_in : Geometry → List ℕ → ℕ → Result ⊤ Refusal
usable_in g image slot =
    let h = label_at g image slot in
    in_order (refusal13 g image slot ∷ refusal14 h slot ∷ refusal15 h slot ∷ refusal16 h slot ∷ [])

-- whether a walk found every record good
abbrev pub is_whole : Result Bool Refusal → Bool
is_whole (Err r) = false
is_whole (Ok whole) = whole

-- what of the label in a slot, and of its extent, reading needs
unfoldable pub file_numbers : Geometry → List ℕ → ℕ → FileNumbers
file_numbers g image slot =
    let h = label_at g image slot in
    record {
      g = g;
      slot = slot;
      first = record { at = start_of h; left = extent_size g h };
      whole = is_whole (surveyed g image false (extent g h));
      form = form_in (format_of h);
      blocked = is_blocked h;
      m = records_to_block g h;
      B = block_length h;
      R = record_length h;
      U = unused_count h;
      count = block_count g image h;
    }

abbrev pub open_or : Result ⊤ Refusal → FileNumbers → Result FileNumbers Refusal
open_or (Ok _) f = Ok f
open_or (Err r) f = Err r

-- "Reading: 13-19": the refusals that a file must pass to be opened, or its numbers
unfoldable pub opening_in : Geometry → List ℕ → ℕ → Result FileNumbers Refusal
opening_in g image slot = open_or (open_refusal g image slot) (file_numbers g image slot)

-- the label and the file that the numbers are of
abbrev pub label_in : List ℕ → FileNumbers → List ℕ
label_in image f = label_at f.g image f.slot

abbrev pub file_of : List ℕ → FileNumbers → File
file_of image f = file_in f.g image (label_in image f)

-- the numbers of a file that was opened in this image
abbrev pub Opened : List ℕ → FileNumbers → Type 0
Opened image f = (judged image ≡ Ok f.g) × (open_refusal f.g image f.slot ≡ Ok tt) × (f ≡ file_numbers f.g image f.slot)

-- "A block's content is its first B bytes; B-U in the last."
unfoldable pub size_at : FileNumbers → ℕ → ℕ
size_at f b = cond (eqb (b + 1) f.count) (f.B - f.U) f.B

-- "Any place in the file may be asked; F offsets are multiples of R; offset at most the content; block = count only with offset 0"
unfoldable pub inside_by : FileNumbers → Place → Bool
inside_by f pl =
    cond (ltb pl.block f.count)
    (leb pl.offset (size_at f pl.block) && aligned (format_for f.form) f.R pl.offset)
    (eqb pl.block f.count && eqb pl.offset 0)

-- a cursor on the first record of block b, or behind the last block: "blocks take m good records in turn"
abbrev pub Seated : List ℕ → FileNumbers → ℕ → Cursor → Type 0
Seated image f b c =
    (standing f.g image c ≡ drop (b * f.m) (good_records f.g image (label_in image f))) × (legal_at f.g c ≡ true)

-- "A file call stops at the first refusal of the volume.", then "Reading: 13-19": one of 1 to 18, or the numbers of the file in a slot
abbrev pub opening_on : Result Geometry Refusal → List ℕ → ℕ → Result FileNumbers Refusal
opening_on (Err r) image slot = Err r
opening_on (Ok g) image slot = opening_in g image slot

abbrev pub opening_of : List ℕ → ℕ → Result FileNumbers Refusal
opening_of image slot = opening_on (judged image) image slot

-- of a refused volume or file, its refusal; of an open one, its numbers, and a cursor on the first record of a block of it
abbrev pub Staged : List ℕ → ℕ → Result Stage Refusal → Type 0
Staged image slot (Err r) = opening_of image slot ≡ Err r
Staged image slot (Ok s) = (opening_of image slot ≡ Ok s.file) × (Seated image s.file s.seat.block s.seat.at)
