-- The lines of the following program: one for each answer of a reading.
-- Assumes nothing.
use Rattle.std.specs.Prelude.{ℕ, ◌+◌, ◌/◌, ◌%◌, Bool, false, cond, List, [], ◌∷◌, ◌++◌, take, ltb, Option, Some, None, Result, Ok, Err}
use Rattle.standard.specs.Characters.{bytes, byte, shown}
use Rattle.standard.specs.Reading.{read_answer, output_after}
use Rattle.standard.specs.declared.Place.{Place}
use Rattle.standard.specs.declared.Refusal.{Refusal}
use Rattle.standard.specs.declared.Answer.{Answer}
use Rattle.standard.specs.declared.Answer.TheVariants.{Gap, End, Record as RecordOf}
use Rattle.walks.specs.Walks.{mode_of}
use Rattle.walks.specs.declared.Mode.{Mode}
use Rattle.walks.specs.declared.Mode.TheVariants.{Plain, Salvage}

-- a space and a field
abbrev pub spaced : List ℕ → List ℕ
spaced field = byte " " ∷ field

-- a place: block, offset, and 1 for the mark
abbrev pub mark_number : Bool → ℕ
mark_number mark = cond mark 1 0

unfoldable pub place_fields : Place → List ℕ
place_fields pl = spaced (shown pl.block) ++ (spaced (shown pl.offset) ++ spaced (shown (mark_number pl.mark)))

-- bytes in hex digits, two for each; no field at all where there are none
unfoldable pub hex_digit : ℕ → ℕ
hex_digit n = cond (ltb n 10) (48 + n) (87 + n)

unfoldable pub pair_of : ℕ → List ℕ
pair_of b = hex_digit (b / 16) ∷ hex_digit (b % 16) ∷ []

unfoldable pub hex_of : List ℕ → List ℕ
hex_of [] = []
hex_of (b ∷ bs) = pair_of b ++ hex_of bs

unfoldable pub body_field : List ℕ → List ℕ
body_field [] = []
body_field (b ∷ bs) = spaced (hex_of (b ∷ bs))

-- `refused NUMBER FIRST SECOND`; `record LENGTH BLOCK OFFSET MARK HEX`; `gap BLOCK OFFSET MARK`; `end BLOCK OFFSET MARK`. The record is the first bytes of the
-- output as the reading left it.
unfoldable pub refused_fields : Refusal → List ℕ
refused_fields r = bytes " refused" ++ (spaced (shown r.number) ++ (spaced (shown r.first) ++ spaced (shown r.second)))

unfoldable pub record_fields : ℕ → Place → List ℕ → List ℕ
record_fields n next body = bytes " record" ++ (spaced (shown n) ++ (place_fields next ++ body_field body))

abbrev pub answer_fields : Result Answer Refusal → List ℕ → List ℕ
answer_fields (Err r) out = refused_fields r
answer_fields (Ok (RecordOf n next)) out = record_fields n next (take n out)
answer_fields (Ok (Gap next)) out = bytes " gap" ++ place_fields next
answer_fields (Ok (End next)) out = bytes " end" ++ place_fields next

-- the letter of a mode: `r` is plain reading, `s` salvage
abbrev pub letter_of : Mode → ℕ
letter_of Plain = byte "r"
letter_of Salvage = byte "s"

-- the line: slot and letter, and what was answered
unfoldable pub answer_line : ℕ → Mode → Result Answer Refusal → List ℕ → List ℕ
answer_line slot mode a out = shown slot ++ (spaced (letter_of mode ∷ []) ++ (answer_fields a out ++ (10 ∷ [])))

-- the line of a reading: what it answers, and the output as it leaves it
abbrev pub reading_line : List ℕ → ℕ → Mode → Place → List ℕ → List ℕ
reading_line image slot mode pl out = answer_line slot mode (read_answer (mode_of mode) image slot pl out) (output_after (mode_of mode) image slot pl out)

-- The place to go on from, where there is one. End and a refusal stop the row.
abbrev pub next_of : Result Answer Refusal → Option Place
next_of (Err r) = None
next_of (Ok (RecordOf n next)) = Some next
next_of (Ok (Gap next)) = Some next
next_of (Ok (End next)) = None

-- "A file call stops at the first refusal of the volume": 1 to 12
abbrev pub of_volume : Result Answer Refusal → Bool
of_volume (Err r) = ltb r.number 13
of_volume (Ok a) = false
