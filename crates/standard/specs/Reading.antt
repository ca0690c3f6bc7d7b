-- Section "Blocks and records", reading and salvage of a place in an image; refusals 19 and 23, and the order of 13 to 23.
-- Assumes nothing.
use Rattle.std.specs.Prelude.{ℕ, cond, List, [], ◌++◌, length, drop, ltb, Result, Ok, Err, ⊤}
use Rattle.standard.specs.Refusals.{refuse}
use Rattle.standard.specs.Layout.{label_at}
use Rattle.standard.specs.Judgement.{judged, on_volume}
use Rattle.standard.specs.Files.{open_refusal, file_in}
use Rattle.standard.specs.Places.{end_place}
use Rattle.standard.specs.Records.{Mode, File, Met, took, gapped, ended, refused, step, in_file}
use Rattle.standard.specs.declared.Refusal.{Refusal}
use Rattle.standard.specs.declared.Place.{Place}
use Rattle.standard.specs.declared.Answer.{Answer}
use Rattle.standard.specs.declared.Answer.TheVariants.{Record as RecordOf, Gap, End}

-- What a reading yields: the answer, and the body that stands in the output.
pub record Reply : Type 0 where
  pub answer : Result Answer Refusal
  pub body : List ℕ

abbrev pub unanswered : Refusal → Reply
unanswered r = record { answer = Err r; body = [] }

-- 23 "output too small", length needed; "23 last"
abbrev pub delivered : ℕ → List ℕ → Place → Reply
delivered room body pl = cond (ltb room (length body)) (unanswered (refuse 23 (length body))) (record { answer = Ok (RecordOf (length body) pl); body = body })

-- "Reading a place gives the record and the place right behind it. Salvage answers record, gap, End or refusal."
abbrev pub replied : File → ℕ → Met → Reply
replied f room (took r pl) = delivered room r.body pl
replied f room (gapped b pl) = record { answer = Ok (Gap pl); body = [] }
replied f room ended = record { answer = Ok (End (end_place (length f.blocks))); body = [] }
replied f room (refused r) = unanswered r

-- 19 "place not in the file", 0
unfoldable pub reply_in : Mode → File → Place → ℕ → Reply
reply_in m f pl room = cond (in_file f pl) (replied f room (step m f pl)) (unanswered (refuse 19 0))

-- "Reading: 13-19, then 20-22 as blocks are met, 23 last."
abbrev pub opened : Result ⊤ Refusal → Reply → Reply
opened (Ok _) r = r
opened (Err x) r = unanswered x

unfoldable pub reply : Mode → List ℕ → ℕ → Place → ℕ → Reply
reply m image slot pl room =
    on_volume (judged image) unanswered (λ g. opened (open_refusal g image slot) (reply_in m (file_in g image (label_at g image slot)) pl room))

-- THE ANSWER to reading a place with an output buffer, and the buffer afterwards. "Bytes behind a record in the output stay too; gap and End change
-- none." "A refusal returns number and place, and all lent bytes stay."
abbrev pub read_answer : Mode → List ℕ → ℕ → Place → List ℕ → Result Answer Refusal
read_answer m image slot pl out = (reply m image slot pl (length out)).answer

unfoldable pub laid_over : List ℕ → List ℕ → List ℕ
laid_over body out = body ++ drop (length body) out

abbrev pub output_after : Mode → List ℕ → ℕ → Place → List ℕ → List ℕ
output_after m image slot pl out = laid_over (reply m image slot pl (length out)).body out
