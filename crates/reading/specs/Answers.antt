-- From what a reader meets to the answer of a reading.
-- Assumes nothing.
use Rattle.std.specs.Prelude.{ℕ, ◌≤◌, ◌≡◌, Bool, false, cond, List, [], length, leb, ltb, Result, Ok, Err}
use Rattle.standard.specs.Refusals.{refuse}
use Rattle.standard.specs.Places.{end_place}
use Rattle.standard.specs.Records.{Met, took, gapped, ended, refused}
use Rattle.standard.specs.declared.Answer.{Answer}
use Rattle.standard.specs.declared.Answer.TheVariants.{Record as RecordOf, Gap, End}
use Rattle.standard.specs.Reading.{replied, laid_over}
use Rattle.opening.specs.Opened.{file_of}
use Rattle.opening.specs.declared.FileNumbers.{FileNumbers}
use Rattle.walks.specs.Stands.{length_of, measured}
use Rattle.walks.specs.Walks.{met_from}
use Rattle.walks.specs.declared.Mode.{Mode}
use Rattle.walks.specs.declared.Measured.{Measured}
use Rattle.walks.specs.declared.Measured.TheVariants.{Took, Lost, Ended}
use Rattle.standard.specs.declared.Refusal.{Refusal}
use Rattle.walks.specs.declared.Walk.{Walk}

-- the answer but for the body's bytes
abbrev pub Measures : List ℕ → FileNumbers → Mode → Walk → Result Measured Refusal → Type 0
Measures image f s w x = (body : List ℕ) → length body ≡ length_of w.stand → x ≡ measured (met_from image f s w body)

-- a record is met, and the output has room for it
abbrev pub Room : ℕ → Met → Type 0
Room n (took r pl) = length r.body ≤ n
Room n (gapped b pl) = ⊥
Room n ended = ⊥
Room n (refused r) = ⊥

abbrev pub body_in : Met → List ℕ
body_in (took r pl) = r.body
body_in (gapped b pl) = []
body_in ended = []
body_in (refused r) = []

-- 23 "output too small", length needed; "23 last"
abbrev pub answered_by : ℕ → ℕ → Result Measured Refusal → Result Answer Refusal
answered_by count room (Ok (Took n f pl)) = cond (ltb room n) (Err (refuse 23 n)) (Ok (RecordOf n pl))
answered_by count room (Ok (Lost pl)) = Ok (Gap pl)
answered_by count room (Ok Ended) = Ok (End (end_place count))
answered_by count room (Err r) = Err r

-- a record that the output has room for
abbrev pub fits_in : ℕ → Result Measured Refusal → Bool
fits_in room (Ok (Took n f pl)) = leb n room
fits_in room (Ok (Lost pl)) = false
fits_in room (Ok Ended) = false
fits_in room (Err r) = false

-- the answer, and the output afterwards, to a reader that meets this
abbrev pub Answers : List ℕ → FileNumbers → Met → List ℕ → List ℕ → Result Answer Refusal → Type 0
Answers image f met out after r =
    (r ≡ (replied (file_of image f) (length out) met).answer) × (after ≡ laid_over (replied (file_of image f) (length out) met).body out)
