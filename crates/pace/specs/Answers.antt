-- How many answers a reader that follows the places gets.
-- Assumes nothing.
use Rattle.std.specs.Prelude.{ℕ, zero, suc, ◌+◌, cond, List, Option, Some, None, eqb, Result, Ok, Err}
use Rattle.standard.specs.Places.{start}
use Rattle.standard.specs.Records.{Mode, plain, salvage}
use Rattle.standard.specs.Reading.{reply}
use Rattle.standard.specs.declared.Place.{Place}
use Rattle.standard.specs.declared.Answer.{Answer}
use Rattle.standard.specs.declared.Answer.TheVariants.{Record as RecordOf, Gap, End}
use Rattle.standard.specs.declared.Refusal.{Refusal}

-- "Reading a place gives the record and the place right behind it." A gap leads on likewise: "one gap and the next block's start, marked"
abbrev pub led_by : Result Answer Refusal → Option Place
led_by (Err r) = None
led_by (Ok (RecordOf n pl)) = Some pl
led_by (Ok (Gap pl)) = Some pl
led_by (Ok (End pl)) = None

-- the answer counts, and so do those of the place that it leads to
abbrev pub count_on : Option Place → (Place → ℕ) → ℕ
count_on None more = 0
count_on (Some pl) more = 1 + more pl

-- from a place on, each answer at the place that the one before led to, till End or a refusal: how many are given before, n at most, to an output of so many
-- bytes
unfoldable pub answers_from : Mode → List ℕ → ℕ → ℕ → ℕ → Place → ℕ
answers_from m image slot room zero pl = 0
answers_from m image slot room (suc n) pl = count_on (led_by (reply m image slot pl room).answer) (λ next. answers_from m image slot room n next)

-- plain reading by 0, else salvage
abbrev pub mode_by : ℕ → Mode
mode_by mark = cond (eqb mark 0) plain salvage

-- of the file in a slot, from Start: "Start is (0, 0)"; none where the volume or the file is refused, as the first answer is that refusal
abbrev pub paced : List ℕ → ℕ → ℕ → ℕ → ℕ → ℕ
paced image slot mark room n = answers_from (mode_by mark) image slot room n start
