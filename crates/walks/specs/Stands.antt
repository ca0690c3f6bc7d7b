-- Where a reader stands, in numbers: the definitions' states, moves and answers without the bytes.
-- Assumes nothing.
use Rattle.std.specs.Prelude.{ℕ, ◌+◌, ◌-◌, Bool, cond, List, length, Result, Ok, Err}
use Rattle.standard.specs.Labels.{Format, fixed, variable, spanned, Params}
use Rattle.standard.specs.Places.{place_at, goes_on, after_gap}
use Rattle.standard.specs.Records.{State, fresh, marked, within, Move as MoveOf, deliver, carry, breach, over_in, Met, took, gapped, ended, refused, refuse20, refuse22}
use Rattle.blocks.specs.Roles.{begins_by, completes_by}
use Rattle.blocks.specs.declared.Role.{Role}
use Rattle.blocks.specs.declared.Role.TheVariants.{Whole, First, Middle, Last}
use Rattle.walks.specs.declared.Mode.{Mode}
use Rattle.walks.specs.declared.Mode.TheVariants.{Plain, Salvage}
use Rattle.walks.specs.declared.Stand.{Stand}
use Rattle.walks.specs.declared.Stand.TheVariants.{Fresh, Marked, Within}
use Rattle.walks.specs.declared.Move.{Move}
use Rattle.walks.specs.declared.Move.TheVariants.{Deliver, Carry, Breach}
use Rattle.walks.specs.declared.Measured.{Measured}
use Rattle.standard.specs.declared.Refusal.{Refusal}
use Rattle.walks.specs.declared.Measured.TheVariants.{Took, Lost, Ended}

-- the length of the body so far
abbrev pub length_of : Stand → ℕ
length_of Fresh = 0
length_of Marked = 0
length_of (Within n f) = n

-- the state of a reader that stands so and has these bytes of a body
abbrev pub state_with : List ℕ → Stand → State
state_with body Fresh = fresh
state_with body Marked = marked
state_with body (Within n f) = within body f

-- "A body over R (unless 0000) breaks the rule": only S has a limit
abbrev pub limit_in : Format → ℕ → ℕ
limit_in fixed R = 0
limit_in variable R = 0
limit_in spanned R = R

abbrev pub limit_of : Params → ℕ
limit_of p = limit_in p.format p.R

unfoldable pub joined_by : ℕ → ℕ → ℕ → Bool → Move
joined_by limit n f completes = cond (over_in spanned limit n) Breach (cond completes (Deliver n f) (Carry (Within n f)))

abbrev pub dropped_by : Role → Move
dropped_by Whole = Carry Fresh
dropped_by First = Carry Fresh
dropped_by Middle = Carry Marked
dropped_by Last = Carry Fresh

-- a segment by what it is to its record, of which n bytes are body, met in block b
unfoldable pub meet_by : ℕ → Stand → Role → ℕ → ℕ → Move
meet_by limit Fresh k n b = cond (begins_by k) (joined_by limit n b (completes_by k)) Breach
meet_by limit Marked k n b = cond (begins_by k) (joined_by limit n b (completes_by k)) (dropped_by k)
meet_by limit (Within len f) k n b = cond (begins_by k) Breach (joined_by limit (len + n) f (completes_by k))

-- the definitions' move, of a reader that then has these bytes
abbrev pub move_with : List ℕ → Move → MoveOf
move_with body (Deliver n f) = deliver body f
move_with body (Carry s) = carry (state_with body s)
move_with body Breach = breach

-- what is met, with the bytes
abbrev pub met_with : List ℕ → Result Measured Refusal → Met
met_with body (Ok (Took n f pl)) = took (record { body = body; first_block = f; last_block = pl.block }) pl
met_with body (Ok (Lost pl)) = gapped (pl.block - 1) pl
met_with body (Ok Ended) = ended
met_with body (Err r) = refused r

-- and without
abbrev pub measured : Met → Result Measured Refusal
measured (took r pl) = Ok (Took (length r.body) r.first_block pl)
measured (gapped b pl) = Ok (Lost pl)
measured ended = Ok Ended
measured (refused r) = Err r

-- the length of the record that was met
abbrev pub length_in : Result Measured Refusal → ℕ
length_in (Ok (Took n f pl)) = n
length_in (Ok (Lost pl)) = 0
length_in (Ok Ended) = 0
length_in (Err r) = 0

-- "file ends after a 1 or 2 not dropped"
abbrev pub ended_by : Stand → Result Measured Refusal
ended_by Fresh = Ok Ended
ended_by Marked = Ok Ended
ended_by (Within n f) = Err refuse22

-- "Meeting it .. gives one gap and the next block's start, marked."; 20 "plain reading meets a lost block", block
abbrev pub lost_by : Mode → ℕ → Result Measured Refusal
lost_by Salvage b = Ok (Lost (after_gap (goes_on (place_at b 0))))
lost_by Plain b = Err (refuse20 b)
