-- A list of lengths, measured by what a label says: refusal 26, and where a writer stands behind it.
-- Assumes nothing.
use Rattle.std.specs.Prelude.{ℕ, ◌+◌, ◌≡◌, cond, List, [], ◌∷◌, Result, Ok, Err, ⊤}
use Rattle.standard.specs.Refusals.{refuse}
use Rattle.standard.specs.Labels.{Format}
use Rattle.standard.specs.Writing.{wrong_in}
use Rattle.promises.specs.Writing.NeededLaws.{Level as LevelOf}
use Rattle.standard.specs.declared.Refusal.{Refusal}
use Rattle.sizing.specs.declared.Level.{Level}

-- 26 "F length not R; V length+4 over R; S length over R (R not 0000), or not 0 with B = 5", record, from 0: by the format, B and R alone
unfoldable pub wrong_from : Format → ℕ → ℕ → ℕ → List ℕ → Result ⊤ Refusal
wrong_from f B R i [] = Ok tt
wrong_from f B R i (n ∷ lengths) = cond (wrong_in f B R n) (Err (refuse 26 i)) (wrong_from f B R (i + 1) lengths)

-- the code's level says what the definition's does
abbrev pub Stands : Level → LevelOf → Type 0
Stands l k = (l.room ≡ k.room) × (l.blocks ≡ k.blocks)
