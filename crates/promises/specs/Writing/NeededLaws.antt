-- HOW MANY BLOCKS A WRITE NEEDS, counted from the lengths alone: where a writer stands after some lengths. proofs/Writing/NeededLaws says that it is the number of the
-- definitions.
-- Assumes nothing.
use Rattle.std.specs.Prelude.{ℕ, zero, suc, ◌+◌, ◌-◌, ◌*◌, ◌/◌, ◌≤◌, ◌≡◌, Bool, true, false, cond, List, [], ◌∷◌, leb}
use Rattle.standard.specs.Labels.{Format, fixed, variable, spanned}
use Rattle.promises.specs.Ground.Lists.{Every}

-- Where a writer stands: the room left in the current block, and the blocks begun.
pub record Level : Type 0 where
  pub room : ℕ
  pub blocks : ℕ

abbrev pub level_of : ℕ → ℕ → Level
level_of room blocks = record { room = room; blocks = blocks }

-- F and V blocked, n bytes with the control word: "into the current block if it fits, else the next"
abbrev pub placed_whole : ℕ → ℕ → ℕ → ℕ → Level
placed_whole B room blocks n = cond (leb n room) (level_of (room - n) blocks) (level_of (B - n) (suc blocks))

-- S, n bytes of a body that are left: a segment "takes what fits, and goes on in the next block". The first argument bounds the number of blocks.
unfoldable pub spread_to : ℕ → ℕ → ℕ → ℕ → ℕ → Level
spread_to zero B room blocks n = level_of room blocks
spread_to (suc k) B room blocks n = cond (leb (5 + n) room) (level_of (room - (5 + n)) blocks) (spread_to k B B (suc blocks) (n - (room - 5)))

-- "a segment starts where 6 bytes are left (5 for an empty record)"
abbrev pub least_for : ℕ → ℕ
least_for zero = 5
least_for (suc n) = 6

abbrev pub placed_spanned : ℕ → ℕ → ℕ → ℕ → Level
placed_spanned B room blocks n = cond (leb (least_for n) room) (spread_to (suc n) B room blocks n) (spread_to (suc n) B B (suc blocks) n)

-- one record with a body of n bytes. "V unblocked: one to a block"
abbrev pub placed : Format → Bool → ℕ → ℕ → ℕ → ℕ → Level
placed fixed blocked B room blocks n = placed_whole B room blocks n
placed variable true B room blocks n = placed_whole B room blocks (4 + n)
placed variable false B room blocks n = level_of 0 (suc blocks)
placed spanned blocked B room blocks n = placed_spanned B room blocks n

-- THE COUNT OVER THE LENGTHS ALONE: the blocks begun when every record is laid
unfoldable pub needed_from : Format → Bool → ℕ → ℕ → ℕ → List ℕ → ℕ
needed_from f bl B room blocks [] = blocks
needed_from f bl B room blocks (n ∷ lengths) =
    needed_from f bl B (placed f bl B room blocks n).room (placed f bl B room blocks n).blocks lengths

-- ---- one more length, and a part after another: where the writer stands after some lengths
unfoldable pub level_from : Format → Bool → ℕ → ℕ → ℕ → List ℕ → Level
level_from f bl B room blocks [] = level_of room blocks
level_from f bl B room blocks (n ∷ lengths) =
    level_from f bl B (placed f bl B room blocks n).room (placed f bl B room blocks n).blocks lengths

-- ---- what refusals 25 and 26, and the label's rules, leave: every record can be laid
abbrev pub FitsIn : Format → ℕ → ℕ → Type 0
FitsIn fixed B n = (1 ≤ n) × (n ≤ B)
FitsIn variable B n = 4 + n ≤ B
FitsIn spanned B n = least_for n ≤ B

abbrev pub EachFits : Format → ℕ → List ℕ → Type 0
EachFits f B lengths = Every (FitsIn f B) lengths

-- F: every record has R bytes, "a divisor of B"
pub record Tiled (R B : ℕ) (lengths : List ℕ) : Type 0 where
  pub some : 1 ≤ R
  pub high : R ≤ B
  pub whole : B ≡ B / R * R
  pub each : Every (λ n. n ≡ R) lengths
