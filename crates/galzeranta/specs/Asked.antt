-- The place that a caller asks for, in numbers.
-- Assumes nothing.
use Rattle.std.specs.Prelude.{ℕ, not, eqb}
use Rattle.standard.specs.declared.Place.{Place}

-- "`slot`, `block`, `offset` and `mark` are any `u64`; a mark is set if it is not 0."
abbrev pub place_of : ℕ → ℕ → ℕ → Place
place_of block offset mark = record { block = block; offset = offset; mark = not (eqb mark 0) }
