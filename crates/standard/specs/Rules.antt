-- A label's rules as a table.
-- Assumes nothing.
use Rattle.std.specs.Prelude.{ℕ, Bool, cond, List, [], ◌∷◌}

-- "In all three labels a fault is reported at its field's first position, the lowest first." A row of a label's table is the position and whether the
-- rule holds; the rows stand in ascending order. 0 where every rule holds.
pub record Row : Type 0 where
  pub position : ℕ
  pub holds : Bool

abbrev pub row : ℕ → Bool → Row
row position holds = record { position = position; holds = holds }

unfoldable pub lowest_fault : List Row → ℕ
lowest_fault [] = 0
lowest_fault (r ∷ rows) = cond r.holds (lowest_fault rows) r.position
