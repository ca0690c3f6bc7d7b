-- A condition more than a label's rules, where the lowest fault is known.
-- Assumes nothing.
use Rattle.std.specs.Prelude.{ℕ, min, Bool, cond, Option, Some, unwrap_or}

-- where the condition holds, the fault, if there is one; else the lower of the two
abbrev pub added_to : ℕ → Bool → Option ℕ → Option ℕ
added_to position holds fault = cond holds fault (Some (min (unwrap_or fault position) position))
