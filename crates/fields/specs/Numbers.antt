-- A number, where there is one.
-- Assumes nothing.
use Rattle.std.specs.Prelude.{ℕ, Bool, cond, Option, Some, None, eqb}

-- the number, if the test holds
unfoldable pub perhaps : Bool → ℕ → Option ℕ
perhaps test n = cond test (Some n) None

-- the position of a fault, where 0 says that there is none
unfoldable pub fault_in : ℕ → Option ℕ
fault_in p = cond (eqb p 0) None (Some p)
