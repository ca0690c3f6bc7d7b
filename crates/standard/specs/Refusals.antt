-- Refusals, and rules taken in order.
-- Assumes nothing.
use Rattle.std.specs.Prelude.{ℕ, Bool, cond, List, [], ◌∷◌, Result, Ok, Err, ⊤}
use Rattle.standard.specs.declared.Refusal.{Refusal}

-- "A refusal returns number and place": with one place; with two ("slot, position" and "block, offset").
abbrev pub refuse : ℕ → ℕ → Refusal
refuse number place = record { number = number; first = place; second = 0; third = 0 }

abbrev pub refuse_at : ℕ → ℕ → ℕ → Refusal
refuse_at number first second = record { number = number; first = first; second = second; third = 0 }

-- "Given when"
unfoldable pub given_when : Bool → Refusal → Result ⊤ Refusal
given_when test r = cond test (Err r) (Ok tt)

-- the first refusal in order
unfoldable pub in_order : List (Result ⊤ Refusal) → Result ⊤ Refusal
in_order [] = Ok tt
in_order (Ok _ ∷ rest) = in_order rest
in_order (Err r ∷ rest) = Err r

unfoldable pub or_else : Result ⊤ Refusal → Result ⊤ Refusal → Result ⊤ Refusal
or_else (Ok _) rest = rest
or_else (Err r) rest = Err r
