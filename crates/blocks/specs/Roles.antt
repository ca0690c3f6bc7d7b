-- What a segment is to its record, as the code has it.
-- Assumes nothing.
use Rattle.std.specs.Prelude.{◌≡◌, refl, Bool, true, false, Option, Some, None}
use Rattle.std.proofs.Math.Option.{Option as MathOption, none, some}
use Rattle.standard.specs.Pieces.{Role as RoleOf, whole, first, middle, last}
use Rattle.blocks.specs.declared.Role.{Role}
use Rattle.blocks.specs.declared.Role.TheVariants.{Whole, First, Middle, Last}

-- the definitions' role, and back
abbrev pub role_in : RoleOf → Role
role_in whole = Whole
role_in first = First
role_in middle = Middle
role_in last = Last

abbrev pub role_for : Role → RoleOf
role_for Whole = whole
role_for First = first
role_for Middle = middle
role_for Last = last

pub role_back : (k : RoleOf) → role_for (role_in k) ≡ k
role_back whole = refl
role_back first = refl
role_back middle = refl
role_back last = refl

-- "`0`-`3`", where the byte is one of them
abbrev pub perhaps_role : MathOption RoleOf → Option Role
perhaps_role none = None
perhaps_role (some k) = Some (role_in k)

-- a 0 or 1 begins a record, a 0 or 3 completes it
abbrev pub begins_by : Role → Bool
begins_by Whole = true
begins_by First = true
begins_by Middle = false
begins_by Last = false

abbrev pub completes_by : Role → Bool
completes_by Whole = true
completes_by First = false
completes_by Middle = false
completes_by Last = true
