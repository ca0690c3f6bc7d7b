-- What one walk over an extent tells of it.
-- Assumes nothing.
use Rattle.std.specs.Prelude.{Bool, cond, not, ◌||◌, List, [], ◌∷◌, ℕ, Result, Ok, Err}
use Rattle.standard.specs.Refusals.{refuse}
use Rattle.standard.specs.Addresses.{ordinal}
use Rattle.standard.specs.Files.{is_defective, is_wrong}
use Rattle.standard.specs.declared.Geometry.{Geometry}
use Rattle.standard.specs.declared.Address.{Address}
use Rattle.standard.specs.declared.Refusal.{Refusal}

-- Refusal 17 of the first record with an "incorrect mark, not `F`"; else whether no record is defective (`holed` says that one was seen before).
unfoldable pub surveyed : Geometry → List ℕ → Bool → List Address → Result Bool Refusal
surveyed g image holed [] = Ok (not holed)
surveyed g image holed (a ∷ more) =
    let rest = surveyed g image (holed || is_defective g image a) more in
    cond (is_wrong g image a) (Err (refuse 17 (ordinal g a))) rest
