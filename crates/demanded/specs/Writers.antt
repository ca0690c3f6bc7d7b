-- A function that writes, and the first address of the next track. proofs/Writers proves what holds of any that meets its contract.
-- Assumes nothing.
use Prim.Native.Nat.{◌+◌, ◌<◌, ◌≤◌}
use Rattle.std.specs.Prelude.{◌≡◌, ℕ, Result}
use Rattle.standard.specs.declared.Geometry.{Geometry}
use Rattle.standard.specs.declared.Address.{Address}
use Rattle.standard.specs.declared.Refusal.{Refusal}
use Rattle.demanded.specs.Calls.{Response, Meets, Given, write, contract}

-- A FUNCTION THAT WRITES, and that it meets the contract
abbrev pub Writer : Type 0
Writer = Given → Response (Result ℕ Refusal)

abbrev pub Writes : Writer → Type 0
Writes w = Meets (contract write) w

-- e is the first address of the track behind a's
abbrev pub NextTrack : Geometry → Address → Address → Type 0
NextTrack g a e =
    (a.side + 1 < g.S → e ≡ record { cylinder = a.cylinder; side = a.side + 1; sector = 1 })
    × (g.S ≤ a.side + 1 → e ≡ record { cylinder = a.cylinder + 1; side = 0; sector = 1 })
