-- How large the parts of the data end behind an accepted write are.
-- Assumes nothing.
use Rattle.std.specs.Prelude.{Ok}
use Prim.Native.Nat.{ℕ, ◌<◌}
use mathlib.Core.Path.{◌≡◌}
use mathlib.Core.List.{List}
use native.Mathlib.Omega.{arith}
use Rattle.standard.specs.Layout.{label_at}
use Rattle.standard.specs.Judgement.{judged}
use Rattle.standard.specs.Writing.{needed, write_refusal, data_end_after}
use Rattle.standard.specs.declared.Geometry.{Geometry}
use Rattle.promises.specs.Volumes.VolumeNumbers.{numbers_of_lem}
use Rattle.promises.proofs.Writing.WrittenLabel.{ends}

-- an address, or the one past the last: at most cylinder L+1 of a volume whose numbers are small
pub end_small : (image : List ℕ) (g : Geometry) (slot : ℕ) (bodies lengths : List ℕ) → judged image ≡ Ok g → write_refusal g image slot bodies lengths ≡ Ok tt
    → let e = data_end_after g image (label_at g image slot) (needed (label_at g image slot) bodies lengths) in (e.cylinder < 3000) × (e.side < 256) × (e.sector < 3000)
end_small image g slot bodies lengths j w =
    let n = numbers_of_lem image g j in
    let r = (ends image g slot bodies lengths j w).right in
    (omega (arith, r.cylinder_most, n.cylinders), omega (arith, r.side_most, n.side_high), omega (arith, r.sector_most, n.sectors))
