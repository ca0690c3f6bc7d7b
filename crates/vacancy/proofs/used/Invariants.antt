-- `used` meets its contract: the total is of the slots passed.
use Prim.Native.Nat.{◌*◌, ◌-◌, ◌≤◌}
use mathlib.Core.Path.{◌≡◌}
use Rattle.promises.specs.Volumes.FreeLaws.{extents_below}
use Rattle.vacancy.proofs.used.Given as goal

abbrev pub invariant-loop-slot : goal.invariant-loop-slot
invariant-loop-slot l = (l.total ≤ (l.slot - 1) * 4294967296) × (l.total ≡ extents_below l.g l.image (l.slot - 1))
