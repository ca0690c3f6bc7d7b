-- `lowest_run` meets its contract: the row holds the extents of the slots passed, in the end of all.
use mathlib.Core.Path.{◌≡◌}
use Prim.Native.Nat.{◌-◌}
use lib.ListN.{length}
use Rattle.index.specs.Extents.{Known}
use Rattle.vacancy.proofs.lowest_run.Given as goal

abbrev pub invariant-loop-slot : goal.invariant-loop-slot
invariant-loop-slot l = (length l.extents ≡ 45) × Known l.g l.image l.extents (l.slot - 1)
