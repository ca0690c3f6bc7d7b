-- Those counted, and those from here on, are all.
use Prim.Native.Nat.{◌+◌, ◌≤◌}
use mathlib.Core.Path.{◌≡◌}
use lib.ListN.{length}
use Rattle.extents.specs.Cursors.{good_from, Walks}
use Rattle.extents.proofs.count_good.Given as goal

abbrev pub invariant-loop-w : goal.invariant-loop-w
invariant-loop-w l = (length (good_from l.g l.image l.fn.from.left l.fn.from.at) ≡ l.n + length (good_from l.g l.image l.w.left l.w.at)) × Walks l.g l.w × (l.n + l.w.left ≤ l.fn.from.left)

abbrev pub decreases-loop-w : goal.decreases-loop-w
decreases-loop-w l = l.w.left
