-- So many good records from the start as from here on.
use Prim.Native.Nat.{◌≤◌}
use mathlib.Core.Path.{◌≡◌}
use lib.ListN.{drop}
use Rattle.extents.specs.Cursors.{good_from, Walks}
use Rattle.extents.proofs.past_good.Given as goal

abbrev pub invariant-loop-w : goal.invariant-loop-w
invariant-loop-w l = (drop l.i (good_from l.g l.image l.w.left l.w.at) ≡ drop l.n (good_from l.g l.image l.fn.from.left l.fn.from.at)) × Walks l.g l.w × (l.w.left ≤ l.fn.from.left)

abbrev pub decreases-loop-w : goal.decreases-loop-w
decreases-loop-w l = l.w.left
