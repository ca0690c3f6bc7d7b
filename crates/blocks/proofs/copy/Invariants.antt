-- Record by record: what was laid so far, and what is ahead of the cursor behind it.
use Prim.Native.Nat.{◌+◌, ◌-◌, ◌≤◌, ◌<◌}
use mathlib.Core.Path.{◌≡◌}
use mathlib.Core.Bool.{true}
use lib.ListN.{drop, length}
use lib.Seq.{paste}
use Rattle.extents.specs.Cursors.{legal_at}
use Rattle.blocks.specs.Streams.{stream}
use Rattle.blocks.proofs.copy.Given as goal

abbrev pub invariant-loop-i : goal.invariant-loop-i
invariant-loop-i l = (l.n ≤ l.initial.n) × (l.at ≡ l.initial.at + (l.initial.n - l.n)) × (length l.out ≡ length l.fn.out) × (l.out ≡ paste l.fn.out l.initial.at (stream l.g l.image l.initial.c l.initial.i) (l.initial.n - l.n)) × (stream l.g l.image l.c l.i ≡ drop (l.initial.n - l.n) (stream l.g l.image l.initial.c l.initial.i)) × (legal_at l.g l.c ≡ true) × (l.i < l.g.P) × (1 ≤ l.n)

abbrev pub decreases-loop-i : goal.decreases-loop-i
decreases-loop-i l = l.n
