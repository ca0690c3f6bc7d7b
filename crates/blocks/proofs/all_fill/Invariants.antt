-- Record by record: what is asked from here is what was asked from the start.
use Prim.Native.Nat.{◌≤◌, ◌<◌}
use mathlib.Core.Path.{◌≡◌}
use mathlib.Core.Bool.{true}
use lib.ListN.{take}
use Rattle.standard.specs.Pieces.{is_fill}
use Rattle.extents.specs.Cursors.{legal_at}
use Rattle.blocks.specs.Streams.{stream}
use Rattle.blocks.proofs.all_fill.Given as goal

abbrev pub invariant-loop-i : goal.invariant-loop-i
invariant-loop-i l = (is_fill (take l.n (stream l.g l.image l.c l.i)) ≡ is_fill (take l.initial.n (stream l.g l.image l.initial.c l.initial.i))) × (legal_at l.g l.c ≡ true) × (l.i < l.g.P) × (l.n ≤ l.initial.n)

abbrev pub decreases-loop-i : goal.decreases-loop-i
decreases-loop-i l = l.n
