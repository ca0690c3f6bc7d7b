-- `put` meets its contract.
use Prim.Native.Nat.{◌+◌, ◌≤◌, ◌<◌}
use mathlib.Core.Path.{◌≡◌}
use lib.ListN.{length}
use Rattle.filling.specs.Poured.{packed, Placed}
use Rattle.filling.proofs.PenLaws.{Rest}
use Rattle.filling.proofs.put.Given as goal

abbrev pub invariant-loop-p : goal.invariant-loop-p
invariant-loop-p l = (Placed l.g l.image l.p) × (l.from + l.n ≤ length l.bytes) × (l.n ≤ l.count) × (l.zeros ≤ l.behind) × (length l.image ≡ length l.fn.image) × (length l.bytes < 18446744073709551616) × Rest l.g l.fn.image l.initial.p (packed l.bytes l.first l.count l.behind) l.image l.p (packed l.bytes l.from l.n l.zeros)

abbrev pub decreases-loop-p : goal.decreases-loop-p
decreases-loop-p l = l.p.c.left
