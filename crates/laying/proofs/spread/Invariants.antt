-- From segment to segment: what is to be laid from here is what was to be laid from the start.
use Prim.Native.Nat.{ℕ, ◌+◌, ◌<◌, ◌≤◌}
use mathlib.Core.Path.{◌≡◌}
use mathlib.Core.List.{List}
use lib.ListN.{length}
use Rattle.standard.specs.Packing.{Laid}
use Rattle.promises.specs.Writing.NeededLaws.{least_for}
use Rattle.filling.specs.Poured.{Placed}
use Rattle.laying.proofs.DeskLaws.{Left}
use Rattle.laying.proofs.spread.Given as goal

abbrev pub invariant-loop-room : goal.invariant-loop-room
invariant-loop-room l = ((more : ℕ → Laid) (tail : List ℕ)
    → Left l.g l.size l.B l.bodies l.fn.image l.initial.p l.initial.room l.initial.rest l.initial.from l.initial.n l.initial.begun more tail ≡ Left l.g l.size l.B l.bodies l.image l.p l.room l.rest l.from l.n l.begun more tail)
    × Placed l.g l.image l.p
    × (length l.image ≡ length l.fn.image)
    × (l.room ≤ l.rest)
    × (l.rest ≤ l.size)
    × (l.room ≤ l.B)
    × (least_for l.n ≤ l.room)
    × (least_for l.n ≤ l.B)
    × (l.from + l.n ≤ length l.bodies)
    × (l.n < 4294967296)

abbrev pub decreases-loop-room : goal.decreases-loop-room
decreases-loop-room l = l.n
