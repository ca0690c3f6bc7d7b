-- A body over the blocks: where the writer stands at the end is the same from every block on.
use Prim.Native.Nat.{suc, ◌+◌, ◌<◌, ◌≤◌}
use mathlib.Core.Path.{◌≡◌}
use Rattle.promises.specs.Writing.NeededLaws.{spread_to, least_for}
use Rattle.sizing.proofs.spread.Given as goal

abbrev pub invariant-loop-room : goal.invariant-loop-room
invariant-loop-room l = (spread_to (suc l.n) l.B l.room l.blocks l.n ≡ spread_to (suc l.initial.n) l.B l.initial.room l.initial.blocks l.initial.n) × (least_for l.n ≤ l.room) × (least_for l.n ≤ l.B) × (l.blocks + l.n ≤ l.initial.blocks + l.initial.n) × (l.room < 65536) × (l.n ≤ l.initial.n)

abbrev pub decreases-loop-room : goal.decreases-loop-room
decreases-loop-room l = l.n
