-- What is left of the number, and of the lengths: they differ by as much all the way.
use Prim.Native.Nat.{◌+◌}
use mathlib.Core.Path.{◌≡◌}
use lib.ListN.{drop}
use Rattle.standard.specs.Writing.{total}
use Rattle.sizing.proofs.sums_to.Given as goal

abbrev pub invariant-loop-length : goal.invariant-loop-length
invariant-loop-length l = total l.lengths + l.left ≡ l.size + total (drop l.length-index l.lengths)
