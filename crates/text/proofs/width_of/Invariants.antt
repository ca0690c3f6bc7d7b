-- The digits counted, and those of what is left, are all.
use Prim.Native.Nat.{◌+◌, ◌<◌}
use mathlib.Core.Path.{◌≡◌}
use lib.ListN.{length}
use Rattle.standard.specs.Characters.{shown}
use Rattle.text.proofs.width_of.Given as goal

abbrev pub invariant-loop-m : goal.invariant-loop-m
invariant-loop-m l = (l.n < 18446744073709551616) × (length (shown l.n) + 1 ≡ l.width + length (shown l.m))

abbrev pub decreases-loop-m : goal.decreases-loop-m
decreases-loop-m l = l.m
