-- `first_illegal` meets its contract: all behind the loop are legal.
use Prim.Native.Nat.{◌+◌, ◌-◌, ◌*◌}
use mathlib.Core.Path.{◌≡◌}
use Rattle.layout.specs.Runs.{legal_run}
use Rattle.layout.proofs.first_illegal.Given as goal

abbrev pub invariant-loop-i : goal.invariant-loop-i
invariant-loop-i l = legal_run l.image l.size l.k l.n l.first ≡ l.i + legal_run l.image l.size l.k (l.n - l.i) (l.first + l.i * l.size)
