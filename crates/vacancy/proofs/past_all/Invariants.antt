-- `past_all` meets its contract: a pass over what is left is the pass over all.
use mathlib.Core.Path.{◌≡◌}
use Prim.Native.Nat.{◌≤◌}
use lib.ListN.{drop}
use Rattle.vacancy.specs.Passes.{past_all}
use Rattle.vacancy.proofs.past_all.Given as goal

abbrev pub invariant-loop-e : goal.invariant-loop-e
invariant-loop-e l = (l.next ≤ 4294967296) × (past_all l.n l.extents l.start ≡ past_all l.n (drop l.e-index l.extents) l.next)
