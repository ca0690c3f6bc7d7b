-- `run_among` meets its contract: whatever start it stands at, what is looked for is still ahead.
use Prim.Native.Nat.{◌-◌, ◌≤◌}
use Rattle.promises.specs.Making.RunsFree.{Searched}
use Rattle.vacancy.proofs.run_among.Given as goal

abbrev pub invariant-passes : goal.invariant-passes
invariant-passes l = (l.start ≤ 4294967296) × Searched l.fn.g l.image l.n l.start

abbrev pub decreases-passes : goal.decreases-passes
decreases-passes l = l.all - l.start
