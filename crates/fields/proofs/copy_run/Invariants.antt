-- `copy_run` meets its contract.
use mathlib.Core.Path.{◌≡◌}
use lib.ListN.{drop, length}
use lib.Seq.{paste}
use Rattle.fields.proofs.copy_run.Given as goal

abbrev pub invariant-loop-i : goal.invariant-loop-i
invariant-loop-i l = (length l.out ≡ length l.fn.out) × (l.out ≡ paste l.fn.out l.at (drop l.from l.bytes) l.i)
