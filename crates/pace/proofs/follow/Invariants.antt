-- What is counted and what is still to count stay together the answers from Start.
use Prim.Native.Nat.{◌+◌, ◌-◌}
use mathlib.Core.Path.{◌≡◌}
use lib.ListN.{length}
use Rattle.standard.specs.Places.{start}
use Rattle.walks.specs.Walks.{mode_of}
use Rattle.opened.specs.Carries.{Carries}
use Rattle.pace.specs.Answers.{answers_from}
use Rattle.pace.proofs.follow.Given as goal

abbrev pub invariant-loop-n : goal.invariant-loop-n
invariant-loop-n l = (length l.out ≡ length l.fn.out)
    × (answers_from (mode_of l.mode) l.image l.slot (length l.fn.out) 1048576 start ≡ l.n + answers_from (mode_of l.mode) l.image l.slot (length l.fn.out) (1048576 - l.n) l.place)
    × (Carries l.image l.carried)
    × (l.carried.slot ≡ l.slot)
