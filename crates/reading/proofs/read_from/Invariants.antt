-- The answer to a reader on its way: at the end, in one turn, or in several.
use mathlib.Core.Path.{◌≡◌}
use mathlib.Core.List.{[]}
use lib.ListN.{length}
use Rattle.walks.specs.Stands.{length_of}
use Rattle.walks.specs.Walks.{met_from, Walking, to_go}
use Rattle.reading.proofs.read_from.Given as goal

abbrev pub invariant-loop-w : goal.invariant-loop-w
invariant-loop-w l = (Walking l.image l.f l.w) × (length_of l.w.stand ≡ 0) × (met_from l.image l.f l.mode l.w [] ≡ met_from l.image l.f l.mode l.initial.w []) × (l.out ≡ l.fn.out) × (length l.out ≡ length l.fn.out)

abbrev pub decreases-loop-w : goal.decreases-loop-w
decreases-loop-w l = to_go l.f l.w
