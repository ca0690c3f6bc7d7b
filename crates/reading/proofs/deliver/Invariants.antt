-- The same walk again, and at each turn what of the body stands there.
use Rattle.walks.specs.Walks.{to_go}
use Rattle.reading.proofs.MeetingLaws.{Delivering}
use Rattle.reading.proofs.deliver.Given as goal

abbrev pub invariant-loop-w : goal.invariant-loop-w
invariant-loop-w l = Delivering l.image l.f l.mode l.initial.w l.fn.out l.w l.out

abbrev pub decreases-loop-w : goal.decreases-loop-w
decreases-loop-w l = to_go l.f l.w
