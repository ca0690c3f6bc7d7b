-- What is measured from each turn on is what is measured from the start.
use Rattle.walks.specs.Walks.{Walking, to_go}
use Rattle.reading.proofs.MeetingLaws.{Same}
use Rattle.reading.proofs.measure.Given as goal

abbrev pub invariant-loop-w : goal.invariant-loop-w
invariant-loop-w l = (Walking l.image l.f l.w) × (Same l.image l.f l.mode l.w l.initial.w)

abbrev pub decreases-loop-w : goal.decreases-loop-w
decreases-loop-w l = to_go l.f l.w
