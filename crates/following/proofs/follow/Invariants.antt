-- What is carried is of the same image.
use Rattle.opened.specs.Carries.{Carries}
use Rattle.following.proofs.follow.Given as goal

abbrev pub invariant-loop : goal.invariant-loop
invariant-loop g l = Carries l.image l.carried
