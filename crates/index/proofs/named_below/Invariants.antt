-- `named_below` meets its contract: no slot passed has the name.
use Rattle.std.proofs.Common.{◌≡◌, ◌-◌, false}
use Rattle.standard.specs.Judgement.{namesake, clashes_below}
use Rattle.index.proofs.named_below.Given as goal

abbrev pub invariant-loop-lower : goal.invariant-loop-lower
invariant-loop-lower l = clashes_below (namesake l.g l.image) l.slot (l.lower - 1) ≡ false
