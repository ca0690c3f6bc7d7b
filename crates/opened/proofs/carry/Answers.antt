-- What opening the file said.
-- Assumes nothing.
use mathlib.Core.Path.{refl}
use Rattle.opened.specs.Carries.{Carries}
use Rattle.opened.proofs.carry.Goals as goal

pub returns : goal.returns
unfolding Carries
returns c = (c.begin.ensures, refl)
