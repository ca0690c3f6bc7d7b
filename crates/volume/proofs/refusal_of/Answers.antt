-- `refusal_of` meets its contract.
-- Assumes nothing.
use mathlib.Core.Path.{ap}
use Rattle.volume.specs.Stages.{refusal_of}
use Rattle.volume.proofs.refusal_of.Goals as goal

pub returns-in_default : goal.returns-in_default
returns-in_default c = cc (ap refusal_of c.in_default.is)

pub returns : goal.returns
returns c = cc (ap refusal_of c.in-Err.is)
