-- One field after another.
-- Assumes nothing.
use Rattle.drafting.proofs.lay_given.Goals as goal

pub returns : goal.returns
returns c = cc
