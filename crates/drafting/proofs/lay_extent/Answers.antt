-- One address after another.
-- Assumes nothing.
use Rattle.drafting.proofs.lay_extent.Goals as goal

pub returns : goal.returns
returns c = cc
