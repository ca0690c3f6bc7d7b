-- `past_last` meets its contract: the three tests of `past_last`.
-- Assumes nothing.
use Rattle.standard.specs.Addresses.{past_last}
use Rattle.fields.proofs.past_last.Goals as goal

pub returns : goal.returns
unfolding past_last
returns c = cc
