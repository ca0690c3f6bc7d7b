-- `is_legal` meets its contract: the three tests of `legal`.
-- Assumes nothing.
use Rattle.standard.specs.Addresses.{legal}
use Rattle.fields.proofs.is_legal.Goals as goal

pub returns : goal.returns
unfolding legal
returns c = cc
