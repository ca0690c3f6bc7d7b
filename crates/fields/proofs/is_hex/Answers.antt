-- `is_hex` meets its contract: the two tests of `is_hex`.
-- Assumes nothing.
use Rattle.standard.specs.Characters.{is_hex}
use Rattle.fields.proofs.is_hex.Goals as goal

pub returns : goal.returns
unfolding is_hex
returns c = cc
