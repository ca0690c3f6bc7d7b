-- `name_key` meets its contract.
-- Assumes nothing.
use Rattle.index.proofs.NameLaws.{key_is}
use Rattle.index.proofs.name_key.Goals as goal

pub returns : goal.returns
returns c = key_is c.args.h.now _ _ _ c.eight_from.ensures c.eight_from-2.ensures c.wrapping_add_u64.ensures.value
