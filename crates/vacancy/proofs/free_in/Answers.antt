-- What the extents leave.
-- Assumes nothing.
use Rattle.volume.proofs.NumberLaws.{slotted_of}
use Rattle.vacancy.proofs.FreeLaws.{used_most, free_left}
use Rattle.vacancy.proofs.free_in.Goals as goal

pub used-requires : goal.used-requires
used-requires c = slotted_of _ _ c.requires

pub overflow_sub-result : goal.overflow_sub-result
overflow_sub-result c = used_most _ _ c.requires _ _ c.addresses.ensures.0 c.used.ensures

pub returns : goal.returns
returns c = free_left _ _ c.requires _ _ c.addresses.ensures.0 c.used.ensures
