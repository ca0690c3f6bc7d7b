-- Assumes nothing.
use Rattle.standard.specs.Addresses.{address_of}
use Rattle.extents.proofs.address_of.Goals as goal

pub returns : goal.returns
unfolding address_of
returns c = cc (c.from-d.ensures, c.from-s.ensures)
