-- `index_kind` meets its contract.
-- Assumes nothing.
use Rattle.standard.specs.Layout.{index_kind}
use Rattle.layout.proofs.index_kind.Goals as goal

pub returns : goal.returns
unfolding index_kind
returns c = (cc, c.byte_of.ensures.1)
