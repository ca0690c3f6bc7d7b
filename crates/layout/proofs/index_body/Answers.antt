-- `index_body` meets its contract.
-- Assumes nothing.
use Rattle.standard.specs.Layout.{index_body}
use Rattle.layout.proofs.index_body.Goals as goal

pub returns : goal.returns
unfolding index_body
returns c = (cc, c.body_of.ensures.1)
