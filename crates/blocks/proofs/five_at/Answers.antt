-- `five_at` meets its contract.
-- Assumes nothing.
use Rattle.blocks.proofs.StreamLaws.{five_drop}
use Rattle.blocks.proofs.five_at.Goals as goal

pub returns : goal.returns
returns c = let x = c.args in five_drop x.image.now x.o
