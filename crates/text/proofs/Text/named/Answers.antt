-- The parts in a row.
-- Assumes nothing.
use Rattle.text.proofs.LaidLaws.{writes_more}
use Rattle.text.proofs.Text.named.Goals as goal

pub returns : goal.returns
returns c = writes_more c.bytes.ensures c.number.ensures
