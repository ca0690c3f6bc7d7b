-- `vol1_fault` meets its contract: row by row (RowLaws), and then the rows from 72 on.
-- Assumes nothing.
use Rattle.fields.proofs.RowLaws.{rows}
use Rattle.standard.specs.Volume.{vol1_rules}
use Rattle.numbers.proofs.vol1_fault.Goals as goal

pub returns : goal.returns
unfolding vol1_rules
returns c = search rows
