-- `fault_from_45` meets its contract: row by row (RowLaws), and then the rows from 54 on.
-- Assumes nothing.
use Rattle.standard.specs.Labels.{rule45, rule46, rule48}
use Rattle.fields.proofs.RowLaws.{rows}
use Rattle.rules.specs.Tables.{known_rows}
use Rattle.rules.proofs.fault_from_45.Goals as goal

pub returns : goal.returns
unfolding known_rows rule45 rule46 rule48
returns c = search rows
