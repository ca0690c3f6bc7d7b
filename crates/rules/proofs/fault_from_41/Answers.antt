-- `fault_from_41` meets its contract: row by row (RowLaws), and then the rows from 45 on.
-- Assumes nothing.
use Rattle.standard.specs.Labels.{rule41, rule42, rule43}
use Rattle.fields.proofs.RowLaws.{rows}
use Rattle.rules.specs.Tables.{known_rows}
use Rattle.rules.proofs.fault_from_41.Goals as goal

pub returns : goal.returns
unfolding known_rows rule41 rule42 rule43
returns c = search rows
