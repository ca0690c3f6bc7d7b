-- `known_fault` meets its contract: the first row, and those behind it (RowLaws).
-- Assumes nothing.
use Rattle.fields.proofs.RowLaws.{rows}
use Rattle.rules.specs.Tables.{known_rows}
use Rattle.rules.proofs.known_fault.Goals as goal

pub returns : goal.returns
unfolding known_rows
returns c = search rows
