-- `end_right` meets its contract: no address, or one that is compared with the start.
-- Assumes nothing.
use Rattle.fields.proofs.PerhapsLaws.{read_fails, read_holds, read_number}
use Rattle.checks.proofs.ExitLaws.{end_no, end_is}
use Rattle.checks.proofs.end_right.Goals as goal

pub returns-in_default : goal.returns-in_default
returns-in_default c = search (end_no, read_fails)

pub returns : goal.returns
returns c = search (end_is, read_holds, read_number)
