-- `block_in` meets its contract: no digits, or a number that fits or not.
-- Assumes nothing.
use Rattle.fields.proofs.PerhapsLaws.{none_handed, then_made, read_fails, read_holds, read_number}
use Rattle.checks.proofs.PartLaws.{block_no, block_is}
use Rattle.checks.proofs.block_in.Goals as goal

pub returns-in_err-b : goal.returns-in_err-b
returns-in_err-b c = search (none_handed, block_no, read_fails, c.in_err-b.was)

pub returns : goal.returns
returns c = search (then_made, block_is, read_holds, read_number, c.in_ok-b.was)
