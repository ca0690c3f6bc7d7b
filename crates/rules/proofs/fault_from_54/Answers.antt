-- `fault_from_54` meets its contract: the rows in order (RowLaws), with the verdict of 63 made before them.
-- Assumes nothing.
use borrow.Author.Rules.{rules}
use Rattle.fields.proofs.PerhapsLaws.{read_number, read_holds}
use Rattle.checks.proofs.PartLaws.{blocked_is}
use Rattle.fields.proofs.RowLaws.{rows, read-rows}
use Rattle.rules.specs.Tables.{known_rows}
use Rattle.rules.proofs.fault_from_54.Goals as goal

pub record_in-requires : goal.record_in-requires
record_in-requires c = search (rules, blocked_is)

pub returns-in_default : goal.returns-in_default
unfolding known_rows
returns-in_default c = search (rows, read-rows, blocked_is)

pub unused_right-requires : goal.unused_right-requires
unused_right-requires c = search (rules, blocked_is, read_number, read_holds)

pub returns-then-not-unused_right : goal.returns-then-not-unused_right
unfolding known_rows
returns-then-not-unused_right c = search (rows, read-rows, blocked_is)

pub returns-then-not-right63 : goal.returns-then-not-right63
unfolding known_rows
returns-then-not-right63 c = search (rows, read-rows, blocked_is)

pub returns : goal.returns
unfolding known_rows
returns c = search (rows, read-rows, blocked_is)
