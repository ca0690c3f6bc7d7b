-- `other_fault` meets its contract: the two rows in order (RowLaws).
-- Assumes nothing.
use borrow.Author.Rules.{rules}
use Rattle.fields.proofs.PerhapsLaws.{read_number, read_holds}
use Rattle.fields.proofs.RowLaws.{rows, read-rows}
use Rattle.rules.specs.Tables.{other_rows}
use Rattle.rules.proofs.other_fault.Goals as goal

pub returns-in_default : goal.returns-in_default
unfolding other_rows
returns-in_default c = search (rows, read-rows)

pub end_right-requires : goal.end_right-requires
end_right-requires c = search (rules, read_number, read_holds)

pub returns-then-not-end_right : goal.returns-then-not-end_right
unfolding other_rows
returns-then-not-end_right c = search (rows, read-rows)

pub returns : goal.returns
unfolding other_rows
returns c = search (rows, read-rows)
