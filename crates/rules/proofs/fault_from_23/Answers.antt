-- `fault_from_23` meets its contract: the rows in order (RowLaws); what they read is handed on to the rows from 41 on.
-- Assumes nothing.
use borrow.Author.Rules.{rules}
use Rattle.fields.proofs.PerhapsLaws.{read_number, read_holds}
use Rattle.fields.proofs.RowLaws.{verdict_holds, rows, read-rows}
use Rattle.checks.proofs.PartLaws.{format_is}
use Rattle.rules.specs.Tables.{known_rows}
use Rattle.rules.proofs.fault_from_23.Goals as goal

pub block_in-requires : goal.block_in-requires
block_in-requires c = search (rules, format_is)

pub returns-in_default : goal.returns-in_default
unfolding known_rows
returns-in_default c = search (rows, read-rows, format_is)

pub returns-in_default-start_in : goal.returns-in_default-start_in
unfolding known_rows
returns-in_default-start_in c = search (rows, read-rows, format_is)

pub end_right-requires : goal.end_right-requires
end_right-requires c = search (rules, read_number, read_holds)

pub returns-then-not-end_right : goal.returns-then-not-end_right
unfolding known_rows
returns-then-not-end_right c = search (rows, read-rows, format_is)

pub returns-then-not-right40 : goal.returns-then-not-right40
unfolding known_rows
returns-then-not-right40 c = search (rows, read-rows, format_is)

pub fault_from_41-requires : goal.fault_from_41-requires
fault_from_41-requires c = (
  search rules,
  record {
    level_is = search rules;
    verdict_is = search rules;
    format_is = search rules;
    block_is = search read_number;
    start_is = search read_number;
    r23 = search read_holds;
    r29 = search read_holds;
    r40 = search (verdict_holds, format_is);
  },
)

pub returns : goal.returns
unfolding known_rows
returns c = search (rows, read-rows, format_is)
