-- `slot_kind` meets its contract.
-- Assumes nothing.
use borrow.Author.Rules.{rules}
use Rattle.layout.proofs.Laws.{slot_kind_is}
use Rattle.layout.proofs.slot_kind.Goals as goal

pub returns : goal.returns
returns c = search (rules, slot_kind_is)
