-- `slot_first` meets its contract.
-- Assumes nothing.
use borrow.Author.Rules.{rules}
use Rattle.layout.proofs.Laws.{slot_first_is}
use Rattle.layout.proofs.slot_first.Goals as goal

pub returns : goal.returns
returns c = search (rules, slot_first_is)
