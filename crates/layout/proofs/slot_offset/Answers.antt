-- `slot_offset` meets its contract.
-- Assumes nothing.
use Rattle.layout.proofs.Laws.{slot_begins}
use borrow.Author.Rules.{rules}
use Rattle.layout.proofs.slot_offset.Goals as goal

pub returns : goal.returns
returns c = (slot_begins _ _ (search rules), search rules)
