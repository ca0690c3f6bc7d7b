-- `slot_mark` meets its contract.
-- Assumes nothing.
use Rattle.layout.proofs.Laws.{slot_marked}
use borrow.Author.Rules.{rules}
use Rattle.layout.proofs.slot_mark.Goals as goal

pub returns : goal.returns
returns c = slot_marked _ _ (search rules) _
