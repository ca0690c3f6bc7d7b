-- `label_offset` meets its contract.
-- Assumes nothing.
use Rattle.layout.proofs.Laws.{label_begins}
use borrow.Author.Rules.{rules}
use Rattle.layout.proofs.label_offset.Goals as goal

pub returns : goal.returns
returns c = (label_begins _ _ (search rules), search rules)
