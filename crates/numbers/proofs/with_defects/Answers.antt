-- `with_defects` meets its contract: the cylinders of an ERMAP without a fault fit (`defects_small`).
-- Assumes nothing.
use borrow.Author.Rules.{rules}
use Rattle.numbers.proofs.Laws.{defects_small, defects_put}
use Rattle.numbers.proofs.with_defects.Goals as goal

pub defect_in-requires : goal.defect_in-requires
defect_in-requires c = (search rules, (defects_small c.args.g.L c.args.e.now c.requires.1).0)

pub defect_in-requires-2 : goal.defect_in-requires-2
defect_in-requires-2 c =
    (search rules, (defects_small c.args.g.L c.args.e.now c.requires.1).1)

pub returns : goal.returns
returns c = defects_put _ _ _ _ c.defect_in.ensures c.defect_in-2.ensures
