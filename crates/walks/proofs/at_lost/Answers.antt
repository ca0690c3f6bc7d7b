-- A lost block in salvage.
-- Assumes nothing.
use Rattle.walks.proofs.StandLaws.{lost_salvage}
use Rattle.walks.proofs.at_lost.Goals as goal

pub returns-in-Salvage : goal.returns-in-Salvage
returns-in-Salvage c = let x = c.args in lost_salvage x.mode x.place _ _ x.count c.in-Salvage.is c.requires c.next_block-next.ensures c.after_gap.ensures
