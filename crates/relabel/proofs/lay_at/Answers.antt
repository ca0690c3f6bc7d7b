-- The part behind the index, with the bytes in it.
-- Assumes nothing.
use Rattle.relabel.proofs.SpliceLaws.{lent_over}
use Rattle.relabel.proofs.lay_at.Goals as goal

pub returns : goal.returns
returns c = lent_over _ _ _ _ c.lay_over.ensures
