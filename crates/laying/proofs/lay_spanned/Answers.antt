-- A block with room for a segment, and the segments from there.
-- Assumes nothing.
use Rattle.laying.proofs.DeskLaws.{spanned_laid}
use Rattle.laying.proofs.lay_spanned.Goals as goal

pub returns : goal.returns
returns c =
    spanned_laid _ c.args.s _ _ _ _ _ _ c.args.bodies.now c.args.from c.args.n c.requires.3 c.requires.1 _ c.least_for.ensures.0 c.room_for-b.ensures c.spread.ensures
