-- The given fields and then the extent, over spaces.
-- Assumes nothing.
use Rattle.drafting.proofs.DraftLaws.{draft_is}
use Rattle.drafting.proofs.draft.Goals as goal

pub returns : goal.returns
returns c =
    let x = c.args in
    draft_is x.wanted.now x.start x.end c.lay_given.new.label c.lay_extent.new.label c.requires.0 c.lay_given.ensures c.lay_extent.ensures
