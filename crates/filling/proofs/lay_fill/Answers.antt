-- The part behind the index, with 00 in it.
-- Assumes nothing.
use Rattle.filling.proofs.RunLaws.{filled}
use Rattle.filling.proofs.lay_fill.Goals as goal

pub returns : goal.returns
returns c = filled _ _ c.args.body.now _ c.requires (c.fill.ensures.after (λ y h. h))
