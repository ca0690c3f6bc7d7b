-- `same_as` meets its contract: the library's comparison, pair by pair, is `same`.
-- Assumes nothing.
use mathlib.Core.Path.{◌∙◌}
use Rattle.fields.proofs.LoopLaws.{same_pointwise}
use Rattle.fields.proofs.same_as.Goals as goal

pub returns : goal.returns
returns c = c.eq.ensures ∙ same_pointwise c.args.f.now c.args.w.now
