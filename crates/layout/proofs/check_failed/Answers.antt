-- By the kind where it stands.
-- Assumes nothing.
use mathlib.Core.Path.{◌∙◌}
use Rattle.layout.proofs.TrackLaws.{failed_is}
use Rattle.layout.proofs.check_failed.Goals as goal

pub returns : goal.returns
returns c = c.has_mark.ensures ∙ failed_is _ _ _ c.requires.0 _ c.requires.1
