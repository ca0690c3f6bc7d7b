-- By the kind where it stands.
-- Assumes nothing.
use mathlib.Core.Path.{◌∙◌}
use Rattle.layout.proofs.TrackLaws.{incorrect_is}
use Rattle.layout.proofs.incorrect_mark.Goals as goal

pub returns : goal.returns
returns c = c.has_mark.ensures ∙ incorrect_is _ _ _ c.requires.0 _ c.requires.1
