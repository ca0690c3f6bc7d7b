-- `name_right` meets its contract: by the level.
-- Assumes nothing.
use mathlib.Core.Path.{◌∙◌}
use Rattle.checks.proofs.ExitLaws.{short_level, name_short, name_long}
use Rattle.checks.proofs.name_right.Goals as goal

pub returns-then-c : goal.returns-then-c
returns-then-c c = c.short_name.ensures ∙ name_short _ (short_level c.args.h.now _ _ c.requires.1 c.if-c.true)

pub returns : goal.returns
returns c = c.all_in_a_set.ensures ∙ name_long _ (short_level c.args.h.now _ _ c.requires.1 c.if-c.false)
