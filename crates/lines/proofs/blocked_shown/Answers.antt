-- Assumes nothing.
use mathlib.Core.Path.{sym, ◌∙◌}
use Rattle.lines.proofs.blocked_shown.Goals as goal

pub returns-then-is_blocked : goal.returns-then-is_blocked
returns-then-is_blocked c = simp (sym c.is_blocked.ensures ∙ c.if-is_blocked.true)

pub returns : goal.returns
returns c = simp (sym c.is_blocked.ensures ∙ c.if-is_blocked.false)
