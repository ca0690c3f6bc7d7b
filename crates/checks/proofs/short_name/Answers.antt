-- `short_name` meets its contract: 14-22 decide, or 6-13.
-- Assumes nothing.
use mathlib.Core.Path.{sym, ◌∙◌}
use borrow.Author.Tests.{not-true, not-false}
use Rattle.checks.proofs.ExitLaws.{name_unspaced, name_spaced}
use Rattle.checks.proofs.short_name.Goals as goal

pub returns-then-not-all_spaces : goal.returns-then-not-all_spaces
returns-then-not-all_spaces c =
    name_unspaced c.args.h.now (sym c.all_spaces.ensures ∙ not-true _ c.if-not-all_spaces.true-raw)

pub returns : goal.returns
returns c =
    c.all_in_a_set.ensures ∙ name_spaced c.args.h.now (sym c.all_spaces.ensures ∙ not-false _ c.if-not-all_spaces.false-raw)
