-- A refused volume, and the count of an accepted one.
-- Assumes nothing.
use mathlib.Core.Path.{sym, ap, ◌∙◌}
use Rattle.std.specs.Prelude.{Err}
use Rattle.volume.specs.Stages.{refusal_of}
use Rattle.files.proofs.Laws.{counted_refused, counted_in}
use Rattle.files.proofs.count.Goals as goal

pub returns-in_default : goal.returns-in_default
returns-in_default c = ap Err (c.refusal_of.ensures ∙ ap refusal_of c.in_default.is) ∙ counted_refused _ _ _ (sym c.judge-verdict.ensures ∙ c.in_default.is)

pub count_in-requires : goal.count_in-requires
count_in-requires c = sym c.judge-verdict.ensures ∙ c.in-Ok.is

pub returns : goal.returns
returns c = c.count_in.ensures ∙ counted_in _ _ _ (sym c.judge-verdict.ensures ∙ c.in-Ok.is)
