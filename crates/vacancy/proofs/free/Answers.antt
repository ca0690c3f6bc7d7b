-- A refused volume, and the count of an accepted one.
-- Assumes nothing.
use mathlib.Core.Path.{sym, ap, ◌∙◌}
use Rattle.std.specs.Prelude.{Err}
use Rattle.volume.specs.Stages.{refusal_of}
use Rattle.vacancy.proofs.FreeLaws.{free_answer, free_refused}
use Rattle.vacancy.proofs.free.Goals as goal

pub returns-in_default : goal.returns-in_default
returns-in_default c = ap Err (c.refusal_of.ensures ∙ ap refusal_of c.in_default.is) ∙ free_refused _ _ (sym c.judge-verdict.ensures ∙ c.in_default.is)

pub returns : goal.returns
returns c = free_answer _ _ (sym c.judge-verdict.ensures ∙ c.in-Ok.is) _ c.free_in.ensures
