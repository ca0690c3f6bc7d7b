-- The answer to what was measured.
-- Assumes nothing.
use Rattle.std.specs.Prelude.{Ok, Err}
use mathlib.Core.Path.{sym, ap, ◌∙◌}
use native.Mathlib.Omega.{arith}
use Rattle.standard.proofs.RefusalLaws.{handed_on}
use Rattle.reading.specs.Answers.{answered_by}
use Rattle.reading.proofs.ReplyLaws.{answered_short, answered_record}
use Rattle.reading.proofs.answered.Goals as goal

pub returns-then-room-length : goal.returns-then-room-length
returns-then-room-length c = ap Err c.at.ensures ∙ answered_short _ _ _ _ _ _ (c.in_ok-met.was ∙ ap Ok c.in-Took.is) (omega arith)

pub returns-else-room-length : goal.returns-else-room-length
returns-else-room-length c = answered_record _ _ _ _ _ _ (c.in_ok-met.was ∙ ap Ok c.in-Took.is) (omega arith)

pub returns-in-Lost : goal.returns-in-Lost
returns-in-Lost c = let x = c.args in sym (ap (answered_by x.count x.room) (c.in_ok-met.was ∙ ap Ok c.in-Lost.is))

pub returns-in-Ended : goal.returns-in-Ended
returns-in-Ended c = let x = c.args in sym (ap (answered_by x.count x.room) (c.in_ok-met.was ∙ ap Ok c.in-Ended.is))

pub returns-in_err-met : goal.returns-in_err-met
returns-in_err-met c = let x = c.args in handed_on _ _ c.from_residual.ensures ∙ sym (ap (answered_by x.count x.room) c.in_err-met.was)
