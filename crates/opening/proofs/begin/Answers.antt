-- The volume, then the slot.
-- Assumes nothing.
use mathlib.Core.Path.{sym, ap, ◌∙◌}
use Rattle.standard.proofs.RefusalLaws.{handed_on}
use Rattle.volume.specs.Stages.{refusal_of}
use Rattle.opening.proofs.OpenedLaws.{opened_of, staged_refused, staged_shut, staged_open}
use Rattle.opening.proofs.begin.Goals as goal

pub returns-in_default : goal.returns-in_default
returns-in_default c =
    let told = c.in_default.is in
    staged_refused _ _ _ _ (sym c.judge-verdict.ensures ∙ told) (c.refusal_of.ensures ∙ ap refusal_of told)

pub open_in-requires : goal.open_in-requires
open_in-requires c = sym c.judge-verdict.ensures ∙ c.in-Ok.is

pub returns-in_err-file : goal.returns-in_err-file
returns-in_err-file c =
    rw (handed_on _ _ c.from_residual.ensures)
    (staged_shut _ _ _ (sym c.judge-verdict.ensures ∙ c.in-Ok.is) _ (sym c.open_in.ensures ∙ c.in_err-file.was))

pub first_seat-requires : goal.first_seat-requires
first_seat-requires c = opened_of _ _ _ _ (sym c.judge-verdict.ensures ∙ c.in-Ok.is) (sym c.open_in.ensures ∙ c.in_ok-file.was)

pub returns : goal.returns
returns c =
    staged_open _ _ _ (sym c.judge-verdict.ensures ∙ c.in-Ok.is) _ _ (sym c.open_in.ensures ∙ c.in_ok-file.was) c.first_seat.ensures
