-- Refused by the volume, refused by the list, or done.
-- Assumes nothing.
use mathlib.Core.Path.{sym, ap, ◌∙◌}
use Rattle.std.specs.Prelude.{Err}
use Rattle.standard.proofs.RefusalLaws.{handed_on}
use Rattle.volume.specs.Stages.{refusal_of}
use Rattle.deleting.proofs.DropLaws.{drop_stopped, drop_refused, drop_done}
use Rattle.deleting.proofs.delete.Goals as goal

pub returns-in_default : goal.returns-in_default
returns-in_default c =
    let a = c.args in
    let t = c.in_default.is in
    let e = drop_stopped a.image.now a.slot _ (sym c.judge-verdict.ensures ∙ t) in
    (ap Err (c.refusal_of.ensures ∙ ap refusal_of t) ∙ e.0, e.1)

pub plan_out-requires : goal.plan_out-requires
plan_out-requires c = sym c.judge-verdict.ensures ∙ c.in-Ok.is

pub drop_label-requires : goal.drop_label-requires
drop_label-requires c =
    (sym c.judge-verdict.ensures ∙ c.in-Ok.is, sym c.plan_out.ensures ∙ c.in_ok-plan_out.was)

pub returns-in_err-plan_out : goal.returns-in_err-plan_out
returns-in_err-plan_out c =
    let a = c.args in
    rw (handed_on _ _ c.from_residual.ensures)
    (drop_refused a.image.now _ a.slot (sym c.judge-verdict.ensures ∙ c.in-Ok.is) _ (sym c.plan_out.ensures ∙ c.in_err-plan_out.was))

pub returns : goal.returns
returns c =
    let d = c.drop_label in
    let a = c.args in
    drop_done a.image.now _ a.slot (sym c.judge-verdict.ensures ∙ c.in-Ok.is) d.result d.new.image (sym c.plan_out.ensures ∙ c.in_ok-plan_out.was) d.ensures.0 d.ensures.1
