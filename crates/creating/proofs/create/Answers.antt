-- Refused by the volume, refused by the list, or done.
-- Assumes nothing.
use mathlib.Core.Path.{sym, ap, ◌∙◌}
use Rattle.std.specs.Prelude.{Err}
use Rattle.standard.proofs.RefusalLaws.{handed_on}
use Rattle.volume.specs.Stages.{refusal_of}
use Rattle.creating.proofs.MakeLaws.{make_stopped, make_refused, make_accepted, make_done}
use Rattle.creating.proofs.create.Goals as goal

pub returns-in_default : goal.returns-in_default
returns-in_default c =
    let a = c.args in
    let t = c.in_default.is in
    let e = make_stopped a.image.now a.wanted.now a.n _ (sym c.judge-verdict.ensures ∙ t) in
    (ap Err (c.refusal_of.ensures ∙ ap refusal_of t) ∙ e.0, e.1)

pub plan_in-requires : goal.plan_in-requires
plan_in-requires c = sym c.judge-verdict.ensures ∙ c.in-Ok.is

pub carry_out-start-requires : goal.carry_out-start-requires
carry_out-start-requires c =
    let a = c.args in
    make_accepted a.image.now _ a.wanted.now a.n (sym c.judge-verdict.ensures ∙ c.in-Ok.is) _ _ (sym c.plan_in.ensures ∙ c.in_ok-p.was)

pub returns-in_err-p : goal.returns-in_err-p
returns-in_err-p c =
    let a = c.args in
    rw (handed_on _ _ c.from_residual.ensures)
    (make_refused a.image.now _ a.wanted.now a.n (sym c.judge-verdict.ensures ∙ c.in-Ok.is) _ (sym c.plan_in.ensures ∙ c.in_err-p.was))

pub returns : goal.returns
returns c =
    let a = c.args in
    let j = sym c.judge-verdict.ensures ∙ c.in-Ok.is in
    let k = make_accepted a.image.now _ a.wanted.now a.n j _ _ (sym c.plan_in.ensures ∙ c.in_ok-p.was) in
    let t = c.carry_out-start in
    make_done a.image.now _ a.wanted.now a.n j _ _ t.result t.new.image k t.ensures.0 t.ensures.1
