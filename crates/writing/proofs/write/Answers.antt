-- Refused by the volume, refused by the list, or done.
-- Assumes nothing.
use mathlib.Core.Path.{sym, ap, ◌∙◌}
use Rattle.std.specs.Prelude.{Err}
use Rattle.standard.proofs.RefusalLaws.{handed_on}
use Rattle.volume.specs.Stages.{refusal_of}
use Rattle.writing.proofs.WriteLaws.{write_stopped, write_refused, write_accepted, write_done}
use Rattle.writing.proofs.write.Goals as goal

pub returns-in_default : goal.returns-in_default
returns-in_default c =
    let a = c.args in
    let t = c.in_default.is in
    let e = write_stopped a.image.now a.slot a.bodies.now a.lengths.now _ (sym c.judge-verdict.ensures ∙ t) in
    (ap Err (c.refusal_of.ensures ∙ ap refusal_of t) ∙ e.0, e.1)

pub plan_in-requires : goal.plan_in-requires
plan_in-requires c = sym c.judge-verdict.ensures ∙ c.in-Ok.is

pub carry_out-requires : goal.carry_out-requires
carry_out-requires c =
    let a = c.args in
    write_accepted a.image.now _ a.slot a.bodies.now a.lengths.now (sym c.judge-verdict.ensures ∙ c.in-Ok.is) _ (sym c.plan_in.ensures ∙ c.in_ok-p.was)

pub returns-in_err-p : goal.returns-in_err-p
returns-in_err-p c =
    let a = c.args in
    rw (handed_on _ _ c.from_residual.ensures)
    (write_refused a.image.now _ a.slot a.bodies.now a.lengths.now (sym c.judge-verdict.ensures ∙ c.in-Ok.is) _ (sym c.plan_in.ensures ∙ c.in_err-p.was))

pub returns : goal.returns
returns c =
    let a = c.args in
    let j = sym c.judge-verdict.ensures ∙ c.in-Ok.is in
    let t = c.carry_out in
    write_done a.image.now _ a.slot a.bodies.now a.lengths.now j _ t.new.image (write_accepted a.image.now _ a.slot a.bodies.now a.lengths.now j _ (sym c.plan_in.ensures ∙ c.in_ok-p.was)) t.ensures
