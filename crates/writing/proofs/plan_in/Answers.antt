-- Stopped by 13 to 16 or 24, or as the rest says.
-- Assumes nothing.
use mathlib.Core.Path.{sym, ◌∙◌}
use Rattle.standard.proofs.RefusalLaws.{handed_on}
use Rattle.volume.proofs.NumberLaws.{slotted_of}
use Rattle.finding.proofs.FindLaws.{room_there}
use Rattle.opening.proofs.OpenLaws.{usable_facts}
use Rattle.writing.proofs.PlanLaws.{plan_stop, plan_on, plan_facts}
use Rattle.writing.proofs.plan_in.Goals as goal

pub unprotected-requires : goal.unprotected-requires
unprotected-requires c = (slotted_of _ _ c.requires, λ p. (usable_facts _ _ _ (sym c.usable.ensures ∙ p)).0)

pub label_at-requires : goal.label_at-requires
label_at-requires c =
    let f = plan_facts _ _ _ _ _ c.usable.ensures c.unprotected.ensures c.in_ok-unprotected.was in
    room_there _ _ _ (slotted_of _ _ c.requires) f.0

pub drafted-requires : goal.drafted-requires
drafted-requires c =
    let f = plan_facts _ _ _ _ _ c.usable.ensures c.unprotected.ensures c.in_ok-unprotected.was in
    (c.requires, f.0, f.1, c.label_at.ensures.0, c.label_at.ensures.1)

pub returns-in_err-unprotected : goal.returns-in_err-unprotected
returns-in_err-unprotected c =
    handed_on _ _ c.from_residual.ensures ∙ plan_stop _ _ _ _ _ c.usable.ensures c.unprotected.ensures _ _ _ c.in_err-unprotected.was

pub returns : goal.returns
returns c =
    c.drafted.ensures ∙ plan_on _ _ _ _ _ c.usable.ensures c.unprotected.ensures _ _ c.in_ok-unprotected.was
