-- `slots` meets its contract: judged from here on is judged from the first slot.
-- Assumes nothing.
use Rattle.index.proofs.RefusalLaws.{slots_stop, slots_end}
use Rattle.std.proofs.Common.{sym, ◌∙◌, arith}
use Rattle.standard.specs.Layout.{slot_count}
use Rattle.standard.specs.Refusals.{or_else}
use Rattle.standard.proofs.RefusalLaws.{handed_on}
use Rattle.index.proofs.slots.Goals as goal

pub returns-in_err-slot_refusal : goal.returns-in_err-slot_refusal
unfolding or_else
returns-in_err-slot_refusal c =
    let a = c.args in
    let w = c.loop-slot in
    let s = c.slot_refusal in
    handed_on _ _ c.from_residual.ensures ∙ sym (w.invariant ∙ sym (slots_stop a.g a.image.now (slot_count a.g) w.slot s.result _ (omega arith) s.ensures c.in_err-slot_refusal.was))

pub loop-slot-preserved : goal.loop-slot-preserved
unfolding or_else
loop-slot-preserved c =
    let a = c.args in
    let w = c.loop-slot in
    let s = c.slot_refusal in
    w.invariant ∙ sym (slots_stop a.g a.image.now (slot_count a.g) w.slot s.result _ (omega arith) s.ensures c.in_ok-slot_refusal.was)

pub returns : goal.returns
returns c =
    let a = c.args in
    sym (c.loop-slot.invariant ∙ slots_end a.g a.image.now (slot_count a.g) c.loop-slot.slot (omega arith))
