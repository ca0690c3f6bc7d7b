-- Each exit by its law.
-- Assumes nothing.
use Rattle.std.specs.Prelude.{Err}
use mathlib.Core.Path.{sym, ap, ◌∙◌}
use native.Mathlib.Omega.{arith}
use Rattle.fields.proofs.RowLaws.{faultless, fault_is, fault_some}
use Rattle.index.proofs.SlotLaws.{slot_found, slot_missed}
use Rattle.volume.proofs.NumberLaws.{slotted_of}
use Rattle.creating.proofs.MakeLaws.{plan_10, plan_12, plan_on, plan_29, plan_some}
use Rattle.creating.proofs.plan_in.Goals as goal

pub returns-in-Some : goal.returns-in-Some
returns-in-Some c = ap Err c.within.ensures ∙ plan_10 _ _ _ _ _ (fault_is _ c.in-Some.is c.proposal_fault.ensures) (fault_some _ c.in-Some.is c.proposal_fault.ensures)

pub slice_bounds-slot_named-end : goal.slice_bounds-slot_named-end
slice_bounds-slot_named-end c =
    let a = c.args in
    omega (arith, plan_29 a.g a.image.now a.wanted.now a.n (faultless _ c.in_default.is c.proposal_fault.ensures))

pub slot_named-requires : goal.slot_named-requires
slot_named-requires c = slotted_of _ _ c.requires

pub returns-in-Some-slot_named : goal.returns-in-Some-slot_named
returns-in-Some-slot_named c =
    let s = slot_found _ _ (sym c.slot_named.ensures.0 ∙ c.in-Some-slot_named.is) in
    ap Err c.at.ensures ∙ plan_12 _ _ _ _ _ (faultless _ c.in_default.is c.proposal_fault.ensures) s.0 (omega (arith, s.0, s.1))

-- From here on no label has the name. `slot_missed` makes of the answer of
-- `slot_named` what the definition says there, which is 0, and no slot is 0.
-- That n is at least 1, which `room_in` asks for, is what 10 has shown
-- (`plan_some`).

pub room_in-requires : goal.room_in-requires
room_in-requires c =
    let a = c.args in
    (c.requires, plan_some a.g a.image.now a.wanted.now a.n (faultless _ c.in_default.is c.proposal_fault.ensures))

pub returns : goal.returns
returns c =
    let none = slot_missed _ (sym c.slot_named.ensures.0 ∙ c.in_default-slot_named.is) in
    c.room_in.ensures ∙ plan_on _ _ _ _ (faultless _ c.in_default.is c.proposal_fault.ensures) none
