-- Each exit by its law.
-- Assumes nothing.
use Rattle.std.specs.Prelude.{Err}
use mathlib.Core.Path.{sym, ap, ◌∙◌}
use native.Mathlib.Omega.{arith}
use Rattle.index.proofs.SlotLaws.{slot_found, slot_missed}
use Rattle.volume.proofs.NumberLaws.{slotted_of}
use Rattle.creating.proofs.MakeLaws.{room_28, room_29, room_go}
use Rattle.creating.proofs.room_in.Goals as goal

pub lowest_deleted-requires : goal.lowest_deleted-requires
lowest_deleted-requires c = slotted_of _ _ c.requires.0

pub returns-in_default : goal.returns-in_default
returns-in_default c = ap Err c.at.ensures ∙ room_28 _ _ _ (slot_missed _ (sym c.lowest_deleted.ensures.0 ∙ c.in_default.is))

pub returns-in_default-lowest_run : goal.returns-in_default-lowest_run
returns-in_default-lowest_run c =
    let s = slot_found _ _ (sym c.lowest_deleted.ensures.0 ∙ c.in-Some.is) in
    ap Err c.at-in_default-lowest_run.ensures ∙ room_29 _ _ _ _ s.0 (λ z. omega (arith, s.0, s.1)) (sym c.lowest_run.ensures ∙ c.in_default-lowest_run.is)

pub returns : goal.returns
returns c =
    let s = slot_found _ _ (sym c.lowest_deleted.ensures.0 ∙ c.in-Some.is) in
    room_go _ _ _ _ _ s.0 (λ z. omega (arith, s.0, s.1)) (sym c.lowest_run.ensures ∙ c.in-Some-lowest_run.is)
