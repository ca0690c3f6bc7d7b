-- The address behind a legal one, and where its record's kind stands.
-- Assumes nothing.
use mathlib.Core.Path.{refl}
use native.Mathlib.Omega.{arith}
use Rattle.extents.proofs.CursorLaws.{walk_here, legal_next}
use Rattle.extents.proofs.Walk.step.Goals as goal

pub kind_after-requires : goal.kind_after-requires
kind_after-requires c =
    let h = walk_here _ _ c.requires.0 (omega arith) in
    (h.0, c.step-next.ensures, h.1)

pub returns : goal.returns
returns c =
    let w = c.requires.0 in
    let next = c.step-next.ensures in
    (record { legal = rw next (legal_next _ _ _ (omega arith) w.legal); stands = c.kind_after.ensures }, next, refl)
