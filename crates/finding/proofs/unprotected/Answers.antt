-- Stopped before, or as position 43 says.
-- Assumes nothing.
use Rattle.std.specs.Prelude.{Err}
use Prim.Native.Nat.{ℕ}
use mathlib.Core.Path.{sym, ap, ◌∙◌}
use mathlib.Core.List.{List}
use Rattle.standard.specs.Characters.{at}
use Rattle.standard.proofs.RefusalLaws.{handed_on}
use Rattle.finding.proofs.FindLaws.{room_there}
use Rattle.finding.proofs.AskLaws.{stopped_before, protected, not_protected}
use Rattle.finding.proofs.unprotected.Goals as goal

pub returns-in_err-asked : goal.returns-in_err-asked
returns-in_err-asked c = handed_on _ _ c.from_residual.ensures ∙ stopped_before _ _ _ _ _ c.in_err-asked.was

pub label_at-h-requires : goal.label_at-h-requires
label_at-h-requires c =
    room_there _ _ _ c.requires.0 (c.requires.1 c.in_ok-asked.was)

pub returns-then-from-eq80 : goal.returns-then-from-eq80
returns-then-from-eq80 c =
    let p = ap (λ (h : List ℕ). at h 43) (sym c.label_at-h.ensures.0) ∙ sym c.from.ensures in
    ap Err c.at.ensures ∙ protected _ _ _ _ c.in_ok-asked.was (p ∙ c.if-from-eq80.true)

pub returns : goal.returns
returns c =
    let p = ap (λ (h : List ℕ). at h 43) (sym c.label_at-h.ensures.0) ∙ sym c.from.ensures in
    not_protected _ _ _ _ c.in_ok-asked.was (λ q. c.if-from-eq80.false (sym p ∙ q))
