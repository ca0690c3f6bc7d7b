-- `judge_slots` meets its contract: each of the three stages stops or is passed.
-- Assumes nothing.
use mathlib.Core.Path.{sym, ◌∙◌}
use Rattle.standard.proofs.RefusalLaws.{handed_on}
use Rattle.volume.proofs.StageLaws.{stop_here, go_on, all_passed}
use native.Mathlib.Omega.{arith}
use Rattle.volume.proofs.judge_slots.Goals as goal

pub returns-in_err-slots : goal.returns-in_err-slots
returns-in_err-slots c = handed_on _ _ c.from_residual.ensures ∙ stop_here _ _ 7 _ (omega arith) (sym c.slots.ensures ∙ c.in_err-slots.was)

pub shared-requires : goal.shared-requires
shared-requires c = record { whole = c.requires; passed = sym c.slots.ensures ∙ c.in_ok-slots.was }

pub returns-in_err-shared : goal.returns-in_err-shared
returns-in_err-shared c = handed_on _ _ c.from_residual-in_err-shared.ensures ∙ go_on _ _ 7 _ (omega arith) (sym c.slots.ensures ∙ c.in_ok-slots.was) (stop_here _ _ 8 _ (omega arith) (sym c.shared.ensures ∙ c.in_err-shared.was))

pub named-requires : goal.named-requires
named-requires c = record { whole = c.requires; passed = sym c.slots.ensures ∙ c.in_ok-slots.was }

pub returns-in_err-named : goal.returns-in_err-named
returns-in_err-named c =
    handed_on _ _ c.from_residual-in_err-named.ensures
    ∙ go_on _ _ 7 _ (omega arith) (sym c.slots.ensures ∙ c.in_ok-slots.was)
    (go_on _ _ 8 _ (omega arith) (sym c.shared.ensures ∙ c.in_ok-shared.was)
    (stop_here _ _ 9 _ (omega arith) (sym c.named.ensures ∙ c.in_err-named.was)))

pub returns : goal.returns
returns c =
    go_on _ _ 7 _ (omega arith) (sym c.slots.ensures ∙ c.in_ok-slots.was)
    (go_on _ _ 8 _ (omega arith) (sym c.shared.ensures ∙ c.in_ok-shared.was)
    (go_on _ _ 9 _ (omega arith) (sym c.named.ensures ∙ c.in_ok-named.was) (all_passed _ _)))
