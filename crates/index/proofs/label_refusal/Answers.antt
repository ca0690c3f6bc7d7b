-- `label_refusal` meets its contract: no fault, no `HDR1`, another fault.
-- Assumes nothing.
use Rattle.std.specs.Prelude.{Err}
use Prim.Native.Nat.{ℕ}
use mathlib.Core.List.{List}
use native.Mathlib.Omega.{arith}
use Rattle.std.proofs.Common.{◌<◌, ap, refl, ◌∙◌}
use Rattle.standard.specs.Labels.{label_fault}
use Rattle.fields.specs.Numbers.{fault_in}
use Rattle.fields.proofs.RowLaws.{faultless, fault_is, fault_some}
use Rattle.index.proofs.RefusalLaws.{label_passed, no_label, label_broken}
use Rattle.index.proofs.label_refusal.Goals as goal

pub returns-in-None : goal.returns-in-None
returns-in-None c =
    let f = c.label_fault.ensures ∙ ap (λ (h : List ℕ). fault_in (label_fault c.args.g h)) c.label_at.ensures.0 in
    label_passed _ _ _ c.requires.0.indexed c.requires.1 _ refl (faultless _ c.in-None.is f)

pub returns-in-Some-eq1 : goal.returns-in-Some-eq1
returns-in-Some-eq1 c =
    let f = c.label_fault.ensures ∙ ap (λ (h : List ℕ). fault_in (label_fault c.args.g h)) c.label_at.ensures.0 in
    ap Err c.at.ensures ∙ no_label _ _ _ c.requires.0.indexed c.requires.1 _ (fault_is _ c.in-Some-eq1.is f) (omega arith)

pub returns-in-Some : goal.returns-in-Some
returns-in-Some c =
    let f = c.label_fault.ensures ∙ ap (λ (h : List ℕ). fault_in (label_fault c.args.g h)) c.label_at.ensures.0 in
    let s : 0 < c.in-Some.fault = fault_some _ c.in-Some.is f in
    ap Err c.within.ensures ∙ label_broken _ _ _ c.requires.0.indexed c.requires.1 c.in-Some.fault (fault_is _ c.in-Some.is f) (λ z. omega (arith, s, z)) c.in-Some.fault-test.1
