-- `judge_defects` meets its contract: ERMAP at fault, and the numbers that it adds.
-- Assumes nothing.
use Rattle.std.specs.Prelude.{Err}
use Prim.Native.Nat.{ℕ, ◌≤◌}
use mathlib.Core.List.{List}
use Rattle.standard.specs.Rules.{lowest_fault}
use Rattle.standard.specs.Defects.{ermap_rules}
use native.Mathlib.Omega.{arith}
use Rattle.standard.specs.Layout.{ermap_of}
use Rattle.fields.specs.Numbers.{fault_in}
use Rattle.fields.proofs.RowLaws.{faultless, fault_is, fault_some}
use Rattle.numbers.specs.Numbers.{defected}
use mathlib.Core.Path.{refl, ap, ◌∙◌}
use Rattle.volume.proofs.JudgeLaws.{ermap_broken, ermap_whole, whole_after, behind_7}
use Rattle.volume.proofs.judge_defects.Goals as goal

pub returns-in-Some : goal.returns-in-Some
returns-in-Some c =
    let s = c.args.image.now in
    let f = c.ermap_fault.ensures ∙ ap (λ (h : List ℕ). fault_in (lowest_fault (ermap_rules c.from.result h))) c.index_body-e.ensures.0 in
    ap Err c.at.ensures ∙ ermap_broken s c.args.g c.requires.2 c.from.result _ c.from.ensures (fault_is _ c.in-Some.is f) (fault_some _ c.in-Some.is f)

pub with_defects-requires : goal.with_defects-requires
with_defects-requires c =
    let s = c.args.image.now in
    let f = c.ermap_fault.ensures ∙ ap (λ (h : List ℕ). fault_in (lowest_fault (ermap_rules c.from.result h))) c.index_body-e.ensures.0 in
    let z : lowest_fault (ermap_rules c.from.result (ermap_of s)) ≤ 0 = omega (arith, faultless _ c.in_default.is f) in
    let z = ermap_whole s c.args.g c.requires.2 c.from.result _ c.from.ensures refl z in
    (c.index_body-e.ensures.1, ap (λ (h : List ℕ). lowest_fault (ermap_rules c.args.g.L h)) c.index_body-e.ensures.0 ∙ z)

pub judge_slots-requires : goal.judge_slots-requires
judge_slots-requires c =
    let s = c.args.image.now in
    let n = c.with_defects.ensures ∙ ap (defected c.args.g) c.index_body-e.ensures.0 in
    whole_after s c.args.g c.requires.2 c.from.result _ c.from.ensures refl _ n c.requires.1 c.requires.3

pub returns : goal.returns
returns c =
    let s = c.args.image.now in
    let f = c.ermap_fault.ensures ∙ ap (λ (h : List ℕ). fault_in (lowest_fault (ermap_rules c.from.result h))) c.index_body-e.ensures.0 in
    let z : lowest_fault (ermap_rules c.from.result (ermap_of s)) ≤ 0 = omega (arith, faultless _ c.in_default.is f) in
    let n = c.with_defects.ensures ∙ ap (defected c.args.g) c.index_body-e.ensures.0 in
    behind_7 s c.args.g c.requires.2 c.from.result _ c.from.ensures refl _ n _ z c.judge_slots.ensures
