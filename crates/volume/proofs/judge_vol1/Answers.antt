-- `judge_vol1` meets its contract: VOL1 at fault, not open, and its numbers.
-- Assumes nothing.
use Rattle.std.specs.Prelude.{Err}
use Prim.Native.Nat.{ℕ}
use mathlib.Core.List.{List}
use lib.ListN.{get_or}
use Rattle.standard.specs.Rules.{lowest_fault}
use Rattle.standard.specs.Volume.{vol1_rules}
use Rattle.standard.specs.Layout.{vol1_of}
use Rattle.fields.specs.Numbers.{fault_in}
use Rattle.fields.proofs.RowLaws.{faultless, fault_is, fault_some}
use Rattle.numbers.specs.Numbers.{bare}
use native.Mathlib.Omega.{arith}
use mathlib.Core.Path.{◌≡◌, sym, ap, ◌∙◌}
use Rattle.volume.proofs.JudgeLaws.{vol1_broken, not_open, behind_4}
use borrow.Author.Rules.{rules}
use Rattle.volume.proofs.judge_vol1.Goals as goal

pub returns-in-Some : goal.returns-in-Some
returns-in-Some c =
    let s = c.args.image.now in
    let f = c.vol1_fault.ensures ∙ ap (λ (h : List ℕ). fault_in (lowest_fault (vol1_rules h))) c.index_body-v.ensures.0 in
    ap Err c.at.ensures ∙ vol1_broken s _ (fault_is _ c.in-Some.is f) (fault_some _ c.in-Some.is f)

pub returns-then-access-ne32 : goal.returns-then-access-ne32
returns-then-access-ne32 c =
    let s = c.args.image.now in
    let f = c.vol1_fault.ensures ∙ ap (λ (h : List ℕ). fault_in (lowest_fault (vol1_rules h))) c.index_body-v.ensures.0 in
    let z : lowest_fault (vol1_rules (vol1_of s)) ≡ 0 = faultless _ c.in_default.is f in
    let o = c.from-access.ensures ∙ ap (λ (h : List ℕ). get_or h 10 0) c.index_body-v.ensures.0 in
    ap Err c.at-then-access-ne32.ensures ∙ not_open s (omega (arith, z)) (λ q. c.if-access-ne32.true (o ∙ q))

pub vol1_numbers-requires : goal.vol1_numbers-requires
vol1_numbers-requires c = (search rules, faultless _ c.in_default.is c.vol1_fault.ensures)

pub judge_sectors-requires : goal.judge_sectors-requires
judge_sectors-requires c =
    let s = c.args.image.now in
    let f = c.vol1_fault.ensures ∙ ap (λ (h : List ℕ). fault_in (lowest_fault (vol1_rules h))) c.index_body-v.ensures.0 in
    let z : lowest_fault (vol1_rules (vol1_of s)) ≡ 0 = faultless _ c.in_default.is f in
    (c.requires, z, c.vol1_numbers.ensures ∙ ap bare c.index_body-v.ensures.0)

pub returns : goal.returns
returns c =
    let s = c.args.image.now in
    let f = c.vol1_fault.ensures ∙ ap (λ (h : List ℕ). fault_in (lowest_fault (vol1_rules h))) c.index_body-v.ensures.0 in
    let z : lowest_fault (vol1_rules (vol1_of s)) ≡ 0 = faultless _ c.in_default.is f in
    let o = c.from-access.ensures ∙ ap (λ (h : List ℕ). get_or h 10 0) c.index_body-v.ensures.0 in
    behind_4 s (omega (arith, z)) _ (sym o ∙ c.if-access-ne32.false) c.judge_sectors.ensures
