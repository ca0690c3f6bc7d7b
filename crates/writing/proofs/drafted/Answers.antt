-- What the walk and the lengths say, then 27.
-- Assumes nothing.
use Rattle.std.specs.Prelude.{Ok}
use Prim.Native.Nat.{ℕ}
use mathlib.Core.Path.{refl, sym, ap, subst, ◌∙◌}
use mathlib.Core.List.{List}
use lib.ListN.{length}
use native.Mathlib.Omega.{arith}
use Rattle.standard.proofs.RefusalLaws.{handed_on}
use Rattle.standard.specs.Labels.{format_of, block_length}
use Rattle.promises.specs.Volumes.VolumeNumbers.{numbers_of_lem}
use Rattle.promises.specs.Writing.NeededLaws.{EachFits}
use Rattle.labels.specs.Forms.{form_in}
use Rattle.files.specs.Numbers.{numbers_of}
use Rattle.files.proofs.Accepted.{ready}
use Rattle.writing.specs.Plans.{plan_of}
use Rattle.writing.proofs.PlanLaws.{walk_stops, faults_are, whole_is, sum_right, fits_each, draft_stop, draft_on}
use Rattle.writing.proofs.drafted.Goals as goal

pub numbers_of-n-requires : goal.numbers_of-n-requires
numbers_of-n-requires c =
    let a = c.args in
    let p = c.requires in
    let h = a.image.now in
    (p.4, (numbers_of_lem h a.g p.0).size_low)

pub survey-requires : goal.survey-requires
survey-requires c =
    let a = c.args in
    let p = c.requires in
    let h = a.image.now in
    let n = c.numbers_of-n in
    let en = n.ensures ∙ ap (numbers_of a.g) p.3 in
    (ready h a.g a.slot p.0 p.1 p.2 n.result en).3

pub returns-in_err-whole : goal.returns-in_err-whole
returns-in_err-whole c =
    let a = c.args in
    let p = c.requires in
    let h = a.image.now in
    let n = c.numbers_of-n in
    let en = n.ensures ∙ ap (numbers_of a.g) p.3 in
    handed_on _ _ c.from_residual.ensures
    ∙ draft_stop h a.g a.slot p.0 p.1 p.2 a.bodies.now a.lengths.now _ (walk_stops h a.g a.slot p.0 p.1 p.2 a.bodies.now a.lengths.now n.result en _ _ c.survey.ensures c.in_err-whole.was)
    (plan_of a.g h a.slot a.bodies.now a.lengths.now)

pub fitted-requires : goal.fitted-requires
fitted-requires c =
    let a = c.args in
    let p = c.requires in
    let h = a.image.now in
    let n = c.numbers_of-n in
    let en = n.ensures ∙ ap (numbers_of a.g) p.3 in
    let v = c.survey in
    let f = c.form_of in
    let t = c.list_fault in
    let es = faults_are h a.g a.slot p.0 p.1 p.2 a.bodies.now a.lengths.now n.result en v.result _ f.result (length a.bodies.now) v.ensures c.in_ok-whole.was (f.ensures ∙ ap (λ (l : List ℕ). form_in (format_of l)) p.3) refl in
    let ok = sym es ∙ (sym t.ensures ∙ c.in_ok-list_fault.was) in
    let sum = sum_right h a.g a.slot p.0 p.1 p.2 a.bodies.now a.lengths.now ok in (
      p.0,
      p.1,
      p.2,
      p.3,
      p.4,
      n.ensures,
      λ w. whole_is h a.g a.slot p.0 p.1 p.2 a.bodies.now a.lengths.now n.result en v.result v.ensures (c.in_ok-whole.was ∙ ap Ok w),
      subst (λ (l : List ℕ). EachFits (format_of l) (block_length l) a.lengths.now) (sym p.3) (fits_each h a.g a.slot p.0 p.1 p.2 a.bodies.now a.lengths.now ok),
      omega (arith, sum, c.well_formed.1.1.1.1.0, c.well_formed.1.1.1.1.1.0),
    )

pub returns-in_err-list_fault : goal.returns-in_err-list_fault
returns-in_err-list_fault c =
    let x = c in
    let a = x.args in
    let p = x.requires in
    let h = a.image.now in
    let n = c.numbers_of-n in
    let en = n.ensures ∙ ap (numbers_of a.g) p.3 in
    let v = c.survey in
    let f = c.form_of in
    let t = c.list_fault in
    let es = faults_are h a.g a.slot p.0 p.1 p.2 a.bodies.now a.lengths.now n.result en v.result _ f.result (length a.bodies.now) v.ensures c.in_ok-whole.was (f.ensures ∙ ap (λ (l : List ℕ). form_in (format_of l)) p.3) refl in
    handed_on _ _ c.from_residual-in_err-list_fault.ensures
    ∙ draft_stop h a.g a.slot p.0 p.1 p.2 a.bodies.now a.lengths.now _ (sym es ∙ (sym t.ensures ∙ c.in_err-list_fault.was)) (plan_of a.g h a.slot a.bodies.now a.lengths.now)

pub returns : goal.returns
returns c =
    let x = c in
    let a = x.args in
    let p = x.requires in
    let h = a.image.now in
    let n = c.numbers_of-n in
    let en = n.ensures ∙ ap (numbers_of a.g) p.3 in
    let v = c.survey in
    let f = c.form_of in
    let t = c.list_fault in
    let es = faults_are h a.g a.slot p.0 p.1 p.2 a.bodies.now a.lengths.now n.result en v.result _ f.result (length a.bodies.now) v.ensures c.in_ok-whole.was (f.ensures ∙ ap (λ (l : List ℕ). form_in (format_of l)) p.3) refl in
    let ok = sym es ∙ (sym t.ensures ∙ c.in_ok-list_fault.was) in
    c.fitted.ensures ∙ draft_on h a.g a.slot p.0 p.1 p.2 a.bodies.now a.lengths.now ok
