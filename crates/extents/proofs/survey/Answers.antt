-- The walk from the start is the walk from here.
-- Assumes nothing.
use Rattle.std.specs.Prelude.{Err}
use Rattle.standard.specs.Refusals.{refuse}
use Prim.Native.Nat.{◌-◌}
use mathlib.Core.Path.{◌≡◌, sym, ap, ◌∙◌}
use mathlib.Core.Bool.{false}
use native.Mathlib.Omega.{arith}
use Rattle.standard.specs.Addresses.{stepped}
use Rattle.standard.specs.Files.{addresses_from, is_defective, is_wrong}
use Rattle.layout.proofs.TrackLaws.{legal_small}
use Rattle.extents.specs.Surveys.{surveyed}
use Rattle.extents.proofs.CursorLaws.{walk_here, flaw_wrong, flaw_defective, flaw_good}
use Rattle.extents.proofs.SurveyLaws.{survey_hole, survey_good, survey_stop, survey_end}
use Rattle.extents.proofs.survey.Goals.{in-Defective, in-Good}
use Rattle.extents.proofs.survey.Goals as goal

pub returns-then-from-eq0 : goal.returns-then-from-eq0
returns-then-from-eq0 c =
    let x = c.args in
    sym (survey_end x.g x.image.now false x.from.left x.from.at (omega (arith, c.if-from-eq0.true)))

pub flaw_of-requires : goal.flaw_of-requires
flaw_of-requires c = walk_here _ _ c.loop-w.invariant.1 c.loop-w-test.true

pub ordinal_of-requires : goal.ordinal_of-requires
ordinal_of-requires c =
    let w = c.loop-w in
    legal_small _ w.w.at (omega arith) (omega arith) (omega arith) (walk_here _ _ w.invariant.1 c.loop-w-test.true).0

pub returns-in-Wrong : goal.returns-in-Wrong
returns-in-Wrong c =
    let x = c.args in
    let w = c.loop-w in
    let f = flaw_wrong (is_wrong x.g x.image.now w.w.at) (is_defective x.g x.image.now w.w.at) (sym c.flaw_of.ensures ∙ c.in-Wrong.is) in
    sym (w.invariant.0 ∙ survey_stop x.g x.image.now w.holed w.w.left w.w.at c.loop-w-test.true f ∙ sym (ap Err (c.at.ensures ∙ ap (refuse 17) c.ordinal_of.ensures.0)))

pub loop-w-preserved : goal.loop-w-preserved
loop-w-preserved c =
    let x = c.args in
    let w = c.loop-w in
    let s = c.step-w.ensures in
    let wrong = is_wrong x.g x.image.now w.w.at in
    let defective = is_defective x.g x.image.now w.w.at in
    let look = sym c.flaw_of.ensures in
    let rest = addresses_from x.g (w.w.left - 1) (stepped x.g w.w.at) in
    let more : surveyed x.g x.image.now w.holed (addresses_from x.g w.w.left w.w.at) ≡ surveyed x.g x.image.now c.match-flaw_of.holed rest = elim c.match-flaw_of.branch [
      | in-Defective v ↦ rw v.holed-is (survey_hole x.g x.image.now w.holed w.w.left w.w.at c.loop-w-test.true (flaw_defective wrong defective (look ∙ v.in-Defective.is)))
      | in-Good v ↦ rw v.holed-is (survey_good x.g x.image.now w.holed w.w.left w.w.at c.loop-w-test.true (flaw_good wrong defective (look ∙ v.in-Good.is)))
    ] in
    (rw (s.1, s.2) (w.invariant.0 ∙ more), s.0)

pub returns : goal.returns
returns c =
    let x = c.args in
    let w = c.loop-w in
    sym (w.invariant.0 ∙ survey_end x.g x.image.now w.holed w.w.left w.w.at (omega arith))
