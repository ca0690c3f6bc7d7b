-- From record to record: what is to be laid from here is what was to be laid from the start.
-- Assumes nothing.
use mathlib.Core.Path.{sym, subst, ◌∙◌}
use native.Mathlib.Omega.{arith}
use Rattle.laying.specs.Ahead.{fits_as}
use Rattle.laying.proofs.DeskLaws.{record_on, record_fits, records_end}
use Rattle.laying.proofs.lay_records.Goals as goal

pub lay_record-d-requires : goal.lay_record-d-requires
lay_record-d-requires c =
    let w = c.loop-length in
    let a = c.args in
    let f = record_fits a.g a.s a.bodies.now a.lengths.now w.length-index w.from c.loop-length-test.true w.invariant.3 w.invariant.4 in
    (c.requires.0, w.invariant.1, subst (fits_as a.s.spanned a.s.B) (sym c.from-n.ensures) f.0, omega (arith, f.1), omega arith)

pub loop-length-preserved : goal.loop-length-preserved
loop-length-preserved c =
    let w = c.loop-length in
    let a = c.args in
    let r = c.lay_record-d in
    let f = record_fits a.g a.s a.bodies.now a.lengths.now w.length-index w.from c.loop-length-test.true w.invariant.3 w.invariant.4 in
    let on = record_on a.g a.s a.bodies.now a.lengths.now w.image r.new.image w.d r.result w.length-index w.from c.from-n.result c.loop-length-test.true c.from-n.ensures r.ensures in
    (λ tail. w.invariant.0 tail ∙ on tail, r.ensures.1, r.ensures.1.0.0.0 ∙ sym c.requires.1.0.0, omega (arith, f.2), f.3)

pub returns : goal.returns
returns c =
    let w = c.loop-length in
    let a = c.args in
    let t = c.put in
    let on = records_end a.g a.s a.bodies.now a.lengths.now w.image t.new.image w.d w.length-index w.from t.result c.loop-length-test.false t.ensures in
    ((λ tail. w.invariant.0 tail ∙ on tail), t.ensures.1)
