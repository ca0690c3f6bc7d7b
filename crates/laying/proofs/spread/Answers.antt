-- From segment to segment: what is to be laid from here is what was to be laid from the start.
-- Assumes nothing.
use Prim.Native.Nat.{◌-◌}
use mathlib.Core.Path.{sym, ◌∙◌}
use native.Mathlib.Omega.{arith}
use Rattle.promises.proofs.Writing.NeededLaws.{least_most, six_left}
use Rattle.laying.proofs.DeskLaws.{segment_on, segment_end}
use Rattle.laying.proofs.spread.Goals as goal

pub loop-room-preserved : goal.loop-room-preserved
loop-room-preserved c =
    let w = c.loop-room in
    let o = six_left w.n w.room c.args.s.B c.loop-room-test.true w.invariant.6 w.invariant.7 in
    let a = c.args in
    let k = w.room - 5 in
    let t = c.lay_segment-p in
    let f = least_most (w.n - k) in
    let on = segment_on a.g a.s.size a.s.B a.bodies.now w.image t.new.image w.p t.result w.room w.rest w.from w.n w.begun
    w.invariant.8 c.loop-room-test.true w.invariant.6 w.invariant.7 w.invariant.3 t.ensures in (
      λ more tail. w.invariant.0 more tail ∙ on more tail,
      t.ensures.1,
      t.ensures.1.0.0 ∙ sym c.requires.1.0.0.0,
      c.requires.0.0,
      omega arith,
      omega arith,
      omega arith,
      omega arith,
      omega (arith, w.invariant.8),
      omega (arith, w.invariant.9),
    )

pub returns : goal.returns
returns c =
    let w = c.loop-room in
    let a = c.args in
    let t = c.lay_segment-q in
    let on = segment_end a.g a.s.size a.s.B a.bodies.now w.image t.new.image w.p t.result w.room w.rest w.from w.n w.begun
    w.invariant.8 c.loop-room-test.false t.ensures in (
      λ more tail. w.invariant.0 more tail ∙ on more tail,
      (t.ensures.1, omega (arith, w.invariant.3), omega (arith, w.invariant.4), omega (arith, w.invariant.5)),
    )
