-- Those counted, and those from here on, are all.
-- Assumes nothing.
use mathlib.Core.Path.{sym}
use native.Mathlib.Omega.{arith}
use Rattle.extents.proofs.CursorLaws.{walk_here, counts, one_at_most, good_length, good_empty}
use Rattle.extents.proofs.count_good.Goals as goal

pub returns-then-from-eq0 : goal.returns-then-from-eq0
returns-then-from-eq0 c = let x = c.args in sym (good_empty x.g x.image.now x.from.left x.from.at (omega (arith, c.if-from-eq0.true)))

pub is_defective-bad-requires : goal.is_defective-bad-requires
is_defective-bad-requires c = walk_here _ _ c.loop-w.invariant.1 c.loop-w-test.true

pub loop-w-preserved : goal.loop-w-preserved
loop-w-preserved c =
    let x = c.args in
    let w = c.loop-w in
    let s = c.step-w.ensures in
    let k = counts x.g x.image.now w.w.at c.is_defective-bad.result c.from-n.result c.is_defective-bad.ensures c.from-n.ensures in
    let more = good_length x.g x.image.now w.w.left w.w.at c.loop-w-test.true in
    (rw (s.1, s.2) (omega (arith, w.invariant.0, k, more)), s.0, omega (arith, s.2, w.invariant.2, one_at_most _ _ c.from-n.ensures))

pub returns : goal.returns
returns c =
    let x = c.args in
    let w = c.loop-w in
    omega (arith, w.invariant.0, good_empty x.g x.image.now w.w.left w.w.at (omega arith))
