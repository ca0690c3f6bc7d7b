-- What is left of the number, and of the lengths: they differ by as much all the way.
-- Assumes nothing.
use native.Mathlib.Omega.{arith}
use Rattle.promises.specs.Writing.StoreLaws.{total_drop}
use Rattle.sizing.proofs.LevelLaws.{sum_over, sum_end}
use Rattle.sizing.proofs.sums_to.Goals as goal

pub returns-then-left-n : goal.returns-then-left-n
returns-then-left-n c =
    let x = c.args in
    let w = c.loop-length in
    sum_over x.lengths.now w.length-index w.left x.size c.from-n.result (omega arith) c.from-n.ensures w.invariant (omega arith)

pub loop-length-preserved : goal.loop-length-preserved
loop-length-preserved c = omega (arith, total_drop c.args.lengths.now c.loop-length.length-index (omega arith))

pub returns : goal.returns
returns c =
    let x = c.args in
    let w = c.loop-length in
    sum_end x.lengths.now w.length-index w.left x.size (omega arith) w.invariant
