-- `first_illegal` meets its contract: the first that is illegal, or none of n.
-- Assumes nothing.
use Rattle.layout.proofs.RunLaws.{run_on, run_stops, run_over}
use native.Mathlib.Omega.{arith}
use Rattle.layout.proofs.first_illegal.Goals as goal

pub returns-then-not-is_kind : goal.returns-then-not-is_kind
returns-then-not-is_kind c =
    let a = c.args in
    run_stops a.image.now a.size a.k a.n a.first c.loop-i.i c.loop-i.invariant (omega arith) (cc)

pub loop-i-preserved : goal.loop-i-preserved
loop-i-preserved c =
    let a = c.args in
    run_on a.image.now a.size a.k a.n a.first c.loop-i.i c.loop-i.invariant (omega arith) (cc)

pub returns : goal.returns
returns c =
    let a = c.args in
    run_over a.image.now a.size a.k a.n a.first c.loop-i.i c.loop-i.invariant (omega arith) (omega arith)
