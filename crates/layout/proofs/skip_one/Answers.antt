-- `skip_one` meets its contract: its test is the sentence's.
-- Assumes nothing.
use Rattle.layout.proofs.Laws.{skip_taken, skip_left}
use native.Mathlib.Omega.{arith}
use Rattle.layout.proofs.skip_one.Goals as goal

pub returns-then-present-d : goal.returns-then-present-d
returns-then-present-d c = let x = c.args in (skip_taken x.d x.n c.if-present-d.true, omega arith, omega arith)

pub returns : goal.returns
returns c = let x = c.args in (skip_left x.d x.n c.if-present-d.false, omega arith, omega arith)
