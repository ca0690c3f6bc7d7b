-- `physical_of` meets its contract.
-- Assumes nothing.
use Rattle.layout.proofs.Laws.{skips_two}
use native.Mathlib.Omega.{arith}
use Rattle.layout.proofs.physical_of.Goals as goal

pub returns : goal.returns
returns c =
    let x = c.args in
    (skips_two x.g x.c _ _ _ _ c.from.ensures c.skip_one-q.ensures.0 c.from-2.ensures c.skip_one.ensures.0, omega arith, omega arith)
