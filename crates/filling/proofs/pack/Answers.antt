-- `pack` meets its contract.
-- Assumes nothing.
use native.Mathlib.Omega.{arith}
use Rattle.filling.proofs.RunLaws.{pack_is}
use Rattle.filling.proofs.pack.Goals as goal

pub returns : goal.returns
returns c =
    let x = c.args in
    pack_is x.bytes.now x.from x.n x.zeros x.i x.body.now c.copy_run.new.out _ (omega arith) (omega arith) c.copy_run.ensures c.lay_fill.ensures
