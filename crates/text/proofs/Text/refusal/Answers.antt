-- The parts in a row.
-- Assumes nothing.
use Prim.Native.Nat.{ℕ}
use mathlib.Core.Path.{ap}
use mathlib.Core.List.{◌++◌}
use native.Mathlib.Omega.{arith}
use Rattle.standard.specs.Characters.{bytes, shown}
use Rattle.text.proofs.LaidLaws.{writes_as, writes_more}
use Rattle.text.proofs.Text.refusal.Goals as goal

pub returns : goal.returns
returns c =
    let x = c.args in
    let e = ap (λ (n : ℕ). (x.name.now ++ shown n) ++ (bytes " " ++ shown x.r.first)) c.from.ensures in
    writes_as (omega arith) e (writes_more c.named.ensures c.named-2.ensures)
