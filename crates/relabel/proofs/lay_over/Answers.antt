-- Byte after byte.
-- Assumes nothing.
use Prim.Native.Nat.{ℕ}
use mathlib.Core.Path.{refl, ap, ◌∙◌}
use mathlib.Core.List.{List}
use lib.ListN.{get_or, set, length-set}
use native.Mathlib.Omega.{arith}
use Rattle.relabel.proofs.SpliceLaws.{over_more, over_all}
use Rattle.relabel.proofs.lay_over.Goals as goal

pub loop-i-init : goal.loop-i-init
loop-i-init c = (refl, refl)

pub loop-i-preserved : goal.loop-i-preserved
loop-i-preserved c =
    let x = c.args in
    let w = c.loop-i in
    let b = get_or x.bytes.now w.i 0 in (
      length-set w.part w.i b ∙ w.invariant.0,
      ap (λ (s : List ℕ). set s w.i b) w.invariant.1 ∙ over_more x.bytes.now x.part.now w.i (omega arith) (omega arith),
    )

pub returns : goal.returns
returns c =
    let x = c.args in
    let w = c.loop-i in
    w.invariant.1 ∙ over_all x.bytes.now x.part.now w.i (omega arith) (omega arith)
