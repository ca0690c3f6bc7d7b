-- A body over the blocks: where the writer stands at the end is the same from every block on.
-- Assumes nothing.
use Prim.Native.Nat.{ℕ, suc, ◌+◌, ◌-◌}
use mathlib.Core.Path.{refl, sym, ap, ◌∙◌}
use native.Mathlib.Omega.{arith}
use native.Mathlib.Numerals.{add-one}
use Rattle.promises.specs.Writing.NeededLaws.{spread_to}
use Rattle.promises.proofs.Writing.NeededLaws.{spread_ends, spread_goes_on}
use Rattle.sizing.proofs.LevelLaws.{takes_one, stands_as}
use Rattle.sizing.proofs.spread.Goals as goal

pub loop-room-preserved : goal.loop-room-preserved
loop-room-preserved c =
    let x = c.args in
    let w = c.loop-room in
    let t = takes_one x.B w.room w.n (omega arith) w.invariant.1 w.invariant.2 in
    let n = w.n - (w.room - 5) in (
      ap (λ (k : ℕ). spread_to (suc n) x.B x.B k n) (add-one w.blocks) ∙ (sym (spread_goes_on x.B w.room w.blocks w.n (omega arith) w.invariant.1 w.invariant.2) ∙ w.invariant.0),
      t.1,
      t.1,
      omega (arith, t.0, w.invariant.3),
      omega arith,
      omega arith,
    )

pub returns : goal.returns
returns c =
    let x = c.args in
    let w = c.loop-room in
    let e = sym w.invariant.0 ∙ spread_ends x.B w.room w.blocks w.n (omega arith) in
    (stands_as (record { room = w.room - (5 + w.n); blocks = w.blocks }) e (refl, refl), omega (arith, w.invariant.4), omega (arith, w.invariant.3))
