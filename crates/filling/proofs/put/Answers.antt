-- `put` meets its contract.
-- Assumes nothing.
use Prim.Native.Nat.{◌+◌, ◌-◌, ◌≤◌, ◌<◌}
use mathlib.Core.Path.{sym, ◌∙◌}
use native.Mathlib.Omega.{arith}
use Rattle.filling.specs.Poured.{packed}
use Rattle.filling.proofs.PenLaws.{rest_packed, rest_lost}
use Rattle.filling.proofs.put.Goals as goal

pub returns-then-p-size : goal.returns-then-p-size
returns-then-p-size c =
    let x = c.args in
    let w = c.loop-p in
    let d = c.min-d.result in
    let k = c.from-size.result - w.p.i in
    let over : k < w.n + w.zeros = omega arith in
    let put = c.put_in-p in
    let turn = c.turn-p in
    let s = x.bytes.now in
    let all = packed s x.first x.count x.behind in
    rest_lost x.g x.image.now put.new.image turn.new.image x.start put.result turn.result all (packed s (w.from + d) (w.n - d) (w.zeros - (k - d)))
    (rest_packed x.g x.image.now w.image put.new.image turn.new.image x.start w.p put.result turn.result all s w.from w.n w.zeros k d w.invariant.1 c.min-d.ensures over w.invariant.6 put.ensures.0 turn.ensures)
    turn.ensures (c.if-p-size.true ∙ c.from-size.ensures)

pub loop-p-preserved : goal.loop-p-preserved
loop-p-preserved c =
    let x = c.args in
    let w = c.loop-p in
    let d = c.min-d.result in
    let k = c.from-size.result - w.p.i in
    let over : k < w.n + w.zeros = omega arith in
    let fewer : (w.n - d ≤ x.count) × (w.zeros - (k - d) ≤ x.behind) = (omega arith, omega arith) in
    let put = c.put_in-p in
    let turn = c.turn-p in
    let s = x.bytes.now in (
      turn.ensures.placed,
      omega arith,
      fewer.0,
      fewer.1,
      turn.ensures.placed.0.0 ∙ sym w.invariant.0.0.0 ∙ w.invariant.4,
      w.invariant.5,
      rest_packed x.g x.image.now w.image put.new.image turn.new.image x.start w.p put.result turn.result (packed s x.first x.count x.behind) s w.from w.n w.zeros k d w.invariant.1 c.min-d.ensures over w.invariant.6 put.ensures.0 turn.ensures,
    )
