-- `turn_past` meets its contract.
-- Assumes nothing.
use native.Mathlib.Omega.{arith}
use Rattle.filling.proofs.PenLaws.{turn_stays, turn_goes}
use Rattle.filling.proofs.turn_past.Goals as goal

pub returns-then-next-eq0 : goal.returns-then-next-eq0
returns-then-next-eq0 c =
    let x = c.args in
    let p = c.requires in
    turn_stays x.g x.image.now x.p _ p.0 p.1 c.next_good-next.ensures.0 (omega arith)

pub returns : goal.returns
returns c =
    let x = c.args in
    let p = c.requires in
    let n = c.next_good-next.ensures in
    turn_goes x.g x.image.now x.p _ p.0 p.1 n.0 n.1 n.2 (omega arith) _ _ c.mark.ensures
