-- The next block, from the seat of this one.
-- Assumes nothing.
use mathlib.Core.Path.{refl}
use Rattle.walks.specs.declared.Walk.{Walk}
use Rattle.walks.proofs.StandLaws.{entered_next}
use Rattle.walks.proofs.WalkLaws.{walking_next}
use Rattle.walks.proofs.next.Goals as goal

pub returns : goal.returns
returns c =
    let x = c.args in
    let p = c.requires in
    let n = entered_next c.next_block.result x.w.place x.f.count c.next_block.ensures p.0.2 in
    let v : Walk = record { place = c.next_block.result; at = c.seat_at-there.result.at; stand = x.stand } in
    (walking_next x.image.now x.f v x.w.place.block n.0 n.1 c.seat_at-there.ensures.0 p.0.2 p.1, n.0, n.1, refl)
