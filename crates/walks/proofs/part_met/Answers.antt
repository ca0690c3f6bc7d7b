-- A segment, or a record of F or V.
-- Assumes nothing.
use mathlib.Core.Path.{sym, ◌∙◌}
use native.Mathlib.Omega.{arith}
use Rattle.opening.proofs.OpenedLaws.{facts}
use Rattle.walks.proofs.StandLaws.{meet_as}
use Rattle.walks.proofs.WalkLaws.{small, turned_takes, turned_breach}
use Rattle.walks.proofs.part_met.Goals as goal

pub meet-moved-requires : goal.meet-moved-requires
meet-moved-requires c =
    let x = c.args in
    let p = c.requires in
    let k = facts x.image.now x.f p.0.0 in
    (omega (arith, p.0.1.3, p.0.1.2, p.0.2, k.count_few), omega (arith, c.minus.ensures, small x.image.now x.f x.w p.0 x.role x.size p.1))

pub overflow_add-place : goal.overflow_add-place
overflow_add-place c =
    let x = c.args in
    let p = c.requires in
    let k = facts x.image.now x.f p.0.0 in
    omega (arith, small x.image.now x.f x.w p.0 x.role x.size p.1, p.0.1.2, p.0.2, k.count_few)

pub returns-in-Deliver : goal.returns-in-Deliver
returns-in-Deliver c =
    let x = c.args in
    let p = c.requires in
    turned_takes x.image.now x.f x.w p.0 x.role x.size p.1 x.mode _ _ c.behind.result (meet_as x.f.form x.f.R x.w.stand x.role x.size x.w.place.block _ _ _ _ c.limit.ensures c.head.ensures c.minus.ensures (sym c.in-Deliver.is ∙ c.meet-moved.ensures)) c.behind.ensures

pub returns-in-Breach : goal.returns-in-Breach
returns-in-Breach c =
    let x = c.args in
    let p = c.requires in
    turned_breach x.image.now x.f x.w p.0 x.role x.size p.1 x.mode c.broken_at.result (meet_as x.f.form x.f.R x.w.stand x.role x.size x.w.place.block _ _ _ _ c.limit.ensures c.head.ensures c.minus.ensures (sym c.in-Breach.is ∙ c.meet-moved.ensures)) c.broken_at.ensures
