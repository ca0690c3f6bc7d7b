-- What was laid, and what was set.
-- Assumes nothing.
use Rattle.writing.proofs.WriteLaws.{plan_legal, plan_sized, plan_storable, plan_room, plan_done}
use Rattle.writing.proofs.carry_out.Goals as goal

pub to_good-c-requires : goal.to_good-c-requires
to_good-c-requires c =
    let a = c.args in
    plan_legal a.g a.image.now a.slot a.bodies.now a.lengths.now a.p c.requires

pub store-requires : goal.store-requires
store-requires c =
    let a = c.args in
    let k = plan_storable a.g a.image.now a.slot a.bodies.now a.lengths.now a.p c.requires in
    (plan_sized a.g a.image.now a.slot a.bodies.now a.lengths.now a.p c.requires, c.to_good-c.ensures.1, k.0, k.1, k.2, k.3, (λ e. (_, k.4 e)), k.5)

pub set_label-requires : goal.set_label-requires
set_label-requires c =
    let x = c in
    let a = x.args in
    let t = c.to_good-c in
    let s = c.store in
    plan_room a.g a.image.now a.slot a.bodies.now a.lengths.now a.p x.requires t.result s.new.image t.ensures.0 s.ensures

pub returns : goal.returns
returns c =
    let x = c in
    let a = x.args in
    let t = c.to_good-c in
    let s = c.store in
    let l = c.set_label in
    plan_done a.g a.image.now a.slot a.bodies.now a.lengths.now a.p x.requires t.result s.new.image t.ensures.0 s.ensures l.new.image l.ensures
