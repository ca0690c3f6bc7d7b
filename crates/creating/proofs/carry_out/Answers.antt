-- The two addresses, the label with them, and the store.
-- Assumes nothing.
use Prim.Native.Nat.{◌+◌, ◌-◌}
use native.Mathlib.Omega.{arith}
use Rattle.creating.proofs.MakeLaws.{made_numbers, made_bytes, made_some, made_inside, made_few, made_small, made_room, made_whole, made_done}
use Rattle.creating.proofs.carry_out.Goals as goal

pub address_of-start-requires : goal.address_of-start-requires
address_of-start-requires c =
    let a = c.args in
    let m = made_numbers a.g a.image.now a.wanted.now a.n a.slot a.i c.requires in
    (m.0, m.1, omega (arith, made_inside a.g a.image.now a.wanted.now a.n a.slot a.i c.requires, made_few a.g a.image.now a.wanted.now a.n a.slot a.i c.requires))

pub overflow_sub-n : goal.overflow_sub-n
overflow_sub-n c =
    let a = c.args in
    made_some a.g a.image.now a.wanted.now a.n a.slot a.i c.requires

pub overflow_add-i : goal.overflow_add-i
overflow_add-i c =
    let a = c.args in
    omega (arith, made_inside a.g a.image.now a.wanted.now a.n a.slot a.i c.requires, made_few a.g a.image.now a.wanted.now a.n a.slot a.i c.requires)

pub address_of-requires : goal.address_of-requires
address_of-requires c =
    let a = c.args in
    let m = made_numbers a.g a.image.now a.wanted.now a.n a.slot a.i c.requires in
    (m.0, m.1, omega (arith, made_inside a.g a.image.now a.wanted.now a.n a.slot a.i c.requires, made_few a.g a.image.now a.wanted.now a.n a.slot a.i c.requires))

pub draft-label-requires : goal.draft-label-requires
draft-label-requires c =
    let a = c.args in
    let some = made_some a.g a.image.now a.wanted.now a.n a.slot a.i c.requires in
    let p = made_small a.g a.image.now a.wanted.now a.n a.slot a.i c.requires a.i c.address_of-start.result (omega arith) c.address_of-start.ensures in
    let q = made_small a.g a.image.now a.wanted.now a.n a.slot a.i c.requires (a.i + (a.n - 1)) c.address_of.result (omega arith) c.address_of.ensures in
    (made_bytes a.g a.image.now a.wanted.now a.n a.slot a.i c.requires, p.0, p.1, p.2, q.0, q.1, q.2)

pub store_slot-requires : goal.store_slot-requires
store_slot-requires c =
    let a = c.args in
    (made_room a.g a.image.now a.wanted.now a.n a.slot a.i c.requires, made_whole a.g a.image.now a.wanted.now a.n a.slot a.i c.requires c.draft-label.result _ _ c.draft-label.ensures, omega arith)

pub returns : goal.returns
returns c =
    let a = c.args in
    made_done a.g a.image.now a.wanted.now a.n a.slot a.i c.requires c.address_of-start.result c.address_of.result c.draft-label.result c.store_slot.new.image c.address_of-start.ensures c.address_of.ensures c.draft-label.ensures c.store_slot.ensures
