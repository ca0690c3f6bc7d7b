-- The size of the extent, and the store.
-- Assumes nothing.
use native.Mathlib.Omega.{arith}
use Rattle.volume.proofs.NumberLaws.{slotted_of}
use Rattle.finding.proofs.FindLaws.{room}
use Rattle.deleting.proofs.DropLaws.{dropped_slot, dropped_size}
use Rattle.deleting.proofs.drop_label.Goals as goal

pub size_in-freed-requires : goal.size_in-freed-requires
size_in-freed-requires c =
    let s = dropped_slot c.args.g c.args.image.now c.args.slot c.requires.1 in
    (slotted_of c.args.image.now c.args.g c.requires.0, s.0, s.1)

pub store_slot-requires : goal.store_slot-requires
store_slot-requires c =
    let s = dropped_slot c.args.g c.args.image.now c.args.slot c.requires.1 in
    (room c.args.g c.args.image.now c.args.slot (slotted_of c.args.image.now c.args.g c.requires.0) s.1, omega arith, omega arith)

pub returns : goal.returns
returns c =
    (dropped_size c.args.g c.args.image.now c.args.slot c.size_in-freed.result c.requires.1 c.size_in-freed.ensures.0, c.store_slot.ensures)
