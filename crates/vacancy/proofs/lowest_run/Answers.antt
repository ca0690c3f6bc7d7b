-- `lowest_run` meets its contract: the row holds the extents of the slots passed, in the end of all.
-- Assumes nothing.
use native.Mathlib.Omega.{arith}
use borrow.Author.Rules.{rules}
use Rattle.index.proofs.ExtentLaws.{known_next}
use Rattle.volume.proofs.NumberLaws.{slotted_of}
use Rattle.vacancy.proofs.lowest_run.Goals as goal

pub extent_in-x-requires : goal.extent_in-x-requires
extent_in-x-requires c = (slotted_of _ _ c.requires.0, omega arith, omega arith)

pub bounds-extents-slot : goal.bounds-extents-slot
bounds-extents-slot c = omega (arith, (slotted_of c.args.image.now c.args.g c.requires.0).whole.few)

pub loop-slot-preserved : goal.loop-slot-preserved
loop-slot-preserved c =
    let a = c.args in
    let w = c.loop-slot in
    let few = (slotted_of a.image.now a.g c.requires.0).whole.few in
    (search rules, known_next a.g a.image.now w.extents w.slot c.extent_in-x.result (omega arith) (omega (arith, few)) w.invariant.1 c.extent_in-x.ensures)
