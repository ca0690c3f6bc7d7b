-- Slot after slot: what puts the lines of the slots from here on puts all.
use Prim.Native.Nat.{◌+◌, ◌*◌, ◌-◌, ◌≤◌}
use Rattle.standard.specs.Layout.{slot_count}
use Rattle.standard.specs.Listing.{lines_from}
use Rattle.text.proofs.LaidLaws.{Rest}
use Rattle.lines.proofs.label_lines.Given as goal

abbrev pub invariant-loop-slot : goal.invariant-loop-slot
invariant-loop-slot l = (l.slot ≤ slot_count l.g + 1) × (l.text.at + 148 ≤ l.fn.text.at + 148 * l.slot) × Rest l.fn.text (lines_from l.g l.image (slot_count l.g) 1) l.text (lines_from l.g l.image (slot_count l.g + 1 - l.slot) l.slot)
