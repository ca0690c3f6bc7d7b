-- `slots` meets its contract: judged from here on is judged from the first slot.
use Rattle.std.proofs.Common.{◌≡◌, ◌+◌, ◌-◌}
use Rattle.standard.specs.Layout.{slot_count}
use Rattle.standard.specs.Slots.{slots_from}
use Rattle.index.proofs.slots.Given as goal

abbrev pub invariant-loop-slot : goal.invariant-loop-slot
invariant-loop-slot l = slots_from l.g l.image (slot_count l.g) 1 ≡ slots_from l.g l.image (slot_count l.g + 1 - l.slot) l.slot
