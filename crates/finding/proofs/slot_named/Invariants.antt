-- `slot_named` meets its contract: found from here on is found from the first slot.
use Prim.Native.Nat.{◌+◌, ◌-◌}
use mathlib.Core.Path.{◌≡◌}
use Rattle.standard.specs.Layout.{slot_count}
use Rattle.standard.specs.Finding.{found_from}
use Rattle.finding.specs.Slot.{slot_in, slot_named}
use Rattle.finding.proofs.slot_named.Given as goal

abbrev pub invariant-loop-slot : goal.invariant-loop-slot
invariant-loop-slot l = slot_named l.g l.image l.name ≡ slot_in (found_from l.g l.image l.name (slot_count l.g + 1 - l.slot) l.slot)
