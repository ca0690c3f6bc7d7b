-- `lowest_deleted` meets its contract: deleted from here on is deleted from the first slot.
use mathlib.Core.Path.{◌≡◌}
use Prim.Native.Nat.{◌+◌, ◌-◌}
use Rattle.standard.specs.Layout.{slot_count}
use Rattle.standard.specs.Creating.{deleted_from, lowest_deleted}
use Rattle.vacancy.proofs.lowest_deleted.Given as goal

abbrev pub invariant-loop-slot : goal.invariant-loop-slot
invariant-loop-slot l = lowest_deleted l.g l.image ≡ deleted_from l.g l.image (slot_count l.g + 1 - l.slot) l.slot
