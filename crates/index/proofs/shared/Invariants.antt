-- `shared` meets its contract: the row holds the extents of the slots passed.
use Rattle.std.proofs.Common.{◌≡◌, ◌-◌, length}
use Rattle.standard.specs.Layout.{slot_count}
use Rattle.standard.specs.Judgement.{shares}
use Rattle.index.specs.Extents.{Known}
use Rattle.index.proofs.ClashLaws.{Passing}
use Rattle.index.proofs.shared.Given as goal

abbrev pub invariant-loop-slot : goal.invariant-loop-slot
invariant-loop-slot l = (length l.extents ≡ 45) × Known l.g l.image l.extents (l.slot - 1) × Passing (shares l.g l.image) 11 (slot_count l.g) l.slot
