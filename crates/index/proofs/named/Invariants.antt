-- `named` meets its contract: the row holds the numbers of the names passed.
use Rattle.std.proofs.Common.{◌≡◌, ◌-◌, length}
use Rattle.standard.specs.Layout.{slot_count}
use Rattle.standard.specs.Judgement.{namesake}
use Rattle.index.specs.Names.{Keyed}
use Rattle.index.proofs.ClashLaws.{Passing}
use Rattle.index.proofs.named.Given as goal

abbrev pub invariant-loop-slot : goal.invariant-loop-slot
invariant-loop-slot l = (length l.keys ≡ 45) × Keyed l.g l.image l.keys (l.slot - 1) × Passing (namesake l.g l.image) 12 (slot_count l.g) l.slot
