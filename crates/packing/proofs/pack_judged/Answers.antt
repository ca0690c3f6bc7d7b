-- `pack_judged` meets its contract, case by case.
-- Assumes nothing.
use mathlib.Core.Path.{sym, ap, ◌∙◌}
use Rattle.standard.specs.Packed.{packed_judged}
use Rattle.packing.proofs.Laws.{volume_packed}
use Rattle.packing.proofs.pack_judged.Goals as goal

pub returns-in-Err : goal.returns-in-Err
unfolding packed_judged
returns-in-Err c = c.pack_refusal.ensures ∙ sym (ap packed_judged c.in-Err.is)

pub returns-in-Ok : goal.returns-in-Ok
returns-in-Ok c = search volume_packed
