-- `pack_found` meets its contract, case by case; what has room is known of the case.
-- Assumes nothing.
use mathlib.Core.Path.{sym, ap, subst, ◌∙◌}
use native.Mathlib.Omega.{arith}
use Rattle.standard.specs.Packed.{packed_found}
use Rattle.packing.specs.Room.{FoundFits}
use Rattle.packing.proofs.pack_found.Goals as goal

pub overflow_mul-result : goal.overflow_mul-result
overflow_mul-result c = omega (arith, subst FoundFits c.in-Ok.is c.requires)

pub overflow_add-result : goal.overflow_add-result
overflow_add-result c = omega (arith, subst FoundFits c.in-Ok.is c.requires)

pub returns-in-Err : goal.returns-in-Err
unfolding packed_found
returns-in-Err c = c.pack_refusal.ensures ∙ sym (ap packed_found c.in-Err.is)

pub returns-in-Ok : goal.returns-in-Ok
unfolding packed_found
returns-in-Ok c = sym (ap packed_found c.in-Ok.is)
