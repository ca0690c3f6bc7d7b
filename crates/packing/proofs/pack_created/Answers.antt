-- `pack_created` meets its contract, case by case; what has room is known of the case.
-- Assumes nothing.
use mathlib.Core.Path.{sym, ap, subst, ◌∙◌}
use native.Mathlib.Omega.{arith}
use Rattle.standard.specs.Packed.{packed_created}
use Rattle.packing.specs.Room.{CreatedFits}
use Rattle.packing.proofs.pack_created.Goals as goal

pub overflow_mul-result : goal.overflow_mul-result
overflow_mul-result c = omega (arith, subst CreatedFits c.in-Ok.is c.requires)

pub overflow_mul-result-in-Ok : goal.overflow_mul-result-in-Ok
overflow_mul-result-in-Ok c = omega (arith, subst CreatedFits c.in-Ok.is c.requires)

pub overflow_mul-result-in-Ok-2 : goal.overflow_mul-result-in-Ok-2
overflow_mul-result-in-Ok-2 c = omega (arith, subst CreatedFits c.in-Ok.is c.requires)

pub overflow_add-result : goal.overflow_add-result
overflow_add-result c = omega (arith, subst CreatedFits c.in-Ok.is c.requires)

pub overflow_add-result-in-Ok : goal.overflow_add-result-in-Ok
overflow_add-result-in-Ok c = omega (arith, subst CreatedFits c.in-Ok.is c.requires)

pub overflow_add-result-in-Ok-2 : goal.overflow_add-result-in-Ok-2
overflow_add-result-in-Ok-2 c = omega (arith, subst CreatedFits c.in-Ok.is c.requires)

pub returns-in-Err : goal.returns-in-Err
unfolding packed_created
returns-in-Err c = c.pack_refusal.ensures ∙ sym (ap packed_created c.in-Err.is)

pub returns-in-Ok : goal.returns-in-Ok
unfolding packed_created
returns-in-Ok c = sym (ap packed_created c.in-Ok.is)
