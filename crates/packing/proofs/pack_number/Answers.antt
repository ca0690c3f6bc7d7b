-- `pack_number` meets its contract, case by case.
-- Assumes nothing.
use mathlib.Core.Path.{sym, ap, ◌∙◌}
use Rattle.standard.specs.Packed.{packed_counted, packed_written}
use Rattle.packing.proofs.pack_number.Goals as goal

pub returns-in-Err : goal.returns-in-Err
unfolding packed_counted packed_written
returns-in-Err c =
    record {
      counted = c.pack_refusal.ensures ∙ sym (ap packed_counted c.in-Err.is);
      written = c.pack_refusal.ensures ∙ sym (ap packed_written c.in-Err.is);
    }

pub returns-in-Ok : goal.returns-in-Ok
unfolding packed_counted packed_written
returns-in-Ok c = record { counted = sym (ap packed_counted c.in-Ok.is); written = sym (ap packed_written c.in-Ok.is) }
