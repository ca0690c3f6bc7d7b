-- The refusal of a write as the returned number gives it.
-- Assumes nothing.
use Rattle.standard.specs.Packed.{most}
use Rattle.standard.specs.declared.Refusal.{Refusal}

-- "A first place above 2^32-1 is given as 2^32-1."
abbrev pub capped : Refusal → Refusal
capped r = record { number = r.number; first = most 32 r.first; second = r.second; third = r.third }
