-- `galz_free` meets its contract: what `vacancy::free` and `packing::pack_counted` ensure.
-- Assumes nothing.
use mathlib.Core.Path.{ap, ◌∙◌}
use Rattle.standard.specs.Packed.{packed_counted}
use Rattle.galzeranta.proofs.galz_free.Goals as goal

pub returns : goal.returns
returns c = c.pack_number.ensures.counted ∙ ap packed_counted c.free.ensures
