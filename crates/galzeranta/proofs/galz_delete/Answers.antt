-- What was deleted, and its number.
-- Assumes nothing.
use mathlib.Core.Path.{ap, ◌∙◌}
use Rattle.standard.specs.Packed.{packed_counted}
use Rattle.galzeranta.proofs.galz_delete.Goals as goal

pub returns : goal.returns
returns c =
    let said = c.delete.ensures in
    (c.pack_number.ensures.counted ∙ ap packed_counted said.0, said.1)
