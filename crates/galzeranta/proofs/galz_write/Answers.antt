-- What was written, and its number.
-- Assumes nothing.
use mathlib.Core.Path.{ap, ◌∙◌}
use Rattle.standard.specs.Packed.{packed_written}
use Rattle.galzeranta.proofs.galz_write.Goals as goal

pub returns : goal.returns
returns c =
    let said = c.write.ensures in
    (c.pack_number.ensures.written ∙ ap packed_written said.0, said.1)
