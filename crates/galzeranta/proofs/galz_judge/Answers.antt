-- `galz_judge` meets its contract: what `volume::judge` and `packing::pack_judged` ensure.
-- Assumes nothing.
use mathlib.Core.Path.{ap, ◌∙◌}
use Rattle.standard.specs.Packed.{packed_judged}
use Rattle.galzeranta.proofs.galz_judge.Goals as goal

pub returns : goal.returns
returns c = c.pack_judged.ensures ∙ ap packed_judged c.judge.ensures
