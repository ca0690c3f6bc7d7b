-- `size_in` meets its contract.
-- Assumes nothing.
use mathlib.Core.Path.{ap, ◌∙◌}
use Rattle.index.specs.declared.Extent.{Extent}
use Rattle.vacancy.proofs.FreeLaws.{size_is}
use native.Mathlib.Omega.{arith}
use Rattle.vacancy.proofs.size_in.Goals as goal

pub returns : goal.returns
returns c = (size_is _ _ _ _ _ _ c.minus.ensures (c.from.ensures ∙ ap (λ (x : Extent). x.end) c.extent_in-x.ensures) (c.from-2.ensures ∙ ap (λ (x : Extent). x.start) c.extent_in-x.ensures), omega arith)
