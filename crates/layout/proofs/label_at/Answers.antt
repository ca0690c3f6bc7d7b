-- `label_at` meets its contract.
-- Assumes nothing.
use mathlib.Core.Path.{ap, ◌∙◌}
use Rattle.layout.specs.Parts.{stands_at}
use Rattle.layout.proofs.Laws.{label_part}
use Rattle.layout.proofs.label_at.Goals as goal

pub returns : goal.returns
returns c =
    let o = c.label_offset.ensures.0 in
    let b = c.body_of.ensures in
    (b.0 ∙ label_part _ _ _ _ o, b.1, b.2 ∙ ap (stands_at c.args.image) o)
