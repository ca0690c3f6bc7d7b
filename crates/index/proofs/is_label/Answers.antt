-- `is_label` meets its contract: the byte of kind tells.
-- Assumes nothing.
use Rattle.index.proofs.SlotLaws.{label_by_kind}
use Rattle.std.proofs.Common.{rules}
use Rattle.index.proofs.is_label.Goals as goal

pub returns : goal.returns
returns c = label_by_kind _ _ _ _ c.requires.0 (search rules) (search rules) c.slot_kind.ensures.0
