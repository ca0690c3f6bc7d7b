-- A control word, and part of a body.
-- Assumes nothing.
use mathlib.Core.Path.{ap, ◌∙◌}
use Rattle.standard.specs.Packing.{role_byte}
use Rattle.laying.proofs.DeskLaws.{segment_laid, part_length}
use Rattle.laying.proofs.lay_segment.Goals as goal

pub returns : goal.returns
returns c =
    segment_laid _ _ _ _ _ _ _ _ _ _ _ c.args.zeros (part_length _ _ _ c.requires.1) (c.digit.ensures.0 ∙ ap role_byte c.role_of-role.ensures) c.put_segment-q.ensures c.put.ensures
