-- The volume line, then the labels'.
-- Assumes nothing.
use mathlib.Core.Path.{refl}
use native.Mathlib.Omega.{arith}
use Rattle.text.proofs.LaidLaws.{writes_as, writes_more}
use Rattle.lines.proofs.Laws.{long_enough}
use Rattle.lines.proofs.volume_lines.Goals as goal

pub volume_line-requires : goal.volume_line-requires
volume_line-requires c =
    let x = c.args in
    (omega arith, long_enough x.image.now x.g c.requires.1, c.free_in.ensures)

pub returns : goal.returns
returns c = writes_as (omega arith) refl (writes_more c.volume_line.ensures c.label_lines.ensures)
