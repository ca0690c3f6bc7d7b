-- The parts in a row.
-- Assumes nothing.
use native.Mathlib.Omega.{arith}
use Rattle.text.proofs.LaidLaws.{writes_as, writes_more}
use Rattle.lines.proofs.Laws.{other_is}
use Rattle.lines.proofs.other_line.Goals as goal

pub returns : goal.returns
returns c =
    let x = c.args in
    let end = writes_more c.bytes-2.ensures (writes_more c.put_extent.ensures c.bytes-3.ensures) in
    writes_as (omega arith) (other_is x.slot x.h.now) (writes_more c.number.ensures (writes_more c.bytes.ensures (writes_more c.byte.ensures end)))
