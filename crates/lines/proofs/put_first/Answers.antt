-- The parts in a row.
-- Assumes nothing.
use native.Mathlib.Omega.{arith}
use Rattle.text.proofs.LaidLaws.{writes_as, writes_more}
use Rattle.lines.specs.Parts.{first_fields}
use Rattle.lines.proofs.put_first.Goals as goal

pub returns : goal.returns
unfolding first_fields
returns c = writes_as (omega arith) (cc) (writes_more c.number.ensures (writes_more c.byte.ensures (writes_more c.bytes.ensures c.bytes-2.ensures)))
