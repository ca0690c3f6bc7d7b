-- The parts in a row.
-- Assumes nothing.
use native.Mathlib.Omega.{arith}
use Rattle.text.proofs.LaidLaws.{writes_as, writes_more}
use Rattle.lines.specs.Parts.{numbers_shown}
use Rattle.lines.proofs.put_numbers.Goals as goal

pub returns : goal.returns
unfolding numbers_shown
returns c =
    let named = writes_more c.named.ensures (writes_more c.named-2.ensures (writes_more c.named-3.ensures (writes_more c.named-4.ensures c.named-5.ensures))) in
    writes_as (omega arith) (cc) named
