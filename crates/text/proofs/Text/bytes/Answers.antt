-- Byte after byte: what puts the rest from here puts the whole.
-- Assumes nothing.
use lib.ListN.{drop_of_length-le}
use native.Mathlib.Omega.{arith}
use Rattle.text.proofs.LaidLaws.{rest_end, rest_byte}
use Rattle.text.proofs.Text.bytes.Goals as goal

pub loop-c-preserved : goal.loop-c-preserved
loop-c-preserved c =
    let w = c.loop-c in
    let p = c.byte.ensures in
    (omega (arith, p.puts.next), rest_byte c.args.text.now w.c-index w.invariant.1 (omega arith) p)

pub returns : goal.returns
returns c = rest_end c.loop-c.invariant.1 (drop_of_length-le c.args.text.now (omega arith)) (omega arith)
