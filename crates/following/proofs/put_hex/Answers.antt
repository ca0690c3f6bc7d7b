-- Byte after byte: what puts the rest from here puts the whole.
-- Assumes nothing.
use native.Mathlib.Omega.{arith}
use Rattle.text.proofs.LaidLaws.{rest_more, rest_end}
use Rattle.following.proofs.Laws.{hex_more, hex_end}
use Rattle.following.proofs.put_hex.Goals as goal

pub loop-b-preserved : goal.loop-b-preserved
loop-b-preserved c =
    let w = c.loop-b in
    let p = c.put_pair.ensures in
    (omega (arith, p.within), rest_more w.invariant.1 (hex_more c.args.body.now w.b-index (omega arith)) p)

pub returns : goal.returns
returns c =
    let w = c.loop-b in
    rest_end w.invariant.1 (hex_end c.args.body.now w.b-index (omega arith)) (omega arith)
