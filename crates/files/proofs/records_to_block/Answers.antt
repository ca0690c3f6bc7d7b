-- Assumes nothing.
use native.Mathlib.Omega.{arith}
use Rattle.standard.specs.Labels.{block_length}
use borrow.Author.Tests.{lt-ltb, le-ltb}
use Rattle.standard.specs.Files.{records_to_block}
use Rattle.files.proofs.records_to_block.Goals as goal

pub returns-then-p-b : goal.returns-then-p-b
unfolding records_to_block
returns-then-p-b c =
    let x = c.args in
    let e = c.block_length-b.ensures.0 in
    let p = c.from-p.ensures in
    simp (lt-ltb x.g.P (block_length x.h.now) (omega (arith, e, p))) (cc (e, p))

pub returns : goal.returns
unfolding records_to_block
returns c =
    let x = c.args in
    simp (le-ltb x.g.P (block_length x.h.now) (omega (arith, c.block_length-b.ensures.0, c.from-p.ensures)))
