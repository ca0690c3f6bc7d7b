-- `fill_only` meets its contract.
-- Assumes nothing.
use lib.ListN.{take}
use Rattle.blocks.specs.Streams.{stream}
use Rattle.pieces.proofs.WordLaws.{fill_yes, fill_no}
use Rattle.pieces.proofs.fill_only.Goals as goal

pub returns-then-all_fill : goal.returns-then-all_fill
returns-then-all_fill c = let x = c.args in fill_yes c.all_fill.result (take x.n (stream x.g x.image.now x.c x.i)) c.all_fill.ensures c.if-all_fill.true

pub returns : goal.returns
returns c = let x = c.args in fill_no c.all_fill.result (take x.n (stream x.g x.image.now x.c x.i)) c.all_fill.ensures c.if-all_fill.false
