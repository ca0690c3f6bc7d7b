-- In a block by its size, or behind the last.
-- Assumes nothing.
use borrow.Author.Tests.{lt-ltb, le-ltb}
use Rattle.opening.specs.Opened.{inside_by}
use Rattle.opening.proofs.in_file.Goals as goal

pub returns-then-block-count : goal.returns-then-block-count
unfolding inside_by
returns-then-block-count c =
    let x = c.args in
    simp (lt-ltb x.pl.block x.f.count c.if-block-count.true, c.content_size-size.ensures, c.is_aligned-right.ensures)

pub returns : goal.returns
unfolding inside_by
returns c =
    let x = c.args in
    simp (le-ltb x.pl.block x.f.count c.if-block-count.false)
