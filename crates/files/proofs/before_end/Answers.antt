-- Assumes nothing.
use borrow.Author.Tests.{le-leb, lt-leb}
use Rattle.files.proofs.before_end.Goals as goal

pub returns-then-end-last : goal.returns-then-end-last
returns-then-end-last c = simp (le-leb c.args.end c.args.last c.if-end-last.true) c.minus.ensures

pub returns : goal.returns
returns c = simp (lt-leb c.args.end c.args.last c.if-end-last.false)
