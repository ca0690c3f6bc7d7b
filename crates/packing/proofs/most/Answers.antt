-- `most` meets its contract: each branch is a case of the definition.
-- Assumes nothing.
use borrow.Author.Tests.{lt-ltb, le-ltb}
use borrow.Author.Rules.{rules}
use Rattle.packing.proofs.most.Goals as goal

pub returns-then-n-limit : goal.returns-then-n-limit
returns-then-n-limit c = search (rules, lt-ltb, le-ltb)

pub returns : goal.returns
returns c = search (rules, lt-ltb, le-ltb)
