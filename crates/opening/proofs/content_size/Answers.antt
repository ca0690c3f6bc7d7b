-- The last block, or another.
-- Assumes nothing.
use borrow.Author.Tests.{eq-eqb, ne_eqb}
use Rattle.opening.specs.Opened.{size_at}
use borrow.Author.Rules.{rules}
use Rattle.opening.proofs.content_size.Goals as goal

pub returns-then-b-f : goal.returns-then-b-f
unfolding size_at
returns-then-b-f c = search (rules, eq-eqb, ne_eqb)

pub returns : goal.returns
unfolding size_at
returns c = search (rules, eq-eqb, ne_eqb)
