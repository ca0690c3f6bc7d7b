-- `is_kind` meets its contract.
-- Assumes nothing.
use Rattle.layout.specs.Runs.{kind_of}
use borrow.Author.Tests.{eq-eqb, ne_eqb}
use borrow.Author.Rules.{rules}
use Rattle.layout.proofs.is_kind.Goals as goal

pub returns-then-c-k-2 : goal.returns-then-c-k-2
unfolding kind_of
returns-then-c-k-2 c = search (rules, eq-eqb, ne_eqb)

pub returns-else-c-k-2 : goal.returns-else-c-k-2
unfolding kind_of
returns-else-c-k-2 c = search (rules, eq-eqb, ne_eqb)
