-- `is_digit` meets its contract: the two comparisons of `is_digit`.
-- Assumes nothing.
use borrow.Author.Rules.{rules}
use borrow.Author.Tests.{le-leb, lt-leb}
use Rattle.standard.specs.Characters.{is_digit}
use Rattle.standard.proofs.is_digit.Goals as goal

pub returns-then-c-lt48 : goal.returns-then-c-lt48
unfolding is_digit
returns-then-c-lt48 c = search (rules, lt-leb, le-leb)

pub returns : goal.returns
unfolding is_digit
returns c = search (rules, lt-leb, le-leb)
