-- The digits below ten, and the letters.
-- Assumes nothing.
use borrow.Author.Tests.{lt-ltb, le-ltb}
use Rattle.following.specs.Lines.{hex_digit}
use borrow.Author.Rules.{rules}
use Rattle.following.proofs.hex_digit.Goals as goal

pub returns-then-n-lt10 : goal.returns-then-n-lt10
unfolding hex_digit
returns-then-n-lt10 c = search (rules, lt-ltb, le-ltb)

pub returns : goal.returns
unfolding hex_digit
returns c = search (rules, lt-ltb, le-ltb)
