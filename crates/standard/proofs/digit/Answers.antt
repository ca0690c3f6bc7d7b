-- `digit` meets its contract: a difference that is 0 below the digit 0.
-- Assumes nothing.
use borrow.Author.Rules.{rules}
use Rattle.standard.specs.Characters.{digit_value}
use Rattle.standard.proofs.digit.Goals as goal

pub returns-then-c-lt48 : goal.returns-then-c-lt48
unfolding digit_value
returns-then-c-lt48 c = search rules

pub returns : goal.returns
unfolding digit_value
returns c = search rules
