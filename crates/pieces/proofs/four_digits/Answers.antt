-- `four_digits` meets its contract.
-- Assumes nothing.
use mathlib.Core.Bool.{◌&&◌}
use borrow.Author.Tests.{not-true, not-false}
use Rattle.pieces.proofs.WordLaws.{and_4, digits_no, digits_are}
use Rattle.pieces.proofs.four_digits.Goals as goal

pub returns-then-not-ok : goal.returns-then-not-ok
returns-then-not-ok c =
    let t = (((c.is_digit.result && c.is_digit-2.result) && c.is_digit-3.result) && c.is_digit-4.result) in
    digits_no _ _ _ _ t (and_4 _ _ _ _ _ _ _ _ c.is_digit.ensures c.is_digit-2.ensures c.is_digit-3.ensures c.is_digit-4.ensures) (not-true t c.if-not-ok.true-raw)

pub returns : goal.returns
returns c =
    let t = (((c.is_digit.result && c.is_digit-2.result) && c.is_digit-3.result) && c.is_digit-4.result) in
    digits_are _ _ _ _ t _ _ _ _ (and_4 _ _ _ _ _ _ _ _ c.is_digit.ensures c.is_digit-2.ensures c.is_digit-3.ensures c.is_digit-4.ensures) (not-false t c.if-not-ok.false-raw) c.digit.ensures.0 c.digit-2.ensures.0 c.digit-3.ensures.0 c.digit-4.ensures.0
