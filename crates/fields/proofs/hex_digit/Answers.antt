-- `hex_digit` meets its contract: a digit, or a letter.
-- Assumes nothing.
use native.Mathlib.Omega.{arith}
use Rattle.fields.proofs.NumberLaws.{hex_yes, hex_not}
use Rattle.fields.proofs.hex_digit.Goals as goal

pub returns-then-is_digit : goal.returns-then-is_digit
returns-then-is_digit c = (hex_yes _ _ (cc) (cc), omega arith)

pub returns : goal.returns
returns c = (hex_not _ _ (cc) (cc), omega arith)
