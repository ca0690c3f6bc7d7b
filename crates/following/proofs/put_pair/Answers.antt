-- The parts in a row.
-- Assumes nothing.
use native.Mathlib.Omega.{arith}
use Rattle.text.proofs.LaidLaws.{writes_as, writes_more}
use Rattle.following.proofs.Laws.{digits_pair}
use Rattle.following.proofs.put_pair.Goals as goal

pub returns : goal.returns
returns c = writes_as (omega arith) (digits_pair _ _ _ c.hex_digit.ensures c.hex_digit-2.ensures) (writes_more c.byte.ensures c.byte-2.ensures)
