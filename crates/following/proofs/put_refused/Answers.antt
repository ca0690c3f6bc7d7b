-- The parts in a row.
-- Assumes nothing.
use native.Mathlib.Omega.{arith}
use Rattle.text.proofs.LaidLaws.{writes_as, writes_more}
use Rattle.following.proofs.Laws.{refused_is}
use Rattle.following.proofs.put_refused.Goals as goal

pub returns : goal.returns
returns c = writes_as (omega arith) (refused_is _) (writes_more c.refusal.ensures c.named.ensures)
