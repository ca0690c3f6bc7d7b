-- The parts in a row.
-- Assumes nothing.
use mathlib.Core.Path.{refl}
use native.Mathlib.Omega.{arith}
use Rattle.text.proofs.LaidLaws.{writes_as, writes_more}
use Rattle.following.specs.Lines.{record_fields}
use Rattle.following.proofs.put_record.Goals as goal

pub returns : goal.returns
unfolding record_fields
returns c = writes_as (omega arith) refl (writes_more c.named.ensures (writes_more c.put_place.ensures c.put_body.ensures))
