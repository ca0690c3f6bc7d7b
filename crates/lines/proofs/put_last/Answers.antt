-- The parts in a row.
-- Assumes nothing.
use mathlib.Core.Path.{ap}
use mathlib.Core.List.{◌++◌}
use Prim.Native.Nat.{ℕ}
use native.Mathlib.Omega.{arith}
use Rattle.standard.specs.Characters.{shown}
use Rattle.standard.specs.Listing.{newline, count_shown}
use Rattle.text.proofs.LaidLaws.{writes_as, writes_more}
use Rattle.lines.specs.Parts.{bar, last_fields}
use Rattle.lines.proofs.put_last.Goals as goal

pub returns : goal.returns
unfolding last_fields
returns c =
    let e = ap (λ (n : ℕ). bar (count_shown c.args.count) ++ (bar (shown n) ++ newline)) c.unused_count.ensures.0 in
    writes_as (omega arith) e (writes_more c.put_count.ensures (writes_more c.named.ensures c.byte.ensures))
