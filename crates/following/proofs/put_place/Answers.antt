-- The parts in a row.
-- Assumes nothing.
use Prim.Native.Nat.{ℕ}
use mathlib.Core.Path.{ap, ◌∙◌}
use mathlib.Core.List.{◌++◌}
use native.Mathlib.Omega.{arith}
use Rattle.standard.specs.Characters.{shown}
use Rattle.text.proofs.LaidLaws.{writes_as, writes_more}
use Rattle.following.specs.Lines.{spaced, place_fields}
use Rattle.following.proofs.Laws.{mark_is}
use Rattle.following.proofs.put_place.Goals as goal

pub returns : goal.returns
unfolding place_fields
returns c =
    let pl = c.args.place in
    let e = ap (λ (n : ℕ). spaced (shown pl.block) ++ (spaced (shown pl.offset) ++ spaced (shown n))) (c.from.ensures ∙ mark_is pl.mark) in
    writes_as (omega arith) e (writes_more c.named.ensures (writes_more c.named-2.ensures c.named-3.ensures))
