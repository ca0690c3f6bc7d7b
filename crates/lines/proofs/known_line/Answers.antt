-- The parts in a row.
-- Assumes nothing.
use Prim.Native.Nat.{ℕ}
use mathlib.Core.Path.{ap, ◌∙◌}
use mathlib.Core.List.{◌++◌}
use native.Mathlib.Omega.{arith}
use Rattle.standard.specs.Characters.{shown}
use Rattle.standard.specs.Labels.{block_length}
use Rattle.text.proofs.LaidLaws.{writes_as, writes_more}
use Rattle.lines.specs.Parts.{bar, first_fields, extent_fields, last_fields, fields_in_a_row}
use Rattle.lines.proofs.known_line.Goals as goal

pub returns : goal.returns
unfolding fields_in_a_row
returns c =
    let x = c.args in
    let h = x.h.now in
    let R = c.record_length in
    let last = extent_fields h ++ last_fields x.count h in
    let e = ap (λ (n : ℕ). first_fields x.slot h ++ (bar (shown n) ++ (bar (shown R.result) ++ last))) c.block_length.ensures.0
    ∙ ap (λ (n : ℕ). first_fields x.slot h ++ (bar (shown (block_length h)) ++ (bar (shown n) ++ last))) R.ensures.0 in
    let end = writes_more c.named-2.ensures (writes_more c.put_extent.ensures c.put_last.ensures) in
    writes_as (omega arith) e (writes_more c.put_first.ensures (writes_more c.named.ensures end))
