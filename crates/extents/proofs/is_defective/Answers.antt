-- By the mark, then by the first byte.
-- Assumes nothing.
use Prim.Native.Nat.{ℕ}
use lib.Dec.{eqb}
use mathlib.Core.Path.{sym, ap, ◌∙◌}
use Rattle.extents.proofs.CursorLaws.{defect_none, defect_first}
use Rattle.extents.proofs.is_defective.Goals as goal

pub returns-then-incorrect_mark : goal.returns-then-incorrect_mark
returns-then-incorrect_mark c =
    let x = c.args in
    let m = sym c.incorrect_mark.ensures ∙ c.if-incorrect_mark.true in
    ap (λ (k : ℕ). eqb k 70) c.first_byte.ensures.0 ∙ sym (defect_first x.g x.image.now x.a m)

pub returns-else-incorrect_mark : goal.returns-else-incorrect_mark
returns-else-incorrect_mark c =
    let x = c.args in
    let m = c.if-incorrect_mark.false in
    m ∙ sym (defect_none x.g x.image.now x.a (sym c.incorrect_mark.ensures ∙ m))
