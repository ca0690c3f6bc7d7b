-- By the mark, then by the first byte.
-- Assumes nothing.
use mathlib.Core.Path.{sym, ◌∙◌}
use Rattle.extents.proofs.CursorLaws.{look_none, look_first, look_other}
use Rattle.extents.proofs.flaw_of.Goals as goal

pub returns-then-first_byte-eq70 : goal.returns-then-first_byte-eq70
returns-then-first_byte-eq70 c =
    let x = c.args in
    let m = sym c.incorrect_mark.ensures ∙ c.if-incorrect_mark.true in
    sym (look_first x.g x.image.now x.a m (sym c.first_byte.ensures.0 ∙ c.if-first_byte-eq70.true))

pub returns-then-incorrect_mark : goal.returns-then-incorrect_mark
returns-then-incorrect_mark c =
    let x = c.args in
    let m = sym c.incorrect_mark.ensures ∙ c.if-incorrect_mark.true in
    sym (look_other x.g x.image.now x.a m (λ e. c.if-first_byte-eq70.false (c.first_byte.ensures.0 ∙ e)))

pub returns : goal.returns
returns c =
    let x = c.args in
    sym (look_none x.g x.image.now x.a (sym c.incorrect_mark.ensures ∙ c.if-incorrect_mark.false))
