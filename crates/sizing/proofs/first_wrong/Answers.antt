-- The first wrong length from here is the first from the start.
-- Assumes nothing.
use Rattle.std.specs.Prelude.{Err}
use mathlib.Core.Path.{sym, ap, ◌∙◌}
use native.Mathlib.Omega.{arith}
use Rattle.labels.specs.Forms.{format_for}
use Rattle.standard.specs.Writing.{wrong_in}
use Rattle.sizing.proofs.LevelLaws.{wrong_next, wrong_stop, wrong_none}
use Rattle.sizing.proofs.first_wrong.Goals as goal

pub returns-then-is_wrong : goal.returns-then-is_wrong
returns-then-is_wrong c =
    let x = c.args in
    let w = c.loop-i in
    let wrong = c.is_wrong.ensures ∙ ap (wrong_in (format_for x.form) x.B x.R) c.from.ensures in
    sym (w.invariant ∙ wrong_stop (format_for x.form) x.B x.R x.lengths.now w.i (omega arith) (sym wrong ∙ c.if-is_wrong.true) ∙ ap Err (sym c.at.ensures))

pub loop-i-preserved : goal.loop-i-preserved
loop-i-preserved c =
    let x = c.args in
    let w = c.loop-i in
    let wrong = c.is_wrong.ensures ∙ ap (wrong_in (format_for x.form) x.B x.R) c.from.ensures in
    w.invariant ∙ wrong_next (format_for x.form) x.B x.R x.lengths.now w.i (omega arith) (sym wrong ∙ c.if-is_wrong.false)

pub returns : goal.returns
returns c =
    let x = c.args in
    let w = c.loop-i in
    sym (w.invariant ∙ wrong_none (format_for x.form) x.B x.R x.lengths.now w.i (omega arith))
