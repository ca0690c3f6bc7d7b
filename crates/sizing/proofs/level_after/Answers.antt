-- Record after record: where the writer stands behind the rest is where it stands behind the whole.
-- Assumes nothing.
use mathlib.Core.Path.{refl, sym, subst, ◌∙◌}
use native.Mathlib.Omega.{arith}
use Rattle.promises.specs.Writing.StoreLaws.{total_drop}
use Rattle.promises.specs.Writing.NeededLaws.{FitsIn}
use Rattle.labels.specs.Forms.{format_for}
use Rattle.sizing.proofs.LevelLaws.{level_to, level_none, fits_at, stands_as}
use Rattle.sizing.proofs.level_after.Goals as goal

pub place-l-requires : goal.place-l-requires
place-l-requires c =
    let x = c.args in
    let w = c.loop-n in
    let d = total_drop x.lengths.now w.n-index (omega arith) in
    let f = fits_at (format_for x.form) x.B x.lengths.now w.n-index (omega arith) c.requires.0 in
    (subst (FitsIn (format_for x.form) x.B) (sym c.from.ensures) f, omega (arith, d), w.invariant.1, omega arith, omega arith)

pub loop-n-preserved : goal.loop-n-preserved
loop-n-preserved c =
    let x = c.args in
    let w = c.loop-n in
    let d = total_drop x.lengths.now w.n-index (omega arith) in
    let p = c.place-l in
    let e = level_to (format_for x.form) x.blocked x.B w.l.room w.l.blocks x.lengths.now w.n-index p.result c.from.result (omega arith) c.from.ensures p.ensures.0 in
    (w.invariant.0 ∙ e, p.ensures.1, omega (arith, d, p.ensures.2))

pub returns : goal.returns
returns c =
    let x = c.args in
    let w = c.loop-n in
    let e = w.invariant.0 ∙ level_none (format_for x.form) x.blocked x.B w.l.room w.l.blocks x.lengths.now w.n-index (omega arith) in
    stands_as w.l e (refl, refl)
