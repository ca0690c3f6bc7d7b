-- `run_among` meets its contract: whatever start it stands at, what is looked for is still ahead.
-- Assumes nothing.
use mathlib.Core.Path.{sym, subst, ◌∙◌}
use native.Mathlib.Omega.{arith}
use Rattle.promises.specs.Making.RunsFree.{Searched, room_start, room_full}
use Rattle.vacancy.proofs.PassLaws.{pass_onward, pass_searched, pass_found}
use Rattle.vacancy.proofs.run_among.Goals as goal

pub passes-init : goal.passes-init
passes-init c = (omega arith, room_start _ _ _)

pub returns-then-next-start : goal.returns-then-next-start
returns-then-next-start c =
    let a = c.args in
    let w = c.passes in
    let p = c.requires in
    sym (pass_found a.image.now a.g p.0 a.n p.1 (omega arith) a.extents.now p.2 p.3 w.start (omega arith) (sym c.past_all-next.ensures.0 ∙ c.if-next-start.true) w.invariant.1)

pub passes-smaller : goal.passes-smaller
passes-smaller c =
    let a = c.args in
    omega (arith, c.past_all-next.ensures.0, pass_onward a.n a.extents.now c.passes.start)

pub passes-preserved : goal.passes-preserved
passes-preserved c =
    let a = c.args in
    let w = c.passes in
    let p = c.requires in
    (omega arith, subst (Searched a.g a.image.now a.n) (sym c.past_all-next.ensures.0) (pass_searched a.image.now a.g p.0 a.n p.1 (omega arith) a.extents.now p.2 p.3 w.start w.invariant.1))

pub returns : goal.returns
returns c = sym (room_full _ _ _ c.passes.start (omega arith) c.passes.invariant.1)
