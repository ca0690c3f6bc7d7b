-- `past_all` meets its contract: a pass over what is left is the pass over all.
-- Assumes nothing.
use Prim.Native.Nat.{◌+◌}
use mathlib.Core.Path.{sym, ap, ◌∙◌}
use lib.ListN.{drop}
use native.Mathlib.Omega.{arith}
use Rattle.vacancy.specs.Passes.{past_all}
use Rattle.vacancy.proofs.PassLaws.{pass_more, pass_end}
use Rattle.vacancy.proofs.past_all.Goals as goal

pub loop-e-preserved : goal.loop-e-preserved
loop-e-preserved c =
    let a = c.args in
    let w = c.loop-e in
    let p = c.past_one-next.ensures in
    (p.1, w.invariant.1 ∙ pass_more a.n a.extents.now w.e-index w.next _ (omega arith) ∙ ap (past_all a.n (drop (w.e-index + 1) a.extents.now)) (sym p.0))

pub returns : goal.returns
returns c =
    let a = c.args in
    let w = c.loop-e in
    (sym (w.invariant.1 ∙ pass_end a.n a.extents.now w.e-index w.next (omega arith)), w.invariant.0)
