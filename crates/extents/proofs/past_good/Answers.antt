-- So many good records from the start as from here on.
-- Assumes nothing.
use Prim.Native.Nat.{ℕ}
use mathlib.Core.Path.{sym, ap, ◌∙◌}
use mathlib.Core.Bool.{Bool, not, ◌&&◌}
use lib.ListN.{drop}
use lib.Dec.{eqb}
use native.Mathlib.Omega.{arith}
use borrow.Author.Tests.{not-true, eqb-true}
use Rattle.promises.specs.Ground.Basics.{and_l, and_r}
use Rattle.extents.specs.Cursors.{good_from}
use Rattle.extents.proofs.CursorLaws.{walk_here, legal_none, good_stand, good_past, none_past, counts}
use Rattle.extents.proofs.past_good.Goals as goal

pub is_defective-bad-requires : goal.is_defective-bad-requires
is_defective-bad-requires c = walk_here _ _ c.loop-w.invariant.1 c.loop-w-test.true

pub returns-then-bad-i : goal.returns-then-bad-i
returns-then-bad-i c =
    let x = c.args in
    let w = c.loop-w in
    let bad = c.is_defective-bad.result in
    let t = c.if-bad-i.true in
    let good = sym c.is_defective-bad.ensures ∙ not-true bad (and_l (not bad) (eqb w.i 0) t) in
    let none = eqb-true w.i 0 (and_r (not bad) (eqb w.i 0) t) in
    (good_stand _ _ _ _ (omega arith) good ∙ (ap (λ (k : ℕ). drop k (good_from x.g x.image.now w.w.left w.w.at)) (sym none) ∙ w.invariant.0), w.invariant.1.legal, w.invariant.2)

pub loop-w-preserved : goal.loop-w-preserved
loop-w-preserved c =
    let x = c.args in
    let w = c.loop-w in
    let s = c.step-w.ensures in
    let d = c.is_defective-bad.ensures in
    let k = counts x.g x.image.now w.w.at c.is_defective-bad.result c.from-i.result d c.from-i.ensures in
    let more = sym (ap (λ (b : Bool). not b && eqb w.i 0) d) ∙ c.if-bad-i.false in
    (rw (s.1, s.2, k) (good_past x.g x.image.now w.i w.w.left w.w.at c.loop-w-test.true more ∙ w.invariant.0), s.0, omega (arith, s.2, w.invariant.2))

pub returns : goal.returns
returns c =
    let x = c.args in
    let w = c.loop-w in
    (none_past x.g x.image.now w.i w.w.left w.w.at (omega arith) ∙ w.invariant.0, legal_none _ _, omega arith)
