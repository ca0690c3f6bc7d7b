-- The good records from the start, so many, as those from here on, so many as are left.
-- Assumes nothing.
use Prim.Native.Nat.{ℕ, ◌<◌}
use mathlib.Core.Path.{◌≡◌, sym, ◌∙◌}
use mathlib.Core.Bool.{true, ◌&&◌}
use lib.Dec.{ltb}
use borrow.Author.Tests.{ltb-true}
use Rattle.promises.specs.Ground.Basics.{and_l, and_r}
use Rattle.extents.proofs.CursorLaws.{walk_here, counts}
use Rattle.blocks.proofs.LostLaws.{failed_stop, failed_more, failed_over}
use Rattle.blocks.proofs.failed_among.Goals as goal

-- what the loop's test says
both : (a b : ℕ) → (ltb 0 a && ltb 0 b) ≡ true → (0 < a) × (0 < b)
both a b h = (ltb-true 0 a (and_l (ltb 0 a) (ltb 0 b) h), ltb-true 0 b (and_r (ltb 0 a) (ltb 0 b) h))

pub check_failed-requires : goal.check_failed-requires
check_failed-requires c = let w = c.loop-n in walk_here _ _ w.invariant.1 (both w.n w.w.left c.loop-n-test.true).1

pub returns-then-check_failed : goal.returns-then-check_failed
returns-then-check_failed c =
    let x = c.args in
    let w = c.loop-n in
    let b = both w.n w.w.left c.loop-n-test.true in
    sym (w.invariant.0 ∙ failed_stop x.g x.image.now w.n w.w.left w.w.at b.0 b.1 (sym c.check_failed.ensures ∙ c.if-check_failed.true))

pub is_defective-requires : goal.is_defective-requires
is_defective-requires c = let w = c.loop-n in walk_here _ _ w.invariant.1 (both w.n w.w.left c.loop-n-test.true).1

pub loop-n-preserved : goal.loop-n-preserved
loop-n-preserved c =
    let x = c.args in
    let w = c.loop-n in
    let b = both w.n w.w.left c.loop-n-test.true in
    let s = c.step-w.ensures in
    let sound = sym c.check_failed.ensures ∙ c.if-check_failed.false in
    let k = counts x.g x.image.now w.w.at c.is_defective.result c.from-n.result c.is_defective.ensures c.from-n.ensures in
    (rw (s.1, s.2, k) (w.invariant.0 ∙ failed_more x.g x.image.now w.n w.w.left w.w.at b.0 b.1 sound), s.0)

pub returns : goal.returns
returns c =
    let x = c.args in
    let w = c.loop-n in
    sym (w.invariant.0 ∙ failed_over x.g x.image.now w.n w.w.left w.w.at c.loop-n-test.false)
