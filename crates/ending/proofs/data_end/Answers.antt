-- The data end, by the number of blocks.
-- Assumes nothing.
use Prim.Native.Nat.{ℕ, ◌<◌, ◌≤◌}
use mathlib.Core.Path.{◌≡◌, subst, ◌∙◌}
use lib.ListN.{length}
use native.Mathlib.Omega.{arith}
use Rattle.extents.specs.Cursors.{good_from}
use Rattle.ending.proofs.EndLaws.{good_most, blocks_inside, end_start, end_next, end_past}
use Rattle.ending.proofs.data_end.Goals as goal

pub returns-then-blocks-eq0 : goal.returns-then-blocks-eq0
returns-then-blocks-eq0 c =
    let x = c.args in
    end_start x.g x.start x.end x.m (good_from x.g x.image.now x.first.left x.first.at) x.blocks (omega arith)

pub overflow_mul-blocks : goal.overflow_mul-blocks
overflow_mul-blocks c =
    let x = c.args in
    let p = c.requires in
    let good = good_from x.g x.image.now x.first.left x.first.at in
    let few : x.blocks ≤ x.held = omega arith in
    omega (arith, blocks_inside x.blocks x.m (length good) p.3 (subst (λ (k : ℕ). x.blocks ≤ k) p.4 few), good_most x.g x.image.now x.first.left x.first.at)

pub returns-then-blocks-held : goal.returns-then-blocks-held
returns-then-blocks-held c =
    let x = c.args in
    let p = c.requires in
    let good = good_from x.g x.image.now x.first.left x.first.at in
    let less : x.blocks < x.held = omega arith in
    let some : x.blocks ≡ 0 → ⊥ = λ (z : x.blocks ≡ 0). omega arith in
    let n = c.nth_good-next in
    end_next x.g x.start x.end x.m good x.blocks x.image.now n.result some p.3 (subst (λ (k : ℕ). x.blocks < k) p.4 less) n.ensures.0

pub returns : goal.returns
returns c =
    let x = c.args in
    let p = c.requires in
    let good = good_from x.g x.image.now x.first.left x.first.at in
    let most : x.held ≤ x.blocks = omega arith in
    let some : x.blocks ≡ 0 → ⊥ = λ (z : x.blocks ≡ 0). omega arith in
    c.step.ensures ∙ end_past x.g x.start x.end x.m good x.blocks some (subst (λ (k : ℕ). k ≤ x.blocks) p.4 most)
