-- From block to block: what is to be laid from here is what was to be laid from the start.
-- Assumes nothing.
use Prim.Native.Nat.{ℕ, min}
use mathlib.Core.Path.{◌≡◌, sym, ap, ◌∙◌}
use lib.ListN.{length}
use native.Mathlib.Omega.{arith}
use Rattle.std.specs.Slice.Iter.{chunks_rest}
use Rattle.laying.proofs.DeskLaws.{block_on, blocks_end}
use Rattle.laying.proofs.lay_blocks.Goals as goal

pub loop-block-preserved : goal.loop-block-preserved
loop-block-preserved c =
    let a = c.args in
    let w = c.loop-block in
    let x = c.in-Some.block.now in
    let s = c.in-Some.ensures.steps in
    let t = c.put-p in
    let n : length x ≡ min a.B (length (chunks_rest w.block-iterator)) = s.1.1 ∙ ap (λ (k : ℕ). min k (length (chunks_rest w.block-iterator))) w.invariant.2 in
    let on = block_on a.g a.B a.size w.image t.new.image w.p t.result (chunks_rest w.block-iterator) x (chunks_rest c.next.new.self) c.requires.1 s.1.0 n s.1.2 t.ensures in
    (omega (arith, s.0), tt, s.0 ∙ w.invariant.2, λ tail. w.invariant.3 tail ∙ on tail, t.ensures.1, t.ensures.1.0.0 ∙ sym c.requires.0.0.0)

pub returns : goal.returns
returns c =
    let a = c.args in
    let w = c.loop-block in
    (λ tail. w.invariant.3 tail ∙ blocks_end a.g a.B a.size w.image w.p (chunks_rest w.block-iterator) c.in-None.ensures.steps.1.0 tail, w.invariant.4)
