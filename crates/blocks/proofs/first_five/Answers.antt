-- In one run, or byte by byte.
-- Assumes nothing.
use Prim.Native.Nat.{ℕ}
use mathlib.Core.Path.{◌∙◌, sym, ap}
use lib.ListN.{drop}
use native.Mathlib.Omega.{arith}
use Rattle.blocks.specs.Streams.{five_of}
use Rattle.blocks.proofs.StreamLaws.{run_inside, run_is, five_same, five_by}
use Rattle.blocks.proofs.first_five.Goals as goal

pub five_at-requires : goal.five_at-requires
five_at-requires c =
    let x = c.args in
    omega (arith, run_inside x.g x.image.now x.c x.i 5 c.requires.0.0 (omega arith) c.requires.1 (omega arith), c.byte_offset.ensures.0)

pub returns-then-i-p : goal.returns-then-i-p
returns-then-i-p c =
    let x = c.args in
    let e = sym (run_is x.g x.image.now x.c x.i 5 c.requires.0.0 (omega arith) c.requires.1 (omega arith)) in
    c.five_at.ensures ∙ ap (λ (o : ℕ). five_of (drop o x.image.now)) c.byte_offset.ensures.0 ∙ five_same _ _ e

pub returns : goal.returns
returns c = five_by _ _ _ _ _ _ c.peek.ensures.0 c.peek-2.ensures.0 c.peek-3.ensures.0 c.peek-4.ensures.0 c.peek-5.ensures.0
