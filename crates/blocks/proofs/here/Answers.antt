-- `here` meets its contract.
-- Assumes nothing.
use Prim.Native.Nat.{ℕ}
use mathlib.Core.Path.{◌∙◌, sym, ap}
use mathlib.Core.List.{List}
use lib.ListN.{get_or}
use native.Mathlib.Omega.{arith}
use Rattle.blocks.proofs.StreamLaws.{byte_is, stream_none}
use Rattle.blocks.proofs.here.Goals as goal

pub returns-then-c-eq0 : goal.returns-then-c-eq0
returns-then-c-eq0 c =
    let x = c.args in
    (sym (ap (λ (s : List ℕ). get_or s 0 0) (stream_none x.g x.image.now x.c x.i (omega arith))), omega arith)

pub returns : goal.returns
returns c =
    let x = c.args in
    (c.byte_at.ensures.0 ∙ (ap (λ (k : ℕ). get_or x.image.now k 0) c.byte_offset.ensures.0 ∙ byte_is x.g x.image.now x.c x.i c.requires.0.0 (omega arith) c.requires.1 c.requires.2), c.byte_at.ensures.1)
