-- `look_v` meets its contract.
-- Assumes nothing.
use mathlib.Core.Path.{◌∙◌, ap}
use native.Mathlib.Omega.{arith}
use Rattle.blocks.specs.Streams.{stream}
use Rattle.pieces.specs.Looks.{part_v}
use Rattle.pieces.proofs.WordLaws.{v_short, v_behind, v_zero, v_word, four_same}
use Rattle.pieces.proofs.look_v.Goals as goal

pub returns-then-n-lt4 : goal.returns-then-n-lt4
returns-then-n-lt4 c = let x = c.args in c.fill_only.ensures ∙ v_short x.n (stream x.g x.image.now x.c x.i) (omega arith) x.r x.blocked x.o (omega arith)

pub returns-then-behind : goal.returns-then-behind
returns-then-behind c = let x = c.args in c.fill_only-then-behind.ensures ∙ v_behind x.n (stream x.g x.image.now x.c x.i) (omega arith) x.r x.blocked x.o c.if-behind.true

pub returns-then-w-eq0 : goal.returns-then-w-eq0
returns-then-w-eq0 c =
    let x = c.args in
    let w = c.first_five-w in
    c.fill_only-then-w-eq0.ensures ∙ v_zero x.n (stream x.g x.image.now x.c x.i) (omega arith) x.r x.blocked x.o (omega arith) w.result w.ensures c.if-w-eq0.true

pub returns : goal.returns
returns c =
    let x = c.args in
    let w = c.first_five-w in
    c.sized.ensures ∙ (ap (part_v x.r x.n) (c.four_digits.ensures ∙ four_same _ _ _ _ _ _ _ _ c.from.ensures c.from-2.ensures c.from-3.ensures c.from-4.ensures) ∙ v_word x.n (stream x.g x.image.now x.c x.i) (omega arith) x.r x.blocked x.o (omega arith) c.if-behind.false w.result w.ensures c.if-w-eq0.false)
