-- `look_s` meets its contract.
-- Assumes nothing.
use mathlib.Core.Path.{◌∙◌}
use native.Mathlib.Omega.{arith}
use Rattle.blocks.specs.Streams.{stream}
use Rattle.pieces.proofs.WordLaws.{s_short, s_zero, s_not, s_is, four_same}
use Rattle.pieces.proofs.look_s.Goals as goal

pub returns-then-n-lt5 : goal.returns-then-n-lt5
returns-then-n-lt5 c = let x = c.args in c.fill_only.ensures ∙ s_short x.n (stream x.g x.image.now x.c x.i) (omega arith) (omega arith)

pub returns-then-w-eq0 : goal.returns-then-w-eq0
returns-then-w-eq0 c =
    let x = c.args in
    let w = c.first_five-w in
    c.fill_only-then-w-eq0.ensures ∙ s_zero x.n (stream x.g x.image.now x.c x.i) (omega arith) (omega arith) w.result w.ensures c.if-w-eq0.true

pub returns-in_default : goal.returns-in_default
returns-in_default c =
    let x = c.args in
    let w = c.first_five-w in
    s_not x.n (stream x.g x.image.now x.c x.i) (omega arith) (omega arith) w.result w.ensures c.if-w-eq0.false _ c.read.ensures c.in_default.is

pub returns : goal.returns
returns c =
    let x = c.args in
    let w = c.first_five-w in
    c.sized.ensures
    ∙ s_is x.n (stream x.g x.image.now x.c x.i) (omega arith) (omega arith) w.result w.ensures c.if-w-eq0.false _ c.read.ensures _ _ c.in-Some.is
    (c.four_digits.ensures ∙ four_same _ _ _ _ _ _ _ _ c.from.ensures c.from-2.ensures c.from-3.ensures c.from-4.ensures)
