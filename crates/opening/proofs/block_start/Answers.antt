-- By the good records of the extent.
-- Assumes nothing.
use Prim.Native.Nat.{◌*◌}
use mathlib.Core.Path.{ap, ◌∙◌}
use lib.ListN.{drop}
use native.Mathlib.Omega.{arith}
use native.Mathlib.Nat.{mul-le-mul_right}
use Rattle.opening.proofs.OpenedLaws.{facts}
use Rattle.opening.proofs.block_start.Goals as goal

pub overflow_mul-b : goal.overflow_mul-b
overflow_mul-b c =
    let x = c.args in
    let p = c.requires in
    let k = facts x.image.now x.f p.0 in
    omega (arith, mul-le-mul_right x.f.m p.1, mul-le-mul_right x.f.m k.count_few, k.m_high)

pub nth_good-requires : goal.nth_good-requires
nth_good-requires c =
    let x = c.args in
    let k = facts x.image.now x.f c.requires.0 in
    (k.first_legal, omega (arith, k.first_few), k.whole_good)

pub returns : goal.returns
returns c =
    let x = c.args in
    let k = facts x.image.now x.f c.requires.0 in
    (c.nth_good.ensures.0 ∙ ap (drop (x.b * x.f.m)) k.first_is, c.nth_good.ensures.1)
