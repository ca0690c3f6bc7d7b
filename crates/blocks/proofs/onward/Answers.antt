-- `onward` meets its contract.
-- Assumes nothing.
use Prim.Native.Nat.{◌+◌, ◌*◌, ◌/◌, ◌%◌}
use mathlib.Core.Path.{◌≡◌, sym}
use native.Mathlib.Nat.{div-add-mod', mod-lt}
use native.Mathlib.Omega.{arith}
use Rattle.blocks.proofs.StreamLaws.{stream_on, stream_in}
use Rattle.blocks.proofs.onward.Goals as goal

pub returns-then-to-p : goal.returns-then-to-p
returns-then-to-p c =
    let x = c.args in
    (stream_in x.g x.image.now x.c x.i x.k, c.requires.1, omega arith, omega arith)

pub returns : goal.returns
returns c =
    let x = c.args in
    let p = c.from-p.result in
    let e = c.from-p.ensures in
    let q : (x.i + x.k) / p * x.g.P + (x.i + x.k) % p ≡ x.i + x.k = rw (sym e) (div-add-mod' (x.i + x.k) p) in
    (stream_on x.g x.image.now x.c c.skip_good-d.result x.i x.k ((x.i + x.k) / p) c.requires.0.0 c.requires.1 c.skip_good-d.ensures.0 ((x.i + x.k) % p) q, c.skip_good-d.ensures.1, omega (arith, mod-lt (x.i + x.k) {m = p} (omega arith)), c.skip_good-d.ensures.2)
