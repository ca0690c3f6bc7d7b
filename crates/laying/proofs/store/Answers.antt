-- Nothing to lay, nowhere to lay it, or all of it.
-- Assumes nothing.
use Prim.Native.Nat.{ℕ, ◌*◌, ◌≤◌}
use mathlib.Core.Path.{◌≡◌, ap, subst}
use native.Mathlib.Omega.{arith}
use native.Mathlib.Nat.{mul-le-mul_right}
use Rattle.standard.specs.Packing.{pack_in}
use Rattle.standard.specs.Writing.{parted}
use Rattle.labels.specs.Forms.{format_for}
use Rattle.filling.specs.Poured.{flat, Lays}
use Rattle.laying.proofs.DeskLaws.{stored_none, stored_nowhere, stored_all}
use Rattle.laying.proofs.store.Goals as goal

pub returns-then-lengths-eq0 : goal.returns-then-lengths-eq0
returns-then-lengths-eq0 c R tiled =
    let a = c.args in
    stored_none a.g a.image.now a.c (format_for a.form) R a.blocked (a.m * a.g.P) a.B a.bodies.now a.lengths.now c.if-lengths-eq0.true

pub returns-then-c-eq0 : goal.returns-then-c-eq0
returns-then-c-eq0 c R tiled =
    let a = c.args in
    stored_nowhere a.g a.image.now a.c (format_for a.form) R a.blocked (a.m * a.g.P) a.B a.bodies.now a.lengths.now c.if-c-eq0.true

pub returns : goal.returns
returns c R tiled =
    let a = c.args in
    let b = c.begin-p in
    let t = c.lay_list in
    let e : a.m * c.from.result ≡ a.m * a.g.P = ap (λ (k : ℕ). a.m * k) c.from.ensures in
    let some : 1 ≤ a.m * a.g.P = omega (arith, c.requires.0.1, mul-le-mul_right a.g.P c.requires.2) in
    stored_all a.g a.image.now a.c (format_for a.form) R a.blocked (a.m * a.g.P) a.B a.bodies.now a.lengths.now b.new.image t.new.image b.result t.result some c.if-lengths-eq0.false b.ensures.0
    (subst (λ (k : ℕ). Lays a.g b.new.image b.result (flat k (pack_in (format_for a.form) R a.blocked a.B (parted a.bodies.now a.lengths.now)).contents) t.new.image t.result) e (t.ensures R tiled))
