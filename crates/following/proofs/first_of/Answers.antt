-- The first bytes of a slice.
-- Assumes nothing.
use Prim.Native.Nat.{ℕ, ◌-◌}
use mathlib.Core.Path.{◌≡◌, sym, ap}
use lib.ListN.{take}
use lib.Seq.{take_all}
use native.Mathlib.Omega.{arith}
use Rattle.following.proofs.first_of.Goals as goal

pub returns-then-n-out : goal.returns-then-n-out
returns-then-n-out c =
    let x = c.args in
    let e : x.n - 0 ≡ x.n = omega arith in
    ap (λ (k : ℕ). take k x.out.now) e

pub returns : goal.returns
returns c =
    let x = c.args in
    sym (take_all x.n x.out.now (omega arith))
