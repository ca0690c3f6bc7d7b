-- Onward past the defective ones.
-- Assumes nothing.
use Prim.Native.Nat.{ℕ}
use mathlib.Core.Path.{ap, ◌∙◌}
use native.Mathlib.Omega.{arith}
use Rattle.extents.specs.Cursors.{standing}
use Rattle.extents.proofs.CursorLaws.{good_none}
use Rattle.extents.proofs.to_good.Goals as goal

pub returns-then-from-eq0 : goal.returns-then-from-eq0
returns-then-from-eq0 c =
    let x = c.args in
    let none = c.if-from-eq0.true in
    (ap (λ (n : ℕ). standing x.g x.image.now (record { at = x.from.at; left = n })) none ∙ good_none x.g x.image.now x.from.left x.from.at (omega (arith, none)), c.requires, omega arith)
