-- A number in as many digits as it has.
-- Assumes nothing.
use Prim.Native.Nat.{ℕ}
use mathlib.Core.Path.{ap, ◌∙◌}
use Rattle.standard.specs.Characters.{padded}
use Rattle.text.proofs.LaidLaws.{writes_as}
use Rattle.text.proofs.Digits.{padded_shown}
use Rattle.text.proofs.Text.number.Goals as goal

pub returns : goal.returns
returns c =
    let n = c.args.n in
    let w = c.width_of.ensures in
    writes_as w.1 (ap (λ (k : ℕ). padded k n) w.0 ∙ padded_shown n) c.padded.ensures.0
