-- F asks for a multiple; V and S ask nothing.
-- Assumes nothing.
use mathlib.Core.Path.{sym, ap}
use native.Mathlib.Omega.{arith}
use Rattle.standard.specs.Records.{aligned}
use Rattle.labels.specs.Forms.{format_for}
use Rattle.labels.specs.declared.Form.{Form}
use Rattle.opening.proofs.is_aligned.Goals as goal

pub nonzero_rem-result : goal.nonzero_rem-result
nonzero_rem-result c = omega (arith, c.requires c.in-Fixed.is)

pub returns-in-Fixed : goal.returns-in-Fixed
returns-in-Fixed c =
    let x = c.args in
    sym (ap (λ (k : Form). aligned (format_for k) x.R x.offset) c.in-Fixed.is)
