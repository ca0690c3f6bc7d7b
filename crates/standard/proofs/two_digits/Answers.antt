-- `two_digits_lem` meets its contract.
-- Assumes nothing.
use mathlib.Core.Path.{ap, ◌∙◌}
use Rattle.standard.specs.Characters.{digit_value}
use Rattle.standard.proofs.AddressLaws.{two_spelled, two_small}
use Rattle.standard.proofs.two_digits.Goals as goal

pub returns : goal.returns
returns c =
    let x = c.args in
    let first = c.digit.ensures.0 ∙ ap digit_value c.byte_at.ensures.0 in
    let second = c.digit-2.ensures.0 ∙ ap digit_value c.byte_at-2.ensures.0 in
    (two_spelled x.field.now x.i _ _ first second, two_small _ _ c.digit.ensures.1 c.digit-2.ensures.1)
