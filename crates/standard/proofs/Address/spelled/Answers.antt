-- `Address::spelled` meets its contract: two digits, one, and two.
-- Assumes nothing.
use mathlib.Core.Path.{ap, ◌∙◌}
use Rattle.standard.specs.Characters.{digit_value}
use Rattle.standard.proofs.AddressLaws.{address_spelled}
use Rattle.standard.proofs.Address.spelled.Goals as goal

pub returns : goal.returns
returns c =
    let cylinder = c.two_digits.ensures in
    let side = c.digit.ensures.0 ∙ ap digit_value c.byte_at.ensures.0 in
    let sector = c.two_digits-2.ensures in
    (address_spelled _ _ _ _ cylinder.0 side sector.0, cylinder.1, c.digit.ensures.1, sector.1)
