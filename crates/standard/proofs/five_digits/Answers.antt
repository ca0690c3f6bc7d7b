-- `five_digits` meets its contract: five tests joined, with no branch.
-- Assumes nothing.
use mathlib.Core.Path.{ap, ◌∙◌}
use Rattle.standard.specs.Characters.{is_digit}
use Rattle.standard.proofs.AddressLaws.{five_tested}
use Rattle.standard.proofs.five_digits.Goals as goal

pub returns : goal.returns
returns c =
    let at4 = c.is_digit-5.ensures ∙ ap is_digit c.byte_at-5.ensures.0 in
    let at3 = c.is_digit-4.ensures ∙ ap is_digit c.byte_at-4.ensures.0 in
    let at2 = c.is_digit-3.ensures ∙ ap is_digit c.byte_at-3.ensures.0 in
    let at1 = c.is_digit-2.ensures ∙ ap is_digit c.byte_at-2.ensures.0 in
    let at0 = c.is_digit.ensures ∙ ap is_digit c.byte_at.ensures.0 in
    five_tested _ _ _ _ _ _ at0 at1 at2 at3 at4
