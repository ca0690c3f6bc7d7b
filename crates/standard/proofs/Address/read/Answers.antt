-- `Address::read` meets its contract: too short, not five digits, or the address that they spell (AddressLaws has the exits).
-- Assumes nothing.
use mathlib.Core.Path.{sym, ap, ◌∙◌}
use mathlib.Core.Bool.{not}
use Rattle.standard.proofs.AddressLaws.{read_short, read_no, read_yes}
use Rattle.standard.proofs.Address.read.Goals as goal

pub returns-then-field-lt5 : goal.returns-then-field-lt5
returns-then-field-lt5 c = read_short _ c.if-field-lt5.true

pub returns-then-not-five_digits : goal.returns-then-not-five_digits
returns-then-not-five_digits c = read_no _ (sym (ap not c.five_digits.ensures) ∙ c.if-not-five_digits.true-raw)

pub returns : goal.returns
returns c =
    read_yes _ _ (sym (ap not c.five_digits.ensures) ∙ c.if-not-five_digits.false-raw) c.spelled.ensures.0
