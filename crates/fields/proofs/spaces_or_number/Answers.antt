-- `spaces_or_number` meets its contract: blank, not digits, or a number that is compared.
-- Assumes nothing.
use mathlib.Core.Path.{sym, ◌∙◌}
use Rattle.fields.proofs.PerhapsLaws.{test_holds, number_is, test_fails}
use Rattle.fields.proofs.NumberLaws.{blank_yes, number_no, number_yes}
use Rattle.fields.proofs.spaces_or_number.Goals as goal

pub returns-then-all_spaces : goal.returns-then-all_spaces
returns-then-all_spaces c = blank_yes _ _ _ (sym c.all_spaces.ensures ∙ c.if-all_spaces.true)

pub returns-in_default : goal.returns-in_default
returns-in_default c =
    number_no _ _ _ (sym c.all_spaces.ensures ∙ c.if-all_spaces.false) (test_fails _ _ (sym c.decimal_in.ensures ∙ c.in_default.is))

pub returns : goal.returns
returns c =
    c.in_range.ensures ∙ number_yes _ _ c.args.f.now _ (sym c.all_spaces.ensures ∙ c.if-all_spaces.false) (test_holds _ _ _ (sym c.decimal_in.ensures ∙ c.in-Some.is)) (number_is _ _ _ (sym c.decimal_in.ensures ∙ c.in-Some.is))
