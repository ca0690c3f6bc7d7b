-- `spaces_or_date` meets its contract: blank, or digits with month and day in range.
-- Assumes nothing.
use mathlib.Core.Path.{sym, ◌∙◌}
use Rattle.fields.proofs.PerhapsLaws.{some_is}
use Rattle.checks.proofs.ExitLaws.{date_is}
use Rattle.checks.proofs.spaces_or_date.Goals as goal

pub returns : goal.returns
returns c =
    let unspaced = sym c.all_spaces.ensures ∙ c.if-all_spaces.false in
    date_is c.args.f.now _ _ _ _ _ unspaced (some_is _ _ _ c.is_some.ensures c.decimal_in.ensures) c.number_in.ensures.0 c.number_in-2.ensures.0 c.in_range.ensures c.in_range-2.ensures
