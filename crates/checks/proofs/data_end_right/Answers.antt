-- `data_end_right` meets its contract: no data end, or one that is compared with the start.
-- Assumes nothing.
use mathlib.Core.Path.{ap, sym, ◌∙◌}
use borrow.Author.Tests.{not-true, not-false}
use Rattle.standard.specs.Addresses.{rank}
use Rattle.fields.proofs.AddressLaws.{no_data_end, data_end_legal, address_is, address_small}
use Rattle.checks.proofs.ExitLaws.{either, data_end_no, data_end_is}
use Rattle.checks.proofs.data_end_right.Goals as goal

pub returns-in_default : goal.returns-in_default
returns-in_default c = data_end_no _ _ (no_data_end _ _ (sym c.read.ensures ∙ c.in_default.is))

pub returns-then-not-is_legal-past_last : goal.returns-then-not-is_legal-past_last
returns-then-not-is_legal-past_last c =
    data_end_no _ _ (sym (data_end_legal _ _ _ (sym c.read.ensures ∙ c.in-Some.is)) ∙ sym (either _ _ _ _ c.is_legal.ensures c.past_last.ensures) ∙ not-true _ c.if-not-is_legal-past_last.true-raw)

pub rank_of-end-requires : goal.rank_of-end-requires
rank_of-end-requires c =
    address_small _ _ (sym c.read.ensures ∙ c.in-Some.is)

pub returns : goal.returns
returns c =
    data_end_is _ _ _ _ (sym (data_end_legal _ _ _ (sym c.read.ensures ∙ c.in-Some.is)) ∙ sym (either _ _ _ _ c.is_legal.ensures c.past_last.ensures) ∙ not-false _ c.if-not-is_legal-past_last.false-raw) (c.rank_of-end.ensures.0 ∙ ap (rank _) (address_is _ _ (sym c.read.ensures ∙ c.in-Some.is))) c.requires.2 c.requires.1
