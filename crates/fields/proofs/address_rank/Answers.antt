-- `address_rank` meets its contract: no digits, not legal, or the rank.
-- Assumes nothing.
use mathlib.Core.Path.{sym, ap, ◌∙◌}
use borrow.Author.Tests.{not-true, not-false}
use Rattle.standard.specs.Addresses.{rank}
use Rattle.fields.proofs.PerhapsLaws.{is_number, is_nothing}
use Rattle.fields.proofs.AddressLaws.{no_address, address_legal, address_is, address_small}
use Rattle.fields.proofs.address_rank.Goals as goal

pub returns-in_err-a : goal.returns-in_err-a
returns-in_err-a c = rw c.from_residual.ensures (is_nothing _ _ (no_address _ _ (sym c.read.ensures ∙ c.in_err-a.was)))

pub returns-then-not-is_legal : goal.returns-then-not-is_legal
returns-then-not-is_legal c =
    is_nothing _ _ (sym (address_legal _ _ _ (sym c.read.ensures ∙ c.in_ok-a.was)) ∙ sym c.is_legal.ensures ∙ not-true _ c.if-not-is_legal.true-raw)

pub rank_of-requires : goal.rank_of-requires
rank_of-requires c =
    address_small _ _ (sym c.read.ensures ∙ c.in_ok-a.was)

pub returns : goal.returns
returns c =
    is_number _ _ _ (sym (address_legal _ _ _ (sym c.read.ensures ∙ c.in_ok-a.was)) ∙ sym c.is_legal.ensures ∙ not-false _ c.if-not-is_legal.false-raw) (c.rank_of.ensures.0 ∙ ap (rank _) (address_is _ _ (sym c.read.ensures ∙ c.in_ok-a.was)))
