-- `named_like` meets its contract.
-- Assumes nothing.
use Rattle.std.proofs.Common.{sym, ◌∙◌}
use borrow.Author.Tests.{not-true, not-false}
use Rattle.index.proofs.NameLaws.{keys_differ, lower_unknown, both_known}
use Rattle.index.proofs.named_like.Goals as goal

pub returns-then-key-other : goal.returns-then-key-other
returns-then-key-other c = keys_differ _ _ _ _ (λ q. c.if-key-other.true (c.requires.6 ∙ q ∙ sym c.requires.7))

pub returns-then-not-is_known : goal.returns-then-not-is_known
returns-then-not-is_known c = lower_unknown _ _ _ _ c.requires.5 (sym c.is_known.ensures ∙ not-true c.is_known.result c.if-not-is_known.true-raw)

pub returns : goal.returns
returns c =
    both_known _ _ _ _ _ _ _ c.requires.5 (sym c.is_known.ensures ∙ not-false c.is_known.result c.if-not-is_known.false-raw) c.name_is.ensures c.label_at.ensures.0 c.label_at-h.ensures.0
