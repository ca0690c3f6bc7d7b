-- `extent_in` meets its contract: a slot with no label, and one with a label.
-- Assumes nothing.
use Rattle.std.proofs.Common.{ℕ, List, sym, ap, ◌∙◌}
use Rattle.standard.specs.Addresses.{rank}
use Rattle.standard.specs.Labels.{start_of, end_of}
use borrow.Author.Tests.{not-true, not-false}
use Rattle.index.proofs.ExtentLaws.{extent_none, extent_label}
use Rattle.index.proofs.extent_in.Goals as goal

pub returns-then-not-is_label : goal.returns-then-not-is_label
returns-then-not-is_label c = extent_none _ _ _ (sym c.is_label.ensures ∙ not-true c.is_label.result c.if-not-is_label.true-raw)

pub returns : goal.returns
returns c =
    let g = c.args.g in
    let h = c.label_at-h.ensures.0 in
    extent_label _ _ _ _ _ (sym c.is_label.ensures ∙ not-false c.is_label.result c.if-not-is_label.false-raw) (c.start_rank.ensures.0 ∙ ap (λ (l : List ℕ). rank g (start_of l)) h) (c.end_rank.ensures.0 ∙ ap (λ (l : List ℕ). rank g (end_of l)) h)
