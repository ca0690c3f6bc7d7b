-- `judge` meets its contract: 1 and 2, and the rest.
-- Assumes nothing.
use Rattle.std.specs.Prelude.{Err}
use mathlib.Core.Path.{sym, ap, ◌∙◌}
use Rattle.volume.proofs.JudgeLaws.{short, bad_5, bad_7, behind_2}
use Rattle.volume.proofs.judge.Goals as goal

pub returns-then-image-lt903 : goal.returns-then-image-lt903
returns-then-image-lt903 c = ap Err c.at.ensures ∙ short _ c.if-image-lt903.true

pub returns-then-index_kind-ne0 : goal.returns-then-index_kind-ne0
returns-then-index_kind-ne0 c = ap Err c.at-then-index_kind-ne0.ensures ∙ bad_5 _ c.if-image-lt903.false (λ q. c.if-index_kind-ne0.true (c.index_kind.ensures.0 ∙ q))

pub returns-then-index_kind-ne0-2 : goal.returns-then-index_kind-ne0-2
returns-then-index_kind-ne0-2 c = ap Err c.at-then-index_kind-ne0-2.ensures ∙ bad_7 _ c.if-image-lt903.false (sym c.index_kind.ensures.0 ∙ c.if-index_kind-ne0.false) (λ q. c.if-index_kind-ne0-2.true (c.index_kind-2.ensures.0 ∙ q))

pub returns : goal.returns
returns c = behind_2 _ c.if-image-lt903.false _ (sym c.index_kind.ensures.0 ∙ c.if-index_kind-ne0.false) (sym c.index_kind-2.ensures.0 ∙ c.if-index_kind-ne0-2.false) c.judge_vol1.ensures
