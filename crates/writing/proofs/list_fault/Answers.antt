-- 25, then 26.
-- Assumes nothing.
use Rattle.std.specs.Prelude.{Err}
use mathlib.Core.Path.{sym, ap, ◌∙◌}
use borrow.Author.Tests.{not-true, not-false}
use Rattle.labels.specs.Forms.{format_for}
use Rattle.writing.proofs.PlanLaws.{fault_sum, fault_rest}
use Rattle.writing.proofs.list_fault.Goals as goal

pub returns-then-not-sums_to : goal.returns-then-not-sums_to
returns-then-not-sums_to c =
    let a = c.args in
    let t = c.sums_to in
    ap Err c.at.ensures
    ∙ fault_sum (format_for a.form) a.B a.R a.size a.lengths.now (sym t.ensures ∙ not-true t.result c.if-not-sums_to.true-raw)

pub returns : goal.returns
returns c =
    let a = c.args in
    let t = c.sums_to in
    c.first_wrong.ensures
    ∙ fault_rest (format_for a.form) a.B a.R a.size a.lengths.now (sym t.ensures ∙ not-false t.result c.if-not-sums_to.false-raw)
