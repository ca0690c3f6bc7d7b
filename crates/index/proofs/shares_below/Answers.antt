-- `shares_below` meets its contract: a slot with no label, and one with a label.
-- Assumes nothing.
use Rattle.std.proofs.Common.{sym, ◌∙◌, rules, tests}
use Rattle.std.proofs.lemmas.Iterator.{YieldsList-from_slice}
use Rattle.std.proofs.lemmas.Iterator.Search.{any_from_yields_List}
use Rattle.index.specs.Extents.{touches}
use Rattle.index.proofs.ExtentLaws.{shares_by, no_label_shares}
use Rattle.index.proofs.shares_below.Goals as goal

pub returns-then-is_label : goal.returns-then-is_label
returns-then-is_label c =
    let a = c.args in
    let p = c.requires in
    let any = any_from_yields_List (touches a.x) _ _ c.any.result c.any.ensures.ran (YieldsList-from_slice a.lower.now cc) (λ y b q k. search (rules, tests)) in
    shares_by a.g a.image.now p.0 a.lower.now a.slot a.x _ p.1 p.2 p.4 p.5 p.3 any

pub returns-else-is_label : goal.returns-else-is_label
returns-else-is_label c = c.if-is_label.false ∙ sym (no_label_shares _ _ _ _ (sym c.is_label.ensures ∙ c.if-is_label.false))
