-- `kinds` meets its contract: the first of the index cylinder, then the first of the others.
-- Assumes nothing.
use Rattle.std.specs.Prelude.{Err}
use mathlib.Core.Path.{sym, ap, ◌∙◌}
use Rattle.layout.proofs.RunLaws.{first_fits, behind_fits, below_some, stops_first, stops_behind, stops_nowhere}
use native.Mathlib.Omega.{arith}
use Rattle.layout.proofs.kinds.Goals as goal

pub first_illegal-requires : goal.first_illegal-requires
first_illegal-requires c = (omega arith, omega arith, first_fits _ c.args.image.now c.index_sectors-n.result c.index_sectors-n.ensures.0 c.requires)

pub returns-in-Some : goal.returns-in-Some
returns-in-Some c = ap Err c.at.ensures ∙ stops_first _ _ c.index_sectors-n.result c.index_sectors-n.ensures.0 _ (sym c.in-Some.is ∙ c.first_illegal.ensures)

pub first_illegal-requires-2 : goal.first_illegal-requires-2
first_illegal-requires-2 c = (omega arith, omega arith, behind_fits _ c.args.image.now c.index_sectors-n.result c.index_sectors-n.ensures.0 c.later_sectors.result c.from-size.result c.from.result c.later_sectors.ensures.0 c.from-size.ensures c.from.ensures c.requires)

pub overflow_add-n : goal.overflow_add-n
overflow_add-n c =
    let b = below_some _ _ _ (sym c.first_illegal-2.ensures ∙ c.in-Some-first_illegal.is) in
    omega (arith, b.1)

pub returns-in-Some-first_illegal : goal.returns-in-Some-first_illegal
returns-in-Some-first_illegal c =
    ap Err c.at-in-Some-first_illegal.ensures
    ∙ stops_behind _ _ c.index_sectors-n.result c.index_sectors-n.ensures.0
    c.later_sectors.result c.from-size.result c.from.result c.later_sectors.ensures.0 c.from-size.ensures c.from.ensures c.requires
    (sym c.in_default.is ∙ c.first_illegal.ensures) _ (sym c.in-Some-first_illegal.is ∙ c.first_illegal-2.ensures)

pub returns : goal.returns
returns c =
    stops_nowhere _ _ c.index_sectors-n.result c.index_sectors-n.ensures.0
    c.later_sectors.result c.from-size.result c.from.result c.later_sectors.ensures.0 c.from-size.ensures c.from.ensures c.requires
    (sym c.in_default.is ∙ c.first_illegal.ensures) (sym c.in_default-first_illegal.is ∙ c.first_illegal-2.ensures)
