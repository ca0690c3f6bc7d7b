-- What stands at a walk's place, and what that does to it.
-- Assumes nothing.
use mathlib.Core.Path.{sym, ◌∙◌}
use Rattle.walks.proofs.WalkLaws.{turned_broken, turned_blank}
use Rattle.walks.proofs.turn_in.Goals as goal

pub returns-in-Blank : goal.returns-in-Blank
returns-in-Blank c =
    let x = c.args in
    let p = c.requires in
    turned_blank x.image.now x.f x.w p.0 x.mode c.next.result p.1 (sym c.in-Blank.is ∙ c.seen-met.ensures)
    c.next.ensures.0 c.next.ensures.1 c.next.ensures.2 c.next.ensures.3

pub returns-in-Broken : goal.returns-in-Broken
returns-in-Broken c =
    let x = c.args in
    let p = c.requires in
    turned_broken x.image.now x.f x.w p.0 x.mode c.broken_at.result p.1 (sym c.in-Broken.is ∙ c.seen-met.ensures) c.broken_at.ensures
