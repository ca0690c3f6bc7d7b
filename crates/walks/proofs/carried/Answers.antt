-- Behind a segment that is taken in.
-- Assumes nothing.
use mathlib.Core.Path.{refl, sym, ap, ◌∙◌}
use native.Mathlib.Omega.{arith}
use Rattle.standard.specs.declared.Place.{Place}
use Rattle.walks.specs.declared.Walk.{Walk}
use Rattle.walks.proofs.WalkLaws.{small, end_low, carry_low, turned_on, turned_next, turned_stops}
use Rattle.walks.proofs.carried.Goals as goal

pub overflow_add-end : goal.overflow_add-end
overflow_add-end c =
    let x = c.args in
    let p = c.requires in
    omega (arith, small x.image.now x.f x.w p.0 x.role x.size p.1, p.0.1.2)

pub rest_is_fill-requires : goal.rest_is_fill-requires
rest_is_fill-requires c =
    let x = c.args in
    let p = c.requires in
    (p.0, end_low x.image.now x.f x.w p.0 x.role x.size p.1)

pub next-requires : goal.next-requires
next-requires c =
    let x = c.args in
    let p = c.requires in
    (p.0, carry_low x.image.now x.f x.w p.0 x.role x.size p.1 x.stand p.2)

pub returns-then-rest_is_fill : goal.returns-then-rest_is_fill
returns-then-rest_is_fill c =
    let x = c.args in
    let p = c.requires in
    turned_next x.image.now x.f x.w p.0 x.role x.size p.1 x.stand p.2 x.mode c.next.result (sym c.completes.ensures ∙ c.if-completes.false)
    (sym c.rest_is_fill.ensures ∙ c.if-rest_is_fill.true) c.next.ensures.0 c.next.ensures.1 c.next.ensures.2 c.next.ensures.3

pub returns-then-completes : goal.returns-then-completes
returns-then-completes c =
    let x = c.args in
    let p = c.requires in
    let v : Walk = record { place = c.behind.result; at = x.w.at; stand = x.stand } in
    turned_on x.image.now x.f x.w p.0 x.role x.size p.1 x.stand p.2 x.mode v (sym c.completes.ensures ∙ c.if-completes.true) (ap (λ (q : Place). q.block) c.behind.ensures)
    (ap (λ (q : Place). q.offset) c.behind.ensures) refl refl

pub returns : goal.returns
returns c =
    let x = c.args in
    let p = c.requires in
    turned_stops x.image.now x.f x.w p.0 x.role x.size p.1 x.stand p.2 x.mode c.broken_at.result (sym c.completes.ensures ∙ c.if-completes.false)
    (sym c.rest_is_fill.ensures ∙ c.if-rest_is_fill.false) c.broken_at.ensures
