-- A record in one block.
-- Assumes nothing.
use Prim.Native.Nat.{ℕ, ◌≤◌, ◌-◌}
use mathlib.Core.Path.{sym, ap, subst, ◌∙◌}
use mathlib.Core.List.{[]}
use lib.ListN.{length}
use lib.Seq.{paste}
use borrow.Author.Tests.{not-true, not-false}
use Rattle.walks.specs.Stands.{length_of, met_with, length_in}
use Rattle.walks.specs.Walks.{body_ahead, Reached, grown}
use Rattle.walks.specs.declared.Mode.TheVariants.{Plain}
use Rattle.reading.proofs.MeetingLaws.{done_measured}
use Rattle.reading.proofs.ReplyLaws.{answers_no, answers_yes, once_room, once_laid}
use Rattle.reading.proofs.at_once.Goals as goal

pub returns-then-not-fits : goal.returns-then-not-fits
returns-then-not-fits c =
    let x = c.args in
    let p = c.requires in
    answers_no x.image.now x.f p.0 x.out.now (met_with (grown x.image.now x.f x.w [] (length_in x.x)) x.x) x.x _
    (sym (done_measured x.image.now x.f Plain x.w x.x [] (sym p.2) p.3)) (sym c.fits.ensures ∙ not-true _ c.if-not-fits.true-raw) c.answered.ensures

pub put-requires : goal.put-requires
put-requires c =
    let x = c.args in
    let p = c.requires in
    let h = sym c.fits.ensures ∙ not-false _ c.if-not-fits.false-raw in
    let r =
    subst (λ (n : ℕ). (Reached x.image.now x.f x.w n) × (n ≤ length x.out.now)) (sym c.length_in.ensures) (once_room x.image.now x.f x.w p.2 x.x (length x.out.now) p.3 h) in
    (p.0, p.1, r.0, r.1)

pub returns : goal.returns
returns c =
    let x = c.args in
    let p = c.requires in
    let h = sym c.fits.ensures ∙ not-false _ c.if-not-fits.false-raw in
    let l =
    once_laid x.image.now x.f x.w p.2 x.x x.out.now _ p.3 h
    (c.put.ensures
    ∙ ap (λ (n : ℕ). paste x.out.now (length_of x.w.stand) (body_ahead x.image.now x.f x.w) (n - length_of x.w.stand)) c.length_in.ensures) in
    answers_yes x.image.now x.f p.0 x.out.now (met_with (grown x.image.now x.f x.w [] (length_in x.x)) x.x) x.x _ _
    (sym (done_measured x.image.now x.f Plain x.w x.x [] (sym p.2) p.3)) h c.answered-2.ensures l
