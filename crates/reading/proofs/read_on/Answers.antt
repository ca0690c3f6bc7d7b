-- A place of an opened file.
-- Assumes nothing.
use Rattle.std.specs.Prelude.{Err}
use mathlib.Core.Path.{sym, ap, ◌∙◌}
use borrow.Author.Tests.{not-true, not-false}
use Rattle.labels.specs.Forms.{format_for}
use Rattle.opening.specs.Opened.{file_of}
use Rattle.opening.proofs.OpenedLaws.{facts, inside_is}
use Rattle.walks.specs.Walks.{mode_of}
use Rattle.walks.specs.declared.Walk.{Walk}
use Rattle.reading.proofs.ReplyLaws.{answer_19, place_low, walking_start, step_from, format_is, answer_step, seat_same}
use Rattle.reading.proofs.read_on.Goals as goal

pub in_file-requires : goal.in_file-requires
in_file-requires c = let x = c.args in let k = facts x.image.now x.f c.requires.0 in (k.U-low, k.fixed_some)

pub returns-then-not-in_file : goal.returns-then-not-in_file
returns-then-not-in_file c =
    let x = c.args in
    let p = c.requires in
    let r =
    answer_19 (mode_of x.mode) (file_of x.image.now x.f) x.place x.out.now
    (sym (inside_is x.image.now x.f p.0 x.place) ∙ (sym c.in_file.ensures ∙ not-true _ c.if-not-in_file.true-raw)) in
    (ap Err c.at.ensures ∙ r.0, r.1, p.1)

pub seat_at-s-requires : goal.seat_at-s-requires
seat_at-s-requires c =
    let x = c.args in
    let p = c.requires in
    (p.0, p.1, (place_low x.image.now x.f x.place p.0 (sym c.in_file.ensures ∙ not-false _ c.if-not-in_file.false-raw)).0)

pub read_from-requires : goal.read_from-requires
read_from-requires c =
    let x = c.args in
    let p = c.requires in
    let low = place_low x.image.now x.f x.place p.0 (sym c.in_file.ensures ∙ not-false _ c.if-not-in_file.false-raw) in
    let w : Walk = record { place = x.place; at = c.seat_at-s.result.at; stand = c.stand_at.result } in
    (p.0, walking_start x.image.now x.f w c.seat_at-s.ensures.0 low.0 low.1 c.stand_at.ensures.1, c.stand_at.ensures.1)

pub returns : goal.returns
returns c =
    let x = c.args in
    let p = c.requires in
    let w : Walk = record { place = x.place; at = c.seat_at-s.result.at; stand = c.stand_at.result } in
    let inside = sym (inside_is x.image.now x.f p.0 x.place) ∙ (sym c.in_file.ensures ∙ not-false _ c.if-not-in_file.false-raw) in
    let met = step_from x.image.now x.f x.mode w (format_for x.f.form) (format_is x.image.now x.f p.0) c.stand_at.ensures.0 in
    let r = answer_step x.image.now x.f (mode_of x.mode) x.place _ x.out.now _ _ inside met c.read_from.ensures in
    (r.0, r.1, seat_same x.image.now x.f _ x.place.block c.seat_at-s.ensures.1 c.seat_at-s.ensures.0)
