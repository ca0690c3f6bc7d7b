-- A record over several blocks.
-- Assumes nothing.
use mathlib.Core.Path.{sym, ap, ◌∙◌}
use mathlib.Core.List.{[]}
use lib.ListN.{length}
use borrow.Author.Tests.{not-true, not-false}
use Rattle.opening.specs.Opened.{file_of}
use Rattle.walks.specs.Walks.{met_from}
use Rattle.reading.specs.Answers.{fits_in}
use Rattle.reading.proofs.ReplyLaws.{room_for, answers_no, answers_yes}
use Rattle.reading.proofs.at_length.Goals as goal

pub returns-then-not-fits : goal.returns-then-not-fits
returns-then-not-fits c =
    let x = c.args in
    let p = c.requires in
    answers_no x.image.now x.f p.0 x.out.now (met_from x.image.now x.f x.mode x.w []) x.x _ p.3 (sym c.fits.ensures ∙ not-true _ c.if-not-fits.true-raw) c.answered.ensures

pub deliver-requires : goal.deliver-requires
deliver-requires c =
    let x = c.args in
    let p = c.requires in
    let h = sym c.fits.ensures ∙ not-false _ c.if-not-fits.false-raw in
    (p.0, p.1, p.2, room_for (file_of x.image.now x.f) (length x.out.now) (met_from x.image.now x.f x.mode x.w []) (ap (fits_in (length x.out.now)) (sym p.3) ∙ h))

pub returns : goal.returns
returns c =
    let x = c.args in
    let p = c.requires in
    let h = sym c.fits.ensures ∙ not-false _ c.if-not-fits.false-raw in
    answers_yes x.image.now x.f p.0 x.out.now (met_from x.image.now x.f x.mode x.w []) x.x _ _ p.3 h c.answered-2.ensures c.deliver.ensures
