-- The answer to a reader on its way: at the end, in one turn, or in several.
-- Assumes nothing.
use mathlib.Core.Path.{refl, sym, ◌∙◌}
use native.Mathlib.Omega.{arith}
use Rattle.reading.proofs.MeetingLaws.{turned_less, done_says, measures_on, on_same}
use Rattle.reading.proofs.ReplyLaws.{answers_end, answers_from}
use Rattle.reading.proofs.read_from.Goals as goal

pub loop-w-init : goal.loop-w-init
loop-w-init c =
    let x = c.args in
    let p = c.requires in
    (p.1, p.2, refl, refl, refl)

pub take_turn-t-requires : goal.take_turn-t-requires
take_turn-t-requires c =
    let x = c.args in
    let p = c.requires in
    let l = c.loop-w in
    (p.0, l.invariant.0, omega arith)

pub at_once-requires : goal.at_once-requires
at_once-requires c =
    let x = c.args in
    let p = c.requires in
    let l = c.loop-w in
    (p.0, l.invariant.0, l.invariant.1, (done_says x.image.now x.f x.mode l.w _ _ c.take_turn-t.ensures c.in-Done.is l.invariant.1).1)

pub returns-in-Done : goal.returns-in-Done
returns-in-Done c =
    let x = c.args in
    let p = c.requires in
    let l = c.loop-w in
    answers_from x.image.now x.f _ _ x.out.now l.out _ _
    (sym l.invariant.2 ∙ (done_says x.image.now x.f x.mode l.w _ _ c.take_turn-t.ensures c.in-Done.is l.invariant.1).0) l.invariant.3 c.at_once.ensures

pub measure-requires : goal.measure-requires
measure-requires c =
    let x = c.args in
    let p = c.requires in
    let l = c.loop-w in
    (p.0, (turned_less x.image.now x.f x.mode l.w _ _ c.take_turn-t.ensures c.in-On.is).0)

pub at_length-requires : goal.at_length-requires
at_length-requires c =
    let x = c.args in
    let p = c.requires in
    let l = c.loop-w in
    (p.0, l.invariant.0, l.invariant.1, measures_on x.image.now x.f x.mode l.w _ _ _ c.take_turn-t.ensures c.in-On.is c.measure.ensures l.invariant.1)

pub returns-then-length_of-gt0 : goal.returns-then-length_of-gt0
returns-then-length_of-gt0 c =
    let x = c.args in
    let p = c.requires in
    let l = c.loop-w in
    answers_from x.image.now x.f _ _ x.out.now l.out _ _ (sym l.invariant.2) l.invariant.3 c.at_length.ensures

pub loop-w-smaller : goal.loop-w-smaller
loop-w-smaller c =
    let x = c.args in
    let p = c.requires in
    let l = c.loop-w in
    (turned_less x.image.now x.f x.mode l.w _ _ c.take_turn-t.ensures c.in-On.is).1

pub loop-w-preserved : goal.loop-w-preserved
loop-w-preserved c =
    let x = c.args in
    let p = c.requires in
    let l = c.loop-w in (
      (turned_less x.image.now x.f x.mode l.w _ _ c.take_turn-t.ensures c.in-On.is).0,
      omega (arith, c.length_of.ensures),
      sym (on_same x.image.now x.f x.mode l.w _ _ c.take_turn-t.ensures c.in-On.is l.invariant.1 (omega (arith, c.length_of.ensures))) ∙ l.invariant.2,
      l.invariant.3,
      l.invariant.4,
    )

pub returns : goal.returns
returns c =
    let x = c.args in
    let p = c.requires in
    let l = c.loop-w in
    answers_from x.image.now x.f _ _ x.out.now l.out _ _ (sym l.invariant.2) l.invariant.3
    (answers_end x.image.now x.f p.0 l.out x.mode l.w _ _ (omega arith) c.at_end.ensures c.answered.ensures)
