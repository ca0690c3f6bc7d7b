-- What is measured from each turn on is what is measured from the start.
-- Assumes nothing.
use mathlib.Core.Path.{sym, subst}
use native.Mathlib.Omega.{arith}
use Rattle.reading.specs.Answers.{Measures}
use Rattle.reading.proofs.MeetingLaws.{same_start, same_on, measures_done, measures_end, turned_less}
use Rattle.reading.proofs.measure.Goals as goal

pub loop-w-init : goal.loop-w-init
loop-w-init c =
    let x = c.args in
    let p = c.requires in
    (p.1, same_start x.image.now x.f x.mode x.from)

pub take_turn-t-requires : goal.take_turn-t-requires
take_turn-t-requires c =
    let x = c.args in
    let p = c.requires in
    let l = c.loop-w in
    (p.0, l.invariant.0, omega arith)

pub returns-in-Done : goal.returns-in-Done
returns-in-Done c =
    let x = c.args in
    let p = c.requires in
    let l = c.loop-w in
    measures_done x.image.now x.f x.mode l.w x.from _ _ c.take_turn-t.ensures c.in-Done.is l.invariant.1

pub loop-w-smaller : goal.loop-w-smaller
loop-w-smaller c =
    let x = c.args in
    let p = c.requires in
    let l = c.loop-w in
    (turned_less x.image.now x.f x.mode l.w _ _ c.take_turn-t.ensures c.in-On.is).1

pub loop-w-preserved : goal.loop-w-preserved
loop-w-preserved c =
    let x = c.args in
    let p = c.requires in
    let l = c.loop-w in
    ((turned_less x.image.now x.f x.mode l.w _ _ c.take_turn-t.ensures c.in-On.is).0, same_on x.image.now x.f x.mode l.w x.from _ _ c.take_turn-t.ensures c.in-On.is l.invariant.1)

pub returns : goal.returns
returns c =
    let x = c.args in
    let p = c.requires in
    let l = c.loop-w in
    subst (Measures x.image.now x.f x.mode x.from) (sym c.at_end.ensures) (measures_end x.image.now x.f x.mode p.0 l.w x.from (omega arith) l.invariant.1)
