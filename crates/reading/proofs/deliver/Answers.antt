-- The same walk again, and at each turn what of the body stands there.
-- Assumes nothing.
use Prim.Native.Nat.{ℕ, ◌≤◌, ◌-◌}
use mathlib.Core.Path.{sym, ap, subst, ◌∙◌}
use native.Mathlib.Omega.{arith}
use lib.ListN.{length}
use lib.Seq.{paste}
use Rattle.walks.specs.Stands.{length_of}
use Rattle.walks.specs.Walks.{Entered, body_ahead, Reached}
use Rattle.reading.proofs.MeetingLaws.{delivering_start, on_room, delivering_on, done_room, delivered_done, never_lost, never_ends, turned_less}
use Rattle.reading.proofs.deliver.Goals as goal

pub loop-w-init : goal.loop-w-init
loop-w-init c =
    let x = c.args in
    let p = c.requires in
    delivering_start x.image.now x.f x.mode x.from x.out.now p.2 p.1

pub turn_in-t-requires : goal.turn_in-t-requires
turn_in-t-requires c =
    let x = c.args in
    let p = c.requires in
    let l = c.loop-w in
    let e : Entered x.image.now x.f l.w = (p.0, l.invariant.walking, omega arith) in
    (e, never_lost x.image.now x.f x.mode x.from x.out.now l.w l.out e l.invariant p.3)

pub put-requires : goal.put-requires
put-requires c =
    let x = c.args in
    let p = c.requires in
    let l = c.loop-w in
    let r =
    subst (λ (n : ℕ). (Reached x.image.now x.f l.w n) × (n ≤ length l.out)) (sym c.length_in.ensures)
    (done_room x.image.now x.f x.mode x.from x.out.now l.w l.out _ _ c.turn_in-t.ensures c.in-Done.is l.invariant p.3) in
    (p.0, l.invariant.walking, r.0, r.1)

pub returns-in-Done : goal.returns-in-Done
returns-in-Done c =
    let x = c.args in
    let p = c.requires in
    let l = c.loop-w in
    delivered_done x.image.now x.f x.mode x.from x.out.now l.w l.out _ _ _ c.turn_in-t.ensures c.in-Done.is l.invariant p.3
    (c.put.ensures
    ∙ ap (λ (n : ℕ). paste l.out (length_of l.w.stand) (body_ahead x.image.now x.f l.w) (n - length_of l.w.stand)) c.length_in.ensures)

pub put-requires-in-On : goal.put-requires-in-On
put-requires-in-On c =
    let x = c.args in
    let p = c.requires in
    let l = c.loop-w in
    let r =
    subst (λ (n : ℕ). (Reached x.image.now x.f l.w n) × (n ≤ length l.out)) (sym c.length_of.ensures)
    (on_room x.image.now x.f x.mode x.from x.out.now l.w _ l.out _ c.turn_in-t.ensures c.in-On.is l.invariant p.3) in
    (p.0, l.invariant.walking, r.0, r.1)

pub loop-w-smaller : goal.loop-w-smaller
loop-w-smaller c =
    let x = c.args in
    let p = c.requires in
    let l = c.loop-w in
    (turned_less x.image.now x.f x.mode l.w _ _ c.turn_in-t.ensures c.in-On.is).1

pub loop-w-preserved : goal.loop-w-preserved
loop-w-preserved c =
    let x = c.args in
    let p = c.requires in
    let l = c.loop-w in
    delivering_on x.image.now x.f x.mode x.from x.out.now l.w _ l.out _ _ c.turn_in-t.ensures c.in-On.is l.invariant
    (on_room x.image.now x.f x.mode x.from x.out.now l.w _ l.out _ c.turn_in-t.ensures c.in-On.is l.invariant p.3).1
    (c.put-in-On.ensures
    ∙ ap (λ (n : ℕ). paste l.out (length_of l.w.stand) (body_ahead x.image.now x.f l.w) (n - length_of l.w.stand)) c.length_of.ensures)

pub shape_of-out : goal.shape_of-out
shape_of-out c = let l = c.loop-w in
    l.invariant.long

pub returns : goal.returns
returns c =
    let x = c.args in
    let p = c.requires in
    let l = c.loop-w in
    absurd (never_ends x.image.now x.f x.mode x.from x.out.now p.0 l.w l.out (omega arith) l.invariant p.3)
