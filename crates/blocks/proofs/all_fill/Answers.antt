-- Record by record: what is asked from here is what was asked from the start.
-- Assumes nothing.
use Prim.Native.Nat.{ℕ, ◌+◌, ◌-◌, ◌≤◌, ◌<◌}
use mathlib.Core.Path.{◌≡◌, ◌∙◌, sym, ap}
use mathlib.Core.List.{List}
use lib.ListN.{take}
use native.Mathlib.Omega.{arith}
use borrow.Author.Tests.{not-true, not-false}
use Rattle.standard.specs.Pieces.{is_fill}
use Rattle.blocks.specs.Streams.{stream}
use Rattle.blocks.proofs.StreamLaws.{stream_none, stream_next, run_inside}
use Rattle.blocks.proofs.FillLaws.{fill_on, fill_not, none_there, run_fill}
use Rattle.blocks.proofs.all_fill.Goals as goal

pub returns-then-c-eq0 : goal.returns-then-c-eq0
returns-then-c-eq0 c =
    let x = c.args in
    let w = c.loop-i in
    sym (sym w.invariant.0 ∙ (ap (λ (s : List ℕ). is_fill (take w.n s)) (stream_none x.g x.image.now w.c w.i (omega arith)) ∙ none_there w.n))

pub fill_run-requires : goal.fill_run-requires
fill_run-requires c =
    let x = c.args in
    let w = c.loop-i in
    omega (arith, run_inside x.g x.image.now w.c w.i (x.g.P - w.i) c.requires.0.0 (omega arith) w.invariant.1 (omega (arith, w.invariant.2)), c.byte_offset.ensures.0, w.invariant.2)

pub returns-then-not-fill_run : goal.returns-then-not-fill_run
returns-then-not-fill_run c =
    let x = c.args in
    let w = c.loop-i in
    let k = c.from-p.result - w.i in
    let o = c.byte_offset in
    let f = run_fill x.g x.image.now w.c w.i k o.result c.requires.0.0 (omega arith) w.invariant.1 (omega (arith, w.invariant.2)) o.ensures.0 in
    let t = sym f ∙ (sym c.fill_run.ensures ∙ not-true c.fill_run.result c.if-not-fill_run.true-raw) in
    sym (sym w.invariant.0 ∙ fill_not k w.n (stream x.g x.image.now w.c w.i) (omega arith) t)

pub loop-i-preserved : goal.loop-i-preserved
loop-i-preserved c =
    let x = c.args in
    let w = c.loop-i in
    let k = c.from-p.result - w.i in
    let o = c.byte_offset in
    let p : w.i + k ≡ x.g.P = omega (arith, w.invariant.2) in
    let less : w.n - k ≤ x.count = omega (arith, w.invariant.3) in
    let some : 0 < x.g.P = omega arith in
    let f = run_fill x.g x.image.now w.c w.i k o.result c.requires.0.0 (omega arith) w.invariant.1 (omega (arith, p)) o.ensures.0 in
    let t = sym f ∙ (sym c.fill_run.ensures ∙ not-false c.fill_run.result c.if-not-fill_run.false-raw) in
    let s = stream x.g x.image.now w.c w.i in
    let next = stream_next x.g x.image.now w.c c.next_good-c.result w.i k c.requires.0.0 w.invariant.1 c.next_good-c.ensures.0 p in
    (ap (λ (u : List ℕ). is_fill (take (w.n - k) u)) next ∙ (fill_on k w.n s (omega arith) t ∙ w.invariant.0), c.next_good-c.ensures.1, some, less)

pub returns-then-c-eq0-2 : goal.returns-then-c-eq0-2
returns-then-c-eq0-2 c =
    let x = c.args in
    let w = c.loop-i in
    sym (sym w.invariant.0 ∙ (ap (λ (s : List ℕ). is_fill (take w.n s)) (stream_none x.g x.image.now w.c w.i (omega arith)) ∙ none_there w.n))

pub fill_run-requires-2 : goal.fill_run-requires-2
fill_run-requires-2 c =
    let x = c.args in
    let w = c.loop-i in
    omega (arith, run_inside x.g x.image.now w.c w.i w.n c.requires.0.0 (omega arith) w.invariant.1 (omega (arith, w.invariant.2)), c.byte_offset-2.ensures.0)

pub returns : goal.returns
returns c =
    let x = c.args in
    let w = c.loop-i in
    let o = c.byte_offset-2 in
    c.fill_run-2.ensures ∙ (run_fill x.g x.image.now w.c w.i w.n o.result c.requires.0.0 (omega arith) w.invariant.1 (omega (arith, w.invariant.2)) o.ensures.0 ∙ w.invariant.0)
