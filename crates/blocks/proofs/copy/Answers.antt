-- Record by record: what was laid so far, and what is ahead of the cursor behind it.
-- Assumes nothing.
use Prim.Native.Nat.{ℕ, ◌+◌, ◌-◌, ◌≤◌, ◌<◌}
use mathlib.Core.Path.{◌≡◌, ◌∙◌, ap}
use lib.ListN.{drop, length, length-drop}
use lib.Seq.{length-paste, drop-drop}
use native.Mathlib.Omega.{arith}
use Rattle.blocks.specs.Streams.{stream}
use Rattle.blocks.proofs.StreamLaws.{run_inside, stream_some, stream_next}
use Rattle.blocks.proofs.CopyLaws.{paste_turn, paste_run}
use Rattle.blocks.proofs.copy.Goals as goal

pub byte_offset-requires : goal.byte_offset-requires
byte_offset-requires c =
    let x = c.args in
    let w = c.loop-i in
    let l : w.n ≤ length (stream x.g x.image.now w.c w.i) = rw (w.invariant.4, length-drop (x.count - w.n) (stream x.g x.image.now x.from x.first)) (omega (arith, w.invariant.0)) in
    let s = stream_some x.g x.image.now w.c w.i (omega (arith, l, w.invariant.7)) in
    (w.invariant.5, s, omega (arith, w.invariant.6))

pub copy_run-requires : goal.copy_run-requires
copy_run-requires c =
    let x = c.args in
    let w = c.loop-i in
    let k = c.from-p.result - w.i in
    let l : w.n ≤ length (stream x.g x.image.now w.c w.i) = rw (w.invariant.4, length-drop (x.count - w.n) (stream x.g x.image.now x.from x.first)) (omega (arith, w.invariant.0)) in
    let s = stream_some x.g x.image.now w.c w.i (omega (arith, l, w.invariant.7)) in
    (omega (arith, run_inside x.g x.image.now w.c w.i k c.requires.0.0 s w.invariant.5 (omega (arith, w.invariant.6)), c.byte_offset.ensures.0), omega (arith, w.invariant.0, w.invariant.1, w.invariant.2))

pub next_good-c-requires : goal.next_good-c-requires
next_good-c-requires c =
    let x = c.args in
    let w = c.loop-i in
    let l : w.n ≤ length (stream x.g x.image.now w.c w.i) = rw (w.invariant.4, length-drop (x.count - w.n) (stream x.g x.image.now x.from x.first)) (omega (arith, w.invariant.0)) in
    let s = stream_some x.g x.image.now w.c w.i (omega (arith, l, w.invariant.7)) in
    (w.invariant.5, s)

pub loop-i-preserved : goal.loop-i-preserved
loop-i-preserved c =
    let x = c.args in
    let w = c.loop-i in
    let k = c.from-p.result - w.i in
    let o = c.byte_offset in
    let p : w.i + k ≡ x.g.P = omega (arith, w.invariant.6) in
    let z : x.count - w.n + k ≡ x.count - (w.n - k) = omega (arith, w.invariant.0) in
    let hd : x.to + (x.count - (w.n - k)) ≤ length x.out.now = omega arith in
    let hs : x.count - (w.n - k) ≤ length (stream x.g x.image.now x.from x.first) = omega arith in
    let ha : w.at + k ≡ x.to + (x.count - (w.n - k)) = omega (arith, w.invariant.0, w.invariant.1) in
    let hn : w.n - k ≤ x.count = omega (arith, w.invariant.0) in
    let some : 0 < x.g.P = omega arith in
    let more : 1 ≤ w.n - k = omega arith in
    let l : w.n ≤ length (stream x.g x.image.now w.c w.i) = rw (w.invariant.4, length-drop (x.count - w.n) (stream x.g x.image.now x.from x.first)) (omega (arith, w.invariant.0)) in
    let s = stream_some x.g x.image.now w.c w.i (omega (arith, l, w.invariant.7)) in
    let r = paste_run x.g x.image.now w.c w.i k o.result w.out w.at c.requires.0.0 s w.invariant.5 (omega (arith, p)) o.ensures.0 in
    let t = paste_turn x.out.now x.to (stream x.g x.image.now x.from x.first) (x.count - w.n) k (x.count - (w.n - k)) w.out w.at (stream x.g x.image.now w.c w.i) (omega arith) (omega arith) z w.invariant.3 w.invariant.1 w.invariant.4 in
    let q = c.copy_run.ensures ∙ (r ∙ t) in
    let next = stream_next x.g x.image.now w.c c.next_good-c.result w.i k c.requires.0.0 w.invariant.5 c.next_good-c.ensures.0 p in (
      hn,
      ha,
      ap length q ∙ length-paste x.out.now x.to (stream x.g x.image.now x.from x.first) (x.count - (w.n - k)) hd hs,
      q,
      next ∙ (ap (drop k) w.invariant.4 ∙ (drop-drop k (x.count - w.n) (stream x.g x.image.now x.from x.first) ∙ ap (λ (m : ℕ). drop m (stream x.g x.image.now x.from x.first)) z)),
      c.next_good-c.ensures.1,
      some,
      more,
    )

pub byte_offset-requires-2 : goal.byte_offset-requires-2
byte_offset-requires-2 c =
    let x = c.args in
    let w = c.loop-i in
    let l : w.n ≤ length (stream x.g x.image.now w.c w.i) = rw (w.invariant.4, length-drop (x.count - w.n) (stream x.g x.image.now x.from x.first)) (omega (arith, w.invariant.0)) in
    let s = stream_some x.g x.image.now w.c w.i (omega (arith, l, w.invariant.7)) in
    (w.invariant.5, s, omega (arith, w.invariant.6))

pub copy_run-requires-2 : goal.copy_run-requires-2
copy_run-requires-2 c =
    let x = c.args in
    let w = c.loop-i in
    let l : w.n ≤ length (stream x.g x.image.now w.c w.i) = rw (w.invariant.4, length-drop (x.count - w.n) (stream x.g x.image.now x.from x.first)) (omega (arith, w.invariant.0)) in
    let s = stream_some x.g x.image.now w.c w.i (omega (arith, l, w.invariant.7)) in
    (omega (arith, run_inside x.g x.image.now w.c w.i w.n c.requires.0.0 s w.invariant.5 (omega (arith, w.invariant.6)), c.byte_offset-2.ensures.0), omega (arith, w.invariant.0, w.invariant.1, w.invariant.2))

pub returns : goal.returns
returns c =
    let x = c.args in
    let w = c.loop-i in
    let o = c.byte_offset-2 in
    let l : w.n ≤ length (stream x.g x.image.now w.c w.i) = rw (w.invariant.4, length-drop (x.count - w.n) (stream x.g x.image.now x.from x.first)) (omega (arith, w.invariant.0)) in
    let s = stream_some x.g x.image.now w.c w.i (omega (arith, l, w.invariant.7)) in
    let z : x.count - w.n + w.n ≡ x.count = omega (arith, w.invariant.0) in
    let r = paste_run x.g x.image.now w.c w.i w.n o.result w.out w.at c.requires.0.0 s w.invariant.5 (omega (arith, w.invariant.6)) o.ensures.0 in
    let t = paste_turn x.out.now x.to (stream x.g x.image.now x.from x.first) (x.count - w.n) w.n x.count w.out w.at (stream x.g x.image.now w.c w.i) (omega arith) (omega arith) z w.invariant.3 w.invariant.1 w.invariant.4 in
    c.copy_run-2.ensures ∙ (r ∙ t)
