-- `copy_run` meets its contract.
-- Assumes nothing.
use Prim.Native.Nat.{ℕ, ◌+◌, ◌<◌}
use mathlib.Core.Path.{◌≡◌, refl, ◌∙◌, sym, ap}
use mathlib.Core.List.{List}
use native.Mathlib.Numerals.{add-one}
use native.Mathlib.Omega.{arith}
use lib.ListN.{set, get_or, drop, length, length-drop, length-set}
use lib.Seq.{paste, paste-zero, paste-suc, get_or-drop}
use Rattle.fields.proofs.copy_run.Goals as goal

pub loop-i-init : goal.loop-i-init
loop-i-init c =
    let x = c.args in
    (refl, paste-zero x.out.now x.at (drop x.from x.bytes.now))

pub loop-i-preserved : goal.loop-i-preserved
loop-i-preserved c =
    let x = c.args in
    let w = c.loop-i in
    let s = drop x.from x.bytes.now in
    let o = x.out.now in
    let l : w.i < length s = rw (length-drop x.from x.bytes.now) (omega arith) in (
      length-set w.out (x.at + w.i) _ ∙ w.invariant.0,
      ap (λ (d : List ℕ). set d (x.at + w.i) (get_or x.bytes.now (x.from + w.i) 0)) w.invariant.1
          ∙ (ap (λ (y : ℕ). set (paste o x.at s w.i) (x.at + w.i) y) (sym (get_or-drop x.from x.bytes.now w.i 0))
          ∙ rw (add-one w.i) (paste-suc o x.at s w.i 0 (omega arith) l)),
    )

pub returns : goal.returns
returns c =
    let x = c.args in
    let w = c.loop-i in
    let e : w.i ≡ x.n = omega arith in
    w.invariant.1 ∙ ap (λ (k : ℕ). paste x.out.now x.at (drop x.from x.bytes.now) k) e
