-- `number_in` meets its contract: one character more, and at the end all of them.
-- Assumes nothing.
use mathlib.Core.Path.{◌≡◌, sym, ap, ◌∙◌}
use Prim.Native.Nat.{ℕ, ◌^◌}
use native.Mathlib.Omega.{arith}
use lib.ListN.{length}
use Rattle.fields.proofs.LoopLaws.{number_more, number_end, bytes_more}
use Rattle.fields.proofs.number_in.Goals as goal

pub loop-c-preserved : goal.loop-c-preserved
loop-c-preserved c =
    let w = c.loop-c in (
      bytes_more _ _ _ w.invariant.0 c.digit.ensures.1,
      w.invariant.1 ∙ number_more c.args.f.now w.n w.c-index (omega arith) ∙ cc,
    )

pub returns : goal.returns
returns c =
    let w = c.loop-c in
    let f = c.args.f.now in
    let e : w.c-index ≡ length f = omega arith in
    (sym (w.invariant.1 ∙ number_end f w.n w.c-index (omega arith)), omega (arith, w.invariant.0, ap (λ (i : ℕ). 10 ^ i) e))
