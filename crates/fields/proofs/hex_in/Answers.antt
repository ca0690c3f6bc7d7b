-- `hex_in` meets its contract: one character more, and at the end all of them.
-- Assumes nothing.
use mathlib.Core.Path.{sym, ◌∙◌}
use native.Mathlib.Omega.{arith}
use Rattle.fields.proofs.LoopLaws.{hex_more, hex_end, hex_bytes_more, hex_one, power_two}
use Rattle.fields.proofs.hex_in.Goals as goal

pub loop-c-preserved : goal.loop-c-preserved
loop-c-preserved c =
    let w = c.loop-c in (
      hex_bytes_more _ _ _ w.invariant.0 c.hex_digit.ensures.1,
      w.invariant.1 ∙ hex_more c.args.f.now w.n w.c-index (omega arith) ∙ cc,
    )

pub returns : goal.returns
returns c =
    let w = c.loop-c in (
      sym (w.invariant.1 ∙ hex_end c.args.f.now w.n w.c-index (omega arith)),
      omega (arith, w.invariant.0, power_two w.c-index (omega arith)),
      λ one. hex_one w.n w.c-index w.invariant.0 (omega (arith, one)),
    )
