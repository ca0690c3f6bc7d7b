-- `past_one` meets its contract: before the start, behind the n addresses, or met.
-- Assumes nothing.
use Prim.Native.Nat.{ℕ, ◌+◌}
use mathlib.Core.Path.{ap, ◌∙◌}
use native.Mathlib.Omega.{arith}
use Rattle.vacancy.proofs.PassLaws.{one_before, one_behind, one_met}
use Rattle.vacancy.proofs.past_one.Goals as goal

pub returns-then-end-start : goal.returns-then-end-start
returns-then-end-start c = (one_before _ _ _ (omega arith), omega arith)

pub returns-then-start-n : goal.returns-then-start-n
returns-then-start-n c = (one_behind _ _ _ (omega arith) (omega arith), omega arith)

pub returns : goal.returns
returns c = (ap (λ (x : ℕ). x + 1) c.from-end.ensures ∙ one_met _ _ _ (omega arith) (omega arith), omega arith)
