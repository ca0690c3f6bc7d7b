-- `look_f` meets its contract.
-- Assumes nothing.
use native.Mathlib.Omega.{arith}
use Rattle.pieces.proofs.WordLaws.{f_none, f_small, f_large, f_right}
use Rattle.pieces.proofs.look_f.Goals as goal

pub returns-then-n-eq0 : goal.returns-then-n-eq0
returns-then-n-eq0 c = f_none _ _ (omega arith)

pub returns-then-r-lt1 : goal.returns-then-r-lt1
returns-then-r-lt1 c = f_small _ _ (λ z. omega arith) (omega arith)

pub returns-then-n-r : goal.returns-then-n-r
returns-then-n-r c = f_large _ _ (λ z. omega arith) (omega arith) (omega arith)

pub returns : goal.returns
returns c = f_right _ _ (λ z. omega arith) (omega arith) (omega arith)
