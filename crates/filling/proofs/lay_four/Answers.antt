-- `lay_four` meets its contract.
-- Assumes nothing.
use native.Mathlib.Omega.{arith}
use Rattle.filling.proofs.WordLaws.{four_laid}
use Rattle.filling.proofs.lay_four.Goals as goal

pub returns : goal.returns
returns c = let x = c.args in four_laid x.word (omega arith) x.i x.body.now c.requires
