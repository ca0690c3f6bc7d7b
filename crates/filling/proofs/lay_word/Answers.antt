-- `lay_word` meets its contract.
-- Assumes nothing.
use native.Mathlib.Omega.{arith}
use Rattle.filling.proofs.WordLaws.{word_laid}
use Rattle.filling.proofs.lay_word.Goals as goal

pub returns : goal.returns
returns c =
    let x = c.args in
    word_laid x.word (omega arith) x.n x.i x.body.now _ (omega arith) (omega arith) c.lay_four-2.ensures
