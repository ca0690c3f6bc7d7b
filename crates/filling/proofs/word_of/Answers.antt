-- `word_of` meets its contract.
-- Assumes nothing.
use Rattle.filling.proofs.WordLaws.{word_is}
use Rattle.filling.proofs.word_of.Goals as goal

pub returns : goal.returns
returns c = word_is _ _ _ _ _ _ c.digit_at.ensures c.digit_at-2.ensures c.digit_at-3.ensures c.digit_at-4.ensures
