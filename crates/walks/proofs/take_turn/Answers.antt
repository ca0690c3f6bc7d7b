-- A lost block, or a turn in one that is not.
-- Assumes nothing.
use mathlib.Core.Path.{sym, ◌∙◌}
use Rattle.walks.proofs.WalkLaws.{turned_lost}
use Rattle.walks.proofs.take_turn.Goals as goal

pub returns-then-any_failed : goal.returns-then-any_failed
returns-then-any_failed c =
    let x = c.args in
    let p = c.requires in
    turned_lost x.image.now x.f x.w p x.mode c.at_lost.result (sym c.any_failed.ensures ∙ c.if-any_failed.true) c.at_lost.ensures
