-- `one_of` meets its contract: what the iterator tests of each character is what `one_of` does.
-- Assumes nothing.
use mathlib.Core.Path.{◌∙◌}
use lib.Dec.{eqb}
use borrow.Author.Rules.{rules}
use borrow.Author.Tests.{tests}
use Rattle.std.proofs.lemmas.Iterator.{YieldsList-from_slice}
use Rattle.std.proofs.lemmas.Iterator.Search.{any_from_yields_List}
use Rattle.fields.proofs.LoopLaws.{one_of_any}
use Rattle.fields.proofs.one_of.Goals as goal

pub returns : goal.returns
returns c =
    any_from_yields_List (eqb c.args.c) _ _ _ c.any.ensures.ran (YieldsList-from_slice c.args.xs.now cc) (λ x b q k. search (rules, tests))
    ∙ one_of_any c.args.c c.args.xs.now
