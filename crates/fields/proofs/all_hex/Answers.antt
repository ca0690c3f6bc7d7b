-- `all_hex` meets its contract: what the iterator tests of each character is what `every` does.
-- Assumes nothing.
use mathlib.Core.Path.{◌∙◌}
use borrow.Author.Rules.{rules}
use borrow.Author.Tests.{tests}
use Rattle.std.proofs.lemmas.Iterator.{YieldsList-from_slice}
use Rattle.std.proofs.lemmas.Iterator.Search.{all_from_yields_List}
use Rattle.standard.specs.Characters.{is_hex}
use Rattle.fields.proofs.LoopLaws.{every_all}
use Rattle.fields.proofs.all_hex.Goals as goal

pub returns : goal.returns
returns c =
    all_from_yields_List is_hex _ _ _ c.all.ensures.ran (YieldsList-from_slice c.args.f.now cc) (λ x b q k. search (rules, tests))
    ∙ every_all is_hex c.args.f.now
