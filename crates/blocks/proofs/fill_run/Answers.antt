-- `fill_run` meets its contract: what `all` says of the part of the image.
-- Assumes nothing.
use Rattle.std.proofs.Common.{ℕ, ◌+◌, ◌-◌, ◌≡◌, ap, ◌∙◌, eqb, take, drop, arith, rules, tests}
use Rattle.std.proofs.lemmas.Iterator.{YieldsList-from_slice}
use Rattle.std.proofs.lemmas.Iterator.Search.{all_from_yields_List}
use Rattle.standard.specs.Pieces.{is_fill}
use Rattle.blocks.proofs.FillLaws.{all_zero}
use Rattle.blocks.proofs.fill_run.Goals as goal

pub returns : goal.returns
returns c =
    let x = c.args in
    let run = take (x.from + x.n - x.from) (drop x.from x.image.now) in
    let e : x.from + x.n - x.from ≡ x.n = omega arith in
    all_from_yields_List (λ b. eqb b 0) _ _ _ c.all.ensures.ran (YieldsList-from_slice run cc) (λ y b q k. search (rules, tests))
    ∙ all_zero run
    ∙ ap (λ (k : ℕ). is_fill (take k (drop x.from x.image.now))) e
