-- `named_below` meets its contract: no slot passed has the name.
-- Assumes nothing.
use Rattle.std.proofs.Common.{◌-◌, ◌+◌, sym, ◌∙◌, arith}
use Rattle.standard.specs.Judgement.{namesake}
use Rattle.index.proofs.ClashLaws.{below_start, below_yes, below_more}
use Rattle.index.proofs.NameLaws.{unknown_below}
use Rattle.index.proofs.named_below.Goals as goal

pub returns-then-not-is_known : goal.returns-then-not-is_known
returns-then-not-is_known c = sym (unknown_below _ _ _ _ (sym c.is_known.ensures ∙ c.if-not-is_known.true))

pub loop-lower-init : goal.loop-lower-init
loop-lower-init c = below_start _ _

pub returns-then-named_like : goal.returns-then-named_like
returns-then-named_like c =
    let w = c.loop-lower in
    sym (below_yes _ _ _ w.lower (omega arith) (omega arith) (sym c.named_like.ensures ∙ c.if-named_like.true))

pub loop-lower-preserved : goal.loop-lower-preserved
loop-lower-preserved c =
    let a = c.args in
    let w = c.loop-lower in
    below_more (namesake a.g a.image.now) a.slot w.lower (w.lower + 1 - 1) (omega arith) (omega arith) (sym c.named_like.ensures ∙ c.if-named_like.false) w.invariant
