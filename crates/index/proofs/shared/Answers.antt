-- `shared` meets its contract: the row holds the extents of the slots passed.
-- Assumes nothing.
use Rattle.std.specs.Prelude.{Err}
use Rattle.std.proofs.Common.{sym, ap, ◌∙◌, arith, rules}
use Rattle.index.proofs.ClashLaws.{passing_stop, passing_more, passing_end}
use Rattle.index.proofs.ExtentLaws.{known_next}
use Rattle.index.proofs.shared.Goals as goal

pub returns-then-shares_below : goal.returns-then-shares_below
returns-then-shares_below c =
    let w = c.loop-slot in
    ap Err c.at.ensures ∙ sym (passing_stop _ _ _ w.slot w.invariant.2 (omega arith) (sym c.shares_below.ensures ∙ c.if-shares_below.true))

pub loop-slot-preserved : goal.loop-slot-preserved
loop-slot-preserved c =
    let a = c.args in
    let w = c.loop-slot in
    let x = c.extent_in-x in (
      search rules,
      known_next a.g a.image.now w.extents w.slot x.result (omega arith) (omega arith) w.invariant.1 x.ensures,
      passing_more _ _ _ w.slot w.invariant.2 (omega arith) (sym c.shares_below.ensures ∙ c.if-shares_below.false),
    )

pub returns : goal.returns
returns c = sym (passing_end _ _ _ c.loop-slot.slot c.loop-slot.invariant.2 (omega arith))
