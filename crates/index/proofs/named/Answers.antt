-- `named` meets its contract: the row holds the numbers of the names passed.
-- Assumes nothing.
use Rattle.std.specs.Prelude.{Err}
use Rattle.std.proofs.Common.{ℕ, List, sym, ap, ◌∙◌, arith, rules}
use Rattle.standard.specs.Labels.{name_of}
use Rattle.index.specs.Names.{key_of}
use Rattle.index.proofs.ClashLaws.{passing_stop, passing_more, passing_end}
use Rattle.index.proofs.NameLaws.{keyed_next}
use Rattle.index.proofs.named.Goals as goal

pub returns-then-named_below : goal.returns-then-named_below
returns-then-named_below c =
    let w = c.loop-slot in
    ap Err c.at.ensures ∙ sym (passing_stop _ _ _ w.slot w.invariant.2 (omega arith) (sym c.named_below.ensures ∙ c.if-named_below.true))

pub loop-slot-preserved : goal.loop-slot-preserved
loop-slot-preserved c =
    let a = c.args in
    let w = c.loop-slot in
    let key = c.name_key-key in (
      search rules,
      keyed_next a.g a.image.now w.keys w.slot key.result (omega arith) (omega arith) w.invariant.1 (key.ensures ∙ ap (λ (l : List ℕ). key_of (name_of l)) c.label_at.ensures.0),
      passing_more _ _ _ w.slot w.invariant.2 (omega arith) (sym c.named_below.ensures ∙ c.if-named_below.false),
    )

pub returns : goal.returns
returns c = sym (passing_end _ _ _ c.loop-slot.slot c.loop-slot.invariant.2 (omega arith))
