-- `slot_refusal` meets its contract: the three kinds, and any other.
-- Assumes nothing.
use Rattle.std.specs.Prelude.{Err}
use Rattle.std.proofs.Common.{sym, ap, ◌∙◌}
use Rattle.index.proofs.RefusalLaws.{failed_mark, no_mark}
use Rattle.index.proofs.slot_refusal.Goals as goal

pub returns-then-k-eq32 : goal.returns-then-k-eq32
returns-then-k-eq32 c = ap Err c.at.ensures ∙ failed_mark _ _ _ c.requires.indexed (sym c.slot_kind-k.ensures.0 ∙ c.if-k-eq32.true)

pub returns : goal.returns
returns c = ap Err c.at-2.ensures ∙ no_mark _ _ _ c.requires.indexed c.slot_kind-k.result (sym c.slot_kind-k.ensures.0) c.if-k-eq0.false c.if-k-eq16.false c.if-k-eq32.false
