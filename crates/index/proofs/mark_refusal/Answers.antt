-- `mark_refusal` meets its contract: `D`, `F`, another byte.
-- Assumes nothing.
use Rattle.std.specs.Prelude.{Err}
use Rattle.std.proofs.Common.{ap, ◌∙◌}
use Rattle.index.proofs.RefusalLaws.{deleted, unreadable, neither}
use Rattle.index.proofs.mark_refusal.Goals as goal

pub returns-then-c-eq68 : goal.returns-then-c-eq68
returns-then-c-eq68 c = deleted _ _ _ c.requires.0.indexed c.requires.1 c.slot_first-c.result c.slot_first-c.ensures.0 c.if-c-eq68.true

pub returns-then-c-eq70 : goal.returns-then-c-eq70
returns-then-c-eq70 c = ap Err c.at.ensures ∙ unreadable _ _ _ c.requires.0.indexed c.requires.1 c.slot_first-c.result c.slot_first-c.ensures.0 c.if-c-eq70.true

pub returns : goal.returns
returns c = ap Err c.at-2.ensures ∙ neither _ _ _ c.requires.0.indexed c.requires.1 c.slot_first-c.result c.slot_first-c.ensures.0 c.if-c-eq68.false c.if-c-eq70.false
