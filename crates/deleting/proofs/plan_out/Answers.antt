-- 24 behind 13 and 14.
-- Assumes nothing.
use mathlib.Core.Path.{sym, ◌∙◌}
use Rattle.volume.proofs.NumberLaws.{slotted_of}
use Rattle.finding.proofs.AskLaws.{known_facts}
use Rattle.deleting.proofs.DropLaws.{drop_list}
use Rattle.deleting.proofs.plan_out.Goals as goal

pub known_file-requires : goal.known_file-requires
known_file-requires c = slotted_of _ _ c.requires

pub unprotected-requires : goal.unprotected-requires
unprotected-requires c = (slotted_of _ _ c.requires, λ p. (known_facts _ _ _ (sym c.known_file.ensures ∙ p)).0)

pub returns : goal.returns
returns c = c.unprotected.ensures ∙ drop_list _ _ _ _ c.known_file.ensures
