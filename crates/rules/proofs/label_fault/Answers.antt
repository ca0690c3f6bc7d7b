-- `label_fault` meets its contract: row 1, and then the table of the level (Tables).
-- Assumes nothing.
use mathlib.Core.Path.{ap, sym, ◌∙◌}
use borrow.Author.Rules.{rules}
use Rattle.standard.specs.Characters.{a_set}
use Rattle.standard.specs.Labels.{rule44, hdr1_rules, label_fault}
use Rattle.fields.specs.Numbers.{fault_in}
use Rattle.fields.proofs.RowLaws.{fault_next, rows}
use Rattle.rules.specs.Tables.{known_table, other_table}
use Rattle.checks.proofs.PartLaws.{other_is}
use Rattle.rules.proofs.label_fault.Goals as goal

pub returns-then-not-is_hdr1 : goal.returns-then-not-is_hdr1
unfolding label_fault hdr1_rules
returns-then-not-is_hdr1 c = search rows

pub returns-then-is_other : goal.returns-then-is_other
unfolding label_fault hdr1_rules rule44
returns-then-is_other c =
    fault_next _ _ _ _ c.if-not-is_hdr1.false-raw c.is_hdr1.ensures
    (c.other_fault.ensures ∙ ap fault_in (sym (other_table _ _ (sym (other_is _ _ 0 _ _ c.level_of-c.ensures.0 (c.in_a_set-right44.ensures ∙ ap a_set c.level_of-c.ensures.0) c.is_other.ensures) ∙ c.if-is_other.true))))

pub known_fault-requires : goal.known_fault-requires
unfolding rule44
known_fault-requires c = (search rules, c.level_of-c.ensures.0, (c.in_a_set-right44.ensures ∙ ap a_set c.level_of-c.ensures.0))

pub returns : goal.returns
unfolding label_fault hdr1_rules rule44
returns c =
    fault_next _ _ _ _ c.if-not-is_hdr1.false-raw c.is_hdr1.ensures
    (c.known_fault.ensures ∙ ap fault_in (sym (known_table _ _ (sym (other_is _ _ 0 _ _ c.level_of-c.ensures.0 (c.in_a_set-right44.ensures ∙ ap a_set c.level_of-c.ensures.0) c.is_other.ensures) ∙ c.if-is_other.false))))
