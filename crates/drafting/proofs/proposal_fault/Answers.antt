-- 29 bytes, and then the draft with two conditions more.
-- Assumes nothing.
use mathlib.Core.Path.{sym, ap}
use lib.ListN.{length}
use borrow.Author.Tests.{ne_eqb}
use Rattle.promises.specs.Making.AddedRows.{wrong_length}
use Rattle.fields.specs.Numbers.{fault_in}
use Rattle.drafting.proofs.DraftLaws.{fault_is}
use borrow.Author.Rules.{rules}
use Rattle.drafting.proofs.proposal_fault.Goals as goal

pub returns-then-wanted-ne29 : goal.returns-then-wanted-ne29
unfolding fault_in
returns-then-wanted-ne29 c =
    let x = c.args in
    sym (ap fault_in (wrong_length x.g x.wanted.now x.n (ne_eqb (length x.wanted.now) 29 (search rules))))

pub draft-label-requires : goal.draft-label-requires
draft-label-requires c = rw c.first-first.ensures (search rules)

pub returns : goal.returns
returns c =
    let x = c.args in
    fault_is x.g x.wanted.now x.n c.first-first.result c.draft-label.result c.known_level.result c.label_fault-fault.result c.lowered-level.result c.lowered.result (search rules) c.first-first.ensures c.draft-label.ensures c.label_fault-fault.ensures c.known_level.ensures c.lowered-level.ensures c.lowered.ensures
