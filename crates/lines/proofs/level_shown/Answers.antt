-- Assumes nothing.
use lib.ListN.{get_or}
use borrow.Author.Tests.{eq-eqb, ne_eqb}
use Rattle.lines.proofs.level_shown.Goals as goal

pub returns-then-c-eq32 : goal.returns-then-c-eq32
returns-then-c-eq32 c = simp (eq-eqb (get_or c.args.h.now 43 0) 32 c.if-c-eq32.true)

pub returns : goal.returns
returns c = simp (ne_eqb (get_or c.args.h.now 43 0) 32 c.if-c-eq32.false)
