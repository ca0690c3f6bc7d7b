-- Assumes nothing.
use lib.ListN.{get_or}
use borrow.Author.Tests.{eq-eqb, ne_eqb}
use Rattle.standard.specs.Labels.{format_of}
use Rattle.lines.proofs.format_shown.Goals as goal

pub returns-then-c-eq86 : goal.returns-then-c-eq86
unfolding format_of
returns-then-c-eq86 c = simp (eq-eqb (get_or c.args.h.now 39 0) 86 c.if-c-eq86.true)

pub returns-then-c-eq83 : goal.returns-then-c-eq83
unfolding format_of
returns-then-c-eq83 c = let b = get_or c.args.h.now 39 0 in simp (ne_eqb b 86 c.if-c-eq86.false, eq-eqb b 83 c.if-c-eq83.true)

pub returns : goal.returns
unfolding format_of
returns c = let b = get_or c.args.h.now 39 0 in simp (ne_eqb b 86 c.if-c-eq86.false, ne_eqb b 83 c.if-c-eq83.false)
