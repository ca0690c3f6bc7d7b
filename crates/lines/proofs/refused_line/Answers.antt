-- The parts in a row.
-- Assumes nothing.
use native.Mathlib.Omega.{arith}
use borrow.Author.Tests.{eq-eqb, ne_eqb}
use Rattle.text.proofs.LaidLaws.{writes_as, writes_more, writes_from}
use Rattle.lines.proofs.Laws.{refused_one, refused_two}
use Rattle.lines.proofs.refused_line.Goals as goal
use Rattle.lines.proofs.refused_line.Goals.{then-r-eq10, else-r-eq10}

pub returns : goal.returns
returns c =
    let r = c.args.r in
    let n = c.refusal.ensures in
    elim c.if-r-eq10.branch [
      | then-r-eq10 w ↦
          let end = writes_more w.named.ensures (writes_from w.text-is c.byte.ensures) in
          writes_as (omega arith) (refused_two r (eq-eqb r.number 10 w.if-r-eq10.true)) (writes_more n end)
      | else-r-eq10 w ↦ writes_as (omega arith) (refused_one r (ne_eqb r.number 10 w.if-r-eq10.false)) (writes_more n (writes_from w.text-is c.byte.ensures))
    ]
