-- The parts in a row, from the start of the buffer.
-- Assumes nothing.
use mathlib.Core.Path.{◌∙◌}
use native.Mathlib.Omega.{arith}
use borrow.Author.Rules.{rules}
use Rattle.text.specs.Laid.{Writes}
use Rattle.text.proofs.LaidLaws.{writes_as, writes_more, puts_from}
use Rattle.following.specs.Lines.{answer_line}
use Rattle.following.proofs.put_line.Goals as goal

pub returns : goal.returns
unfolding answer_line
returns c =
    let end = writes_more c.put_answer.ensures c.byte-3.ensures in
    let line : Writes c.at-text.result c.byte-3.new.self 8448 (answer_line c.args.slot c.args.mode c.args.a c.args.lent.now) =
    writes_as (omega arith) (cc) (writes_more c.number.ensures (writes_more c.byte.ensures (writes_more c.byte-2.ensures end))) in
    let put = puts_from c.at-text.ensures.is line in
    (record { next = c.end.ensures ∙ put.next; stands = search (rules, put) }, omega (arith, c.end.ensures, line.within, c.at-text.ensures.is.1))
