-- The fields of each answer.
-- Assumes nothing.
use Rattle.std.specs.Prelude.{Ok}
use mathlib.Core.Path.{◌≡◌}
use borrow.Author.Rules.{rules}
use Rattle.standard.specs.declared.Answer.TheVariants.{Gap, End, Record as RecordOf}
use native.Mathlib.Omega.{arith}
use Rattle.text.proofs.LaidLaws.{writes_as, writes_more}
use Rattle.following.proofs.Laws.{no_longer, as_record, as_gap, as_end}
use Rattle.following.proofs.put_answer.Goals as goal

pub returns-in-Ok-Record : goal.returns-in-Ok-Record
returns-in-Ok-Record c =
    let x = c.args in
    let f = c.first_of.ensures in
    let s = no_longer c.in-Ok-Record.n x.lent.now f in
    let is : x.a ≡ Ok (RecordOf c.in-Ok-Record.n c.in-Ok-Record.next) = search rules in
    writes_as (omega (arith, s)) (as_record x.lent.now is f) c.put_record.ensures

pub returns-in-Ok-Gap : goal.returns-in-Ok-Gap
returns-in-Ok-Gap c =
    let is : c.args.a ≡ Ok (Gap c.in-Ok-Gap.next) = search rules in
    writes_as (omega arith) (as_gap c.args.lent.now is) (writes_more c.bytes.ensures c.put_place.ensures)

pub returns-in-Ok-End : goal.returns-in-Ok-End
returns-in-Ok-End c =
    let is : c.args.a ≡ Ok (End c.in-Ok-End.next) = search rules in
    writes_as (omega arith) (as_end c.args.lent.now is) (writes_more c.bytes-in-Ok-End.ensures c.put_place-in-Ok-End.ensures)
