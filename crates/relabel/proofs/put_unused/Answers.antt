-- U in its field.
-- Assumes nothing.
use native.Mathlib.Omega.{arith}
use borrow.Author.Rules.{rules}
use Rattle.text.proofs.LaidLaws.{puts_from}
use Rattle.relabel.proofs.SpliceLaws.{put_none, put_some}
use Rattle.relabel.proofs.put_unused.Goals as goal

pub returns-then-U-eq0 : goal.returns-then-U-eq0
returns-then-U-eq0 c =
    let put = put_none c.args.U (puts_from c.at-field.ensures.is c.bytes.ensures) (omega arith) (omega arith) in
    search (rules, put)

pub returns : goal.returns
returns c =
    let put = put_some c.args.U (puts_from c.at-field.ensures.is c.padded.ensures.0) (λ e. omega arith) (omega arith) in
    search (rules, put)
