-- An address in five digits, over the bytes there.
-- Assumes nothing.
use native.Mathlib.Omega.{arith}
use borrow.Author.Rules.{rules}
use Rattle.standard.specs.Addresses.{address_number}
use Rattle.text.proofs.LaidLaws.{puts_from}
use Rattle.relabel.proofs.SpliceLaws.{put_five}
use Rattle.relabel.proofs.put_address.Goals as goal

pub returns : goal.returns
returns c =
    let put = put_five (address_number c.args.a) (puts_from c.at.ensures.is c.address.ensures.0) (omega arith) in
    search (rules, put)
