-- A space and the digits, or nothing.
-- Assumes nothing.
use Prim.Native.Nat.{◌<◌}
use mathlib.Core.Path.{◌≡◌, sym}
use lib.ListN.{length}
use borrow.Author.Rules.{rules}
use native.Mathlib.Omega.{arith}
use Rattle.text.proofs.LaidLaws.{writes_as, writes_more, writes_none}
use Rattle.following.proofs.Laws.{body_none, body_some}
use Rattle.following.proofs.put_body.Goals as goal

pub returns-then-is_empty : goal.returns-then-is_empty
returns-then-is_empty c =
    let none : length c.args.body.now ≡ 0 = search rules in
    writes_as (omega arith) (sym (body_none c.args.body.now none)) (writes_none c.args.text.now)

pub returns : goal.returns
returns c =
    let some : 0 < length c.args.body.now = grind arith in
    writes_as (omega arith) (body_some c.args.body.now some) (writes_more c.byte.ensures c.put_hex.ensures)
