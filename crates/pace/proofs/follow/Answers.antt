-- What is counted and what is still to count stay together the answers from Start.
-- Assumes nothing.
use mathlib.Core.Path.{◌∙◌}
use native.Mathlib.Omega.{arith}
use lib.ListN.{length}
use Rattle.walks.specs.Walks.{mode_of}
use Rattle.pace.proofs.CountLaws.{answers_end, read_stop, read_on}
use Rattle.pace.proofs.follow.Goals as goal

pub returns-in_default : goal.returns-in_default
returns-in_default c =
    let x = c.args in
    let l = c.loop-n in
    let r = c.ask_next-told.ensures in (
      read_stop (mode_of x.mode) x.image.now x.slot l.carried.slot (length x.out.now) (length l.out) l.place _ _ l.invariant.3 l.invariant.0 r.0 c.leads.ensures 1048576 l.n _ c.in_default.is (omega arith) l.invariant.1,
      omega arith,
    )

pub loop-n-preserved : goal.loop-n-preserved
loop-n-preserved c =
    let x = c.args in
    let l = c.loop-n in
    let r = c.ask_next-told.ensures in (
      omega (arith, l.invariant.0),
      read_on (mode_of x.mode) x.image.now x.slot l.carried.slot (length x.out.now) (length l.out) l.place _ _ l.invariant.3 l.invariant.0 r.0 c.leads.ensures 1048576 l.n _ _ c.in-Some.is (omega arith) l.invariant.1,
      r.2,
      r.3 ∙ l.invariant.3,
    )

pub returns : goal.returns
returns c =
    let x = c.args in
    let l = c.loop-n in
    let e = l.invariant.1 ∙ answers_end (mode_of x.mode) x.image.now x.slot (length x.out.now) 1048576 l.n l.place (omega arith) in
    (omega (arith, e), omega arith)
