-- `has_next` meets its contract: the sum cannot wrap, since s is below the number of sides.
-- Assumes nothing.
use Prim.Native.Nat.{◌+◌}
use mathlib.Core.Path.{sym}
use native.Mathlib.Omega.{arith}
use borrow.Author.Tests.{le-ltb}
use Rattle.standard.proofs.has_next.Goals as goal

pub returns : goal.returns
returns c = sym (le-ltb (c.args.s + 1) c.args.sides (omega arith))
