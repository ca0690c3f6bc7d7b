-- Byte after byte.
use mathlib.Core.Path.{◌≡◌}
use lib.ListN.{length}
use Rattle.relabel.proofs.SpliceLaws.{over}
use Rattle.relabel.proofs.lay_over.Given as goal

abbrev pub invariant-loop-i : goal.invariant-loop-i
invariant-loop-i l = (length l.part ≡ length l.fn.part) × (l.part ≡ over l.bytes l.fn.part l.i)
