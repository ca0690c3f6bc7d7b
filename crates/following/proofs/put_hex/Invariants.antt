-- Byte after byte: what puts the rest from here puts the whole.
use Prim.Native.Nat.{◌+◌, ◌*◌, ◌≤◌}
use lib.ListN.{drop}
use Rattle.text.proofs.LaidLaws.{Rest}
use Rattle.following.specs.Lines.{hex_of}
use Rattle.following.proofs.put_hex.Given as goal

abbrev pub invariant-loop-b : goal.invariant-loop-b
invariant-loop-b l = (l.text.at ≤ l.fn.text.at + 2 * l.b-index) × Rest l.fn.text (hex_of l.body) l.text (hex_of (drop l.b-index l.body))
