-- Byte after byte: what puts the rest from here puts the whole.
use Prim.Native.Nat.{◌+◌}
use mathlib.Core.Path.{◌≡◌}
use lib.ListN.{drop}
use Rattle.text.proofs.LaidLaws.{Rest}
use Rattle.text.proofs.Text.bytes.Given as goal

abbrev pub invariant-loop-c : goal.invariant-loop-c
invariant-loop-c l = (l.self.at ≡ l.fn.self.at + l.c-index) × Rest l.fn.self l.text l.self (drop l.c-index l.text)
