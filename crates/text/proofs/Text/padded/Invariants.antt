-- The digits from the first on: what puts the rest from here puts the whole.
use Prim.Native.Nat.{◌+◌}
use mathlib.Core.Path.{◌≡◌}
use Rattle.standard.specs.Characters.{padded}
use Rattle.text.proofs.LaidLaws.{Rest}
use Rattle.text.proofs.Text.padded.Given as goal

abbrev pub invariant-loop-left : goal.invariant-loop-left
invariant-loop-left l = (l.self.at + l.left ≡ l.fn.self.at + l.width) × Rest l.fn.self (padded l.width l.n) l.self (padded l.left l.n)
