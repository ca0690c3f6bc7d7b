-- From record to record: what is to be laid from here is what was to be laid from the start.
use mathlib.Core.Path.{◌≡◌}
use mathlib.Core.List.{List}
use Prim.Native.Nat.{ℕ, ◌+◌}
use lib.ListN.{length, drop}
use Rattle.standard.specs.Writing.{total}
use Rattle.promises.specs.Ground.Lists.{Every}
use Rattle.laying.specs.Ahead.{fits_as, Ready}
use Rattle.laying.proofs.DeskLaws.{Behind}
use Rattle.laying.proofs.lay_records.Given as goal

abbrev pub invariant-loop-length : goal.invariant-loop-length
invariant-loop-length l = ((tail : List ℕ) → Behind l.g l.s l.bodies l.lengths l.fn.image l.initial.d 0 0 tail ≡ Behind l.g l.s l.bodies l.lengths l.image l.d l.length-index l.from tail)
    × Ready l.g l.image l.s l.d
    × (length l.image ≡ length l.fn.image)
    × (total (drop l.length-index l.lengths) + l.from ≡ length l.bodies)
    × Every (fits_as l.s.spanned l.s.B) (drop l.length-index l.lengths)
