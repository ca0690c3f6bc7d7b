-- The walk from the start is the walk from here.
use mathlib.Core.Path.{◌≡◌}
use mathlib.Core.Bool.{false}
use Rattle.standard.specs.Files.{addresses_from}
use Rattle.extents.specs.Cursors.{Walks}
use Rattle.extents.specs.Surveys.{surveyed}
use Rattle.extents.proofs.survey.Given as goal

abbrev pub invariant-loop-w : goal.invariant-loop-w
invariant-loop-w l = (surveyed l.g l.image false (addresses_from l.g l.fn.from.left l.fn.from.at) ≡ surveyed l.g l.image l.holed (addresses_from l.g l.w.left l.w.at)) × Walks l.g l.w

abbrev pub decreases-loop-w : goal.decreases-loop-w
decreases-loop-w l = l.w.left
