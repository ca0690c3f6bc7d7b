-- The good records from the start, so many, as those from here on, so many as are left.
use mathlib.Core.Path.{◌≡◌}
use lib.ListN.{take}
use Rattle.standard.specs.Files.{any_failed}
use Rattle.extents.specs.Cursors.{good_from, Walks}
use Rattle.blocks.proofs.failed_among.Given as goal

abbrev pub invariant-loop-n : goal.invariant-loop-n
invariant-loop-n l = (any_failed l.g l.image (take l.m (good_from l.g l.image l.fn.from.left l.fn.from.at)) ≡ any_failed l.g l.image (take l.n (good_from l.g l.image l.w.left l.w.at))) × Walks l.g l.w

abbrev pub decreases-loop-n : goal.decreases-loop-n
decreases-loop-n l = l.w.left
