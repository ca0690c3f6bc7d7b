-- The first wrong length from here is the first from the start.
use mathlib.Core.Path.{◌≡◌}
use lib.ListN.{drop}
use Rattle.labels.specs.Forms.{format_for}
use Rattle.sizing.specs.Lists.{wrong_from}
use Rattle.sizing.proofs.first_wrong.Given as goal

abbrev pub invariant-loop-i : goal.invariant-loop-i
invariant-loop-i l = wrong_from (format_for l.form) l.B l.R 0 l.lengths ≡ wrong_from (format_for l.form) l.B l.R l.i (drop l.i l.lengths)
