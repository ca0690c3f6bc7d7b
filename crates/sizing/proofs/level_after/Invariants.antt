-- Record after record: where the writer stands behind the rest is where it stands behind the whole.
use Prim.Native.Nat.{◌+◌, ◌-◌, ◌<◌, ◌≤◌}
use mathlib.Core.Path.{◌≡◌}
use lib.ListN.{length, drop}
use Rattle.standard.specs.Writing.{total}
use Rattle.promises.specs.Writing.NeededLaws.{level_from}
use Rattle.labels.specs.Forms.{format_for}
use Rattle.sizing.proofs.level_after.Given as goal

abbrev pub invariant-loop-n : goal.invariant-loop-n
invariant-loop-n l = (level_from (format_for l.form) l.blocked l.B 0 0 l.lengths ≡ level_from (format_for l.form) l.blocked l.B l.l.room l.l.blocks (drop l.n-index l.lengths)) × (l.l.room < 65536) × (l.l.blocks + (length l.lengths - l.n-index + total (drop l.n-index l.lengths)) ≤ length l.lengths + total l.lengths)
