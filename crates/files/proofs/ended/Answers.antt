-- Assumes nothing.
use Rattle.std.specs.Prelude.{Err}
use mathlib.Core.Path.{ap}
use Rattle.files.specs.Numbers.{ended_by}
use Rattle.files.proofs.ended.Goals as goal

pub returns-then-parted-unused : goal.returns-then-parted-unused
unfolding ended_by
returns-then-parted-unused c = simp c.if-parted-unused.true (ap Err c.at.ensures)

pub returns : goal.returns
unfolding ended_by
returns c = simp c.if-parted-unused.false
