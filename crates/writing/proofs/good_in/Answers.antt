-- Where every record is good they are as many as the addresses.
-- Assumes nothing.
use mathlib.Core.Path.{sym, ap, ◌∙◌}
use lib.ListN.{length}
use Rattle.promises.specs.Extents.ExtentWhole.{from_length}
use Rattle.writing.proofs.good_in.Goals as goal

pub returns-then-whole : goal.returns-then-whole
returns-then-whole c =
    let a = c.args in
    sym (ap length (c.requires.2 c.if-whole.true) ∙ from_length a.g a.first.left a.first.at)
