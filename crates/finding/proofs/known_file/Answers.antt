-- Each exit by its law: the tests are of the values that the calls gave.
-- Assumes nothing.
use Rattle.std.specs.Prelude.{Err}
use mathlib.Core.Path.{ap, ◌∙◌}
use borrow.Author.Tests.{not-false}
use Rattle.finding.proofs.FindLaws.{tested, level_tested, room_there}
use Rattle.finding.proofs.AskLaws.{known_13, known_14, known_both}
use Rattle.finding.proofs.known_file.Goals as goal

pub returns-then-not-has_label : goal.returns-then-not-has_label
returns-then-not-has_label c = ap Err c.at.ensures ∙ known_13 _ _ _ (tested _ _ _ c.has_label.ensures c.if-not-has_label.true-raw)

pub label_at-requires : goal.label_at-requires
label_at-requires c = room_there _ _ _ c.requires (not-false _ (tested _ _ _ c.has_label.ensures c.if-not-has_label.false-raw))

pub returns-then-not-known_level : goal.returns-then-not-known_level
returns-then-not-known_level c =
    let a = tested _ _ _ c.has_label.ensures c.if-not-has_label.false-raw in
    ap Err c.at-then-not-known_level.ensures ∙ known_14 _ _ _ a (level_tested _ _ _ _ c.label_at.ensures.0 c.known_level.ensures c.if-not-known_level.true-raw)

pub returns : goal.returns
returns c =
    let a = tested _ _ _ c.has_label.ensures c.if-not-has_label.false-raw in
    known_both _ _ _ a (level_tested _ _ _ _ c.label_at.ensures.0 c.known_level.ensures c.if-not-known_level.false-raw)
