-- A label has its line.
-- Assumes nothing.
use mathlib.Core.Path.{sym, ◌∙◌}
use native.Mathlib.Omega.{arith}
use borrow.Author.Tests.{not-true, not-false}
use Rattle.promises.specs.Volumes.FreeLaws.{has_label_lem}
use Rattle.volume.proofs.NumberLaws.{slotted_of}
use Rattle.text.proofs.LaidLaws.{writes_as, writes_none}
use Rattle.lines.proofs.Laws.{no_line}
use Rattle.lines.proofs.slot_line.Goals as goal

pub is_label-requires : goal.is_label-requires
is_label-requires c =
    let x = c.args in
    let p = c.requires in
    (slotted_of x.image.now x.g p.1, p.2, p.3)

pub returns-then-not-is_label : goal.returns-then-not-is_label
returns-then-not-is_label c =
    let x = c.args in
    let l = sym c.is_label.ensures ∙ not-true c.is_label.result c.if-not-is_label.true-raw in
    writes_as (omega arith) (no_line x.g x.image.now x.slot l) (writes_none x.text.now)

pub label_line-requires : goal.label_line-requires
label_line-requires c =
    let x = c.args in
    let p = c.requires in
    let l = sym c.is_label.ensures ∙ not-false c.is_label.result c.if-not-is_label.false-raw in
    (p.0, p.1, has_label_lem x.g x.image.now x.slot p.2 p.3 l)
