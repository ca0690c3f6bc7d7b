-- By the level.
-- Assumes nothing.
use Prim.Native.Nat.{ℕ}
use mathlib.Core.Path.{sym, ap, ◌∙◌}
use mathlib.Core.List.{List}
use native.Mathlib.Omega.{arith}
use borrow.Author.Tests.{not-true, not-false}
use Rattle.standard.specs.Layout.{label_at}
use Rattle.standard.specs.Labels.{known_level}
use Rattle.standard.specs.Listing.{other_line}
use Rattle.volume.proofs.NumberLaws.{slotted_of}
use Rattle.finding.proofs.FindLaws.{room_there}
use Rattle.text.proofs.LaidLaws.{writes_as}
use Rattle.lines.specs.Parts.{fields_in_a_row}
use Rattle.lines.proofs.Laws.{line_known, line_other}
use Rattle.lines.proofs.label_line.Goals as goal

pub label_at-h-requires : goal.label_at-h-requires
label_at-h-requires c =
    let x = c.args in
    room_there x.g x.image.now x.slot (slotted_of x.image.now x.g c.requires.1) c.requires.2

pub returns-then-not-known_level : goal.returns-then-not-known_level
returns-then-not-known_level c =
    let x = c.args in
    let e = c.label_at-h.ensures.0 in
    let k = ap known_level (sym e) ∙ sym c.known_level.ensures ∙ not-true c.known_level.result c.if-not-known_level.true-raw in
    writes_as (omega arith) (ap (other_line x.slot) e ∙ line_other x.g x.image.now x.slot (label_at x.g x.image.now x.slot) k) c.other_line.ensures

pub returns : goal.returns
returns c =
    let x = c.args in
    let e = c.label_at-h.ensures.0 in
    let k = ap known_level (sym e) ∙ sym c.known_level.ensures ∙ not-false c.known_level.result c.if-not-known_level.false-raw in
    let h = label_at x.g x.image.now x.slot in
    let line = ap (λ (t : List ℕ). fields_in_a_row x.slot t c.count_in.result) e ∙ ap (fields_in_a_row x.slot h) c.count_in.ensures
    ∙ line_known x.g x.image.now x.slot h k in
    writes_as (omega arith) line c.known_line.ensures
