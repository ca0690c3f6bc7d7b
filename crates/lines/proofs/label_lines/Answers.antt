-- Slot after slot: what puts the lines of the slots from here on puts all.
-- Assumes nothing.
use Prim.Native.Nat.{ℕ, ◌+◌, ◌-◌}
use mathlib.Core.Path.{◌≡◌, ap}
use native.Mathlib.Omega.{arith}
use Rattle.standard.specs.Layout.{slot_count}
use Rattle.standard.specs.Listing.{lines_from}
use Rattle.text.proofs.LaidLaws.{writes_as, rest_more, rest_end}
use Rattle.volume.proofs.NumberLaws.{slotted_of}
use Rattle.lines.proofs.Laws.{lines_more, lines_end}
use Rattle.lines.proofs.label_lines.Goals as goal

pub loop-slot-init : goal.loop-slot-init
loop-slot-init c =
    let x = c.args in
    let all : slot_count x.g + 1 - 1 ≡ slot_count x.g = omega arith in
    (omega arith, omega arith, λ after h. writes_as (omega arith) (ap (λ (k : ℕ). lines_from x.g x.image.now k 1) all) h)

pub slot_line-requires : goal.slot_line-requires
slot_line-requires c =
    let few = (slotted_of c.args.image.now c.args.g c.requires.1).whole.few in
    (omega arith, c.requires.1, omega arith, omega arith)

pub loop-slot-preserved : goal.loop-slot-preserved
loop-slot-preserved c =
    let x = c.args in
    let w = c.loop-slot in
    let p = c.slot_line.ensures in
    (omega arith, omega (arith, p.within), rest_more w.invariant.2 (lines_more x.g x.image.now _ w.slot (omega arith)) p)

pub returns : goal.returns
returns c =
    let x = c.args in
    let w = c.loop-slot in
    let few = (slotted_of x.image.now x.g c.requires.1).whole.few in
    rest_end w.invariant.2 (lines_end x.g x.image.now _ w.slot (omega arith)) (omega arith)

pub returns-2 : goal.returns-2
returns-2 c =
    let x = c.args in
    let w = c.loop-slot in
    let p = c.slot_line.ensures in
    let few = (slotted_of x.image.now x.g c.requires.1).whole.few in
    let more = rest_more w.invariant.2 (lines_more x.g x.image.now (slot_count x.g) w.slot (omega arith)) p in
    rest_end more (lines_end x.g x.image.now (slot_count x.g) (w.slot + 1) (omega arith)) (omega (arith, p.within))
