-- `turn` meets its contract.
-- Assumes nothing.
use Prim.Native.Nat.{◌<◌}
use mathlib.Core.Path.{◌≡◌}
use mathlib.Core.Bool.{true}
use native.Mathlib.Omega.{arith}
use Rattle.standard.specs.Addresses.{legal}
use Rattle.extents.proofs.CursorLaws.{legal_head}
use Rattle.filling.proofs.PenLaws.{not_incorrect, turn_ends, next_legal, next_room, turn_next}
use Rattle.filling.proofs.turn.Goals as goal

pub returns-then-left-eq1 : goal.returns-then-left-eq1
returns-then-left-eq1 c =
    let x = c.args in
    let q = c.requires in
    turn_ends x.g x.image.now x.p q.0 q.1 (omega (arith, c.if-left-eq1.true))

pub kind_behind-o-requires : goal.kind_behind-o-requires
kind_behind-o-requires c =
    let x = c.args in
    let q = c.requires in
    let more : 1 < x.p.c.left = omega (arith, q.0.2, c.if-left-eq1.false) in
    (legal_head x.g x.p.c.left x.p.c.at (omega (arith, more)) q.0.1, c.step-next.ensures, omega (arith, q.0.4, q.1))

pub bounds-image-o : goal.bounds-image-o
bounds-image-o c =
    let x = c.args in
    let q = c.requires in
    let more : 1 < x.p.c.left = omega (arith, q.0.2, c.if-left-eq1.false) in
    next_room x.g x.image.now x.p q.0 q.1 c.step-next.result c.step-next.ensures more _ c.kind_behind-o.ensures

pub mark_at-requires : goal.mark_at-requires
mark_at-requires c =
    let x = c.args in
    let q = c.requires in
    let more : 1 < x.p.c.left = omega (arith, q.0.2, c.if-left-eq1.false) in
    (q.0.0, next_legal x.g x.image.now x.p q.0 q.1 c.step-next.result c.step-next.ensures more, omega (arith, more), c.kind_behind-o.ensures)

pub returns : goal.returns
returns c =
    let x = c.args in
    let q = c.requires in
    let s = x.image.now in
    let next = c.step-next.result in
    let e = c.step-next.ensures in
    let more : 1 < x.p.c.left = omega (arith, q.0.2, c.if-left-eq1.false) in
    let ln : legal x.g next ≡ true = legal_head x.g _ next (omega (arith, more)) (next_legal x.g s x.p q.0 q.1 next e more) in
    let good = not_incorrect x.g s next ln c.kind_behind-o.result c.from-kind.result c.from.result c.kind_behind-o.ensures c.from-kind.ensures c.from.ensures c.if-kind-from.false in
    turn_next x.g s x.p q.0 q.1 next e more good _ _ c.mark_at.ensures
