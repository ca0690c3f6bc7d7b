-- `put_in` meets its contract.
-- Assumes nothing.
use Prim.Native.Nat.{◌+◌}
use mathlib.Core.Path.{◌≡◌, refl}
use lib.ListN.{length}
use native.Mathlib.Omega.{arith}
use Rattle.filling.specs.Poured.{packed}
use Rattle.filling.proofs.RunLaws.{packed_length}
use Rattle.filling.proofs.PenLaws.{pen_room, part_lays}
use Rattle.filling.proofs.put_in.Goals as goal

pub overflow_add-e : goal.overflow_add-e
overflow_add-e c =
    let x = c.args in
    let p = c.requires in
    omega (arith, pen_room x.g x.image.now x.p p.0, c.from.ensures)

pub slice_bounds-pack-end : goal.slice_bounds-pack-end
slice_bounds-pack-end c =
    let x = c.args in
    let p = c.requires in
    omega (arith, pen_room x.g x.image.now x.p p.0, c.from.ensures)

pub returns : goal.returns
returns c =
    let x = c.args in
    let q = c.requires in
    let s = x.image.now in
    let p = x.p in
    let all = packed x.bytes.now x.from x.n x.zeros in
    let l : length all ≡ x.n + x.zeros = packed_length x.bytes.now x.from x.n x.zeros q.2 in
    (part_lays x.g s p all q.0 (omega (arith, l, q.1)) c.from.result c.pack.new.body (p.i + x.n + x.zeros) (p.at + x.n + x.zeros) c.from.ensures c.pack.ensures (omega (arith, l)) (omega (arith, l)), refl, refl)
