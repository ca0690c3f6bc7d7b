-- `word_in` meets its contract.
-- Assumes nothing.
use Prim.Native.Nat.{◌+◌, ◌-◌}
use lib.ListN.{drop}
use native.Mathlib.Omega.{arith}
use Rattle.filling.proofs.PenLaws.{pen_room, part_lays}
use Rattle.filling.proofs.WordLaws.{last_length}
use Rattle.filling.proofs.word_in.Goals as goal

pub overflow_add-e : goal.overflow_add-e
overflow_add-e c =
    let x = c.args in
    omega (arith, pen_room x.g x.image.now x.p c.requires.0, c.from.ensures)

pub slice_bounds-lay_word-end : goal.slice_bounds-lay_word-end
slice_bounds-lay_word-end c =
    let x = c.args in
    omega (arith, pen_room x.g x.image.now x.p c.requires.0, c.from.ensures)

pub returns : goal.returns
returns c =
    let x = c.args in
    let p = x.p in
    let l = last_length x.word (omega arith) x.n (omega arith) in
    part_lays x.g x.image.now p (drop (5 - x.n) x.word) c.requires.0 (omega (arith, l)) c.from.result c.lay_word.new.body (p.i + x.n) (p.at + x.n) c.from.ensures c.lay_word.ensures (omega (arith, l)) (omega (arith, l))
