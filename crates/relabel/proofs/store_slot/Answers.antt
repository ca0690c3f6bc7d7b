-- The kind, and then the bytes.
-- Assumes nothing.
use native.Mathlib.Omega.{arith}
use Rattle.relabel.proofs.SpliceLaws.{store_both}
use Rattle.relabel.proofs.store_slot.Goals as goal

pub returns : goal.returns
returns c =
    let x = c.args in
    let o = c.slot_offset-at in
    let l = c.label_offset-first in
    let m = c.slot_mark in
    store_both x.g x.slot x.mark o.result l.result m.result x.bytes.now x.image.now c.lay_at.new.image o.ensures.0 m.ensures l.ensures.0 (omega arith) c.lay_at.ensures
