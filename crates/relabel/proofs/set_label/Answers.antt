-- U, and then the data end.
-- Assumes nothing.
use Rattle.relabel.proofs.SpliceLaws.{set_both}
use Rattle.relabel.proofs.set_label.Goals as goal

pub returns : goal.returns
returns c =
    let x = c.args in
    let o = c.label_offset-at in
    let p = c.put_unused in
    let q = c.put_address in
    set_both x.g x.slot x.U o.result x.end x.image.now p.new.image q.new.image o.ensures.0 p.ensures q.ensures
