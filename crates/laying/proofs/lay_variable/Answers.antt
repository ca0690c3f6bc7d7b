-- A record that stands whole in its block, behind its control word.
-- Assumes nothing.
use Rattle.laying.proofs.DeskLaws.{whole_laid, part_length, variable_laid}
use Prim.Native.Nat.{ℕ, ◌+◌}
use lib.ListN.{take, drop}
use mathlib.Core.Path.{ap, ◌∙◌}
use Rattle.standard.specs.Packing.{record_v}
use Rattle.promises.specs.Writing.WritingLaws.{record_v_length}
use Rattle.laying.proofs.lay_variable.Goals as goal

pub returns : goal.returns
returns c =
    let x = c in
    let a = x.args in
    let q = c.room_for-b in
    let l = c.put_length-q in
    let t = c.put-t in
    let y = take a.n (drop a.from a.bodies.now) in
    let ly = part_length a.bodies.now a.from a.n x.requires.3 in
    whole_laid a.g a.s a.image.now q.new.image t.new.image a.d q.result t.result (record_v y) x.requires.0 x.requires.1 (4 + a.n) c.kept.result
    (record_v_length y ∙ ap (λ (k : ℕ). 4 + k) ly) c.kept.ensures x.requires.2 q.ensures
    (variable_laid a.g q.new.image l.new.image t.new.image q.result.p l.result t.result y a.n ly l.ensures t.ensures)
