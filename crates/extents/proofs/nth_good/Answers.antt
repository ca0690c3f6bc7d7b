-- By arithmetic, or by the walk.
-- Assumes nothing.
use mathlib.Core.Path.{sym, ap, ◌∙◌}
use lib.ListN.{drop}
use Rattle.standard.specs.Files.{addresses_from, good_among}
use Rattle.extents.proofs.RankLaws.{whole_behind, whole_stands}
use Rattle.extents.proofs.nth_good.Goals as goal

pub returns-then-whole : goal.returns-then-whole
returns-then-whole c =
    let x = c.args in
    let r = c.skip_any.result in
    let a = addresses_from x.g x.from.left x.from.at in
    let e = c.skip_any.ensures.0 in
    let w = c.requires.2 c.if-whole.true in
    let k = ap (good_among x.g x.image.now) e ∙ whole_behind x.g x.image.now x.n a w ∙ sym e in
    (whole_stands x.g x.image.now r.left r.at k ∙ e ∙ ap (drop x.n) (sym w), c.skip_any.ensures.1, c.skip_any.ensures.2)
