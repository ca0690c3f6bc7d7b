-- What the walk told decides.
-- Assumes nothing.
use Rattle.std.specs.Prelude.{Ok}
use mathlib.Core.Path.{sym, ap, ◌∙◌}
use native.Mathlib.Omega.{arith}
use Rattle.standard.proofs.RefusalLaws.{handed_on}
use Rattle.extents.proofs.CursorLaws.{legal_fewer}
use Rattle.files.specs.Numbers.{ended_by}
use Rattle.files.proofs.Laws.{tally_by}
use Rattle.files.proofs.tally_by.Goals as goal

pub returns-in_err-whole : goal.returns-in_err-whole
returns-in_err-whole c =
    let x = c.args in
    handed_on _ _ c.from_residual.ensures ∙ sym (tally_by x.g x.image.now x.n x.slot _ (sym c.requires.4 ∙ c.in_err-whole.was))

pub returns-then-whole : goal.returns-then-whole
returns-then-whole c =
    let x = c.args in
    c.ended.ensures ∙ sym (tally_by x.g x.image.now x.n x.slot _ (sym c.requires.4 ∙ c.in_ok-whole.was ∙ ap Ok c.if-whole.true))

pub count_good-good-requires : goal.count_good-good-requires
count_good-good-requires c =
    let x = c.args in
    let p = c.requires in
    (legal_fewer x.g x.n.before x.n.size x.n.start p.1 p.3, omega (arith, p.1, p.2))

pub returns : goal.returns
returns c =
    let x = c.args in
    c.ended-2.ensures ∙ ap (ended_by x.n x.slot) c.count_good-good.ensures
    ∙ sym (tally_by x.g x.image.now x.n x.slot _ (sym c.requires.4 ∙ c.in_ok-whole.was ∙ ap Ok c.if-whole.false))
