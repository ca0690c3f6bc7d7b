-- What the tally says decides.
-- Assumes nothing.
use Prim.Native.Nat.{ℕ}
use mathlib.Core.Path.{sym, ap, ◌∙◌}
use mathlib.Core.List.{List}
use Rattle.standard.proofs.RefusalLaws.{handed_on}
use Rattle.standard.specs.Labels.{format_of, is_blocked}
use Rattle.promises.specs.Volumes.VolumeNumbers.{numbers_of_lem}
use Rattle.labels.specs.Forms.{form_in}
use Rattle.files.specs.Numbers.{numbers_of}
use Rattle.files.proofs.Accepted.{ready}
use Rattle.files.proofs.Laws.{tally_by}
use Rattle.opening.specs.Opened.{is_whole}
use Rattle.opening.proofs.OpenLaws.{shut_by, open_by}
use Rattle.opening.proofs.concluded.Goals as goal

pub numbers_of-n-requires : goal.numbers_of-n-requires
numbers_of-n-requires c =
    let x = c.args in
    let p = c.requires in
    (p.4, (numbers_of_lem x.image.now x.g p.0).size_low)

pub survey-requires : goal.survey-requires
survey-requires c =
    let x = c.args in
    let p = c.requires in
    let n = c.numbers_of-n in
    (ready x.image.now x.g x.slot p.0 p.1 p.2 n.result (n.ensures ∙ ap (numbers_of x.g) p.3)).3

pub returns-in_err-whole : goal.returns-in_err-whole
returns-in_err-whole c =
    let x = c.args in
    let p = c.requires in
    let n = c.numbers_of-n in
    handed_on _ _ c.from_residual.ensures
    ∙ shut_by x.image.now x.g x.slot p.0 p.1 p.2 n.result (n.ensures ∙ ap (numbers_of x.g) p.3) _
    (tally_by x.g x.image.now n.result x.slot _ (sym c.survey.ensures ∙ c.in_err-whole.was))

pub tally_by-requires : goal.tally_by-requires
tally_by-requires c =
    let x = c.args in
    let p = c.requires in
    let n = c.numbers_of-n in
    let r = ready x.image.now x.g x.slot p.0 p.1 p.2 n.result (n.ensures ∙ ap (numbers_of x.g) p.3) in
    (r.0, r.1, r.2, r.3, sym c.in_ok-whole.was ∙ c.survey.ensures)

pub returns-in_err-count : goal.returns-in_err-count
returns-in_err-count c =
    let x = c.args in
    let p = c.requires in
    let n = c.numbers_of-n in
    handed_on _ _ c.from_residual-in_err-count.ensures
    ∙ shut_by x.image.now x.g x.slot p.0 p.1 p.2 n.result (n.ensures ∙ ap (numbers_of x.g) p.3) _
    (sym c.tally_by.ensures ∙ c.in_err-count.was)

pub returns : goal.returns
returns c =
    let x = c.args in
    let p = c.requires in
    let n = c.numbers_of-n in
    open_by x.image.now x.g x.slot p.0 p.1 p.2 n.result (n.ensures ∙ ap (numbers_of x.g) p.3) _ _ _ _
    (ap is_whole (sym c.in_ok-whole.was ∙ c.survey.ensures))
    (c.form_of.ensures ∙ ap (λ (h : List ℕ). form_in (format_of h)) p.3)
    (c.is_blocked.ensures ∙ ap is_blocked p.3)
    (sym c.tally_by.ensures ∙ c.in_ok-count.was)
