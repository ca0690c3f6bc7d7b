-- 27, or the plan, by the level behind the list.
-- Assumes nothing.
use Rattle.std.specs.Prelude.{Err}
use Prim.Native.Nat.{ℕ, ◌/◌}
use mathlib.Core.Path.{ap, ◌∙◌}
use native.Mathlib.Omega.{arith}
use Rattle.files.specs.Numbers.{numbers_of}
use Rattle.files.proofs.Accepted.{ready}
use Rattle.writing.proofs.PlanLaws.{level_ready, fit_stop, fit_go}
use Rattle.writing.proofs.fitted.Goals as goal

pub level_after-l-requires : goal.level_after-l-requires
level_after-l-requires c =
    let p = c.requires in
    let r = level_ready _ _ _ p.0 p.1 p.2 _ p.3 _ p.5 _ c.form_of-form.ensures _ c.is_blocked-blocked.ensures c.args.lengths.now p.7 in
    (r.0, r.1, p.8)

pub good_in-requires : goal.good_in-requires
good_in-requires c =
    let p = c.requires in
    let r = ready _ _ _ p.0 p.1 p.2 c.args.n (p.5 ∙ ap (numbers_of c.args.g) p.3) in
    (r.3, r.2, p.6)

pub nonzero_div-held : goal.nonzero_div-held
nonzero_div-held c =
    let p = c.requires in
    let r = ready c.args.image.now c.args.g c.args.slot p.0 p.1 p.2 c.args.n (p.5 ∙ ap (numbers_of c.args.g) p.3) in
    omega (arith, r.0)

pub returns-then-held-blocks : goal.returns-then-held-blocks
returns-then-held-blocks c =
    let p = c.requires in
    ap Err c.at.ensures
    ∙ fit_stop _ _ _ p.0 p.1 p.2 _ p.3 _ p.5 _ c.form_of-form.ensures _ c.is_blocked-blocked.ensures _ _ c.level_after-l.ensures _ c.good_in.ensures c.if-held-blocks.true

pub data_end-end-requires : goal.data_end-end-requires
data_end-end-requires c =
    let p = c.requires in
    let r = ready _ _ _ p.0 p.1 p.2 c.args.n (p.5 ∙ ap (numbers_of c.args.g) p.3) in
    (r.3, r.2, p.6, r.0, ap (λ (q : ℕ). q / c.args.n.m) c.good_in.ensures)

pub returns : goal.returns
returns c =
    let p = c.requires in
    fit_go _ _ _ p.0 p.1 p.2 _ p.3 _ p.5 _ c.form_of-form.ensures _ c.is_blocked-blocked.ensures _ _ c.level_after-l.ensures _ c.good_in.ensures c.if-held-blocks.false _ _ c.end_of.ensures.0 c.data_end-end.ensures
