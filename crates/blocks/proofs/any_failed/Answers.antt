-- The first record, which counts as it stands, and then those behind it.
-- Assumes nothing.
use Prim.Native.Nat.{◌-◌}
use mathlib.Core.Path.{◌≡◌, sym, ap, ◌∙◌}
use mathlib.Core.List.{List}
use lib.ListN.{take, drop}
use native.Mathlib.Omega.{arith}
use Rattle.standard.specs.Layout.{check_failed}
use Rattle.standard.specs.Addresses.{ordinal}
use Rattle.standard.specs.Files.{any_failed}
use Rattle.standard.specs.declared.Address.{Address}
use Rattle.extents.specs.Cursors.{good_from, standing}
use Rattle.extents.proofs.CursorLaws.{some_of, walk_here, stand_next}
use Rattle.blocks.proofs.LostLaws.{failed_on, failed_here, failed_first, failed_never}
use Rattle.blocks.proofs.any_failed.Goals as goal

pub returns-then-m-from : goal.returns-then-m-from
returns-then-m-from c = let x = c.args in sym (failed_never x.g x.image.now x.m x.from c.if-m-from.true)

pub check_failed-requires : goal.check_failed-requires
check_failed-requires c =
    let x = c.args in
    let b = c.begin-w.ensures in
    walk_here _ _ b.0 (omega (arith, b.2, (some_of x.m x.from.left c.if-m-from.false).1))

pub returns-then-check_failed : goal.returns-then-check_failed
returns-then-check_failed c =
    let x = c.args in
    let s = some_of x.m x.from.left c.if-m-from.false in
    let first : check_failed x.g x.image.now (ordinal x.g x.from.at) ≡ c.check_failed.result = rw (sym c.begin-w.ensures.1) (sym c.check_failed.ensures) in
    let lost = failed_first x.g x.image.now x.from s.1 ∙ (first ∙ c.if-check_failed.true) in
    sym (failed_here x.g x.image.now x.m (standing x.g x.image.now x.from) s.0 lost)

pub returns : goal.returns
returns c =
    let x = c.args in
    let g = x.g in
    let image = x.image.now in
    let s = some_of x.m x.from.left c.if-m-from.false in
    let b = c.begin-w.ensures in
    let t = c.step.ensures in
    let first : check_failed g image (ordinal g x.from.at) ≡ c.check_failed.result = rw (sym b.1) (sym c.check_failed.ensures) in
    let sound = failed_first g image x.from s.1 ∙ (first ∙ c.if-check_failed.false) in
    let next : good_from g image c.step.result.left c.step.result.at ≡ drop 1 (standing g image x.from) = rw (t.1, t.2, b.1, b.2) (stand_next g image x.from.left x.from.at s.1) in
    c.failed_among.ensures
    ∙ ap (λ (t : List Address). any_failed g image (take (x.m - 1) t)) next
    ∙ failed_on g image x.m (standing g image x.from) s.0 sound
