-- By what is carried: the refusal, or the numbers and the seat.
-- Assumes nothing.
use mathlib.Core.Path.{refl}
use Rattle.opening.proofs.OpenedLaws.{open_opened}
use Rattle.walks.specs.Walks.{mode_of}
use Rattle.reading.proofs.ReplyLaws.{answer_closed, answer_going}
use Rattle.opened.proofs.CarriesLaws.{carries_going, closed_of, going_of}
use Rattle.opened.proofs.answer_on.Goals as goal

pub read_on-heard-requires : goal.read_on-heard-requires
read_on-heard-requires c =
    let x = c.args in
    let g = going_of x.image.now x.carried _ _ c.requires c.in-Ok.is in
    (open_opened x.image.now x.carried.slot _ g.0, g.1)

pub returns-in-Err : goal.returns-in-Err
returns-in-Err c =
    let x = c.args in
    let e = closed_of x.image.now x.carried _ c.requires c.in-Err.is in
    let r = answer_closed (mode_of x.mode) x.image.now x.carried.slot x.place x.out.now _ e in
    (r.0, r.1, c.requires, refl)

pub returns-in-Ok : goal.returns-in-Ok
returns-in-Ok c =
    let x = c.args in
    let g = going_of x.image.now x.carried _ _ c.requires c.in-Ok.is in
    let h = c.read_on-heard.ensures in
    let r = answer_going (mode_of x.mode) x.image.now x.carried.slot x.place x.out.now _ _ _ g.0 (h.0, h.1) in
    (r.0, r.1, carries_going x.image.now x.carried.slot _ _ g.0 h.2, refl)
