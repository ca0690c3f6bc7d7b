-- By what judging and opening said: the refusal, or the place.
-- Assumes nothing.
use Rattle.standard.proofs.RefusalLaws.{handed_on}
use Rattle.opening.proofs.OpenedLaws.{open_opened, staged_closed, staged_going}
use Rattle.walks.specs.Walks.{mode_of}
use Rattle.reading.proofs.ReplyLaws.{answer_closed, answer_going}
use Rattle.reading.proofs.answer_at.Goals as goal

pub read_on-heard-requires : goal.read_on-heard-requires
read_on-heard-requires c =
    let x = c.args in
    let g = staged_going x.image.now x.slot _ _ _ c.begin.ensures c.in_ok-stage.was in
    (open_opened x.image.now x.slot _ g.0, g.1)

pub returns-in_err-stage : goal.returns-in_err-stage
returns-in_err-stage c =
    let x = c.args in
    rw (handed_on _ _ c.from_residual.ensures)
    (answer_closed (mode_of x.mode) x.image.now x.slot x.place x.out.now _ (staged_closed x.image.now x.slot _ _ c.begin.ensures c.in_err-stage.was))

pub returns : goal.returns
returns c =
    let x = c.args in
    let g = staged_going x.image.now x.slot _ _ _ c.begin.ensures c.in_ok-stage.was in
    let h = c.read_on-heard.ensures in
    answer_going (mode_of x.mode) x.image.now x.slot x.place x.out.now _ _ _ g.0 (h.0, h.1)
