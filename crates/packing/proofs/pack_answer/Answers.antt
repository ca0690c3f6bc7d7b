-- `pack_answer` meets its contract, case by case; what has room is known of the case.
-- Assumes nothing.
use Rattle.std.specs.Prelude.{Ok}
use mathlib.Core.Path.{sym, ap, subst, ◌∙◌}
use native.Mathlib.Omega.{arith}
use Rattle.standard.specs.Packed.{packed_answer}
use Rattle.packing.specs.Room.{AnswerFits}
use Rattle.packing.proofs.Laws.{record_packed, gap_packed, end_packed}
use Rattle.packing.proofs.pack_answer.Goals as goal

pub overflow_mul-result : goal.overflow_mul-result
overflow_mul-result c =
    let e = c.in-Ok.is ∙ ap Ok c.in-Record.is in
    omega (arith, subst AnswerFits e c.requires)

pub pack_place-requires : goal.pack_place-requires
pack_place-requires c =
    let e = c.in-Ok.is ∙ ap Ok c.in-Record.is in
    (subst AnswerFits e c.requires).1

pub overflow_add-result : goal.overflow_add-result
overflow_add-result c =
    let e = c.in-Ok.is ∙ ap Ok c.in-Record.is in
    omega (arith, subst AnswerFits e c.requires)

pub pack_place-requires-in-Gap : goal.pack_place-requires-in-Gap
pack_place-requires-in-Gap c =
    let e = c.in-Ok.is ∙ ap Ok c.in-Gap.is in
    subst AnswerFits e c.requires

pub pack_place-requires-in-End : goal.pack_place-requires-in-End
pack_place-requires-in-End c =
    let e = c.in-Ok.is ∙ ap Ok c.in-End.is in
    subst AnswerFits e c.requires

pub returns-in-Err : goal.returns-in-Err
unfolding packed_answer
returns-in-Err c = c.pack_refusal.ensures ∙ sym (ap packed_answer c.in-Err.is)

pub returns-in-Record : goal.returns-in-Record
returns-in-Record c =
    let e = c.in-Ok.is ∙ ap Ok c.in-Record.is in
    record_packed _ _ _ c.pack_place.ensures.0 _ e

pub returns-in-Gap : goal.returns-in-Gap
returns-in-Gap c =
    let e = c.in-Ok.is ∙ ap Ok c.in-Gap.is in
    gap_packed _ _ _ c.pack_place-in-Gap.ensures.0 e

pub returns-in-End : goal.returns-in-End
returns-in-End c =
    let e = c.in-Ok.is ∙ ap Ok c.in-End.is in
    end_packed _ _ _ c.pack_place-in-End.ensures.0 e
