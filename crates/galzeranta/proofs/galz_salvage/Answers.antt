-- What is salvaged has room in the number, and the output is the definition's.
-- Assumes nothing.
use mathlib.Core.Path.{ap, ◌∙◌}
use Rattle.standard.specs.Records.{salvage}
use Rattle.standard.specs.Reading.{read_answer, output_after}
use Rattle.standard.specs.Packed.{packed_answer}
use Rattle.standard.specs.declared.Place.{Place}
use Rattle.galzeranta.proofs.Laws.{answer_fits}
use Rattle.galzeranta.proofs.galz_salvage.Goals as goal

pub pack_answer-requires : goal.pack_answer-requires
pack_answer-requires c =
    let x = c.args in
    answer_fits salvage x.image.now x.slot c.place_of.result x.out.now _ c.salvage.ensures.0

pub returns : goal.returns
returns c =
    let x = c.args in
    let place = c.place_of.ensures in
    let said = c.salvage.ensures in (
      c.pack_answer.ensures ∙ ap packed_answer (said.0 ∙ ap (λ (pl : Place). read_answer salvage x.image.now x.slot pl x.out.now) place),
      said.1 ∙ ap (λ (pl : Place). output_after salvage x.image.now x.slot pl x.out.now) place,
    )
