-- What was created, and its number, which has room.
-- Assumes nothing.
use mathlib.Core.Path.{sym, ap, subst, ◌∙◌}
use Rattle.standard.specs.Packed.{packed_created}
use Rattle.packing.specs.Room.{CreatedFits}
use Rattle.galzeranta.proofs.Laws.{created_fits}
use Rattle.galzeranta.proofs.galz_create.Goals as goal

pub pack_created-requires : goal.pack_created-requires
pack_created-requires c = subst CreatedFits (sym c.create.ensures.0) (created_fits _ _ _)

pub returns : goal.returns
returns c =
    let said = c.create.ensures in
    (c.pack_created.ensures ∙ ap packed_created said.0, said.1)
