-- `galz_find` meets its contract: what `finding::find` and `packing::pack_found` ensure; what is found has room.
-- Assumes nothing.
use mathlib.Core.Path.{sym, ap, subst, ◌∙◌}
use Rattle.standard.specs.Packed.{packed_found}
use Rattle.packing.specs.Room.{FoundFits}
use Rattle.galzeranta.proofs.Laws.{found_fits}
use Rattle.galzeranta.proofs.galz_find.Goals as goal

pub pack_found-requires : goal.pack_found-requires
pack_found-requires c = subst FoundFits (sym c.find.ensures) (found_fits _ _)

pub returns : goal.returns
returns c = c.pack_found.ensures ∙ ap packed_found c.find.ensures
