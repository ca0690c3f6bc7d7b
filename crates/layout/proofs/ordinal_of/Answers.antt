-- `ordinal_of` meets its contract: a data cylinder is never the index cylinder.
-- Assumes nothing.
use Rattle.layout.proofs.Laws.{first_physical, track_sectors, ordinal_from, ordinal_small}
use Rattle.layout.proofs.ordinal_of.Goals as goal

pub returns : goal.returns
returns c =
    let q = c.physical_of-q.ensures in
    let first = c.index_sectors.ensures in
    let tracks = c.times.ensures in
    let t = track_sectors c.args.g _ _ _ _ _ _ tracks.0 c.from.ensures c.times-2.ensures.0 c.from-2.ensures in (
      ordinal_from _ _ _ _ _ first.0 q.0 (first_physical _ _ c.requires.0 q.1) t,
      ordinal_small _ _ _ _ _ _ _ first.1 q.2 c.requires.1 tracks.1 c.requires.2 c.times-2.ensures.1 c.requires.4,
    )
