-- The order of two defective cylinders, under which the skip is the walk (proofs/Volumes/SkipWalk).
-- Assumes nothing.
use Prim.Native.Nat.{◌<◌}
use Rattle.standard.specs.declared.Geometry.{Geometry}

-- two, where the second, if there is one, is behind the first
abbrev pub InOrder : Geometry → Type 0
InOrder g = 0 < g.d2 → g.d1 < g.d2
