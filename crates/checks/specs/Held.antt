-- What the rows up to 40 have read, and that they hold.
-- Assumes nothing.
use Rattle.std.specs.Prelude.{ℕ, ◌≡◌, true, List}
use Rattle.standard.specs.Characters.{at}
use Rattle.standard.specs.Addresses.{rank}
use Rattle.standard.specs.Labels.{level, block_length, start_of, rule23, rule29, rule40, rule44}
use Rattle.standard.specs.declared.Geometry.{Geometry}
use Rattle.checks.specs.declared.Seen.{Seen}

pub record Held (g : Geometry) (h : List ℕ) (x : Seen) : Type 0 where
  pub level_is : x.level ≡ level h
  pub verdict_is : x.right44 ≡ rule44 h
  pub format_is : x.format ≡ at h 40
  pub block_is : x.block ≡ block_length h
  pub start_is : x.start ≡ rank g (start_of h)
  pub r23 : rule23 g h ≡ true
  pub r29 : rule29 g h ≡ true
  pub r40 : rule40 h ≡ true
