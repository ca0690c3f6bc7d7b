-- The parts are the rules: of the numbers that the fields hold, and where the fields that a part reads are right.
-- Assumes nothing.
use Prim.Native.Nat.{ℕ}
use mathlib.Core.Path.{◌≡◌}
use mathlib.Core.Bool.{Bool, true, false, ◌||◌, not-not}
use mathlib.Core.List.{List}
use lib.Dec.{eqb}
use Rattle.standard.specs.Characters.{at, field, spaces, digits}
use Rattle.standard.specs.Labels.{level, known_level, another_level, block_length, record_length, unused_count, is_blocked, rule23, rule40, rule44, rule54, rule58, rule63}
use Rattle.standard.specs.declared.Geometry.{Geometry}
use Rattle.checks.specs.declared.Seen.{Seen}
use Rattle.checks.specs.Held.{Held}
use Rattle.checks.specs.Parts.{is_other, format_right, block_least, block_fits, blocked_right, record_fits, unused_fits}

blocked_whole : (h : List ℕ) → rule40 h ≡ true → blocked_right (level h) (at h 40) (at h 63) ≡ rule63 h
unfolding blocked_right rule63
blocked_whole h r40 = rw r40

module _ (h : List ℕ) (c f : ℕ) where
  pub other_is : (t r : Bool) → c ≡ level h → t ≡ rule44 h → r ≡ is_other c t → r ≡ another_level h
  unfolding is_other another_level known_level rule44
  other_is t r e k q = cc

  pub format_is : (r : Bool) → c ≡ level h → f ≡ at h 40 → r ≡ format_right c f → r ≡ rule40 h
  unfolding format_right rule40
  format_is r e k q = cc

  pub blocked_is : (b : ℕ) (r : Bool) → rule40 h ≡ true → c ≡ level h → f ≡ at h 40 → b ≡ at h 63 → r ≡ blocked_right c f b → r ≡ rule63 h
  blocked_is b r r40 e k l q = cc (blocked_whole h r40)

module _ (g : Geometry) (h : List ℕ) where
  pub block_no : digits (field h 23 27) ≡ false → rule23 g h ≡ false
  unfolding rule23
  block_no d = rw d

  block_whole : digits (field h 23 27) ≡ true → block_fits g (level h) (at h 40) (rule40 h) (block_length h) ≡ rule23 g h
  unfolding block_fits block_least rule23
  block_whole d = rw d

  pub block_is : (c f b : ℕ) (t r : Bool) → digits (field h 23 27) ≡ true → c ≡ level h → f ≡ at h 40 → t ≡ rule40 h → b ≡ block_length h
      → r ≡ block_fits g c f t b → r ≡ rule23 g h
  block_is c f b t r d e k l m q = cc (block_whole d)

  pub record_no : (spaces (field h 54 57) || digits (field h 54 57)) ≡ false → rule54 g h ≡ false
  unfolding rule54
  record_no d = rw d

  record_whole : (spaces (field h 54 57) || digits (field h 54 57)) ≡ true → rule23 g h ≡ true → rule40 h ≡ true
      → record_fits (level h) (at h 40) (rule63 h) (is_blocked h) (block_length h) (record_length h) ≡ rule54 g h
  unfolding record_fits rule54
  record_whole d r23 r40 = rw (d, r23, r40)

  pub unused_no : (spaces (field h 58 62) || digits (field h 58 62)) ≡ false → rule58 g h ≡ false
  unfolding rule58
  unused_no d = rw d

  unused_whole : (spaces (field h 58 62) || digits (field h 58 62)) ≡ true → rule23 g h ≡ true → rule40 h ≡ true → rule54 g h ≡ true
      → unused_fits (at h 40) (rule63 h) (is_blocked h) (block_length h) (record_length h) (unused_count h) ≡ rule58 g h
  unfolding unused_fits rule58
  unused_whole d r23 r40 r54 = rw (d, r23, r40, r54, not-not (is_blocked h))

  module _ (x : Seen) (b R : ℕ) (t r : Bool) (w : Held g h x) (e : b ≡ at h 63) (k : t ≡ rule63 h) (l : R ≡ record_length h) where
    pub record_is : (spaces (field h 54 57) || digits (field h 54 57)) ≡ true → r ≡ record_fits x.level x.format t (eqb b 66) x.block R → r ≡ rule54 g h
    record_is d q = cc (record_whole d w.r23 w.r40)

    pub unused_is : (U : ℕ) → (spaces (field h 58 62) || digits (field h 58 62)) ≡ true → rule54 g h ≡ true → U ≡ unused_count h
        → r ≡ unused_fits x.format t (eqb b 66) x.block R U → r ≡ rule58 g h
    unused_is U d r54 m q = cc (unused_whole d w.r23 w.r40 r54)
