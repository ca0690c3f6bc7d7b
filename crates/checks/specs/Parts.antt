-- Parts of the rules as tests of numbers: what the code decides once the fields are read. PartLaws (proofs) says that they are the rules.
-- Assumes nothing.
use Rattle.std.specs.Prelude.{ℕ, ◌*◌, ◌%◌, Bool, cond, not, ◌&&◌, ◌||◌, List, leb, ltb, eqb}
use Rattle.standard.specs.Characters.{bytes, byte, between, one_of, is_space, spaces, digits, number}
use Rattle.standard.specs.Labels.{if_so, unless_at_fault}
use Rattle.standard.specs.declared.Geometry.{Geometry}
use Rattle.fields.specs.Numbers.{perhaps}
use Rattle.std.specs.Prelude.{Option, Some}

-- c is the character at 44, f the one at 40; a test such as right40 says whether that field is right

-- "space, 1, 2 or another a-character"
unfoldable pub is_other : ℕ → Bool → Bool
is_other c right44 = right44 && not (eqb c (byte " ") || eqb c (byte "1") || eqb c (byte "2"))

-- "40 space or F (fixed), V, S; levels space and 1 fixed only."
unfoldable pub format_right : ℕ → ℕ → Bool
format_right c f = one_of (bytes " FVS") f && if_so (eqb c (byte " ") || eqb c (byte "1")) (one_of (bytes " F") f)

-- "at least 1, 4, 5 for F, V, S"
unfoldable pub block_least : ℕ → Bool → ℕ → Bool
block_least f right40 B =
    unless_at_fault right40 (if_so (one_of (bytes " F") f) (leb 1 B))
    && unless_at_fault right40 (if_so (one_of (bytes "V") f) (leb 4 B))
    && unless_at_fault right40 (if_so (one_of (bytes "S") f) (leb 5 B))

-- "at most D·P; above P a multiple of P; level space at most P; V and S at most 9,999 (house)."
unfoldable pub block_fits : Geometry → ℕ → ℕ → Bool → ℕ → Bool
block_fits g c f right40 B =
    block_least f right40 B
    && leb B (g.D * g.P)
    && if_so (ltb g.P B) (eqb (B % g.P) 0)
    && if_so (eqb c (byte " ")) (leb B g.P)
    && unless_at_fault right40 (if_so (one_of (bytes "V") f || one_of (bytes "S") f) (leb B 9999))

-- "63 space, or B for blocked; S needs B; level space needs space.", where 40 is right
unfoldable pub blocked_right : ℕ → ℕ → ℕ → Bool
blocked_right c f b = one_of (bytes " B") b && if_so (one_of (bytes "S") f) (eqb b (byte "B")) && if_so (eqb c (byte " ")) (is_space b)

-- a field that may be blank
unfoldable pub blank_or : ℕ → List ℕ → Option ℕ
blank_or blank f = cond (spaces f) (Some blank) (perhaps (digits f) (number f))

-- "F: 1 to B, equal to B if unblocked, else a divisor of B; level space R = B. V: 4 to B", where 23 and 40 are right
unfoldable pub record_fits : ℕ → ℕ → Bool → Bool → ℕ → ℕ → Bool
record_fits c f right63 blocked B R =
    if_so (one_of (bytes " F") f) (between 1 B R)
    && unless_at_fault right63 (if_so (one_of (bytes " F") f && not blocked) (eqb R B))
    && unless_at_fault right63 (if_so (one_of (bytes " F") f && blocked) (eqb (B % R) 0))
    && if_so (eqb c (byte " ")) (eqb R B)
    && if_so (one_of (bytes "V") f) (between 4 B R)

-- "below B; 0 if unblocked; for F a multiple of R", where 23, 40 and 54 are right
unfoldable pub unused_fits : ℕ → Bool → Bool → ℕ → ℕ → ℕ → Bool
unused_fits f right63 blocked B R U =
    ltb U B && unless_at_fault right63 (blocked || eqb U 0) && if_so (one_of (bytes " F") f) (eqb (U % R) 0)
