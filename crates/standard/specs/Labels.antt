-- Section "HDR1 (table 3)", the fields of a label and their rules. A label is its 128 bytes.
-- First what the fields say; then the rules, `rule23` that of the field which begins at position 23; last the table `hdr1_rules`, in the order of positions. The
-- rules stand in another order than the paper's, since what a rule reads of other fields has to stand before it:
--   the field from position    6  23  29  35  40  41  42  43  44  45  46  48  54  58  63  64  67  73  75
--   its rule here is number    2   6   3   4   5   8   9  10   1  11  12  13  15  16   7  17  14  18  19
-- Assumes nothing.
use Rattle.std.specs.Prelude.{ℕ, ◌*◌, ◌%◌, Bool, cond, not, ◌&&◌, ◌||◌, List, [], ◌∷◌, leb, ltb, eqb}
use Rattle.standard.specs.Characters.{bytes, byte, between, one_of, same, field, at, a_set, in_a_set, is_space, spaces, digits, number, spaces_or_number}
use Rattle.standard.specs.Addresses.{address_in, before, is_address, is_data_end}
use Rattle.standard.specs.Rules.{Row, row, lowest_fault}
use Rattle.standard.specs.declared.Geometry.{Geometry}
use Rattle.standard.specs.declared.Address.{Address}

-- What the fields say.

-- "Position 44 is the level: space, 1, 2 or another a-character."
abbrev pub level : List ℕ → ℕ
level h = at h 44

abbrev pub level_space : List ℕ → Bool
level_space h = eqb (level h) (byte " ")

abbrev pub level_one : List ℕ → Bool
level_one h = eqb (level h) (byte "1")

abbrev pub level_two : List ℕ → Bool
level_two h = eqb (level h) (byte "2")

unfoldable pub known_level : List ℕ → Bool
known_level h = level_space h || level_one h || level_two h

unfoldable pub another_level : List ℕ → Bool
another_level h = a_set (level h) && not (known_level h)

abbrev pub name_of : List ℕ → List ℕ
name_of h = field h 6 22

abbrev pub block_length : List ℕ → ℕ
block_length h = number (field h 23 27)

abbrev pub start_of : List ℕ → Address
start_of h = address_in (field h 29 33)

abbrev pub end_of : List ℕ → Address
end_of h = address_in (field h 35 39)

-- "40 space or F (fixed), V, S"
pub data Format : Type 0 where
  fixed variable spanned : Format

unfoldable pub format_of : List ℕ → Format
format_of h = cond (eqb (at h 40) (byte "V")) variable (cond (eqb (at h 40) (byte "S")) spanned fixed)

abbrev pub is_fixed : List ℕ → Bool
is_fixed h = one_of (bytes " F") (at h 40)

abbrev pub is_variable : List ℕ → Bool
is_variable h = one_of (bytes "V") (at h 40)

abbrev pub is_spanned : List ℕ → Bool
is_spanned h = one_of (bytes "S") (at h 40)

-- "54-57 record length R; spaces mean R = B."
unfoldable pub record_length : List ℕ → ℕ
record_length h = cond (spaces (field h 54 57)) (block_length h) (number (field h 54 57))

-- "58-62 unused count U, spaces meaning 0"
unfoldable pub unused_count : List ℕ → ℕ
unused_count h = cond (spaces (field h 58 62)) 0 (number (field h 58 62))

-- "63 space, or B for blocked"
abbrev pub is_blocked : List ℕ → Bool
is_blocked h = eqb (at h 63) (byte "B")

abbrev pub data_end_of : List ℕ → Address
data_end_of h = address_in (field h 75 79)

-- The rules. A field is at fault where its rule does not hold.

-- a part of a rule that applies only where something is so
abbrev pub if_so : Bool → Bool → Bool
if_so test part = not test || part

-- "A part of a rule that reads another field is not applied while that field is itself at fault."
abbrev pub unless_at_fault : Bool → Bool → Bool
unless_at_fault fieldHolds part = not fieldHolds || part

-- "space, 1, 2 or another a-character": all of them are a-characters
unfoldable pub rule44 : List ℕ → Bool
rule44 h = a_set (level h)

-- "6-22 a-set; levels space and 1 have spaces in 14-22. All blank is a legal name."
unfoldable pub rule6 : List ℕ → Bool
rule6 h = in_a_set (name_of h) && if_so (level_space h || level_one h) (spaces (field h 14 22))

-- "29-33 start"
unfoldable pub rule29 : Geometry → List ℕ → Bool
rule29 g h = is_address g (field h 29 33)

-- "35-39 end, not before start."
unfoldable pub rule35 : Geometry → List ℕ → Bool
rule35 g h = is_address g (field h 35 39) && unless_at_fault (rule29 g h) (not (before g (end_of h) (start_of h)))

-- "40 space or F (fixed), V, S; levels space and 1 fixed only."
unfoldable pub rule40 : List ℕ → Bool
rule40 h = one_of (bytes " FVS") (at h 40) && if_so (level_space h || level_one h) (is_fixed h)

-- "23-27 block length B: at least 1, 4, 5 for F, V, S; at most D·P; above P a multiple of P; level space at most P; V and S at most 9,999 (house)."
unfoldable pub rule23 : Geometry → List ℕ → Bool
rule23 g h =
    digits (field h 23 27)
    && unless_at_fault (rule40 h) (if_so (is_fixed h) (leb 1 (block_length h)))
    && unless_at_fault (rule40 h) (if_so (is_variable h) (leb 4 (block_length h)))
    && unless_at_fault (rule40 h) (if_so (is_spanned h) (leb 5 (block_length h)))
    && leb (block_length h) (g.D * g.P)
    && if_so (ltb g.P (block_length h)) (eqb (block_length h % g.P) 0)
    && if_so (level_space h) (leb (block_length h) g.P)
    && unless_at_fault (rule40 h) (if_so (is_variable h || is_spanned h) (leb (block_length h) 9999))

-- "63 space, or B for blocked; S needs B; level space needs space."
unfoldable pub rule63 : List ℕ → Bool
rule63 h =
    one_of (bytes " B") (at h 63)
    && unless_at_fault (rule40 h) (if_so (is_spanned h) (is_blocked h))
    && if_so (level_space h) (is_space (at h 63))

-- "41 space, B. 42 a-set. 43 space, P. 45 space, C, L. 46-47 spaces or 01-99."
unfoldable pub rule41 : List ℕ → Bool
rule41 h = one_of (bytes " B") (at h 41)

unfoldable pub rule42 : List ℕ → Bool
rule42 h = a_set (at h 42)

unfoldable pub rule43 : List ℕ → Bool
rule43 h = one_of (bytes " P") (at h 43)

unfoldable pub rule45 : List ℕ → Bool
rule45 h = one_of (bytes " CL") (at h 45)

unfoldable pub rule46 : List ℕ → Bool
rule46 h = spaces_or_number 1 99 (field h 46 47)

-- "48-53 spaces or YYMMDD (month 01-12, day 01-31); 67-72 the same, or 999999."
unfoldable pub spaces_or_date : List ℕ → Bool
spaces_or_date f = spaces f || (digits f && between 1 12 (number (field f 3 4)) && between 1 31 (number (field f 5 6)))

unfoldable pub rule48 : List ℕ → Bool
rule48 h = spaces_or_date (field h 48 53)

unfoldable pub rule67 : List ℕ → Bool
rule67 h = spaces_or_date (field h 67 72) || same (field h 67 72) (bytes "999999")

-- "54-57 record length R; spaces mean R = B. F: 1 to B, equal to B if unblocked, else a divisor of B; level space R = B. V: 4 to B, RCW counted. S:
-- control words not counted, 0000 means no maximum."
unfoldable pub rule54 : Geometry → List ℕ → Bool
rule54 g h =
    (spaces (field h 54 57) || digits (field h 54 57))
    && unless_at_fault (rule23 g h && rule40 h) (if_so (is_fixed h) (between 1 (block_length h) (record_length h)))
    && unless_at_fault (rule23 g h && rule40 h && rule63 h) (if_so (is_fixed h && not (is_blocked h)) (eqb (record_length h) (block_length h)))
    && unless_at_fault (rule23 g h && rule40 h && rule63 h) (if_so (is_fixed h && is_blocked h) (eqb (block_length h % record_length h) 0))
    && unless_at_fault (rule23 g h) (if_so (level_space h) (eqb (record_length h) (block_length h)))
    && unless_at_fault (rule23 g h && rule40 h) (if_so (is_variable h) (between 4 (block_length h) (record_length h)))

-- "58-62 unused count U, spaces meaning 0, below B; 0 if unblocked; for F a multiple of R."
unfoldable pub rule58 : Geometry → List ℕ → Bool
rule58 g h =
    (spaces (field h 58 62) || digits (field h 58 62))
    && unless_at_fault (rule23 g h) (ltb (unused_count h) (block_length h))
    && unless_at_fault (rule63 h) (if_so (not (is_blocked h)) (eqb (unused_count h) 0))
    && unless_at_fault (rule23 g h && rule40 h && rule54 g h) (if_so (is_fixed h) (eqb (unused_count h % record_length h) 0))

-- "64 space, S. 73 a-set."
unfoldable pub rule64 : List ℕ → Bool
rule64 h = one_of (bytes " S") (at h 64)

unfoldable pub rule73 : List ℕ → Bool
rule73 h = a_set (at h 73)

-- "75-79 data end: not before start, an address or the one past the last."
unfoldable pub rule75 : Geometry → List ℕ → Bool
rule75 g h = is_data_end g (field h 75 79) && unless_at_fault (rule29 g h) (not (before g (data_end_of h) (start_of h)))

-- The table. "Another level has only 1-4, 29-33, 35-39 and 44 judged." "Other positions are not judged." "With 44 outside the a-set every field is judged,
-- without the parts that name a level": such a 44 is not `another_level`, and no level's test holds there.
abbrev pub unless_another : List ℕ → Bool → Bool
unless_another h rule = another_level h || rule

unfoldable pub hdr1_rules : Geometry → List ℕ → List Row
hdr1_rules g h =
    row 1 (same (field h 1 4) (bytes "HDR1"))
    ∷ row 6 (unless_another h (rule6 h))
    ∷ row 23 (unless_another h (rule23 g h))
    ∷ row 29 (rule29 g h)
    ∷ row 35 (rule35 g h)
    ∷ row 40 (unless_another h (rule40 h))
    ∷ row 41 (unless_another h (rule41 h))
    ∷ row 42 (unless_another h (rule42 h))
    ∷ row 43 (unless_another h (rule43 h))
    ∷ row 44 (rule44 h)
    ∷ row 45 (unless_another h (rule45 h))
    ∷ row 46 (unless_another h (rule46 h))
    ∷ row 48 (unless_another h (rule48 h))
    ∷ row 54 (unless_another h (rule54 g h))
    ∷ row 58 (unless_another h (rule58 g h))
    ∷ row 63 (unless_another h (rule63 h))
    ∷ row 64 (unless_another h (rule64 h))
    ∷ row 67 (unless_another h (rule67 h))
    ∷ row 73 (unless_another h (rule73 h))
    ∷ row 75 (unless_another h (rule75 g h))
    ∷ []

-- the position at fault, 0 for none
unfoldable pub label_fault : Geometry → List ℕ → ℕ
label_fault g h = lowest_fault (hdr1_rules g h)

-- what of the label the content rules read: format, R, blocked
pub record Params : Type 0 where
  pub format : Format
  pub R : ℕ
  pub blocked : Bool

abbrev pub params_of : List ℕ → Params
params_of h = record { format = format_of h; R = record_length h; blocked = is_blocked h }
