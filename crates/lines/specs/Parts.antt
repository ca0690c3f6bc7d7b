-- The parts that the lines of the listing are put together from.
-- Assumes nothing.
use Rattle.std.specs.Prelude.{ℕ, cond, List, [], ◌∷◌, ◌++◌, Result}
use Rattle.standard.specs.Characters.{bytes, byte, shown}
use Rattle.standard.specs.Addresses.{five_bytes}
use Rattle.standard.specs.Labels.{name_of, block_length, record_length, unused_count, format_of, start_of, end_of}
use Rattle.standard.specs.Layout.{label_at}
use Rattle.standard.specs.Slots.{is_label}
use Rattle.standard.specs.Listing.{newline, level_shown, format_shown, blocked_shown, count_shown, label_line}
use Rattle.standard.specs.declared.Refusal.{Refusal}
use Rattle.standard.specs.declared.Geometry.{Geometry}

-- a bar and a field
abbrev pub bar : List ℕ → List ℕ
bar field = byte "|" ∷ field

-- ` L=5 I=10 D=8 P=128 S=1`
unfoldable pub numbers_shown : Geometry → List ℕ
numbers_shown g =
    (bytes " L=" ++ shown g.L) ++ ((bytes " I=" ++ shown g.I) ++ ((bytes " D=" ++ shown g.D) ++ ((bytes " P=" ++ shown g.P) ++ (bytes " S=" ++ shown g.S))))

-- slot, name, level, format, blocked; start and end; blocks and unused count
unfoldable pub first_fields : ℕ → List ℕ → List ℕ
first_fields slot h =
    shown slot ++ (bar (name_of h) ++ (124 ∷ level_shown h ∷ 124 ∷ format_shown (format_of h) ∷ 124 ∷ blocked_shown h ∷ []))

unfoldable pub extent_fields : List ℕ → List ℕ
extent_fields h = bar (five_bytes (start_of h)) ++ bar (five_bytes (end_of h))

unfoldable pub last_fields : Result ℕ Refusal → List ℕ → List ℕ
last_fields count h = bar (count_shown count) ++ (bar (shown (unused_count h)) ++ newline)

-- with block length and record length between them
unfoldable pub fields_in_a_row : ℕ → List ℕ → Result ℕ Refusal → List ℕ
fields_in_a_row slot h count =
    first_fields slot h ++ (bar (shown (block_length h)) ++ (bar (shown (record_length h)) ++ (extent_fields h ++ last_fields count h)))

-- the line of a slot, if it has a label
abbrev pub line_in : Geometry → List ℕ → ℕ → List ℕ
line_in g image slot = cond (is_label g image slot) (label_line g image slot (label_at g image slot)) []
