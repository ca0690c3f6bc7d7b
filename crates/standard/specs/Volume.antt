-- Section "VOL1 and ERMAP (tables 2 and 4)", VOL1.
-- Assumes nothing.
use Rattle.std.specs.Prelude.{ℕ, ◌*◌, ◌^◌, Bool, cond, ◌&&◌, List, [], ◌∷◌}
use Rattle.standard.specs.Characters.{bytes, between, one_of, same, field, at, a_set, in_a_set, is_space, digit_value, spaces_or_number, hex_digits, hex}
use Rattle.standard.specs.Rules.{Row, row}

-- a field of hex digits whose number is in a range
abbrev pub hex_between : ℕ → ℕ → List ℕ → Bool
hex_between low high f = hex_digits f && between low high (hex f)

-- "1-4 `VOL1`; 5-10, 11, 38-51 in the a-set; 72 `A`; 76 space, 1, 2, 3 for P = 128, 256, 512, 1024; 77-78 spaces or 01-13; 79 `3`; 81-82 hex L, 1-96;
-- 83-84 hex I, 8-26; 85-86 hex D, 1-26; 89 hex S, 1-2. 87-88 cannot hold 256, so 76 decides; they and all other positions are not judged." But of 79, request
-- 2026-02: "The rows of table 2 stand in that order too, reserve first, so the printed numbers are exchanged. Position 80 must be `3`; 79 becomes reserved and is
-- not judged."
unfoldable pub vol1_rules : List ℕ → List Row
vol1_rules v =
    row 1 (same (field v 1 4) (bytes "VOL1"))
    ∷ row 5 (in_a_set (field v 5 10))
    ∷ row 11 (a_set (at v 11))
    ∷ row 38 (in_a_set (field v 38 51))
    ∷ row 72 (one_of (bytes "A") (at v 72))
    ∷ row 76 (one_of (bytes " 123") (at v 76))
    ∷ row 77 (spaces_or_number 1 13 (field v 77 78))
    ∷ row 80 (one_of (bytes "3") (at v 80))
    ∷ row 81 (hex_between 1 96 (field v 81 82))
    ∷ row 83 (hex_between 8 26 (field v 83 84))
    ∷ row 85 (hex_between 1 26 (field v 85 86))
    ∷ row 89 (hex_between 1 2 (field v 89 89))
    ∷ []

abbrev pub volume_l : List ℕ → ℕ
volume_l v = hex (field v 81 82)

abbrev pub volume_i : List ℕ → ℕ
volume_i v = hex (field v 83 84)

abbrev pub volume_d : List ℕ → ℕ
volume_d v = hex (field v 85 86)

abbrev pub volume_s : List ℕ → ℕ
volume_s v = hex (field v 89 89)

-- "76 space, 1, 2, 3 for P = 128, 256, 512, 1024", which is 128·2^k
abbrev pub volume_k : List ℕ → ℕ
volume_k v = cond (is_space (at v 76)) 0 (digit_value (at v 76))

abbrev pub volume_p : List ℕ → ℕ
volume_p v = 128 * 2 ^ volume_k v

-- the volume's name
abbrev pub volume_name : List ℕ → List ℕ
volume_name v = field v 5 10
