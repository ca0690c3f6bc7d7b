-- Characters, and the numbers that labels spell with them.
-- Every definition here and in the other files takes any list and any number, so it is said once what the library's functions give outside their range:
-- `get_or xs i d` is d where i is behind the end; `take n xs` and `drop n xs` are all of xs and [] where n is above its length; `a - b` is 0 where a is below b;
-- `a / 0` is 0, and `a % 0` is a.
-- Assumes nothing.
use Rattle.std.specs.Prelude.{ℕ, zero, suc, ◌+◌, ◌-◌, ◌*◌, ◌/◌, ◌%◌, Bool, true, false, cond, ◌&&◌, ◌||◌, List, [], ◌∷◌, ◌++◌, get_or, take, drop, leb, ltb, eqb}
use Prim.Native.Char.{Char, code}
use Prim.Native.String.{String, [] as no_more, ◌∷◌ as ◌then◌}

-- a text of this paper as bytes: bytes "VOL1" is 86 ∷ 79 ∷ 76 ∷ 49 ∷ []; byte "A" is 65
abbrev pub bytes : String → List ℕ
bytes no_more = []
bytes (c then s) = code c ∷ bytes s

abbrev pub byte : Char → ℕ
byte c = code c

abbrev pub between : ℕ → ℕ → ℕ → Bool
between low high n = leb low n && leb n high

unfoldable pub one_of : List ℕ → ℕ → Bool
one_of [] c = false
one_of (x ∷ xs) c = eqb c x || one_of xs c

unfoldable pub same : List ℕ → List ℕ → Bool
same [] [] = true
same [] (y ∷ ys) = false
same (x ∷ xs) [] = false
same (x ∷ xs) (y ∷ ys) = eqb x y && same xs ys

unfoldable pub every : (ℕ → Bool) → List ℕ → Bool
every test [] = true
every test (x ∷ xs) = test x && every test xs

-- "positions" of a label count from 1: the bytes from one position to another; the byte at a position
abbrev pub field : List ℕ → ℕ → ℕ → List ℕ
field label from to = take (suc to - from) (drop (from - 1) label)

abbrev pub at : List ℕ → ℕ → ℕ
at label position = get_or label (position - 1) 0

-- "The a-set (house reading): bytes hex 20-22, 25-3F, 41-5A, 5F."
unfoldable pub a_set : ℕ → Bool
a_set c = between 0x20 0x22 c || between 0x25 0x3F c || between 0x41 0x5A c || eqb c 0x5F

abbrev pub in_a_set : List ℕ → Bool
in_a_set f = every a_set f

abbrev pub is_space : ℕ → Bool
is_space c = eqb c (byte " ")

abbrev pub spaces : List ℕ → Bool
spaces f = every is_space f

-- decimal digits, and the number that a field of them spells
unfoldable pub is_digit : ℕ → Bool
is_digit c = between (byte "0") (byte "9") c

abbrev pub digits : List ℕ → Bool
digits f = every is_digit f

unfoldable pub digit_value : ℕ → ℕ
digit_value c = c - byte "0"

unfoldable pub number_from : ℕ → List ℕ → ℕ
number_from n [] = n
number_from n (c ∷ f) = number_from (n * 10 + digit_value c) f

abbrev pub number : List ℕ → ℕ
number f = number_from 0 f

-- a field that may be blank: spaces, or a number of a range
unfoldable pub spaces_or_number : ℕ → ℕ → List ℕ → Bool
spaces_or_number low high f = spaces f || (digits f && between low high (number f))

-- "Hex digits are 0-9, A-F."
unfoldable pub is_hex : ℕ → Bool
is_hex c = is_digit c || between (byte "A") (byte "F") c

abbrev pub hex_digits : List ℕ → Bool
hex_digits f = every is_hex f

unfoldable pub hex_value : ℕ → ℕ
hex_value c = cond (is_digit c) (digit_value c) (c - byte "A" + 10)

unfoldable pub hex_from : ℕ → List ℕ → ℕ
hex_from n [] = n
hex_from n (c ∷ f) = hex_from (n * 16 + hex_value c) f

abbrev pub hex : List ℕ → ℕ
hex f = hex_from 0 f

-- the bytes of a number: of so many digits; with no leading zeros (the first argument bounds the number of digits)
abbrev pub digit_of : ℕ → ℕ
digit_of n = byte "0" + n % 10

unfoldable pub padded : ℕ → ℕ → List ℕ
padded zero n = []
padded (suc width) n = padded width (n / 10) ++ (digit_of n ∷ [])

unfoldable pub shown_by : ℕ → ℕ → List ℕ
shown_by zero n = []
shown_by (suc most) n = cond (ltb n 10) (digit_of n ∷ []) (shown_by most (n / 10) ++ (digit_of n ∷ []))

abbrev pub shown : ℕ → List ℕ
shown n = shown_by (suc n) n
