-- Section "Blocks and records", the content of one block: what stands at an offset, and the pieces of a block from an offset on.
-- Assumes nothing.
use Rattle.std.specs.Prelude.{ℕ, zero, suc, ◌+◌, ◌-◌, ◌*◌, Bool, true, cond, not, ◌&&◌, ◌||◌, List, [], ◌∷◌, ◌++◌, length, get_or, take, drop, leb, ltb, eqb}
use Rattle.std.proofs.Math.Option.{Option, none, some}
use Rattle.standard.specs.Characters.{byte, is_digit, digit_value}
use Rattle.standard.specs.Labels.{Format, fixed, variable, spanned, Params}

-- "A block's content is its first B bytes; B-U in the last." "A lost block contains a check-failed record": of it only the size of its content counts.
pub data Block : Type 0 where
  lost_block : (size : ℕ) → Block
  held : (content : List ℕ) → Block

abbrev pub size_of : Block → ℕ
size_of (lost_block n) = n
size_of (held c) = length c

-- What a segment is to its record, by its `0`-`3`. A record of F or V is a whole.
pub data Role : Type 0 where
  whole first middle last : Role

-- What stands at an offset of a block: only fill, or nothing; a record or segment, with its body and its size, control word counted; or a rule is broken.
pub data Piece : Type 0 where
  blank : Piece
  broken : Piece
  piece : Role → List ℕ → ℕ → Piece

-- "Fill is byte 00."
abbrev pub is_fill : List ℕ → Bool
is_fill [] = true
is_fill (x ∷ xs) = eqb x 0 && is_fill xs

-- "the rest must be fill"
abbrev pub must_fill : List ℕ → Piece
must_fill rest = cond (is_fill rest) blank broken

-- "four digits", and their number
unfoldable pub number4 : ℕ → ℕ → ℕ → ℕ → Option ℕ
number4 a b c d =
    cond (is_digit a && is_digit b && is_digit c && is_digit d)
    (some (digit_value a * 1000 + digit_value b * 100 + digit_value c * 10 + digit_value d))
    none

abbrev pub four : List ℕ → Option ℕ
four rest = number4 (get_or rest 0 0) (get_or rest 1 0) (get_or rest 2 0) (get_or rest 3 0)

-- "`0`-`3`"
unfoldable pub role_of : ℕ → Option Role
role_of c =
    cond (eqb c (byte "0")) (some whole)
    (cond (eqb c (byte "1")) (some first)
    (cond (eqb c (byte "2")) (some middle)
    (cond (eqb c (byte "3")) (some last) none)))

-- "V: four digits, from 4 to R, then the body, inside the content"
abbrev pub sized_v : ℕ → List ℕ → Option ℕ → Piece
sized_v R rest none = broken
sized_v R rest (some n) =
    cond (leb 4 n && leb n R && leb n (length rest)) (piece whole (take (n - 4) (drop 4 rest)) n) broken

-- "S: `0`-`3`, four digits from 5, inside the content"
abbrev pub sized_s : List ℕ → Option Role → Option ℕ → Piece
sized_s rest none n = broken
sized_s rest (some k) none = broken
sized_s rest (some k) (some n) = cond (leb 5 n && leb n (length rest)) (piece k (take (n - 5) (drop 5 rest)) n) broken

-- F: one record of R bytes after the other. (Where the label's rules hold the last case does not arise.)
unfoldable pub look_f : ℕ → List ℕ → Piece
look_f R [] = blank
look_f R (x ∷ xs) = cond (leb 1 R && leb R (suc (length xs))) (piece whole (take R (x ∷ xs)) R) broken

-- "In V, with fewer than 4 bytes left (S: 5), or at a byte 00, the rest must be fill." "if unblocked, at offsets above 0 only fill"
abbrev pub only_fill_v : Bool → ℕ → List ℕ → Bool
only_fill_v blocked o rest = ltb (length rest) 4 || eqb (get_or rest 0 0) 0 || (not blocked && ltb 0 o)

unfoldable pub look_v : ℕ → Bool → ℕ → List ℕ → Piece
look_v R blocked o rest = cond (only_fill_v blocked o rest) (must_fill rest) (sized_v R rest (four rest))

-- the same in S, with 5
abbrev pub only_fill_s : List ℕ → Bool
only_fill_s rest = ltb (length rest) 5 || eqb (get_or rest 0 0) 0

unfoldable pub look_s : List ℕ → Piece
look_s rest = cond (only_fill_s rest) (must_fill rest) (sized_s rest (role_of (get_or rest 0 0)) (four (drop 1 rest)))

abbrev pub look_in : Format → ℕ → Bool → ℕ → List ℕ → Piece
look_in fixed R blocked o rest = look_f R rest
look_in variable R blocked o rest = look_v R blocked o rest
look_in spanned R blocked o rest = look_s rest

-- what stands at offset o, of which `rest` is the content from o on
unfoldable pub look : Params → ℕ → List ℕ → Piece
look p o rest = look_in p.format p.R p.blocked o rest

-- What a reader meets on its way through the file: a piece, with its block, its offset and the offset right behind it; a place where a content rule is
-- broken; a lost block.
pub data Token : Type 0 where
  part : (k : Role) (body : List ℕ) (block offset behind : ℕ) → Token
  bad : (block offset : ℕ) → Token
  lost : (block : ℕ) → Token

-- "After 1 or 2 the rest of the block is fill"
abbrev pub after_part : Role → ℕ → ℕ → List ℕ → List Token → List Token
after_part whole b o rest behind = behind
after_part first b o rest behind = cond (is_fill rest) [] (bad b o ∷ [])
after_part middle b o rest behind = cond (is_fill rest) [] (bad b o ∷ [])
after_part last b o rest behind = behind

-- "A block of fill alone holds nothing."
abbrev pub tokens_at : ℕ → ℕ → List ℕ → (ℕ → List ℕ → List Token) → Piece → List Token
tokens_at b o rest go blank = []
tokens_at b o rest go broken = bad b o ∷ []
tokens_at b o rest go (piece k body size) =
    part k body b o (o + size) ∷ after_part k b (o + size) (drop size rest) (go (o + size) (drop size rest))

-- the pieces of block b from offset o on, where `rest` is its content from o on. The first argument bounds their number: each takes a byte or more
unfoldable pub walk : ℕ → Params → ℕ → ℕ → List ℕ → List Token
walk zero p b o rest = []
walk (suc n) p b o rest = tokens_at b o rest (λ o' rest'. walk n p b o' rest') (look p o rest)

unfoldable pub pieces : Params → ℕ → ℕ → List ℕ → List Token
pieces p b o rest = walk (length rest) p b o rest

-- "any place of a lost block, its end included, meets that block"
unfoldable pub in_block : Params → ℕ → ℕ → Block → List Token
in_block p b o (lost_block sz) = lost b ∷ []
in_block p b o (held c) = pieces p b o (drop o c)

-- the blocks from number b on, each from its start
unfoldable pub in_blocks : Params → ℕ → List Block → List Token
in_blocks p b [] = []
in_blocks p b (x ∷ xs) = in_block p b 0 x ++ in_blocks p (suc b) xs

abbrev pub from_tail : Params → ℕ → ℕ → List Block → List Token
from_tail p b o [] = []
from_tail p b o (x ∷ xs) = in_block p b o x ++ in_blocks p (suc b) xs

-- all that stands from block b, offset o on. "A place at the end of a block's content goes on in the next block"
unfoldable pub ahead : Params → List Block → ℕ → ℕ → List Token
ahead p bs b o = from_tail p b o (drop b bs)
