-- Section "Blocks and records", writing: the record bodies laid into blocks. Each block is given by the content that a reader will have of it: B bytes, and
-- B-U in the last. (The writer stores U bytes of fill behind the last.)
-- Assumes nothing.
use Rattle.std.specs.Prelude.{ℕ, zero, suc, ◌+◌, ◌-◌, ◌/◌, Bool, true, false, length, take, drop, replicate, leb}
use mathlib.Core.List.{List, [], ◌∷◌, ◌++◌, map, flatten}
use Rattle.standard.specs.Characters.{byte, padded}
use Rattle.standard.specs.Pieces.{held, Role, whole, first, middle, last}
use Rattle.standard.specs.Records.{File}
use Rattle.standard.specs.Labels.{Format, fixed, variable, spanned, Params}

pub record Packing : Type 0 where
  pub contents : List (List ℕ)
  pub U : ℕ

-- "A block's content is its first B bytes; B-U in the last": U is what the last block lacks of B.
unfoldable pub unused_in : ℕ → List (List ℕ) → ℕ
unused_in B [] = 0
unused_in B (c ∷ []) = B - length c
unused_in B (c ∷ d ∷ cs) = unused_in B (d ∷ cs)

abbrev pub packing_of : ℕ → List (List ℕ) → Packing
packing_of B cs = record { contents = cs; U = unused_in B cs }

-- "Fill is byte 00."
abbrev pub fill : ℕ → List ℕ
fill n = replicate n 0

-- ---- F

-- "F: B/R to a block": the records in groups of n, the last of what is left; the bodies of a group joined are a block. Where every body has R bytes and R
-- divides B (refusal 26, position 54), a group of B/R has B bytes. (The first argument bounds the number of blocks: not more than there are records.)
unfoldable pub lay_f : ℕ → ℕ → List (List ℕ) → List (List ℕ)
lay_f zero n xs = []
lay_f (suc k) n [] = []
lay_f (suc k) n (x ∷ xs) = flatten (take n (x ∷ xs)) ∷ lay_f k n (drop n (x ∷ xs))

-- ---- V

-- "V: four digits, [..] then the body"
unfoldable pub record_v : List ℕ → List ℕ
record_v body = padded 4 (4 + length body) ++ body

-- "V unblocked: one to a block". "Content left [..] filled with 00."
unfoldable pub lay_one : ℕ → List (List ℕ) → List (List ℕ)
lay_one B [] = []
lay_one B (x ∷ xs) = (x ++ fill (B - length x)) ∷ lay_one B xs

-- "blocked: into the current block if it fits, else the next", which begins with it; the current one is filled with 00 to B. `block` is the current block so
-- far. (26 refuses a record longer than R, so that none is longer than a block.)
abbrev pub into_if : Bool → ℕ → List ℕ → List ℕ → (List ℕ → List (List ℕ)) → List (List ℕ)
into_if true B block x go = go (block ++ x)
into_if false B block x go = (block ++ fill (B - length block)) ∷ go x

unfoldable pub lay_v : ℕ → List ℕ → List (List ℕ) → List (List ℕ)
lay_v B block [] = block ∷ []
lay_v B block (x ∷ xs) = into_if (leb (length block + length x) B) B block x (λ block'. lay_v B block' xs)

-- no record, no block; the first record begins block 0
abbrev pub blocks_v : ℕ → List (List ℕ) → List (List ℕ)
blocks_v B [] = []
blocks_v B (x ∷ xs) = lay_v B x xs

-- ---- S: "a segment starts where 6 bytes are left (5 for an empty record), takes what fits, and goes on in the next block." Example 9, "S, B=20, R=0000,
-- bodies 8, 12, 3", step by step:
--
--   block   room left   to be laid            is laid
--   0       20          body 8                it starts, and its 13 bytes fit: `00013` with 8
--   0       7           body 12               it starts, but its 17 bytes do not fit: `10007` with 2, and it goes on in the next block
--   1       20          the other 10 of it    15 bytes fit: `30015` with 10
--   1       5           body 3                it does not start: 5 bytes of fill, and the next block
--   2       20          body 3                it starts, and its 8 bytes fit: `00008` with 3
--   2       12          nothing               U=12

-- What is laid from some point of a block on: the rest of that block, the blocks behind it, and U.
pub record Laid : Type 0 where
  pub here : List ℕ
  pub later : List (List ℕ)
  pub unused : ℕ

-- bytes, and then what follows them in the same block; in the next block
abbrev pub then_here : List ℕ → Laid → Laid
then_here bytes l = record { here = bytes ++ l.here; later = l.later; unused = l.unused }

abbrev pub then_next : List ℕ → Laid → Laid
then_next bytes l = record { here = bytes; later = l.here ∷ l.later; unused = l.unused }

-- "a segment starts where 6 bytes are left (5 for an empty record)": here or, behind fill, in the next block. `room` is what is left of the current block.
abbrev pub least : List ℕ → ℕ
least [] = 5
least (x ∷ xs) = 6

abbrev pub start_if : Bool → ℕ → ℕ → (ℕ → Laid) → Laid
start_if true B room at = at room
start_if false B room at = then_next (fill room) (at B)

-- "S: `0`-`3`, four digits from 5": whether the record is begun already, and whether it ends here
abbrev pub segment_role : Bool → Bool → Role
segment_role false true = whole
segment_role false false = first
segment_role true false = middle
segment_role true true = last

abbrev pub role_byte : Role → ℕ
role_byte whole = byte "0"
role_byte first = byte "1"
role_byte middle = byte "2"
role_byte last = byte "3"

unfoldable pub segment : Role → List ℕ → List ℕ
segment k body = role_byte k ∷ (padded 4 (5 + length body) ++ body)

-- "takes what fits, and goes on in the next block": the body, or what is left of it, and then `go`, the records behind it, with the room that it leaves them.
-- The first argument bounds the number of blocks.
abbrev pub spread_if : Bool → Bool → ℕ → List ℕ → (ℕ → Laid) → (List ℕ → Laid) → Laid
spread_if true begun room body go again = then_here (segment (segment_role begun true) body) (go (room - (5 + length body)))
spread_if false begun room body go again = then_next (segment (segment_role begun false) (take (room - 5) body)) (again (drop (room - 5) body))

unfoldable pub spread : ℕ → ℕ → Bool → ℕ → List ℕ → (ℕ → Laid) → Laid
spread zero B begun room body go = go room
spread (suc n) B begun room body go = spread_if (leb (5 + length body) room) begun room body go (λ rest. spread n B true B rest go)

unfoldable pub lay_s : ℕ → ℕ → List (List ℕ) → Laid
lay_s B room [] = record { here = []; later = []; unused = room }
lay_s B room (x ∷ xs) = start_if (leb (least x) room) B room (λ room'. spread (suc (length x)) B false room' x (λ room''. lay_s B room'' xs))

-- no record, no block; the first record begins block 0
abbrev pub packing_laid : Laid → Packing
packing_laid l = record { contents = l.here ∷ l.later; U = l.unused }

abbrev pub pack_s : ℕ → List (List ℕ) → Packing
pack_s B [] = record { contents = []; U = 0 }
pack_s B (x ∷ xs) = packing_laid (lay_s B B (x ∷ xs))

-- ---- BY THE FORMAT. "Unblocked files get U = 0." (F unblocked has R = B, so each block is full.)
abbrev pub pack_in : Format → ℕ → Bool → ℕ → List (List ℕ) → Packing
pack_in fixed R blocked B xs = packing_of B (lay_f (length xs) (B / R) xs)
pack_in variable R true B xs = packing_of B (blocks_v B (map record_v xs))
pack_in variable R false B xs = record { contents = lay_one B (map record_v xs); U = 0 }
pack_in spanned R blocked B xs = pack_s B xs

unfoldable pub pack : Params → ℕ → List (List ℕ) → Packing
pack p B xs = pack_in p.format p.R p.blocked B xs

unfoldable pub file_of : Params → List (List ℕ) → File
file_of p cs = record { params = p; blocks = map held cs }
