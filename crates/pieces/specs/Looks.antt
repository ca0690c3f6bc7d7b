-- What stands at an offset of a block, in numbers: `look_in` without the body.
-- Assumes nothing.
use Rattle.std.specs.Prelude.{ℕ, cond, ◌&&◌, leb, eqb}
use Rattle.std.proofs.Math.Option.{Option as MathOption, none, some}
use Rattle.standard.specs.Pieces.{Piece, blank, broken, piece, number4, role_of}
use Rattle.std.specs.Prelude.{Option, Some, None}
use Rattle.labels.specs.declared.Form.{Form}
use Rattle.labels.specs.declared.Form.TheVariants.{Fixed, Variable, Spanned}
use Rattle.blocks.specs.Roles.{role_in, perhaps_role}
use Rattle.blocks.specs.declared.Role.{Role}
use Rattle.blocks.specs.declared.Role.TheVariants.{Whole}
use Rattle.pieces.specs.declared.Seen.{Seen}
use Rattle.pieces.specs.declared.Seen.TheVariants.{Blank, Broken, Part}

-- the bytes of a control word: "V: four digits", "S: `0`-`3`, four digits"; F has none
abbrev pub head_of : Form → ℕ
head_of Fixed = 0
head_of Variable = 4
head_of Spanned = 5

-- A piece as the code has it: its role and its size, control word counted.
abbrev pub seen_of : Piece → Seen
seen_of blank = Blank
seen_of broken = Broken
seen_of (piece k body size) = Part (role_in k) size

-- "four digits", and their number, where they are digits
abbrev pub perhaps_in : MathOption ℕ → Option ℕ
perhaps_in none = None
perhaps_in (some n) = Some n

unfoldable pub four_read : ℕ → ℕ → ℕ → ℕ → Option ℕ
four_read a b c d = perhaps_in (number4 a b c d)

-- F: a record of R bytes where n are left
unfoldable pub part_f : ℕ → ℕ → Seen
part_f R n = cond (eqb n 0) Blank (cond (leb 1 R && leb R n) (Part Whole R) Broken)

-- a record or segment by its role and the number of its control word: from a least to a most, "inside the content" of n bytes
unfoldable pub part_of : ℕ → ℕ → ℕ → Role → Option ℕ → Seen
part_of low high n k None = Broken
part_of low high n k (Some z) = cond (leb low z && leb z high && leb z n) (Part k z) Broken

-- "V: four digits, from 4 to R, then the body, inside the content"
abbrev pub part_v : ℕ → ℕ → Option ℕ → Seen
part_v R n size = part_of 4 R n Whole size

-- "S: `0`-`3`, four digits from 5, inside the content", where the segment's first byte is c
abbrev pub part_read : ℕ → Option Role → Option ℕ → Seen
part_read n None size = Broken
part_read n (Some k) size = part_of 5 n n k size

abbrev pub part_s : ℕ → ℕ → Option ℕ → Seen
part_s n c size = part_read n (perhaps_role (role_of c)) size
