-- The bytes of the good records ahead of a cursor: a block's content is a part of them.
-- Assumes nothing.
use Rattle.std.specs.Prelude.{ℕ, List, [], ◌∷◌, get_or, drop}
use Rattle.standard.specs.Files.{bytes_of}
use Rattle.standard.specs.declared.Geometry.{Geometry}
use Rattle.extents.specs.Cursors.{standing}
use Rattle.extents.specs.declared.Cursor.{Cursor}

-- "blocks take m good records in turn": the bytes of the good records in turn, from byte i of the one under the cursor on
unfoldable pub stream : Geometry → List ℕ → Cursor → ℕ → List ℕ
stream g image c i = drop i (bytes_of g image (standing g image c))

-- the first five bytes, 00 where there are fewer: as many as a control word has at most ("S: `0`-`3`, four digits")
unfoldable pub five_of : List ℕ → List ℕ
five_of s = get_or s 0 0 ∷ get_or s 1 0 ∷ get_or s 2 0 ∷ get_or s 3 0 ∷ get_or s 4 0 ∷ []
