-- A part of a lent slice: where it begins.
-- Assumes nothing.
use Rattle.std.specs.Prelude.{ℕ, ◌+◌, List}
use Rattle.std.specs.Borrow.{Bor}

-- where the byte at an offset of a lent slice stands: in the slice's own block of memory, that many bytes behind the slice's first
abbrev pub stands_at : Bor (List ℕ) → ℕ → ℕ × ℕ
stands_at lent at = (lent.ref_ptr.0, lent.ref_ptr.1 + at)
