-- A search for n free addresses in a row, by the slots' extents: it stands at a start, and goes on behind each extent that has one of the n addresses from there
-- on.
-- Assumes nothing.
use Rattle.std.specs.Prelude.{ℕ, ◌+◌, cond, List, [], ◌∷◌, ltb, leb}
use Rattle.index.specs.declared.Extent.{Extent}

-- one extent
unfoldable pub past_one : ℕ → Extent → ℕ → ℕ
past_one n e start = cond (ltb e.end start) start (cond (leb (start + n) e.start) start (e.end + 1))

-- one pass over them
unfoldable pub past_all : ℕ → List Extent → ℕ → ℕ
past_all n [] start = start
past_all n (e ∷ rest) start = past_all n rest (past_one n e start)
