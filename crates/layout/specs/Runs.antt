-- Kinds of sectors that stand at equal distances, as the sectors of the index cylinder do, and those behind it.
-- Assumes nothing.
use Rattle.std.specs.Prelude.{ℕ, zero, suc, ◌+◌, Bool, cond, ◌||◌, List, get_or, eqb, ltb, Option, Some, None}

-- "Kind k: valid data mark. Kind 16+k: incorrect-data mark. Kind 32+k: check failed": the three of a k
unfoldable pub kind_of : ℕ → ℕ → Bool
kind_of k c = eqb c k || eqb c (16 + k) || eqb c (32 + k)

-- how many of `left` sectors of `size` bytes, the first at `at`, come before the first whose kind is none of the three
unfoldable pub legal_run : List ℕ → ℕ → ℕ → ℕ → ℕ → ℕ
legal_run image size k zero at = 0
legal_run image size k (suc left) at = cond (kind_of k (get_or image at 0)) (suc (legal_run image size k left (at + size))) 0

-- the number of one of n sectors, from 0, or none behind the last
unfoldable pub below : ℕ → ℕ → Option ℕ
below n i = cond (ltb i n) (Some i) None
