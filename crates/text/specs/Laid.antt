-- Text put into a lent buffer.
-- Assumes nothing.
use Rattle.std.specs.Prelude.{ℕ, zero, suc, ◌+◌, ◌/◌, ◌≤◌, ◌≡◌, List, [], ◌∷◌, length}
use Rattle.text.specs.declared.Text.{Text}

-- The buffer with the text laid over it from index `at` on, as far as there is room; every other byte stays.
unfoldable pub laid : List ℕ → ℕ → List ℕ → List ℕ
laid [] at text = []
laid (x ∷ out) zero [] = x ∷ out
laid (x ∷ out) zero (c ∷ text) = c ∷ laid out zero text
laid (x ∷ out) (suc at) text = x ∷ laid out at text

-- What text does to a buffer: it stands there from `at` on, and `r` is the index behind it.
pub record Puts (out out' : List ℕ) (at r : ℕ) (text : List ℕ) : Type 0 where
  pub next : r ≡ at + length text
  pub stands : out' ≡ laid out at text

-- What each method here does: the text, of at most so many bytes, is put into the same buffer, behind what was put before.
pub record Writes (before after : Text) (most : ℕ) (text : List ℕ) : Type 0 where
  pub same : after.out.ghost_name ≡ before.out.ghost_name
  pub puts : Puts before.out.now after.out.now before.at after.at text
  pub within : after.at ≤ before.at + most

-- a number without its last digits
unfoldable pub without : ℕ → ℕ → ℕ
without zero n = n
without (suc digits) n = without digits (n / 10)
