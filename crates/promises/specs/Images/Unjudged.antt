-- What no rule judges of the first seven sectors of the index cylinder, and what two labels share that have the same bytes everywhere else.
-- Assumes nothing.
use Rattle.std.specs.Prelude.{ℕ, ◌+◌, ◌≤◌, ◌≡◌, List, length, get_or}
use Rattle.std.proofs.Common.{arith}

-- ======== THE POSITIONS
abbrev pub NotIn : ℕ → ℕ → ℕ → Type 0
NotIn p first last = first ≤ p → p ≤ last → ⊥

-- Position p of sector 01 to 07 IS NOT JUDGED: "sectors 01-04 and 06 are not judged beyond kind, 05 is ERMAP, 07 is VOL1". Of ERMAP 1-5, 7-9 and 11-13 are. Of VOL1
-- 1-11, 38-51, 72, 76-78, 81-86 and 89 are, "[87-88] and all other positions are not judged"; and 2026-02: "Position 80 must be `3`; 79 becomes reserved and is
-- not judged."
pub record Unjudged (sector p : ℕ) : Type 0 where
  pub ermap : sector ≡ 5 → NotIn p 1 5 × NotIn p 7 9 × NotIn p 11 13
  pub vol1 : sector ≡ 7 → NotIn p 1 11 × NotIn p 38 51 × NotIn p 72 72 × NotIn p 76 78 × NotIn p 80 86 × NotIn p 89 89

-- "79 becomes reserved and is not judged"
pub reserve_unjudged : Unjudged 7 79
reserve_unjudged =
    record {
      ermap = λ q. absurd (omega (arith, q));
      vol1 = λ q.
          ((λ l m. omega (arith, m)), (λ l m. omega (arith, m)), (λ l m. omega (arith, m)), (λ l m. omega (arith, m)), (λ l m. omega (arith, l)), (λ l m. omega (arith, l)));
    }

-- ======== TWO LABELS that have the same bytes but where a set of positions is loose
pub record SameBut (loose : ℕ → Type 0) (v w : List ℕ) : Type 0 where
  pub same_length : length v ≡ length w
  pub same_at : (i : ℕ) → (loose (i + 1) → ⊥) → get_or v i 0 ≡ get_or w i 0

-- none of a field's positions is loose
abbrev pub Whole : (ℕ → Type 0) → ℕ → ℕ → Type 0
Whole loose first last = (p : ℕ) → loose p → NotIn p first last
