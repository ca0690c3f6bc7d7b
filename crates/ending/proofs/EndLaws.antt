-- The data end by the blocks written, and the good record that a cursor stands on.
-- Assumes nothing.
use Prim.Native.Nat.{ℕ, zero, suc, ◌*◌, ◌/◌, ◌<◌, ◌≤◌}
use mathlib.Core.Path.{◌≡◌, ap, ◌∙◌}
use mathlib.Core.List.{List, ◌∷◌}
use lib.ListN.{length, get_or, drop}
use lib.Seq.{drop-cons}
use native.Mathlib.Omega.{arith}
use native.Mathlib.Nat.{le-div_iff_mul-le}
use borrow.Author.Tests.{eq-eqb, ne_eqb, lt-ltb, le-ltb}
use Rattle.standard.specs.Addresses.{first_address, stepped}
use Rattle.standard.specs.Files.{addresses_from}
use Rattle.standard.specs.Writing.{next_data_end}
use Rattle.standard.specs.declared.Geometry.{Geometry}
use Rattle.standard.specs.declared.Address.{Address}
use Rattle.promises.specs.Extents.ExtentWhole.{from_length}
use Rattle.promises.specs.Bounds.Sizes.{good_few}
use Rattle.extents.specs.Cursors.{good_from, standing}
use Rattle.extents.specs.declared.Cursor.{Cursor}

-- the good records of a row are no more than the row has
pub good_most : (g : Geometry) (image : List ℕ) (left : ℕ) (a : Address) → length (good_from g image left a) ≤ left
good_most g image left a = omega (arith, good_few g image (addresses_from g left a), from_length g left a)

-- the records of whole blocks that the good ones make
pub blocks_inside : (n m count : ℕ) → 0 < m → n ≤ count / m → n * m ≤ count
blocks_inside n m count pos h = (le-div_iff_mul-le pos).0 h

block_inside : (n m count : ℕ) → 0 < m → n < count / m → n * m < count
block_inside n m count pos h =
    let d : suc n * m ≤ count = (le-div_iff_mul-le pos).0 h in
    omega arith

-- a cursor that stands before a record stands on it
stands_on : (g : Geometry) (image : List ℕ) (c : Cursor) (a : Address) (more : List Address) → standing g image c ≡ (a ∷ more) → c.at ≡ a
unfolding standing
stands_on g image c a more e = go c.left c.at e
  where
    go : (left : ℕ) (b : Address) → standing g image (record { at = b; left = left }) ≡ (a ∷ more) → b ≡ a
    go zero b e = absurd (omega (arith, ap length e))
    go (suc left) b e = ap (λ (s : List Address). get_or s 0 first_address) e

module _ (g : Geometry) (start end : Address) (m : ℕ) (good : List Address) (n : ℕ) where
  -- "start for 0 blocks"
  pub end_start : n ≡ 0 → start ≡ next_data_end g start end m good n
  unfolding next_data_end
  end_start z = rw (eq-eqb n 0 z)

  -- "the first good record of the next block if a whole one is left"
  pub end_next : (image : List ℕ) (c : Cursor) → (n ≡ 0 → ⊥) → 0 < m → n < length good / m → standing g image c ≡ drop (n * m) good → c.at ≡ next_data_end g start end m good n
  unfolding next_data_end
  end_next image c z pos l s =
      rw (ne_eqb n 0 z, lt-ltb n (length good / m) l)
      (stands_on g image c (get_or good (n * m) first_address) (drop (suc (n * m)) good) (s ∙ drop-cons good (n * m) first_address (block_inside n m (length good) pos l)))

  -- "else the step past the extent's end"
  pub end_past : (n ≡ 0 → ⊥) → length good / m ≤ n → stepped g end ≡ next_data_end g start end m good n
  unfolding next_data_end
  end_past z l = rw (ne_eqb n 0 z, le-ltb n (length good / m) l)
