-- Fill in runs: of the image, byte by byte, and of what is ahead of a cursor, record by record.
-- Assumes nothing.
use Prim.Native.Nat.{ℕ, ◌+◌, ◌-◌, ◌<◌, ◌≤◌}
use mathlib.Core.Path.{◌≡◌, refl, sym, ap, ◌∙◌}
use mathlib.Core.Bool.{Bool, true, false, ◌&&◌}
use mathlib.Core.List.{List, [], ◌∷◌, ◌++◌}
use lib.ListN.{take, drop, length}
use lib.Seq.{take-add, take-nil}
use lib.Dec.{eqb}
use native.Mathlib.Omega.{arith}
use Rattle.std.specs.List.{list_all}
use Rattle.standard.specs.Layout.{body_offset, image_length}
use Rattle.standard.specs.Addresses.{ordinal}
use Rattle.standard.specs.Pieces.{is_fill}
use Rattle.standard.specs.declared.Geometry.{Geometry}
use Rattle.extents.specs.Cursors.{legal_at}
use Rattle.extents.specs.declared.Cursor.{Cursor}
use Rattle.blocks.specs.Streams.{stream}
use Rattle.blocks.proofs.StreamLaws.{run_is}

fill_append : (xs ys : List ℕ) → is_fill (xs ++ ys) ≡ (is_fill xs && is_fill ys)
fill_append [] ys = refl
fill_append (x ∷ xs) ys = go (eqb x 0) (is_fill (xs ++ ys)) (is_fill xs) (is_fill ys) (fill_append xs ys)
  where
    go : (t a b c : Bool) → a ≡ (b && c) → (t && a) ≡ ((t && b) && c)
    go true a b c e = e
    go false a b c e = refl

-- a run, then the rest
pub fill_split : (k n : ℕ) (s : List ℕ) → k ≤ n → is_fill (take n s) ≡ (is_fill (take k s) && is_fill (take (n - k) (drop k s)))
fill_split k n s l =
    let e : n ≡ k + (n - k) = omega arith in
    ap (λ (m : ℕ). is_fill (take m s)) e ∙ (ap is_fill (take-add k (n - k) s) ∙ fill_append (take k s) (take (n - k) (drop k s)))

pub fill_on : (k n : ℕ) (s : List ℕ) → k ≤ n → is_fill (take k s) ≡ true → is_fill (take (n - k) (drop k s)) ≡ is_fill (take n s)
fill_on k n s l h = sym (fill_split k n s l ∙ ap (λ (t : Bool). t && is_fill (take (n - k) (drop k s))) h)

pub fill_not : (k n : ℕ) (s : List ℕ) → k ≤ n → is_fill (take k s) ≡ false → is_fill (take n s) ≡ false
fill_not k n s l h = fill_split k n s l ∙ ap (λ (t : Bool). t && is_fill (take (n - k) (drop k s))) h

-- what `all` says of a run's bytes
pub all_zero : (s : List ℕ) → list_all (λ b. eqb b 0) s ≡ is_fill s
all_zero [] = refl
all_zero (x ∷ s) = ap (λ (t : Bool). eqb x 0 && t) (all_zero s)

pub none_there : (n : ℕ) → is_fill (take n []) ≡ true
none_there n = ap is_fill (take-nil n)

-- a run of the image found to be fill or not, as the code has it
pub run_fill : (g : Geometry) (image : List ℕ) (c : Cursor) (i k o : ℕ) → length image ≡ image_length g → 0 < c.left → legal_at g c ≡ true → i + k ≤ g.P
    → o ≡ body_offset g (ordinal g c.at) + i → is_fill (take k (drop o image)) ≡ is_fill (take k (stream g image c i))
run_fill g image c i k o e p h l q =
    ap (λ (m : ℕ). is_fill (take k (drop m image))) q ∙ sym (ap is_fill (run_is g image c i k e p h l))
