-- What is laid inside one record leaves the good records behind it as they are.
-- Assumes nothing.
use Prim.Native.Nat.{ℕ, zero, suc, ◌+◌, ◌≤◌}
use mathlib.Core.Path.{◌≡◌, refl, sym, ap}
use mathlib.Core.Bool.{true}
use mathlib.Core.Logic.{inl, inr}
use mathlib.Core.List.{List, ◌∷◌}
use lib.ListN.{length, drop}
use native.Mathlib.Omega.{arith}
use Rattle.standard.specs.Layout.{kind_offset, body_offset}
use Rattle.standard.specs.Addresses.{legal, rank, ordinal, stepped}
use Rattle.standard.specs.Files.{addresses_from}
use Rattle.standard.specs.Writing.{splice}
use Rattle.standard.specs.declared.Geometry.{Geometry}
use Rattle.standard.specs.declared.Address.{Address}
use Rattle.promises.specs.Ground.Basics.{and_l, and_r}
use Rattle.promises.specs.Ground.Lists.{Every, every_map}
use Rattle.promises.specs.Ground.Splices.{Outside, splice_length, splice_outside}
use Rattle.promises.specs.Images.AddressLaws.{step_rank}
use Rattle.promises.specs.Images.Tiling.{sector_outside, address_size, address_room, addresses_apart}
use Rattle.promises.specs.Images.SectorLaws.{sector_from_bytes}
use Rattle.promises.proofs.Extents.ExtentReads.{SameSector, SameDefect, same_defect, same_good}
use Rattle.extents.specs.Cursors.{legal_on, legal_at, standing_from, standing}
use Rattle.extents.specs.declared.Cursor.{Cursor}
use Rattle.extents.proofs.CursorLaws.{first_legal}
use Rattle.layout.specs.Room.{Sized}

-- legal addresses one behind the other do not fall
rises : (g : Geometry) (lo left : ℕ) (a : Address) → legal_on g left a ≡ true → lo ≤ rank g a
    → Every (λ b. (legal g b ≡ true) × (lo ≤ rank g b)) (addresses_from g left a)
unfolding legal_on addresses_from
rises g lo zero a h l = tt
rises g lo (suc left) a h l =
    let la = and_l (legal g a) _ h in
    ((la, l), rises g lo left (stepped g a) (and_r (legal g a) _ h) (omega (arith, step_rank g a la)))

-- bytes inside one sector: no other sector has them
within : (i o n k size : ℕ) → k ≤ o → o + n ≤ k + (size + 1) → Outside i k (size + 1) → Outside i o n
within i o n k size lo hi (inl h) = inl (omega arith)
within i o n k size lo hi (inr h) = inr (omega arith)

module _ (g : Geometry) (s : List ℕ) (sized : Sized g s) (a : Address) (la : legal g a ≡ true) (o : ℕ) (x : List ℕ)
    (lo : kind_offset g (ordinal g a) ≤ o) (hi : o + length x ≤ kind_offset g (ordinal g a) + (g.P + 1)) where
  pub record_room : o + length x ≤ length s
  unfolding body_offset
  record_room = omega (arith, address_room g a la, sized.0)

  other_sector : (b : Address) → (legal g b ≡ true) × (suc (rank g a) ≤ rank g b) → SameSector g s (splice o x s) b
  other_sector b h =
      let n = ordinal g a in
      let ne : ordinal g b ≡ n → ⊥ = λ e. addresses_apart g a la b h.0 (omega (arith, h.1)) (sym e) in
      sector_from_bytes g s (splice o x s) (ordinal g b) (sym (splice_length o x s record_room))
      (λ i l m. sym (splice_outside o x s record_room i (within i o (length x) (kind_offset g n) g.P lo hi (rw (address_size g a la) at (sector_outside g (ordinal g b) n i ne l m)))))

  behind_same : (left : ℕ) → legal_on g (suc left) a ≡ true → standing_from g (splice o x s) (suc left) a ≡ standing_from g s (suc left) a
  unfolding legal_on
  behind_same left h =
      let xs = addresses_from g left (stepped g a) in
      let r = rises g (suc (rank g a)) left (stepped g a) (and_r (legal g a) _ h) (omega (arith, step_rank g a la)) in
      ap (λ (t : List Address). a ∷ t)
      (sym (same_good g s (splice o x s) xs
      (every_map (λ b. (legal g b ≡ true) × (suc (rank g a) ≤ rank g b)) (SameDefect g s (splice o x s)) (λ b k. same_defect g s (splice o x s) (omega (arith, sized.1)) b (other_sector b k)) xs r)))

-- THE GOOD RECORDS FROM A CURSOR ON, when bytes are laid inside the record under it
stands_from : (g : Geometry) (s : List ℕ) (left : ℕ) (a : Address) (o : ℕ) (x : List ℕ) → Sized g s → legal_on g left a ≡ true → 1 ≤ left
    → kind_offset g (ordinal g a) ≤ o → o + length x ≤ kind_offset g (ordinal g a) + (g.P + 1) → standing_from g (splice o x s) left a ≡ standing_from g s left a
stands_from g s zero a o x z h l lo hi = absurd (omega arith)
stands_from g s (suc left) a o x z h l lo hi = behind_same g s z a (first_legal g left a h).0 o x lo hi left h

pub stands_same : (g : Geometry) (s : List ℕ) (c : Cursor) (o : ℕ) (x : List ℕ) → Sized g s → legal_at g c ≡ true → 1 ≤ c.left
    → kind_offset g (ordinal g c.at) ≤ o → o + length x ≤ kind_offset g (ordinal g c.at) + (g.P + 1) → standing g (splice o x s) c ≡ standing g s c
unfolding standing
stands_same g s c o x z h l lo hi = stands_from g s c.left c.at o x z h l lo hi

-- the first of them is the address under the cursor
from_first : (g : Geometry) (s : List ℕ) (left : ℕ) (a : Address) → 1 ≤ left → standing_from g s left a ≡ (a ∷ drop 1 (standing_from g s left a))
from_first g s zero a l = absurd (omega arith)
from_first g s (suc left) a l = refl

pub stands_first : (g : Geometry) (s : List ℕ) (c : Cursor) → 1 ≤ c.left → standing g s c ≡ (c.at ∷ drop 1 (standing g s c))
unfolding standing
stands_first g s c l = from_first g s c.left c.at l
