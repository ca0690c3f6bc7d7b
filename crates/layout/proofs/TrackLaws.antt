-- Records by their addresses: the kind and the first byte where they stand, and the record behind one.
-- Assumes nothing.
use Prim.Native.Nat.{ℕ, suc, ◌+◌, ◌*◌, ◌<◌, ◌≤◌}
use mathlib.Core.Path.{◌≡◌, sym, ap, ◌∙◌}
use mathlib.Core.Bool.{true}
use mathlib.Core.List.{List}
use lib.ListN.{get_or}
use lib.Dec.{eqb}
use native.Mathlib.Omega.{arith}
use native.Mathlib.Nat.{mul-le-mul_left, mul-le-mul_right}
use borrow.Author.Tests.{lt-ltb, le-ltb}
use Rattle.standard.specs.Layout.{index_sectors, k_at, kind_offset, body_offset, image_length, kind_at, first_byte, incorrect_mark, check_failed}
use Rattle.standard.specs.Addresses.{legal, ordinal, stepped}
use Rattle.standard.specs.declared.Geometry.{Geometry}
use Rattle.standard.specs.declared.Address.{Address}
use Rattle.promises.specs.Images.AddressLaws.{Parts, parts, from_parts, address, ordinal_is, ordinal_ge, Step, sector_on, side_on, cylinder_on, step_is}
use Rattle.promises.specs.Images.Tiling.{size_data, next_sector, address_room}

-- the parts of a legal address are small
pub legal_small : (g : Geometry) (a : Address) → g.L < 256 → g.S < 256 → g.D < 256 → legal g a ≡ true
    → (1 ≤ a.cylinder) × (a.cylinder < 3000) × (a.side < 256) × (1 ≤ a.sector) × (a.sector < 3000)
legal_small g a l s d h =
    let p = parts g a h in
    (p.cylinder_low, omega (arith, p.cylinder_high), omega (arith, p.side_low), p.sector_low, omega (arith, p.sector_high))

-- "all others the k of VOL1 position 76"
pub data_k : (g : Geometry) (a : Address) → legal g a ≡ true → k_at g (ordinal g a) ≡ g.k
unfolding k_at
data_k g a h = simp (le-ltb (ordinal g a) (index_sectors g) (ordinal_ge g a h))

module _ (g : Geometry) (image : List ℕ) (a : Address) (h : legal g a ≡ true) (at : ℕ) (e : at ≡ kind_offset g (ordinal g a)) where
  kind_here : get_or image at 0 ≡ kind_at g image (ordinal g a)
  unfolding kind_at
  kind_here = ap (λ (m : ℕ). get_or image m 0) e

  mark_here : (n : ℕ) → eqb (get_or image at 0) (n + g.k) ≡ eqb (kind_at g image (ordinal g a)) (n + k_at g (ordinal g a))
  mark_here n = ap (λ (m : ℕ). eqb m (n + g.k)) kind_here ∙ ap (λ (m : ℕ). eqb (kind_at g image (ordinal g a)) (n + m)) (sym (data_k g a h))

  pub incorrect_is : eqb (get_or image at 0) (16 + g.k) ≡ incorrect_mark g image (ordinal g a)
  unfolding incorrect_mark
  incorrect_is = mark_here 16

  pub failed_is : eqb (get_or image at 0) (32 + g.k) ≡ check_failed g image (ordinal g a)
  unfolding check_failed
  failed_is = mark_here 32

  pub first_is : get_or image (at + 1) 0 ≡ first_byte g image (ordinal g a)
  unfolding first_byte body_offset
  first_is = ap (λ (m : ℕ). get_or image (m + 1) 0) e

-- no offset is large
module _ (g : Geometry) (l : g.L < 256) (i : g.I < 256) (d : g.D < 256) (s : g.S < 256) (p : g.P < 65536) where
  length_low : image_length g < 4398046511104
  unfolding image_length
  length_low =
      let sides : g.S ≤ 255 = omega arith in
      let sectors : g.D ≤ 255 = omega arith in
      let size : g.P + 1 ≤ 65536 = omega arith in
      omega (arith, mul-le-mul_right g.I sides, mul-le-mul_left (g.L + 3) sides, mul-le-mul_left ((g.L + 3) * g.S) sectors, mul-le-mul_left ((g.L + 3) * g.S * g.D) size)

  pub offset_low : (a : Address) → legal g a ≡ true → kind_offset g (ordinal g a) < 4398046511104
  unfolding body_offset
  offset_low a h = omega (arith, address_room g a h, length_low)

-- the record behind one on its track stands behind its body
step_on : (g : Geometry) (a : Address) → a.sector < g.D → stepped g a ≡ address a.cylinder a.side (a.sector + 1)
unfolding stepped
step_on g a l = simp (lt-ltb a.sector g.D l)

pub track_next : (g : Geometry) (a next : Address) → legal g a ≡ true → next ≡ stepped g a → a.sector < g.D → body_offset g (ordinal g a) + g.P ≡ kind_offset g (ordinal g next)
unfolding body_offset
track_next g a next la e l =
    let p = parts g a la in
    let b : Address = address a.cylinder a.side (a.sector + 1) in
    let q : Parts g b =
    record { cylinder_low = p.cylinder_low; cylinder_high = p.cylinder_high; side_low = p.side_low; sector_low = omega arith; sector_high = omega (arith, l) } in
    let o : ordinal g next ≡ suc (ordinal g a) =
    ap (ordinal g) (e ∙ step_on g a l) ∙ ordinal_is g b (from_parts g b q) ∙ omega (arith, ordinal_is g a la, p.sector_low) in
    omega (arith, ap (kind_offset g) o, next_sector g (ordinal g a), size_data g (ordinal g a) (ordinal_ge g a la))

-- and so are those of the address behind it
step_low : (g : Geometry) (a b : Address) → Step g a b → Parts g a → g.L < 256 → g.S < 256 → g.D < 256
    → (1 ≤ b.cylinder) × (b.cylinder < 3000) × (b.side < 256) × (1 ≤ b.sector) × (b.sector < 3000)
step_low g a b (sector_on m) p l s d = (p.cylinder_low, omega (arith, p.cylinder_high), omega (arith, p.side_low), omega arith, omega (arith, m))
step_low g a b (side_on m n) p l s d = (p.cylinder_low, omega (arith, p.cylinder_high), omega (arith, n), omega arith, omega arith)
step_low g a b (cylinder_on m n) p l s d = (omega arith, omega (arith, p.cylinder_high), omega arith, omega arith, omega arith)

pub step_small : (g : Geometry) (a next : Address) → legal g a ≡ true → next ≡ stepped g a → g.L < 256 → g.S < 256 → g.D < 256
    → (1 ≤ next.cylinder) × (next.cylinder < 3000) × (next.side < 256) × (1 ≤ next.sector) × (next.sector < 3000)
step_small g a next h e l s d = rw e (step_low g a (stepped g a) (step_is g a h) (parts g a h) l s d)
