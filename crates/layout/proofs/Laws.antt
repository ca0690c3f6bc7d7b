-- Where things lie: each way out of a definition of the layout, and the room that an accepted volume has.
-- Assumes nothing.
use Prim.Native.Nat.{ℕ, ◌+◌, ◌-◌, ◌*◌, ◌<◌, ◌≤◌}
use mathlib.Core.Path.{◌≡◌, refl, ap, ◌∙◌}
use mathlib.Core.Bool.{true, false, ◌&&◌}
use mathlib.Core.List.{List}
use lib.ListN.{get_or, take, drop}
use lib.Dec.{leb, ltb, eqb}
use native.Mathlib.Omega.{arith}
use denote.Ref.{Bor}
use borrow.Author.Tests.{lt-ltb, le-ltb, eq-eqb, ne_eqb}
use Rattle.standard.specs.Layout.{ordinal_at, index_sectors, k_at, kind_offset, body_offset, kind_at, first_byte, slot_count, slot_ordinal, label_offset, label_at}
use Rattle.standard.specs.Defects.{skip_one, physical}
use Rattle.standard.specs.Addresses.{ordinal}
use Rattle.standard.specs.declared.Geometry.{Geometry}
use Rattle.standard.specs.declared.Address.{Address}
use Rattle.layout.specs.Parts.{stands_at}

-- a sector: in the index cylinder, and behind it
module _ (g : Geometry) (n r : ℕ) where
  pub offset_first : n < index_sectors g → r ≡ n * 129 → r ≡ kind_offset g n
  unfolding kind_offset
  offset_first h e = simp (lt-ltb n (index_sectors g) h) e

  pub offset_later : index_sectors g ≤ n → r ≡ index_sectors g * 129 + (n - index_sectors g) * (g.P + 1) → r ≡ kind_offset g n
  unfolding kind_offset
  offset_later h e = simp (le-ltb n (index_sectors g) h) e

  pub k_first : n < index_sectors g → r ≡ 0 → r ≡ k_at g n
  unfolding k_at
  k_first h e = simp (lt-ltb n (index_sectors g) h) e

  pub k_later : index_sectors g ≤ n → r ≡ g.k → r ≡ k_at g n
  unfolding k_at
  k_later h e = simp (le-ltb n (index_sectors g) h) e

-- slots
pub two_sides : (g : Geometry) (r : ℕ) → g.S ≡ 2 → r ≡ g.I - 7 + g.I → r ≡ slot_count g
unfolding slot_count
two_sides g r h e = simp (eq-eqb g.S 2 h) e

pub one_side : (g : Geometry) (r : ℕ) → (g.S ≡ 2 → ⊥) → r ≡ g.I - 7 → r ≡ slot_count g
unfolding slot_count
one_side g r h e = simp (ne_eqb g.S 2 h) (omega (arith, e))

module _ (g : Geometry) (slot : ℕ) (h : slot + 6 < index_sectors g) where
  pub label_begins : (slot + 6) * 129 + 1 ≡ label_offset g slot
  unfolding label_offset body_offset slot_ordinal
  label_begins = ap (λ (m : ℕ). m + 1) (offset_first g (slot + 6) ((slot + 6) * 129) h refl)

  pub slot_begins : (slot + 6) * 129 ≡ kind_offset g (slot_ordinal slot)
  unfolding slot_ordinal
  slot_begins = offset_first g (slot + 6) ((slot + 6) * 129) h refl

  pub slot_marked : (mark : ℕ) → mark ≡ mark + k_at g (slot_ordinal slot)
  unfolding slot_ordinal
  slot_marked mark = omega (arith, k_first g (slot + 6) 0 h refl)

pub slot_kind_is : (g : Geometry) (slot : ℕ) (image : List ℕ) (r a : ℕ) → r ≡ get_or image a 0 → a ≡ kind_offset g (slot_ordinal slot) → r ≡ kind_at g image (slot_ordinal slot)
unfolding kind_at
slot_kind_is g slot image r a e f = e ∙ ap (λ (m : ℕ). get_or image m 0) f

pub slot_first_is : (g : Geometry) (slot : ℕ) (image : List ℕ) (r a : ℕ) → r ≡ get_or image a 0 → a ≡ label_offset g slot → r ≡ first_byte g image (slot_ordinal slot)
unfolding first_byte label_offset
slot_first_is g slot image r a e f = e ∙ ap (λ (m : ℕ). get_or image m 0) f

-- the part of the image that holds a label, or the body of a sector of index side 0
pub part_of : (s : List ℕ) (a : ℕ) → take (a + 128 - a) (drop a s) ≡ take 128 (drop a s)
part_of s a = let n : a + 128 - a ≡ 128 = omega arith in ap (λ (m : ℕ). take m (drop a s)) n

pub part_begins : (s : Bor (List ℕ)) (a : ℕ) → ◌≡◌ {A = ℕ × ℕ} (s.ref_ptr.0, a + s.ref_ptr.1) (stands_at s a)
part_begins s a = let n : a + s.ref_ptr.1 ≡ s.ref_ptr.1 + a = omega arith in ap (λ (m : ℕ). (s.ref_ptr.0, m)) n

pub label_part : (g : Geometry) (s : List ℕ) (slot a : ℕ) → a ≡ label_offset g slot → take 128 (drop a s) ≡ label_at g s slot
unfolding label_at
label_part g s slot a e = ap (λ (m : ℕ). take 128 (drop m s)) e

-- one comparison: "[n]+1 if [d] is present and [d] ≤ [n]", else n; and the two, one behind the other
pub skip_taken : (d n : ℕ) → (ltb 0 d && leb d n) ≡ true → n + 1 ≡ skip_one d n
unfolding skip_one
skip_taken d n e = simp e

pub skip_left : (d n : ℕ) → (ltb 0 d && leb d n) ≡ false → n ≡ skip_one d n
unfolding skip_one
skip_left d n e = simp e

pub skips_two : (g : Geometry) (c d1 q d2 r : ℕ) → d1 ≡ g.d1 → q ≡ skip_one d1 c → d2 ≡ g.d2 → r ≡ skip_one d2 q → r ≡ physical g c
unfolding physical
skips_two g c d1 q d2 r e1 eq e2 er = er ∙ cc

pub first_physical : (c q : ℕ) → 1 ≤ c → c ≤ q → 1 ≤ q
first_physical c q h k = omega arith

pub track_sectors : (g : Geometry) (q s m w d t : ℕ) → m ≡ (q - 1) * w → w ≡ g.S → t ≡ (m + s) * d → d ≡ g.D → t ≡ ((q - 1) * g.S + s) * g.D
track_sectors g q s m w d t hm hw ht hd = cc

pub ordinal_small : (f q c m s t n : ℕ) → f < 65536 → q ≤ c + 2 → c < 3000 → m ≤ (q - 1) * 255 → s < 256 → t ≤ (m + s) * 255 → n < 3000 → f + t + (n - 1) < 4294967296
ordinal_small f q c m s t n hf hq hc hm hs ht hn = omega arith

pub ordinal_from : (g : Geometry) (a : Address) (f t q : ℕ) → f ≡ index_sectors g → q ≡ physical g a.cylinder → 1 ≤ q
    → t ≡ ((q - 1) * g.S + a.side) * g.D → f + t + (a.sector - 1) ≡ ordinal g a
unfolding ordinal ordinal_at
ordinal_from g a f t q e p h u =
    rw (u, e, p) (simp (ne_eqb (physical g a.cylinder) 0 (λ (z : physical g a.cylinder ≡ 0). omega arith)))

-- a kind byte against a mark
pub marked : (a b x y : ℕ) → a ≡ x → b ≡ y → eqb a b ≡ eqb x y
marked a b x y h k = rw (h, k)
