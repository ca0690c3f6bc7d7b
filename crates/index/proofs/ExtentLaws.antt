-- Refusal 11 on a row of extents: a slot with no label has an extent that meets none.
-- Assumes nothing.
use Rattle.std.proofs.Common.{◌≡◌, ℕ, zero, suc, ◌+◌, ◌-◌, ◌<◌, ◌≤◌, Bool, true, false, cond, ◌&&◌, ◌||◌, leb, List, length, get_or, set, sym, refl, ap, ◌∙◌, subst, eq-or-lt_of_le, add-one, arith, get_or-set_other, get_or-set_same}
use mathlib.Core.Bool.{and-false}
use borrow.Author.Tests.{lt-leb}
use Rattle.standard.specs.Layout.{slot_count, label_at}
use Rattle.standard.specs.Addresses.{rank}
use Rattle.standard.specs.Labels.{start_of, end_of}
use Rattle.standard.specs.Slots.{is_label}
use Rattle.standard.specs.Judgement.{overlap, shares, clashes_below}
use Rattle.standard.specs.declared.Geometry.{Geometry}
use Rattle.promises.specs.Ground.Basics.{either}
use Rattle.promises.specs.Images.AddressLaws.{rank_lt}
use Rattle.promises.specs.Volumes.AcceptedLaws.{fault_none}
use Rattle.promises.specs.Volumes.Judging.{label_right}
use Rattle.index.specs.Whole.{Slotted}
use Rattle.index.specs.declared.Extent.{Extent}
use Rattle.index.specs.Extents.{start_in, end_in, extent_in, no_extent, Known, touches}
use Rattle.std.specs.List.{list_any}
use lib.ListN.{take}
use Rattle.std.proofs.lemmas.List.{take_all, length-set}
use mathlib.Core.List.{[], ◌∷◌}
use Rattle.index.proofs.SlotLaws.{slot_passed}
use Rattle.index.proofs.ClashLaws.{below_none}

-- what the code reads of a slot
module _ (g : Geometry) (image : List ℕ) (slot : ℕ) where
  pub extent_none : is_label g image slot ≡ false → record { start = 4294967295; end = 0 } ≡ extent_in g image slot
  unfolding start_in end_in
  extent_none l = simp l

  pub extent_label : (a b : ℕ) → is_label g image slot ≡ true → a ≡ rank g (start_of (label_at g image slot)) → b ≡ rank g (end_of (label_at g image slot))
      → record { start = a; end = b } ≡ extent_in g image slot
  unfolding start_in end_in
  extent_label a b l e f = simp l (cc)

-- the last of a part of a row is asked as well
or_swap : (a b c : Bool) → (a || (b || c)) ≡ (b || (a || c))
or_swap true true c = refl
or_swap true false c = refl
or_swap false b c = refl

any_last : {A : Type 0} (p : A → Bool) (row : List A) (n : ℕ) (d : A) → n < length row → list_any p (take (suc n) row) ≡ (p (get_or row n d) || list_any p (take n row))
any_last p [] n d l = absurd (omega arith)
any_last p (x ∷ row) zero d l = refl
any_last p (x ∷ row) (suc n) d l = ap (λ (b : Bool). p x || b) (any_last p row n d (omega arith)) ∙ or_swap (p x) (p (get_or row n d)) (list_any p (take n row))

-- two slots, with or without a label
tests_agree : (t u : Bool) (a b c d : ℕ) → (t ≡ true → b < 65536) → (u ≡ true → d < 65536)
    → (leb (cond t a 4294967295) (cond u d 0) && leb (cond u c 4294967295) (cond t b 0)) ≡ (t && u && (leb a d && leb c b))
tests_agree true true a b c d hb hd = refl
tests_agree true false a b c d hb hd = rw (lt-leb 4294967295 b (omega (arith, hb refl))) (and-false (leb a 0))
tests_agree false true a b c d hb hd = rw (lt-leb 4294967295 d (omega (arith, hd refl)))
tests_agree false false a b c d hb hd = refl

module _ (g : Geometry) (image : List ℕ) (s : Slotted g image) where
  end_small : (slot : ℕ) → 1 ≤ slot → slot ≤ slot_count g → is_label g image slot ≡ true → rank g (end_of (label_at g image slot)) < 65536
  end_small slot l m t =
      let r = fault_none g (label_at g image slot) (label_right g image slot (slot_passed g image slot s l m) t) in
      omega (arith, rank_lt g (end_of (label_at g image slot)) r.end_legal, s.whole.addresses)

  shares_is : (slot lower : ℕ) → 1 ≤ slot → slot ≤ slot_count g → 1 ≤ lower → lower ≤ slot_count g
      → (leb (start_in g image slot) (end_in g image lower) && leb (start_in g image lower) (end_in g image slot)) ≡ shares g image slot lower
  unfolding start_in end_in shares overlap
  shares_is slot lower l m k n =
      tests_agree (is_label g image slot) (is_label g image lower)
      (rank g (start_of (label_at g image slot))) (rank g (end_of (label_at g image slot)))
      (rank g (start_of (label_at g image lower))) (rank g (end_of (label_at g image lower)))
      (end_small slot l m) (end_small lower k n)

  -- the row holds what the definition asks of the slots below
  pub meets_is : (row : List Extent) (slot n : ℕ) → n < slot → slot ≤ slot_count g → Known g image row n
      → list_any (touches (extent_in g image slot)) (take n row) ≡ clashes_below (shares g image) slot n
  unfolding clashes_below
  meets_is row slot zero l m k = refl
  meets_is row slot (suc n) l m k =
      let e = k.extents_are n (omega arith) ∙ ap (extent_in g image) (add-one n) in
      let rest = meets_is row slot n (omega arith) m (record { long = omega (arith, k.long); extents_are = λ j q. k.extents_are j (omega arith) }) in
      any_last (touches (extent_in g image slot)) row n no_extent (omega (arith, k.long))
      ∙ rw (e, rest) (ap (λ (b : Bool). b || clashes_below (shares g image) slot n) (shares_is slot (suc n) (omega arith) m (omega arith) (omega arith)))

  pub shares_by : (row : List Extent) (slot : ℕ) (x : Extent) (r : Bool) → 1 ≤ slot → slot ≤ slot_count g → Known g image row (slot - 1) → length row ≡ slot - 1
      → x ≡ extent_in g image slot → r ≡ list_any (touches x) row → r ≡ clashes_below (shares g image) slot (slot - 1)
  shares_by row slot x r l m k w e h =
      let all = sym (take_all (slot - 1) row (omega (arith, w))) in
      h
      ∙ ap (λ (y : Extent). list_any (touches y) row) e
      ∙ ap (list_any (touches (extent_in g image slot))) all
      ∙ meets_is row slot (slot - 1) (omega arith) m k

pub no_label_shares : (g : Geometry) (image : List ℕ) (slot n : ℕ) → is_label g image slot ≡ false → clashes_below (shares g image) slot n ≡ false
unfolding shares
no_label_shares g image slot n l = below_none (shares g image) slot (λ lower. rw l) n

-- a row with one more entry
pub row_more : {A : Type 0} (f : ℕ → A) (row : List A) (i : ℕ) (v d : A) → i < length row → ((j : ℕ) → j < i → get_or row j d ≡ f (j + 1)) → v ≡ f (i + 1)
    → (j : ℕ) → j < i + 1 → get_or (set row i v) j d ≡ f (j + 1)
row_more f row i v d l h e j m =
    let k : j ≤ i = omega arith in
    either (eq-or-lt_of_le k)
    (λ (q : j ≡ i).
    ap (λ (x : ℕ). get_or (set row i v) x d) q ∙ get_or-set_same row i v d l ∙ e ∙ ap (λ (x : ℕ). f (x + 1)) (sym q))
    (λ (q : j < i). get_or-set_other row i j v d (λ (z : j ≡ i). omega arith) ∙ h j q)

module _ (g : Geometry) (image : List ℕ) where
  known_at : (row : List Extent) (n m : ℕ) → n ≡ m → Known g image row n → Known g image row m
  known_at row n m e k = subst (λ (x : ℕ). Known g image row x) e k

  known_more : (row : List Extent) (i : ℕ) (x : Extent) → i < length row → Known g image row i → x ≡ extent_in g image (i + 1) → Known g image (set row i x) (i + 1)
  known_more row i x l k e =
      record {
        long = omega (arith, length-set row i x);
        extents_are = row_more (extent_in g image) row i x no_extent l k.extents_are e;
      }

  -- a row with the extent of a slot more
  pub known_next : (row : List Extent) (slot : ℕ) (x : Extent) → 1 ≤ slot → slot ≤ length row → Known g image row (slot - 1) → x ≡ extent_in g image slot
      → Known g image (set row (slot - 1) x) (slot + 1 - 1)
  known_next row slot x h l k e =
      let back : slot ≡ slot - 1 + 1 = omega arith in
      known_at (set row (slot - 1) x) (slot - 1 + 1) (slot + 1 - 1) (omega arith) (known_more row (slot - 1) x (omega arith) k (e ∙ ap (extent_in g image) back))
