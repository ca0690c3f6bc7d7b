-- What an accepted volume's labels are: without fault, their extents in range, no two of which share a record.
-- Assumes nothing.
use Rattle.std.specs.Prelude.{ℕ, ◌<◌, ◌≤◌, refl, ◌≡◌, true, false, not, List, length, leb, ltb, eqb, Ok}
use Rattle.std.proofs.Common.{sym, arith, eq-or-lt_of_le, ltb-false, leb-true, le-leb, eqb-true}
use Rattle.std.proofs.lemmas.Bool.{not-true, not-false}
use Rattle.standard.specs.Layout.{slot_count, label_at, image_length}
use Rattle.standard.specs.Addresses.{is_address, legal, five_digits, address_in, rank, before}
use Rattle.standard.specs.Labels.{rule29, rule35, hdr1_rules, label_fault, start_of, end_of}
use Rattle.standard.specs.Characters.{field, between}
use Rattle.standard.specs.Free.{in_extent}
use Rattle.standard.specs.Slots.{is_label, has_label}
use Rattle.standard.specs.Judgement.{overlap, shares, judged}
use Rattle.standard.specs.declared.Geometry.{Geometry}
use Rattle.promises.specs.Ground.Basics.{either, lt_or_le, true_not_false, and_l, and_r}
use Rattle.promises.specs.Volumes.Judging.{not_given, rows_each, accepted, slots_each, label_right, none_clash}

pub image_length_lem : (image : List ℕ) (g : Geometry) → judged image ≡ Ok g → length image ≡ image_length g
image_length_lem image g j =
    let n = not_given (not (eqb (length image) (image_length g))) _ (accepted image g j).size in
    eqb-true (length image) (image_length g) (not-false _ n)

-- a slot with a label
pub has_slot : (g : Geometry) (image : List ℕ) (slot : ℕ) → has_label g image slot ≡ true → (1 ≤ slot) × (slot ≤ slot_count g) × (is_label g image slot ≡ true)
unfolding has_label
has_slot g image slot h =
    let b = and_l (between 1 (slot_count g) slot) _ h in
    (leb-true 1 slot (and_l (leb 1 slot) _ b), leb-true slot (slot_count g) (and_r (leb 1 slot) _ b), and_r (between 1 (slot_count g) slot) _ h)

pub label_faultless : (image : List ℕ) (g : Geometry) (slot : ℕ) → judged image ≡ Ok g → has_label g image slot ≡ true → label_fault g (label_at g image slot) ≡ 0
label_faultless image g slot j h =
    let s = has_slot g image slot h in
    label_right g image slot (slots_each g image (accepted image g j).slots slot s.0 s.1) s.2

-- WHAT AN ACCEPTED VOLUME'S LABELS ARE
pub record InRange (g : Geometry) (h : List ℕ) : Type 0 where
  pub start_legal : legal g (start_of h) ≡ true
  pub end_legal : legal g (end_of h) ≡ true
  pub ordered : rank g (start_of h) ≤ rank g (end_of h)

address_legal : (g : Geometry) (f : List ℕ) → is_address g f ≡ true → legal g (address_in f) ≡ true
unfolding is_address
address_legal g f h = and_r (five_digits f) _ h

pub fault_none : (g : Geometry) (h : List ℕ) → label_fault g h ≡ 0 → InRange g h
unfolding label_fault hdr1_rules rule29 rule35 before
fault_none g h z =
    let (r1, (r6, (r23, (r29, (r35, _))))) = rows_each _ z refl in
    let o = and_r (is_address g (field h 35 39)) _ r35 in
    let n : not (ltb (rank g (end_of h)) (rank g (start_of h))) ≡ true = rw r29 at o in
    record {
      start_legal = address_legal g (field h 29 33) r29;
      end_legal = address_legal g (field h 35 39) (and_l (is_address g (field h 35 39)) _ r35);
      ordered = ltb-false (rank g (end_of h)) (rank g (start_of h)) (not-true _ n);
    }

pub label_in_range : (image : List ℕ) (g : Geometry) (slot : ℕ) → judged image ≡ Ok g → has_label g image slot ≡ true → InRange g (label_at g image slot)
label_in_range image g slot j h =
    fault_none g (label_at g image slot) (label_faultless image g slot j h)

-- no rank is in the extents of two labels
pub extent_bounds : (g : Geometry) (h : List ℕ) (i : ℕ) → in_extent g h i ≡ true → (rank g (start_of h) ≤ i) × (i ≤ rank g (end_of h))
unfolding in_extent
extent_bounds g h i e =
    (leb-true (rank g (start_of h)) i (and_l (leb (rank g (start_of h)) i) _ e), leb-true i (rank g (end_of h)) (and_r (leb (rank g (start_of h)) i) _ e))

pub bounds_extent : (g : Geometry) (h : List ℕ) (i : ℕ) → rank g (start_of h) ≤ i → i ≤ rank g (end_of h) → in_extent g h i ≡ true
unfolding in_extent
bounds_extent g h i lo hi = rw (le-leb (rank g (start_of h)) i lo, le-leb i (rank g (end_of h)) hi)

pub no_overlap : (g : Geometry) (h k : List ℕ) (i : ℕ) → overlap g h k ≡ false → in_extent g h i ≡ true → in_extent g k i ≡ true → ⊥
unfolding overlap
no_overlap g h k i o a b =
    let x = extent_bounds g h i a in
    let y = extent_bounds g k i b in
    let p = le-leb (rank g (start_of h)) (rank g (end_of k)) (omega arith) in
    let q = le-leb (rank g (start_of k)) (rank g (end_of h)) (omega arith) in
    true_not_false _ (simp (p, q)) o

lower_apart : (image : List ℕ) (g : Geometry) (slot lower i : ℕ) → judged image ≡ Ok g → has_label g image slot ≡ true → has_label g image lower ≡ true
    → lower < slot → in_extent g (label_at g image slot) i ≡ true → in_extent g (label_at g image lower) i ≡ true → ⊥
unfolding shares
lower_apart image g slot lower i j hs hl lt a b =
    let s = has_slot g image slot hs in
    let t = has_slot g image lower hl in
    let c = none_clash (shares g image) 11 (slot_count g) (accepted image g j).extents slot lower t.0 lt s.1 in
    let o : overlap g (label_at g image slot) (label_at g image lower) ≡ false = rw (s.2, t.2) at c in
    no_overlap g (label_at g image slot) (label_at g image lower) i o a b

pub labels_apart : (image : List ℕ) (g : Geometry) (slot other i : ℕ) → judged image ≡ Ok g → has_label g image slot ≡ true → has_label g image other ≡ true
    → in_extent g (label_at g image slot) i ≡ true → in_extent g (label_at g image other) i ≡ true → slot ≡ other
labels_apart image g slot other i j hs ho a b =
    either (lt_or_le slot other)
    (λ (l : slot < other). absurd (lower_apart image g other slot i j ho hs l b a))
    (λ (r : other ≤ slot).
    either (eq-or-lt_of_le r) (λ (e : other ≡ slot). sym e) (λ (l : other < slot). absurd (lower_apart image g slot other i j hs ho l a b)))
