-- The free records are all data addresses less those of the labels' extents: "the volume line (name, numbers, free records)". No two extents share a
-- record, so that the sizes of the extents are taken away once each.
-- Assumes nothing.
use Prim.Native.Nat.{ℕ, zero, suc, ◌+◌, ◌<◌, ◌≤◌}
use Rattle.std.specs.Prelude.{◌≡◌, Bool, true, cond, ◌&&◌, ◌||◌, List, leb, Ok}
use Rattle.std.proofs.Math.Path.{refl}
use Rattle.std.proofs.Math.Bool.{false}
use Rattle.std.proofs.Common.{arith, le-leb}
use Rattle.std.proofs.lemmas.Bool.{lt-leb}
use Rattle.standard.specs.Layout.{slot_count, label_at}
use Rattle.standard.specs.Addresses.{rank, address_count}
use Rattle.standard.specs.Characters.{between}
use Rattle.standard.specs.Labels.{start_of, end_of}
use Rattle.standard.specs.Slots.{is_label, has_label}
use Rattle.standard.specs.Files.{extent_size}
use Rattle.standard.specs.Free.{in_extent, taken, free_from, free_records, free_count}
use Rattle.standard.specs.Judgement.{judged}
use Rattle.standard.specs.declared.Geometry.{Geometry}
use Rattle.promises.specs.Ground.Basics.{either, lt_or_le, by_test, true_not_false, and_l, and_r, or_rest}
use Rattle.promises.specs.Images.AddressLaws.{rank_lt}
use Rattle.promises.specs.Volumes.AcceptedLaws.{label_in_range, labels_apart}

-- the sizes of the extents of the labels in the slots 1 to n, in all
unfoldable pub extents_below : Geometry → List ℕ → ℕ → ℕ
extents_below g image zero = 0
extents_below g image (suc n) = cond (is_label g image (suc n)) (extent_size g (label_at g image (suc n))) 0 + extents_below g image n

-- how many of so many numbers from one on pass a test; and how many do not
passing : (ℕ → Bool) → ℕ → ℕ → ℕ
passing test zero i = 0
passing test (suc left) i = cond (test i) 1 0 + passing test left (i + 1)

failing : (ℕ → Bool) → ℕ → ℕ → ℕ
failing test zero i = 0
failing test (suc left) i = cond (test i) 0 1 + failing test left (i + 1)

none_fails : (left i : ℕ) → failing (λ k. false) left i ≡ left
unfolding failing
none_fails zero i = refl
none_fails (suc left) i = omega (arith, none_fails left (i + 1))

-- one test or another: those that pass the one pass not the other
one_apart : (s t : Bool) → (s ≡ true → t ≡ true → ⊥) → cond (s || t) 0 1 + cond s 1 0 ≡ cond t 0 1
one_apart true true h = absurd (h refl refl)
one_apart true false h = refl
one_apart false true h = refl
one_apart false false h = refl

apart : (p q : ℕ → Bool) → ((i : ℕ) → p i ≡ true → q i ≡ true → ⊥) → (left i : ℕ) → failing (λ k. p k || q k) left i + passing p left i ≡ failing q left i
unfolding failing passing
apart p q h zero i = refl
apart p q h (suc left) i = omega (arith, one_apart (p i) (q i) (h i), apart p q h left (i + 1))

-- the numbers of an interval: below it, in it, behind it
none_behind : (lo hi left i : ℕ) → hi < i → passing (between lo hi) left i ≡ 0
unfolding passing
none_behind lo hi zero i h = refl
none_behind lo hi (suc left) i h = by_test (leb lo i)
    (λ a. rw (a, lt-leb i hi h) (omega (arith, none_behind lo hi left (i + 1) (omega arith))))
    (λ a. rw a (omega (arith, none_behind lo hi left (i + 1) (omega arith))))

those_inside : (lo hi left i : ℕ) → lo ≤ i → i ≤ suc hi → hi < i + left → passing (between lo hi) left i + i ≡ suc hi
unfolding passing
those_inside lo hi zero i l m h = omega arith
those_inside lo hi (suc left) i l m h = either (lt_or_le hi i)
    (λ (k : hi < i). rw (le-leb lo i l, lt-leb i hi k) (omega (arith, none_behind lo hi left (i + 1) (omega arith))))
    (λ (k : i ≤ hi). rw (le-leb lo i l, le-leb i hi k) (omega (arith, those_inside lo hi left (i + 1) (omega arith) (omega arith) (omega arith))))

interval : (lo hi left i : ℕ) → i ≤ lo → lo ≤ hi → hi < i + left → passing (between lo hi) left i + lo ≡ suc hi
unfolding passing
interval lo hi zero i l m h = absurd (omega arith)
interval lo hi (suc left) i l m h = either (lt_or_le i lo)
    (λ (k : i < lo). rw (lt-leb lo i k) (omega (arith, interval lo hi left (i + 1) (omega arith) m (omega arith))))
    (λ (k : lo ≤ i). omega (arith, those_inside lo hi (suc left) i k (omega arith) h))

failing_same : (p q : ℕ → Bool) → ((i : ℕ) → p i ≡ q i) → (left i : ℕ) → failing p left i ≡ failing q left i
unfolding failing
failing_same p q h zero i = refl
failing_same p q h (suc left) i = rw (h i, failing_same p q h left (i + 1))

passing_same : (p q : ℕ → Bool) → ((i : ℕ) → p i ≡ q i) → (left i : ℕ) → passing p left i ≡ passing q left i
unfolding passing
passing_same p q h zero i = refl
passing_same p q h (suc left) i = rw (h i, passing_same p q h left (i + 1))

pub has_label_lem : (g : Geometry) (image : List ℕ) (slot : ℕ) → 1 ≤ slot → slot ≤ slot_count g → is_label g image slot ≡ true → has_label g image slot ≡ true
unfolding has_label
has_label_lem g image slot l m h = rw (le-leb 1 slot l, le-leb slot (slot_count g) m, h)

extent_between : (g : Geometry) (h : List ℕ) (i : ℕ) → in_extent g h i ≡ between (rank g (start_of h)) (rank g (end_of h)) i
unfolding in_extent
extent_between g h i = refl

free_from_lem : (g : Geometry) (image : List ℕ) (left i : ℕ) → free_from g image left i ≡ failing (λ k. taken g image k (slot_count g)) left i
unfolding free_from failing
free_from_lem g image zero i = refl
free_from_lem g image (suc left) i = rw (free_from_lem g image left (i + 1))

module _ (image : List ℕ) (g : Geometry) (j : judged image ≡ Ok g) where
  pub free_counted : free_count image ≡ Ok (free_records g image)
  unfolding free_count
  free_counted = rw j

  -- a label's extent has no address of a lower label's
  taken_apart : (slot i : ℕ) → has_label g image slot ≡ true → slot ≤ slot_count g → in_extent g (label_at g image slot) i ≡ true
      → (n : ℕ) → n < slot → taken g image i n ≡ true → ⊥
  unfolding taken
  taken_apart slot i h m e zero l t = true_not_false false t refl
  taken_apart slot i h m e (suc n) l t =
      by_test (is_label g image (suc n) && in_extent g (label_at g image (suc n)) i)
      (λ y.
      let o = has_label_lem g image (suc n) (omega arith) (omega arith) (and_l (is_label g image (suc n)) _ y) in
      let q = labels_apart image g slot (suc n) i j h o e (and_r (is_label g image (suc n)) _ y) in
      omega arith)
      (λ y. taken_apart slot i h m e n (omega arith) (or_rest _ _ y t))

  none_taken : (i : ℕ) → taken g image i 0 ≡ false
  unfolding taken
  none_taken i = refl

  taken_more : (n : ℕ) → is_label g image (suc n) ≡ true → (i : ℕ) → taken g image i (suc n) ≡ (in_extent g (label_at g image (suc n)) i || taken g image i n)
  unfolding taken
  taken_more n l i = rw l

  none_more : (n : ℕ) → is_label g image (suc n) ≡ false → (i : ℕ) → taken g image i (suc n) ≡ taken g image i n
  unfolding taken
  none_more n l i = rw l

  -- one label more takes its extent's size away
  one_more : (n : ℕ) → suc n ≤ slot_count g → is_label g image (suc n) ≡ true
      → failing (λ i. taken g image i (suc n)) (address_count g) 0 + extent_size g (label_at g image (suc n)) ≡ failing (λ i. taken g image i n) (address_count g) 0
  unfolding extent_size
  one_more n m l =
      let h = label_at g image (suc n) in
      let own = has_label_lem g image (suc n) (omega arith) m l in
      let r = label_in_range image g (suc n) j own in
      let top = rank_lt g (end_of h) r.end_legal in
      let size = interval (rank g (start_of h)) (rank g (end_of h)) (address_count g) 0 (omega arith) r.ordered (omega arith) in
      let inside = passing_same (in_extent g h) (between (rank g (start_of h)) (rank g (end_of h))) (extent_between g h) (address_count g) 0 in
      let split = apart (in_extent g h) (λ i. taken g image i n) (λ i e t. taken_apart (suc n) i own m e n (omega arith) t) (address_count g) 0 in
      let joined = failing_same (λ i. taken g image i (suc n)) (λ i. in_extent g h i || taken g image i n) (taken_more n l) (address_count g) 0 in
      omega (arith, r.ordered)

  free_below : (n : ℕ) → n ≤ slot_count g → failing (λ i. taken g image i n) (address_count g) 0 + extents_below g image n ≡ address_count g
  unfolding extents_below
  free_below zero m = omega (arith, failing_same (λ i. taken g image i 0) (λ i. false) none_taken (address_count g) 0, none_fails (address_count g) 0)
  free_below (suc n) m =
      let ih = free_below n (omega arith) in
      by_test (is_label g image (suc n))
      (λ l. rw l (omega (arith, one_more n m l)))
      (λ l. rw l (omega (arith, failing_same (λ i. taken g image i (suc n)) (λ i. taken g image i n) (none_more n l) (address_count g) 0)))

  -- FREE RECORDS: all data addresses less the sizes of the labels' extents
  pub free_is : free_records g image + extents_below g image (slot_count g) ≡ address_count g
  free_is = omega (arith, free_from_lem g image (address_count g) 0, free_below (slot_count g) (omega arith))
