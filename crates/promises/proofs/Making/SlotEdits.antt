-- Request 2026-01: two images of one length that agree in every sector but that of one slot. The one is accepted if the other is, the slot passes and its
-- label, where it is one, clashes with no other; every other file is the same.
-- Assumes nothing.
use Prim.Native.Nat.{ℕ, zero, suc, ◌+◌, ◌<◌, ◌≤◌}
use Rattle.std.specs.Prelude.{◌≡◌, Bool, ◌&&◌, ◌||◌, List, length, leb, Ok}
use Rattle.std.proofs.Math.Path.{refl, sym, subst}
use Rattle.std.proofs.Common.{◌∙◌, inl, leb-true}
use Rattle.std.proofs.Math.Bool.{true, false}
use native.Mathlib.Omega.{arith}
use Rattle.standard.specs.Layout.{slot_count, slot_ordinal, label_at}
use Rattle.standard.specs.Characters.{between, same}
use Rattle.standard.specs.Addresses.{legal, rank, ordinal}
use Rattle.standard.specs.Labels.{known_level, name_of, start_of, end_of}
use Rattle.standard.specs.Slots.{is_label, slot_refusal, has_label}
use Rattle.standard.specs.Judgement.{judged, legal_kind, overlap, shares, same_name, namesake}
use Rattle.standard.specs.Finding.{is_named, found_from, found_slot}
use Rattle.standard.specs.Files.{extent, extent_size}
use Rattle.standard.specs.Free.{in_extent, taken, free_records}
use Rattle.standard.specs.declared.Geometry.{Geometry}
use Rattle.standard.specs.declared.Address.{Address}
use Rattle.promises.specs.Ground.Basics.{either, eq_or_not, by_test, true_not_false, and_r}
use Rattle.promises.specs.Ground.Lists.{every_map}
use Rattle.promises.specs.Images.AddressLaws.{ordinal_ge}
use Rattle.promises.specs.Images.Sectors.{sector_at}
use Rattle.promises.specs.Images.SectorLaws.{same_legal_kind}
use Rattle.promises.specs.Volumes.Judging.{Accepted, none_clash, clash_none}
use Rattle.promises.specs.Volumes.AcceptedLaws.{has_slot, label_in_range}
use Rattle.promises.specs.Volumes.VolumeNumbers.{Numbers, slot_in_index}
use Rattle.promises.specs.Volumes.IndexLaws.{SameFront, same_label, same_is_label, same_slot_refusal, accepted_with}
use Rattle.promises.specs.Extents.ExtentAddresses.{Between, rising_every, extent_rising}
use Rattle.promises.proofs.Extents.ExtentReads.{SameSector, AlikeRecord}
use Rattle.promises.proofs.Locality.{SameFile}
use Rattle.promises.specs.Volumes.FindingLaws.{same_equal, same_self}
use Rattle.promises.specs.Volumes.FreeLaws.{extents_below, free_is}

pub record Edit (g : Geometry) (image image' : List ℕ) (slot : ℕ) : Type 0 where
  pub low : 1 ≤ slot
  pub high : slot ≤ slot_count g
  pub size : length image ≡ length image'
  pub others : (n : ℕ) → (n ≡ slot_ordinal slot → ⊥) → sector_at g image n ≡ sector_at g image' n

-- the other way round
pub edit_back : (g : Geometry) (image image' : List ℕ) (slot : ℕ) → Edit g image image' slot → Edit g image' image slot
edit_back g image image' slot e = record { low = e.low; high = e.high; size = sym e.size; others = λ n ne. sym (e.others n ne) }

-- a slot that does not bear a name
pub not_named : (g : Geometry) (image name : List ℕ) (slot : ℕ) → is_label g image slot ≡ false → is_named g image name slot ≡ false
unfolding is_named
not_named g image name slot h = rw h

pub other_name : (g : Geometry) (image name : List ℕ) (slot : ℕ) → (name_of (label_at g image slot) ≡ name → ⊥) → is_named g image name slot ≡ false
unfolding is_named
other_name g image name slot ne =
    by_test (is_named g image name slot)
    (λ t. absurd (ne (same_equal _ _ (and_r (is_label g image slot && known_level (label_at g image slot)) _ t))))
    (λ t. t)

-- clashes are asked of two labels alike
and_swap : (a b : Bool) → (a && b) ≡ (b && a)
and_swap true true = refl
and_swap true false = refl
and_swap false true = refl
and_swap false false = refl

pub overlap_swap : (g : Geometry) (h k : List ℕ) → overlap g h k ≡ overlap g k h
unfolding overlap
overlap_swap g h k = and_swap (leb (rank g (start_of h)) (rank g (end_of k))) (leb (rank g (start_of k)) (rank g (end_of h)))

pub same_swap : (x y : List ℕ) → same x y ≡ same y x
same_swap x y =
    by_test (same x y)
    (λ t. let e = same_equal x y t in t ∙ sym (subst (λ (z : List ℕ). same z x ≡ true) e (same_self x)))
    (λ t. by_test (same y x)
    (λ u. let e = same_equal y x u in absurd (true_not_false (same x y) (subst (λ (z : List ℕ). same z y ≡ true) e (same_self y)) t))
    (λ u. t ∙ sym u))

pub name_swap : (h k : List ℕ) → same_name h k ≡ same_name k h
unfolding same_name
name_swap h k = rw (and_swap (known_level h) (known_level k), same_swap (name_of h) (name_of k))

module _ (g : Geometry) (image image' : List ℕ) (slot : ℕ) (numbers : Numbers g) (e : Edit g image image' slot) where
  -- the other slots, and the front of the index cylinder
  module _ (other : ℕ) (ne : other ≡ slot → ⊥) where
    pub other_sector : sector_at g image (slot_ordinal other) ≡ sector_at g image' (slot_ordinal other)
    unfolding slot_ordinal
    other_sector = e.others (other + 6) (λ (q : other + 6 ≡ slot + 6). ne (omega arith))

    module _ (l : other ≤ slot_count g) where
      pub other_label : label_at g image other ≡ label_at g image' other
      other_label = same_label g image image' numbers other l other_sector

      pub other_is_label : is_label g image other ≡ is_label g image' other
      other_is_label = same_is_label g image image' numbers other l other_sector

      pub other_named : (name : List ℕ) → is_named g image name other ≡ is_named g image' name other
      unfolding is_named
      other_named name = rw (other_is_label, other_label)

    pub other_has : has_label g image other ≡ has_label g image' other
    unfolding has_label
    other_has = go (between 1 (slot_count g) other) refl
      where
        go : (t : Bool) → between 1 (slot_count g) other ≡ t → (t && is_label g image other) ≡ (t && is_label g image' other)
        go true q = other_is_label (leb-true other (slot_count g) (and_r (leb 1 other) _ q))
        go false q = refl

  front : SameFront g image image'
  unfolding slot_ordinal
  front n h = e.others n (λ (q : n ≡ slot + 6). omega (arith, e.low))

  -- two slots clash as before, if neither is the edited one; and the edited one clashes with none
  shares_not : (s l : ℕ) → (is_label g image' s ≡ true → is_label g image' l ≡ true → overlap g (label_at g image' s) (label_at g image' l) ≡ false) → shares g image' s l ≡ false
  unfolding shares
  shares_not s l h =
      by_test (is_label g image' s)
      (λ a. by_test (is_label g image' l) (λ b. rw (a, b) (h a b)) (λ b. rw (a, b)))
      (λ a. rw a)

  namesake_not : (s l : ℕ) → (is_label g image' s ≡ true → is_label g image' l ≡ true → same_name (label_at g image' s) (label_at g image' l) ≡ false) → namesake g image' s l ≡ false
  unfolding namesake
  namesake_not s l h =
      by_test (is_label g image' s)
      (λ a. by_test (is_label g image' l) (λ b. rw (a, b) (h a b)) (λ b. rw (a, b)))
      (λ a. rw a)

  module _ (s l : ℕ) (ns : s ≡ slot → ⊥) (nl : l ≡ slot → ⊥) (ms : s ≤ slot_count g) (ml : l ≤ slot_count g) where
    shares_same : shares g image s l ≡ shares g image' s l
    unfolding shares
    shares_same = rw (other_is_label s ns ms, other_is_label l nl ml, other_label s ns ms, other_label l nl ml)

    namesake_same : namesake g image s l ≡ namesake g image' s l
    unfolding namesake
    namesake_same = rw (other_is_label s ns ms, other_is_label l nl ml, other_label s ns ms, other_label l nl ml)

  -- what is asked of the new label, where it is one, against every other
  abbrev pub Apart : (List ℕ → List ℕ → Bool) → Type 0
  Apart clash = (other : ℕ) → 1 ≤ other → other ≤ slot_count g → (other ≡ slot → ⊥) → is_label g image' slot ≡ true → is_label g image other ≡ true
      → clash (label_at g image' slot) (label_at g image other) ≡ false

  abbrev All : (ℕ → ℕ → Bool) → Type 0
  All clash = (s l : ℕ) → 1 ≤ l → l < s → s ≤ slot_count g → clash s l ≡ false

  new_apart : (clash : List ℕ → List ℕ → Bool) → Apart clash → (other : ℕ) → 1 ≤ other → other ≤ slot_count g → (other ≡ slot → ⊥)
      → is_label g image' slot ≡ true → is_label g image' other ≡ true → clash (label_at g image' slot) (label_at g image' other) ≡ false
  new_apart clash h other l m ne a b =
      subst (λ (x : List ℕ). clash (label_at g image' slot) x ≡ false) (other_label other ne m) (h other l m ne a (other_is_label other ne m ∙ b))

  all_shares : All (shares g image) → Apart (overlap g) → All (shares g image')
  all_shares old h s l a b c =
      either (eq_or_not s slot)
      (λ (q : s ≡ slot).
      shares_not s l (subst (λ (x : ℕ). is_label g image' x ≡ true → is_label g image' l ≡ true → overlap g (label_at g image' x) (label_at g image' l) ≡ false) (sym q)
      (new_apart (overlap g) h l a (omega arith) (λ (z : l ≡ slot). omega arith))))
      (λ (ns : s ≡ slot → ⊥).
      either (eq_or_not l slot)
      (λ (q : l ≡ slot).
      shares_not s l (subst (λ (x : ℕ). is_label g image' s ≡ true → is_label g image' x ≡ true → overlap g (label_at g image' s) (label_at g image' x) ≡ false) (sym q)
      (λ u v. overlap_swap g (label_at g image' s) (label_at g image' slot) ∙ new_apart (overlap g) h s (omega arith) c ns v u)))
      (λ (nl : l ≡ slot → ⊥). sym (shares_same s l ns nl c (omega arith)) ∙ old s l a b c))

  all_names : All (namesake g image) → Apart same_name → All (namesake g image')
  all_names old h s l a b c =
      either (eq_or_not s slot)
      (λ (q : s ≡ slot).
      namesake_not s l (subst (λ (x : ℕ). is_label g image' x ≡ true → is_label g image' l ≡ true → same_name (label_at g image' x) (label_at g image' l) ≡ false) (sym q)
      (new_apart same_name h l a (omega arith) (λ (z : l ≡ slot). omega arith))))
      (λ (ns : s ≡ slot → ⊥).
      either (eq_or_not l slot)
      (λ (q : l ≡ slot).
      namesake_not s l (subst (λ (x : ℕ). is_label g image' s ≡ true → is_label g image' x ≡ true → same_name (label_at g image' s) (label_at g image' x) ≡ false) (sym q)
      (λ u v. name_swap (label_at g image' s) (label_at g image' slot) ∙ new_apart same_name h s (omega arith) c ns v u)))
      (λ (nl : l ≡ slot → ⊥). sym (namesake_same s l ns nl c (omega arith)) ∙ old s l a b c))

  kinds_legal : legal_kind g image' (slot_ordinal slot) ≡ true → (n : ℕ) → legal_kind g image n ≡ true → legal_kind g image' n ≡ true
  kinds_legal k n h =
      either (eq_or_not n (slot_ordinal slot))
      (λ (q : n ≡ slot_ordinal slot). subst (λ (x : ℕ). legal_kind g image' x ≡ true) (sym q) k)
      (λ (ne : n ≡ slot_ordinal slot → ⊥). sym (same_legal_kind g image image' n (e.others n ne)) ∙ h)

  slots_pass : slot_refusal g image' slot ≡ Ok tt → (s : ℕ) → s ≤ slot_count g → slot_refusal g image s ≡ Ok tt → slot_refusal g image' s ≡ Ok tt
  slots_pass p s m h =
      either (eq_or_not s slot)
      (λ (q : s ≡ slot). subst (λ (x : ℕ). slot_refusal g image' x ≡ Ok tt) (sym q) p)
      (λ (ne : s ≡ slot → ⊥). sym (same_slot_refusal g image image' numbers s m (other_sector s ne)) ∙ h)

  -- ACCEPTED AGAIN
  pub edit_accepted : legal_kind g image' (slot_ordinal slot) ≡ true → slot_refusal g image' slot ≡ Ok tt → Apart (overlap g) → Apart same_name
      → Accepted image g → Accepted image' g
  edit_accepted k p apart named a =
      accepted_with g image image' numbers front e.size (λ n l h. kinds_legal k n h) (λ s l m h. slots_pass p s m h)
      (clash_none (shares g image') 11 (slot_count g) (all_shares (none_clash (shares g image) 11 (slot_count g) a.extents) apart))
      (clash_none (namesake g image') 12 (slot_count g) (all_names (none_clash (namesake g image) 12 (slot_count g) a.names) named)) a

  -- EVERY OTHER FILE IS THE SAME
  pub other_file : judged image ≡ Ok g → (other : ℕ) → (other ≡ slot → ⊥) → SameFile g image image' other
  other_file j other ne =
      record {
        has = other_has other ne;
        label = λ h. other_label other ne (has_slot g image other h).1;
        sectors = λ h.
            let k = label_at g image other in
            every_map (Between g (rank g (start_of k)) (rank g (end_of k))) (AlikeRecord g image image')
            (λ a p. inl (data_kept a p.0)) (extent g k)
            (rising_every g (rank g (start_of k)) (rank g (end_of k)) (extent g k) (extent_rising g k (label_in_range image g other j h)));
      }
    where
      data_kept : (a : Address) → legal g a ≡ true → SameSector g image image' a
      data_kept a p =
          e.others (ordinal g a) (λ (q : ordinal g a ≡ slot_ordinal slot). omega (arith, ordinal_ge g a p, slot_in_index g slot numbers e.high))

  -- FOUND AS BEFORE: by every other slot; by every name that the edited slot bears in both or in neither
  pub other_found_slot : (other : ℕ) → (other ≡ slot → ⊥) → found_slot g image other ≡ found_slot g image' other
  other_found_slot other ne = rw (other_has other ne)

  pub other_found_from : (name : List ℕ) → is_named g image name slot ≡ is_named g image' name slot
      → (left first : ℕ) → first + left ≤ slot_count g + 1 → found_from g image name left first ≡ found_from g image' name left first
  unfolding found_from
  other_found_from name h zero first l = refl
  other_found_from name h (suc left) first l =
      let q : is_named g image name first ≡ is_named g image' name first =
      either (eq_or_not first slot)
      (λ (z : first ≡ slot). subst (λ (x : ℕ). is_named g image name x ≡ is_named g image' name x) (sym z) h)
      (λ (ne : first ≡ slot → ⊥). other_named first ne (omega arith) name) in
      rw (q, other_found_from name h left (first + 1) (omega arith))

  -- ONE LABEL MORE: the edited slot has none before and one afterwards
  module _ (none : is_label g image slot ≡ false) (one : is_label g image' slot ≡ true) where
    taken_below : (i n : ℕ) → n < slot → taken g image' i n ≡ taken g image i n
    unfolding taken
    taken_below i zero l = refl
    taken_below i (suc n) l =
        let ne : suc n ≡ slot → ⊥ = λ q. omega arith in
        let m : suc n ≤ slot_count g = omega (arith, e.high) in
        rw (sym (other_is_label (suc n) ne m), sym (other_label (suc n) ne m), taken_below i n (omega arith))

    pub taken_more : (i n : ℕ) → slot ≤ n → n ≤ slot_count g → taken g image' i n ≡ (in_extent g (label_at g image' slot) i || taken g image i n)
    unfolding taken
    taken_more i zero l m = absurd (omega (arith, e.low))
    taken_more i (suc n) l m =
        either (eq_or_not (suc n) slot)
        (λ (q : suc n ≡ slot).
        let a : is_label g image (suc n) ≡ false = subst (λ (x : ℕ). is_label g image x ≡ false) (sym q) none in
        let b : is_label g image' (suc n) ≡ true = subst (λ (x : ℕ). is_label g image' x ≡ true) (sym q) one in
        rw (a, b, taken_below i n (omega arith), q))
        (λ (ne : suc n ≡ slot → ⊥).
        rw (sym (other_is_label (suc n) ne m), sym (other_label (suc n) ne m), taken_more i n (omega arith) (omega arith))
        (or_across (is_label g image (suc n) && in_extent g (label_at g image (suc n)) i) (in_extent g (label_at g image' slot) i) (taken g image i n)))
      where
        or_across : (a b c : Bool) → (a || (b || c)) ≡ (b || (a || c))
        or_across true true c = refl
        or_across true false c = refl
        or_across false b c = refl

    extents_below_lem : (n : ℕ) → n < slot → extents_below g image' n ≡ extents_below g image n
    unfolding extents_below
    extents_below_lem zero l = refl
    extents_below_lem (suc n) l =
        let ne : suc n ≡ slot → ⊥ = λ q. omega arith in
        let m : suc n ≤ slot_count g = omega (arith, e.high) in
        rw (sym (other_is_label (suc n) ne m), sym (other_label (suc n) ne m), extents_below_lem n (omega arith))

    extents_more : (n : ℕ) → slot ≤ n → n ≤ slot_count g → extents_below g image' n ≡ extent_size g (label_at g image' slot) + extents_below g image n
    unfolding extents_below
    extents_more zero l m = absurd (omega (arith, e.low))
    extents_more (suc n) l m =
        either (eq_or_not (suc n) slot)
        (λ (q : suc n ≡ slot).
        let a : is_label g image (suc n) ≡ false = subst (λ (x : ℕ). is_label g image x ≡ false) (sym q) none in
        let b : is_label g image' (suc n) ≡ true = subst (λ (x : ℕ). is_label g image' x ≡ true) (sym q) one in
        rw (a, b, extents_below_lem n (omega arith), q) (omega arith))
        (λ (ne : suc n ≡ slot → ⊥).
        rw (sym (other_is_label (suc n) ne m), sym (other_label (suc n) ne m), extents_more n (omega arith) (omega arith)) (omega arith))

    -- THE FREE RECORDS are as many fewer as its extent has
    pub free_fewer : judged image ≡ Ok g → judged image' ≡ Ok g
        → free_records g image' + extent_size g (label_at g image' slot) ≡ free_records g image
    free_fewer j j' =
        omega (arith, free_is image g j, free_is image' g j', extents_more (slot_count g) e.high (omega arith))
