-- What finding hands out: "Names are 17 bytes, found among levels space, 1, 2 only", and "A file's label is handed out as the 128 bytes in the image
-- itself, empty if refused (1-13 only)."
-- Assumes nothing.
use Prim.Native.Nat.{ℕ, zero, suc, ◌+◌, ◌<◌, ◌≤◌}
use Rattle.std.specs.Prelude.{◌≡◌, Bool, ◌&&◌, List, [], ◌∷◌, take, drop, eqb, Result, Ok, Err}
use Rattle.std.proofs.Math.Path.{refl, sym, ap, subst}
use Rattle.std.proofs.Common.{◌∙◌, length-take, length-drop, eq-or-lt_of_le, eqb-true}
use Rattle.std.proofs.Math.Bool.{true, false, cond}
use Rattle.std.proofs.Math.ListN.{length}
use native.Mathlib.Omega.{arith}
use Rattle.std.proofs.lemmas.Bool.{eqb-false}
use Rattle.standard.specs.Characters.{same}
use Rattle.standard.specs.Refusals.{refuse}
use Rattle.standard.specs.Layout.{slot_count, label_offset, label_at}
use Rattle.standard.specs.Labels.{known_level, name_of}
use Rattle.standard.specs.Slots.{is_label, has_label}
use Rattle.standard.specs.Judgement.{judged, same_name, namesake}
use Rattle.standard.specs.Finding.{is_named, found_from, found_slot, found, found_at, label_named, label_in_slot, label_found}
use Rattle.standard.specs.declared.Geometry.{Geometry}
use Rattle.standard.specs.declared.Refusal.{Refusal}
use Rattle.standard.specs.declared.Found.{Found}
use Rattle.promises.specs.Ground.Basics.{either, lt_or_le, by_test, true_not_false, and_l, and_r, never}
use Rattle.promises.specs.Volumes.Judging.{accepted, none_clash}
use Rattle.promises.specs.Volumes.AcceptedLaws.{image_length_lem, has_slot}
use Rattle.promises.specs.Volumes.VolumeNumbers.{numbers_of_lem, label_room}
use Rattle.promises.specs.Refusals.Refusing.{Exactly}

-- two lists are the same where they are equal
pub same_equal : (xs ys : List ℕ) → same xs ys ≡ true → xs ≡ ys
unfolding same
same_equal [] [] h = refl
same_equal [] (y ∷ ys) h = absurd (true_not_false false h refl)
same_equal (x ∷ xs) [] h = absurd (true_not_false false h refl)
same_equal (x ∷ xs) (y ∷ ys) h =
    let p = eqb-true x y (and_l (eqb x y) _ h) in
    let q = same_equal xs ys (and_r (eqb x y) _ h) in
    cc

eqb_self : (n : ℕ) → eqb n n ≡ true
eqb_self n = by_test (eqb n n) (λ e. e) (λ e. absurd (eqb-false n n e refl))

pub same_self : (xs : List ℕ) → same xs xs ≡ true
unfolding same
same_self [] = refl
same_self (x ∷ xs) = rw (eqb_self x) (same_self xs)

pub same_exactly : (xs ys : List ℕ) → Exactly (same xs ys ≡ true) (xs ≡ ys)
same_exactly xs ys = (same_equal xs ys, (λ e. subst (λ (z : List ℕ). same xs z ≡ true) e (same_self xs)))

-- a label found in one slot, at one offset
label_found_same : (slot offset s o : ℕ) → label_found slot offset ≡ label_found s o → (slot ≡ s) × (offset ≡ o)
label_found_same slot offset s o h =
    let e : ◌≡◌ {A = Found} (record { slot = slot; offset = offset }) (record { slot = s; offset = o }) = cc in
    (ap (λ (f : Found). f.slot) e, ap (λ (f : Found). f.offset) e)

-- a walk through so many slots from one on
module _ (g : Geometry) (image name : List ℕ) where
  -- a slot with a label of a known level and of that name
  abbrev pub Bears : ℕ → Type 0
  Bears slot = (is_label g image slot ≡ true) × (known_level (label_at g image slot) ≡ true) × (name_of (label_at g image slot) ≡ name)

  named_bears : (slot : ℕ) → is_named g image name slot ≡ true → Bears slot
  unfolding is_named
  named_bears slot h =
      let both = is_label g image slot && known_level (label_at g image slot) in
      let l = and_l both _ h in
      (and_l (is_label g image slot) _ l, and_r (is_label g image slot) _ l, same_equal _ _ (and_r both _ h))

  bears_named : (slot : ℕ) → Bears slot → is_named g image name slot ≡ true
  unfolding is_named
  bears_named slot b = rw (b.0, b.1) ((same_exactly (name_of (label_at g image slot)) name).1 b.2)

  abbrev Met : ℕ → ℕ → ℕ → ℕ → Type 0
  Met left first slot offset = (first ≤ slot) × (slot < first + left) × (is_named g image name slot ≡ true) × (offset ≡ label_offset g slot)

  from_at : (left first slot offset : ℕ) → found_from g image name left first ≡ label_found slot offset → Met left first slot offset
  unfolding found_from
  from_at zero first slot offset h = never (cc)
  from_at (suc left) first slot offset h = go (is_named g image name first) refl h (λ k. from_at left (first + 1) slot offset k)
    where
      go : (t : Bool) → is_named g image name first ≡ t → cond t (label_found first (label_offset g first)) (found_from g image name left (first + 1)) ≡ label_found slot offset
          → (found_from g image name left (first + 1) ≡ label_found slot offset → Met left (first + 1) slot offset) → Met (suc left) first slot offset
      go true e k ih =
          let both = label_found_same first (label_offset g first) slot offset k in
          let p = both.0 in
          let q = both.1 in
          subst (λ (s : ℕ). Met (suc left) first s offset) p (omega arith, omega arith, e, sym q)
      go false e k ih =
          let m = ih k in
          (omega (arith, m.0), omega (arith, m.1), m.2, m.3)

  abbrev Unmet : ℕ → ℕ → Refusal → Type 0
  Unmet left first r = (r ≡ refuse 13 0) × ((slot : ℕ) → first ≤ slot → slot < first + left → is_named g image name slot ≡ false)

  from_none : (left first : ℕ) (r : Refusal) → found_from g image name left first ≡ Err r → Unmet left first r
  unfolding found_from
  from_none zero first r h = (cc, (λ slot l m. absurd (omega arith)))
  from_none (suc left) first r h = go (is_named g image name first) refl h (λ k. from_none left (first + 1) r k)
    where
      go : (t : Bool) → is_named g image name first ≡ t → cond t (label_found first (label_offset g first)) (found_from g image name left (first + 1)) ≡ Err r
          → (found_from g image name left (first + 1) ≡ Err r → Unmet left (first + 1) r) → Unmet (suc left) first r
      go true e k ih = never (cc)
      go false e k ih =
          let m = ih k in (
            m.0,
            (λ slot l u. either (eq-or-lt_of_le l)
                (λ (x : first ≡ slot). subst (λ (s : ℕ). is_named g image name s ≡ false) x e)
                (λ (x : first < slot). m.1 slot (omega arith) (omega arith))),
          )

module _ (image : List ℕ) (g : Geometry) (j : judged image ≡ Ok g) where
  -- no two labels of known level have one name
  lower_named : (name : List ℕ) (slot lower : ℕ) → 1 ≤ lower → lower < slot → slot ≤ slot_count g → Bears g image name slot → Bears g image name lower → ⊥
  unfolding namesake same_name
  lower_named name slot lower l m k a b =
      let c = none_clash (namesake g image) 12 (slot_count g) (accepted image g j).names slot lower l m k in
      let e = a.2 ∙ sym b.2 in
      true_not_false (namesake g image slot lower)
      (rw (a.0, b.0, a.1, b.1) ((same_exactly (name_of (label_at g image slot)) (name_of (label_at g image lower))).1 e)) c

  pub one_of_name : (name : List ℕ) (slot other : ℕ) → 1 ≤ slot → slot ≤ slot_count g → 1 ≤ other → other ≤ slot_count g
      → Bears g image name slot → Bears g image name other → slot ≡ other
  one_of_name name slot other l k l' k' a b =
      either (lt_or_le slot other)
      (λ (x : slot < other). absurd (lower_named name other slot l x k' b a))
      (λ (x : other ≤ slot). either (eq-or-lt_of_le x) (λ (e : other ≡ slot). sym e) (λ (y : other < slot). absurd (lower_named name slot other l' y k a b)))

  found_from_lem : (name : List ℕ) → found image name ≡ found_from g image name (slot_count g) 1
  unfolding found
  found_from_lem name = rw j

  -- FINDING BY NAME
  pub find_named : (name : List ℕ) (slot offset : ℕ)
      → Exactly (found image name ≡ label_found slot offset)
      ((1 ≤ slot) × (slot ≤ slot_count g) × (is_label g image slot ≡ true) × (known_level (label_at g image slot) ≡ true)
      × (name_of (label_at g image slot) ≡ name) × (offset ≡ label_offset g slot))
  find_named name slot offset = (
    (λ h.
        let m = from_at g image name (slot_count g) 1 slot offset (sym (found_from_lem name) ∙ h) in
        let b = named_bears g image name slot m.2 in
        (m.0, omega (arith, m.1), b.0, b.1, b.2, m.3)),
    (λ f. back (found_from g image name (slot_count g) 1) (found_from_lem name) refl f),
  )
    where
      back : (x : Result Found Refusal) → found image name ≡ found_from g image name (slot_count g) 1 → found_from g image name (slot_count g) 1 ≡ x
          → (1 ≤ slot) × (slot ≤ slot_count g) × (is_label g image slot ≡ true) × (known_level (label_at g image slot) ≡ true)
          × (name_of (label_at g image slot) ≡ name) × (offset ≡ label_offset g slot)
          → found image name ≡ label_found slot offset
      back (Err r) e h f =
          let m = from_none g image name (slot_count g) 1 r h in
          absurd (true_not_false (is_named g image name slot) (bears_named g image name slot (f.2, f.3, f.4)) (m.1 slot f.0 (omega (arith, f.1))))
      back (Ok x) e h f =
          let s = x.slot in
          let m = from_at g image name (slot_count g) 1 s x.offset h in
          let q = one_of_name name s slot m.0 (omega (arith, m.1)) f.0 f.1 (named_bears g image name s m.2) (f.2, f.3, f.4) in
          e ∙ h ∙ ap (λ (n : ℕ). label_found n x.offset) q ∙ ap (label_found slot) (m.3 ∙ ap (label_offset g) q ∙ sym f.5)

  pub find_none : (name : List ℕ) (r : Refusal)
      → Exactly (found image name ≡ Err r)
      ((r ≡ refuse 13 0)
      × ((slot : ℕ) → 1 ≤ slot → slot ≤ slot_count g → is_label g image slot ≡ true → known_level (label_at g image slot) ≡ true
      → name_of (label_at g image slot) ≡ name → ⊥))
  find_none name r = (
    (λ h.
        let m = from_none g image name (slot_count g) 1 r (sym (found_from_lem name) ∙ h) in
        (m.0, (λ slot l u a b c. true_not_false (is_named g image name slot) (bears_named g image name slot (a, b, c)) (m.1 slot l (omega arith))))),
    (λ f. back (found_from g image name (slot_count g) 1) refl f),
  )
    where
      back : (x : Result Found Refusal) → found_from g image name (slot_count g) 1 ≡ x
          → (r ≡ refuse 13 0)
          × ((slot : ℕ) → 1 ≤ slot → slot ≤ slot_count g → is_label g image slot ≡ true → known_level (label_at g image slot) ≡ true
          → name_of (label_at g image slot) ≡ name → ⊥)
          → found image name ≡ Err r
      back (Err q) h f =
          let m = (from_none g image name (slot_count g) 1 q h).0 in
          found_from_lem name ∙ h ∙ ap Err (m ∙ sym f.0)
      back (Ok x) h f =
          let s = x.slot in
          let m = from_at g image name (slot_count g) 1 s x.offset h in
          let b = named_bears g image name s m.2 in
          absurd (f.1 s m.0 (omega (arith, m.1)) b.0 b.1 b.2)

  -- FINDING BY SLOT
  at_from : (slot : ℕ) → found_at image slot ≡ found_slot g image slot
  unfolding found_at
  at_from slot = rw j

  pub find_slot : (slot s offset : ℕ) → Exactly (found_at image slot ≡ label_found s offset) ((has_label g image slot ≡ true) × (s ≡ slot) × (offset ≡ label_offset g slot))
  find_slot slot s offset = (
    (λ h. go (has_label g image slot) refl (sym (at_from slot) ∙ h)),
    (λ f.
        let e : found_slot g image slot ≡ label_found slot (label_offset g slot) = rw f.0 in
        let a = at_from slot in
        let b = f.1 in
        let c = f.2 in
        cc),
  )
    where
      go : (t : Bool) → has_label g image slot ≡ t → cond t (label_found slot (label_offset g slot)) (Err (refuse 13 0)) ≡ label_found s offset
          → (has_label g image slot ≡ true) × (s ≡ slot) × (offset ≡ label_offset g slot)
      go true e h =
          let both = label_found_same slot (label_offset g slot) s offset h in
          (e, sym both.0, sym both.1)
      go false e h = never (cc)

  pub find_no_slot : (slot : ℕ) (r : Refusal) → Exactly (found_at image slot ≡ Err r) ((has_label g image slot ≡ false) × (r ≡ refuse 13 0))
  find_no_slot slot r = (
    (λ h. go (has_label g image slot) refl (sym (at_from slot) ∙ h)),
    (λ f.
        let e : found_slot g image slot ≡ Err (refuse 13 0) = rw f.0 in
        at_from slot ∙ e ∙ ap Err (sym f.1)),
  )
    where
      go : (t : Bool) → has_label g image slot ≡ t → cond t (label_found slot (label_offset g slot)) (Err (refuse 13 0)) ≡ Err r
          → (has_label g image slot ≡ false) × (r ≡ refuse 13 0)
      go true e h = never (cc)
      go false e h = (e, (cc))

  -- THE LABEL
  label_whole : (slot : ℕ) → slot ≤ slot_count g → length (label_at g image slot) ≡ 128
  unfolding label_at
  label_whole slot l =
      let n = label_room g slot (numbers_of_lem image g j) l in
      let m = image_length_lem image g j in
      simp (length-take, length-drop) (omega arith)

  handed : (slot offset : ℕ) → offset ≡ label_offset g slot → label_at g image slot ≡ take 128 (drop offset image)
  unfolding label_at
  handed slot offset e = rw e

  pub label_handed_out : (name : List ℕ) (slot offset : ℕ) → found image name ≡ label_found slot offset
      → (label_named image name ≡ take 128 (drop offset image)) × (length (label_named image name) ≡ 128)
  unfolding label_named
  label_handed_out name slot offset h =
      let f = (find_named name slot offset).0 h in
      let x : found_from g image name (slot_count g) 1 ≡ label_found slot offset = sym (found_from_lem name) ∙ h in
      let e : label_named image name ≡ label_at g image slot = rw j (rw x) in
      (e ∙ handed slot offset f.5, ap length e ∙ label_whole slot f.1)

  pub slot_handed_out : (slot s offset : ℕ) → found_at image slot ≡ label_found s offset
      → (label_in_slot image slot ≡ take 128 (drop offset image)) × (length (label_in_slot image slot) ≡ 128)
  unfolding label_in_slot
  slot_handed_out slot s offset h =
      let f = (find_slot slot s offset).0 h in
      let k = has_slot g image slot f.0 in
      let e : label_in_slot image slot ≡ label_at g image slot = rw j (rw f.0) in
      (e ∙ handed slot offset f.2, ap length e ∙ label_whole slot k.1)

-- none where refused, on any image: 13 or a refusal of the volume
pub no_label_handed_out : (image name : List ℕ) (r : Refusal) → found image name ≡ Err r → label_named image name ≡ []
unfolding label_named
no_label_handed_out image name r h = on (judged image) refl
  where
    on : (v : Result Geometry Refusal) → judged image ≡ v → label_named image name ≡ []
    on (Err x) e = rw e
    on (Ok g) e =
        let x : found_from g image name (slot_count g) 1 ≡ Err r = sym (found_from_lem image g e name) ∙ h in
        rw e (rw x)

pub no_slot_handed_out : (image : List ℕ) (slot : ℕ) (r : Refusal) → found_at image slot ≡ Err r → label_in_slot image slot ≡ []
unfolding label_in_slot
no_slot_handed_out image slot r h = on (judged image) refl
  where
    on : (v : Result Geometry Refusal) → judged image ≡ v → label_in_slot image slot ≡ []
    on (Err x) e = rw e
    on (Ok g) e =
        let f = ((find_no_slot image g e slot r).0 h).0 in
        rw e (rw f)
