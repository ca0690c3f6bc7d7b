-- Finding: the walk over the slots, and each way out of a call that looks for a label.
-- Assumes nothing.
use Prim.Native.Nat.{ℕ, zero, suc, ◌+◌, ◌-◌, ◌<◌, ◌≤◌}
use mathlib.Core.Path.{◌≡◌, refl, sym, ap, subst, ◌∙◌}
use mathlib.Core.Bool.{Bool, true, false, cond, not}
use mathlib.Core.List.{List, []}
use lib.ListN.{length}
use lib.Dec.{eqb}
use native.Mathlib.Omega.{arith}
use denote.Ref.{Bor}
use borrow.Author.Tests.{lt-leb, le-leb, ne_eqb}
use Rattle.standard.specs.Characters.{same}
use Rattle.standard.specs.Refusals.{refuse}
use Rattle.standard.specs.Layout.{slot_count, label_offset, label_at}
use Rattle.standard.specs.Labels.{known_level, name_of}
use Rattle.standard.specs.Slots.{is_label, has_label}
use Rattle.standard.specs.Judgement.{judged}
use Rattle.standard.specs.Finding.{is_named, found_from, found, found_at, label_part, label_named, label_in_slot, label_found}
use Rattle.standard.specs.declared.Geometry.{Geometry}
use Rattle.standard.specs.declared.Refusal.{Refusal}
use Rattle.standard.specs.declared.Found.{Found}
use Rattle.promises.specs.Ground.Basics.{by_test}
use Rattle.promises.specs.Volumes.AcceptedLaws.{has_slot}
use Rattle.layout.specs.Parts.{stands_at}
use Rattle.layout.specs.Room.{Room}
use Rattle.std.specs.Prelude.{Option, Some, None, Result, Ok, Err}
use Rattle.index.specs.Whole.{Slotted, some_slot}
use Rattle.index.proofs.SlotLaws.{slot_found, slot_missed}
use Rattle.index.proofs.NameLaws.{known_in}
use Rattle.finding.specs.Handed.{HandedOut}
use Rattle.finding.specs.Slot.{slot_in, slot_named}

-- a test of what a call answered, said of what the call is about
pub tested : (x y t : Bool) → x ≡ y → not x ≡ t → not y ≡ t
tested x y t e q = ap not (sym e) ∙ q

pub level_tested : (s h : List ℕ) (x t : Bool) → s ≡ h → x ≡ known_level s → not x ≡ t → not (known_level h) ≡ t
level_tested s h x t e f q = tested x (known_level h) t (f ∙ ap known_level e) q

-- a slot that has a label: of any number
module _ (g : Geometry) (image : List ℕ) (slot : ℕ) where
  pub slot_low : slot < 1 → false ≡ has_label g image slot
  unfolding has_label
  slot_low h = simp (lt-leb 1 slot h)

  pub slot_high : 1 ≤ slot → slot_count g < slot → false ≡ has_label g image slot
  unfolding has_label
  slot_high l h = simp (le-leb 1 slot l, lt-leb slot (slot_count g) h)

  pub slot_inside : (r : Bool) → 1 ≤ slot → slot ≤ slot_count g → r ≡ is_label g image slot → r ≡ has_label g image slot
  unfolding has_label
  slot_inside r l m e = simp (le-leb 1 slot l, le-leb slot (slot_count g) m) e

-- there is room where a label is read
pub room : (g : Geometry) (image : List ℕ) (slot : ℕ) → Slotted g image → slot ≤ slot_count g → Room g image slot
room g image slot s m =
    let w = s.whole in
    record { small = omega (arith, w.few); indexed = omega (arith, w.indexed); inside = w.inside }

pub room_there : (g : Geometry) (image : List ℕ) (slot : ℕ) → Slotted g image → has_label g image slot ≡ true → Room g image slot
room_there g image slot s h = room g image slot s (has_slot g image slot h).1

-- a slot that bears the name
module _ (g : Geometry) (image name : List ℕ) where
  pub unnamed : (slot : ℕ) → known_in g image slot ≡ false → false ≡ is_named g image name slot
  unfolding is_named
  unnamed slot k = rw k

  pub named_by : (slot : ℕ) (r : Bool) → known_in g image slot ≡ true → r ≡ same (name_of (label_at g image slot)) name → r ≡ is_named g image name slot
  unfolding is_named
  named_by slot r k e = rw k e

  -- the walk: the slots below this one are passed
  module _ (slot : ℕ) where
    walk_go : (k : ℕ) → slot_count g + 1 - slot ≡ suc k → found_from g image name (slot_count g + 1 - slot) slot
        ≡ cond (is_named g image name slot) (label_found slot (label_offset g slot)) (found_from g image name k (slot + 1))
    unfolding found_from
    walk_go k e = rw e

    walk_by : (t : Bool) → slot < slot_count g + 1 → is_named g image name slot ≡ t
        → slot_in (found_from g image name (slot_count g + 1 - slot) slot)
        ≡ slot_in (cond t (label_found slot (label_offset g slot)) (found_from g image name (slot_count g + 1 - (slot + 1)) (slot + 1)))
    walk_by t h e =
        ap slot_in
        (walk_go (slot_count g + 1 - (slot + 1)) (omega arith)
        ∙ ap (λ (b : Bool). cond b (label_found slot (label_offset g slot)) (found_from g image name (slot_count g + 1 - (slot + 1)) (slot + 1))) e)

    pub walk_met : slot < slot_count g + 1 → is_named g image name slot ≡ true → slot_in (found_from g image name (slot_count g + 1 - slot) slot) ≡ slot
    walk_met h e = walk_by true h e

    pub walk_more : slot < slot_count g + 1 → is_named g image name slot ≡ false
        → slot_in (found_from g image name (slot_count g + 1 - slot) slot) ≡ slot_in (found_from g image name (slot_count g + 1 - (slot + 1)) (slot + 1))
    walk_more h e = walk_by false h e

    pub walk_end : slot_count g + 1 ≤ slot → slot_in (found_from g image name (slot_count g + 1 - slot) slot) ≡ 0
    unfolding found_from
    walk_end h = let e : slot_count g + 1 - slot ≡ 0 = omega arith in rw e

  pub walk_start : slot_named g image name ≡ slot_in (found_from g image name (slot_count g + 1 - 1) 1)
  unfolding slot_named
  walk_start = let f : slot_count g ≡ slot_count g + 1 - 1 = omega arith in ap (λ (k : ℕ). slot_in (found_from g image name k 1)) f

  -- what the search for it answered
  pub named_slot : (r : Option ℕ) (s : ℕ) → r ≡ some_slot (slot_named g image name) → r ≡ Some s → (s ≡ slot_named g image name) × (s ≡ 0 → ⊥)
  named_slot r s e h = let f = slot_found (slot_named g image name) s (sym e ∙ h) in (f.0, λ (z : s ≡ 0). omega (arith, f.0, f.1, z))

  pub no_named : (r : Option ℕ) → r ≡ some_slot (slot_named g image name) → r ≡ None → slot_named g image name ≡ 0
  no_named r e h = slot_missed (slot_named g image name) (sym e ∙ h)

  -- the slot says all of what is found
  abbrev told : ℕ → Result Found Refusal
  told slot = cond (eqb slot 0) (Err (refuse 13 0)) (label_found slot (label_offset g slot))

  tells : (left first : ℕ) → 1 ≤ first → found_from g image name left first ≡ told (slot_in (found_from g image name left first))
  unfolding found_from
  tells zero first l = refl
  tells (suc left) first l =
      by_test (is_named g image name first)
      (λ t. rw t (simp (ne_eqb first 0 (λ (z : first ≡ 0). omega arith))))
      (λ t. rw t (tells left (first + 1) (omega arith)))

  found_told : found_from g image name (slot_count g) 1 ≡ told (slot_named g image name)
  unfolding slot_named
  found_told = tells (slot_count g) 1 (omega arith)

  pub found_none : slot_named g image name ≡ 0 → found_from g image name (slot_count g) 1 ≡ Err (refuse 13 0)
  found_none e = found_told ∙ ap told e

  pub found_some : (s : ℕ) → s ≡ slot_named g image name → (s ≡ 0 → ⊥) → found_from g image name (slot_count g) 1 ≡ label_found s (label_offset g s)
  found_some s e n = found_told ∙ ap told (sym e) ∙ simp (ne_eqb s 0 n)

  -- by name, on an accepted volume
  module _ (j : judged image ≡ Ok g) where
    pub not_found : slot_named g image name ≡ 0 → Err (refuse 13 0) ≡ found image name
    unfolding found
    not_found e = rw j (sym (found_none e))

    pub found_there : (s o : ℕ) → s ≡ slot_named g image name → (s ≡ 0 → ⊥) → o ≡ label_offset g s → label_found s o ≡ found image name
    unfolding found
    found_there s o e n q = rw j (ap (label_found s) q ∙ sym (found_some s e n))

    pub no_label_named : slot_named g image name ≡ 0 → [] ≡ label_named image name
    unfolding label_named
    no_label_named e = rw j (ap (label_part g image) (sym (found_none e)))

    pub label_of_name : (s : ℕ) (h : List ℕ) → s ≡ slot_named g image name → (s ≡ 0 → ⊥) → h ≡ label_at g image s → h ≡ label_named image name
    unfolding label_named
    label_of_name s h e n q = rw j (q ∙ ap (label_part g image) (sym (found_some s e n)))

-- by slot, on an accepted volume
module _ (g : Geometry) (image : List ℕ) (slot : ℕ) (j : judged image ≡ Ok g) where
  pub no_slot : has_label g image slot ≡ false → Err (refuse 13 0) ≡ found_at image slot
  unfolding found_at
  no_slot e = rw j (simp e)

  pub slot_there : (o : ℕ) → has_label g image slot ≡ true → o ≡ label_offset g slot → label_found slot o ≡ found_at image slot
  unfolding found_at
  slot_there o e q = rw j (simp e (ap (label_found slot) q))

  pub no_label_there : has_label g image slot ≡ false → [] ≡ label_in_slot image slot
  unfolding label_in_slot
  no_label_there e = rw j (rw e)

  pub label_there : (h : List ℕ) → has_label g image slot ≡ true → h ≡ label_at g image slot → h ≡ label_in_slot image slot
  unfolding label_in_slot
  label_there h e q = rw j (rw e q)

-- on a refused volume
module _ (image : List ℕ) (r : Refusal) (j : judged image ≡ Err r) where
  pub found_refused : (name : List ℕ) → Err r ≡ found image name
  unfolding found
  found_refused name = rw j

  pub slot_refused : (slot : ℕ) → Err r ≡ found_at image slot
  unfolding found_at
  slot_refused slot = rw j

  pub label_refused : (name : List ℕ) → [] ≡ label_named image name
  unfolding label_named
  label_refused name = rw j

  pub slot_label_refused : (slot : ℕ) → [] ≡ label_in_slot image slot
  unfolding label_in_slot
  slot_label_refused slot = rw j

-- what is handed out: nothing, or the label where it stands
module _ (image : Bor (List ℕ)) (f : Result Found Refusal) (r : Bor (List ℕ)) where
  pub hands_nothing : (refusal : Refusal) → Err refusal ≡ f → r.now ≡ [] → HandedOut image f r
  unfolding HandedOut
  hands_nothing refusal e h = subst (λ (x : Result Found Refusal). HandedOut image x r) e h

  pub hands_label : (g : Geometry) (slot : ℕ) → label_found slot (label_offset g slot) ≡ f → r.now ≡ label_at g image.now slot → length r.now ≡ 128
      → r.ref_ptr ≡ stands_at image (label_offset g slot) → HandedOut image f r
  unfolding HandedOut label_at
  hands_label g slot e h l p = subst (λ (x : Result Found Refusal). HandedOut image x r) e (record { begins = p; long = l; bytes = h })
