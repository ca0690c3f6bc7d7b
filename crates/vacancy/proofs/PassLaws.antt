-- Request 2026-01: the lowest deleted slot, slot by slot; and a search for a run that goes on behind the extents in its way.
-- Assumes nothing.
use Rattle.std.specs.Prelude.{Ok, Some}
use Prim.Native.Nat.{ℕ, zero, suc, ◌+◌, ◌-◌, ◌<◌, ◌≤◌}
use mathlib.Core.Path.{◌≡◌, refl, sym, ap, subst, ◌∙◌}
use mathlib.Core.Bool.{Bool, true, false, cond, not}
use mathlib.Core.List.{List, [], ◌∷◌}
use lib.ListN.{get_or, length, drop, drop_of_length-le}
use lib.Seq.{drop-cons}
use native.Mathlib.Omega.{arith}
use borrow.Author.Tests.{lt-ltb, le-ltb, le-leb, lt-leb}
use Rattle.standard.specs.Layout.{slot_count, label_at}
use Rattle.standard.specs.Addresses.{rank, address_count}
use Rattle.standard.specs.Labels.{start_of, end_of}
use Rattle.standard.specs.Slots.{is_label, is_deleted}
use Rattle.standard.specs.Judgement.{judged}
use Rattle.standard.specs.Creating.{deleted_from, lowest_deleted, lowest_run}
use Rattle.standard.specs.declared.Geometry.{Geometry}
use Rattle.promises.specs.Ground.Basics.{either, lt_or_le, by_test}
use Rattle.promises.specs.Volumes.AcceptedLaws.{has_slot, label_in_range}
use Rattle.promises.specs.Volumes.FreeLaws.{has_label_lem}
use Rattle.promises.specs.Making.RunsFree.{Searched, room_skip, room_here, deleted_end}
use Rattle.promises.proofs.Making.SlotSplices.{deleted_unless}
use Rattle.index.specs.Whole.{Slotted}
use Rattle.index.specs.Extents.{start_in, end_in, extent_in, no_extent, Known}
use Rattle.index.specs.declared.Extent.{Extent}
use Rattle.index.proofs.SlotLaws.{slot_passed}
use Rattle.vacancy.specs.Passes.{past_one, past_all}

-- THE LOWEST DELETED SLOT: the slots below this one are passed
module _ (g : Geometry) (image : List ℕ) where
  pub deleted_start : lowest_deleted g image ≡ deleted_from g image (slot_count g + 1 - 1) 1
  unfolding lowest_deleted
  deleted_start = let f : slot_count g ≡ slot_count g + 1 - 1 = omega arith in ap (λ (k : ℕ). deleted_from g image k 1) f

  deleted_go : (k left slot : ℕ) → left ≡ suc k → deleted_from g image left slot ≡ cond (is_deleted g image slot) slot (deleted_from g image k (slot + 1))
  unfolding deleted_from
  deleted_go k left slot e = rw e

  module _ (s : Slotted g image) (slot : ℕ) (l : 1 ≤ slot) (m : slot < slot_count g + 1) where
    deleted_by : (t : Bool) → is_label g image slot ≡ t
        → deleted_from g image (slot_count g + 1 - slot) slot ≡ cond (not t) slot (deleted_from g image (slot_count g + 1 - (slot + 1)) (slot + 1))
    deleted_by t e =
        deleted_go (slot_count g + 1 - (slot + 1)) (slot_count g + 1 - slot) slot (omega arith)
        ∙ ap (λ (b : Bool). cond b slot (deleted_from g image (slot_count g + 1 - (slot + 1)) (slot + 1)))
        (deleted_unless g image slot (slot_passed g image slot s l (omega arith)) ∙ ap not e)

    pub deleted_here : is_label g image slot ≡ false → deleted_from g image (slot_count g + 1 - slot) slot ≡ slot
    deleted_here = deleted_by false

    pub deleted_more : is_label g image slot ≡ true → deleted_from g image (slot_count g + 1 - slot) slot ≡ deleted_from g image (slot_count g + 1 - (slot + 1)) (slot + 1)
    deleted_more = deleted_by true

  pub deleted_all : (slot : ℕ) → slot_count g + 1 ≤ slot → deleted_from g image (slot_count g + 1 - slot) slot ≡ 0
  deleted_all slot l = let e : slot_count g + 1 - slot ≡ 0 = omega arith in ap (λ (k : ℕ). deleted_from g image k slot) e ∙ deleted_end g image slot

-- ONE EXTENT, and a pass over them
module _ (n : ℕ) where
  pub one_before : (e : Extent) (start : ℕ) → e.end < start → start ≡ past_one n e start
  unfolding past_one
  one_before e start h = simp (lt-ltb e.end start h)

  pub one_behind : (e : Extent) (start : ℕ) → start ≤ e.end → start + n ≤ e.start → start ≡ past_one n e start
  unfolding past_one
  one_behind e start h k = simp (le-ltb e.end start h, le-leb (start + n) e.start k)

  pub one_met : (e : Extent) (start : ℕ) → start ≤ e.end → e.start < start + n → e.end + 1 ≡ past_one n e start
  unfolding past_one
  one_met e start h k = simp (le-ltb e.end start h, lt-leb (start + n) e.start k)

  pub pass_more : (row : List Extent) (i start : ℕ) (d : Extent) → i < length row → past_all n (drop i row) start ≡ past_all n (drop (i + 1) row) (past_one n (get_or row i d) start)
  unfolding past_all
  pass_more row i start d l = let e : suc i ≡ i + 1 = omega arith in rw (drop-cons row i d l, e) refl

  pub pass_end : (row : List Extent) (i start : ℕ) → length row ≤ i → past_all n (drop i row) start ≡ start
  unfolding past_all
  pass_end row i start l = rw (drop_of_length-le row l)

  -- it never goes back
  one_onward : (e : Extent) (start : ℕ) → start ≤ past_one n e start
  one_onward e start =
      either (lt_or_le e.end start)
      (λ (h : e.end < start). omega (arith, one_before e start h))
      (λ (h : start ≤ e.end).
      either (lt_or_le e.start (start + n))
      (λ (k : e.start < start + n). omega (arith, one_met e start h k))
      (λ (k : start + n ≤ e.start). omega (arith, one_behind e start h k)))

  pub pass_onward : (row : List Extent) (start : ℕ) → start ≤ past_all n row start
  unfolding past_all
  pass_onward [] start = omega arith
  pass_onward (e ∷ row) start = omega (arith, one_onward e start, pass_onward row (past_one n e start))

  -- a pass that moves nothing has met none
  pub pass_none : (row : List Extent) (start : ℕ) → past_all n row start ≡ start → (j : ℕ) → j < length row → past_one n (get_or row j no_extent) start ≡ start
  unfolding past_all
  pass_none [] start h j l = absurd (omega arith)
  pass_none (e ∷ row) start h j l =
      let one : past_one n e start ≡ start = omega (arith, one_onward e start, pass_onward row (past_one n e start)) in
      let rest : past_all n row start ≡ start = subst (λ (s : ℕ). past_all n row s ≡ start) one h in
      at j one (λ k m. pass_none row start rest k m) l
    where
      at : (j : ℕ) → past_one n e start ≡ start → ((k : ℕ) → k < length row → past_one n (get_or row k no_extent) start ≡ start) → j < suc (length row)
          → past_one n (get_or (e ∷ row) j no_extent) start ≡ start
      at zero one rest l = one
      at (suc k) one rest l = rest k (omega arith)

-- THE SEARCH on an accepted volume
module _ (image : List ℕ) (g : Geometry) (j : judged image ≡ Ok g) (n : ℕ) (some : 1 ≤ n) (small : n < 4294967296) where
  abbrev lo : ℕ → ℕ
  lo slot = rank g (start_of (label_at g image slot))

  abbrev hi : ℕ → ℕ
  hi slot = rank g (end_of (label_at g image slot))

  -- the extent of a slot with a label, and of one without
  label_start : (slot : ℕ) → is_label g image slot ≡ true → start_in g image slot ≡ lo slot
  unfolding start_in
  label_start slot t = rw t

  label_end : (slot : ℕ) → is_label g image slot ≡ true → end_in g image slot ≡ hi slot
  unfolding end_in
  label_end slot t = rw t

  none_start : (slot : ℕ) → is_label g image slot ≡ false → start_in g image slot ≡ 4294967295
  unfolding start_in
  none_start slot t = rw t

  none_end : (slot : ℕ) → is_label g image slot ≡ false → end_in g image slot ≡ 0
  unfolding end_in
  none_end slot t = rw t

  -- a slot without a label moves nothing
  none_moves : (slot start : ℕ) → is_label g image slot ≡ false → past_one n (extent_in g image slot) start ≡ start
  none_moves slot start t =
      either (lt_or_le 0 start)
      (λ (h : 0 < start). sym (one_before n (extent_in g image slot) start (omega (arith, none_end slot t))))
      (λ (h : start ≤ 0). sym (one_behind n (extent_in g image slot) start (omega arith) (omega (arith, none_start slot t))))

  -- one extent passed: what is looked for is still ahead
  one_searched : (slot start : ℕ) → 1 ≤ slot → slot ≤ slot_count g → Searched g image n start → Searched g image n (past_one n (extent_in g image slot) start)
  one_searched slot start l m h =
      by_test (is_label g image slot)
      (λ t. labelled t (label_start slot t) (label_end slot t))
      (λ t. subst (Searched g image n) (sym (none_moves slot start t)) h)
    where
      labelled : is_label g image slot ≡ true → start_in g image slot ≡ lo slot → end_in g image slot ≡ hi slot → Searched g image n (past_one n (extent_in g image slot) start)
      labelled t a b =
          let own = has_label_lem g image slot l m t in
          let x = extent_in g image slot in
          either (lt_or_le (end_in g image slot) start)
          (λ (y : end_in g image slot < start). subst (Searched g image n) (one_before n x start y) h)
          (λ (y : start ≤ end_in g image slot).
          either (lt_or_le (start_in g image slot) (start + n))
          (λ (z : start_in g image slot < start + n).
          let e : suc (hi slot) ≡ past_one n x start = omega (arith, b, one_met n x start y z) in
          subst (Searched g image n) e
          (room_skip g image slot own n start some (label_in_range image g slot j own).ordered (omega arith) (omega arith) h))
          (λ (z : start + n ≤ start_in g image slot). subst (Searched g image n) (one_behind n x start y z) h))

  -- the extents of the slots behind the first i
  abbrev pub Ahead : ℕ → List Extent → Type 0
  Ahead i row = (j : ℕ) → j < length row → get_or row j no_extent ≡ extent_in g image (i + j + 1)

  ahead_next : (i : ℕ) (e : Extent) (row : List Extent) → Ahead i (e ∷ row) → Ahead (i + 1) row
  ahead_next i e row a j l = let k : i + suc j + 1 ≡ i + 1 + j + 1 = omega arith in a (suc j) (omega arith) ∙ ap (extent_in g image) k

  ahead_here : (i : ℕ) (e : Extent) (row : List Extent) → Ahead i (e ∷ row) → extent_in g image (i + 1) ≡ e
  ahead_here i e row a = let k : i + 1 ≡ i + 0 + 1 = omega arith in ap (extent_in g image) k ∙ sym (a 0 (omega arith))

  passes : (i : ℕ) (row : List Extent) (start : ℕ) → Ahead i row → i + length row ≤ slot_count g → Searched g image n start → Searched g image n (past_all n row start)
  unfolding past_all
  passes i [] start a l h = h
  passes i (e ∷ row) start a l h =
      let one = one_searched (i + 1) start (omega arith) (omega arith) h in
      passes (i + 1) row (past_one n e start) (ahead_next i e row a) (omega arith) (subst (λ (x : Extent). Searched g image n (past_one n x start)) (ahead_here i e row a) one)

  -- by the extents of all slots
  module _ (row : List Extent) (known : Known g image row (slot_count g)) (whole : length row ≡ slot_count g) where
    pub pass_searched : (start : ℕ) → Searched g image n start → Searched g image n (past_all n row start)
    pass_searched start h = passes 0 row start (λ j l. let e : j + 1 ≡ 0 + j + 1 = omega arith in known.extents_are j (omega arith) ∙ ap (extent_in g image) e) (omega arith) h

    -- a pass that moves nothing: here is the lowest run
    pub pass_found : (start : ℕ) → start + n ≤ address_count g → past_all n row start ≡ start → Searched g image n start → lowest_run g image n ≡ Some start
    pass_found start inside still h =
        room_here g image n start inside
        (λ slot own a b.
        let s = has_slot g image slot own in
        let i = slot - 1 in
        let e : i + 1 ≡ slot = omega (arith, s.0) in
        let t : is_label g image slot ≡ true = s.2 in
        let x = known.extents_are i (omega (arith, s.0, s.1)) ∙ ap (extent_in g image) e in
        let same = subst (λ (y : Extent). past_one n y start ≡ start) x (pass_none n row start still i (omega (arith, s.0, s.1))) in
        let moved = one_met n (extent_in g image slot) start (omega (arith, label_end slot t, b)) (omega (arith, label_start slot t, a)) in
        omega (arith, moved, same, label_end slot t)) h
