-- Request 2026-01, "the lowest free run of n consecutive data addresses and the lowest deleted slot": what the two definitions pick, with quantifiers over
-- starts, slots and extents; and how a search passes an extent in one step.
-- Assumes nothing.
use Prim.Native.Nat.{ℕ, zero, suc, ◌+◌, ◌-◌, ◌<◌, ◌≤◌}
use Rattle.std.specs.Prelude.{◌≡◌, Bool, not, ◌&&◌, List, Option, Some, None}
use Rattle.std.proofs.Math.Path.{refl, subst}
use Rattle.std.proofs.Common.{sym, ap, ◌∙◌, eq-or-lt_of_le}
use Rattle.std.proofs.Math.Bool.{true, false, cond}
use native.Mathlib.Omega.{arith}
use Rattle.std.proofs.lemmas.Bool.{not-true}
use Rattle.standard.specs.Layout.{slot_count, label_at}
use Rattle.standard.specs.Addresses.{rank, address_count}
use Rattle.standard.specs.Labels.{start_of, end_of}
use Rattle.standard.specs.Slots.{is_label, is_deleted, has_label}
use Rattle.standard.specs.Free.{in_extent, taken}
use Rattle.standard.specs.Creating.{free_run, run_from, lowest_run, deleted_from, lowest_deleted}
use Rattle.standard.specs.declared.Geometry.{Geometry}
use Rattle.promises.specs.Ground.Basics.{either, lt_or_le, by_test, true_not_false, and_l, and_r, or_l, or_r, or_rest, never}
use Rattle.promises.specs.Volumes.AcceptedLaws.{has_slot, extent_bounds, bounds_extent}
use Rattle.promises.specs.Volumes.FreeLaws.{has_label_lem}
use Rattle.promises.specs.Refusals.Refusing.{Exactly}

-- an address is taken exactly if some label's extent has it
module _ (g : Geometry) (image : List ℕ) (i : ℕ) where
  abbrev pub TakenBy : ℕ → Type 0
  TakenBy slot = (is_label g image slot ≡ true) × (in_extent g (label_at g image slot) i ≡ true)

  pub taken_by : (n : ℕ) → taken g image i n ≡ true → (slot : ℕ) × (1 ≤ slot) × (slot ≤ n) × TakenBy slot
  unfolding taken
  taken_by zero t = absurd (true_not_false false t refl)
  taken_by (suc n) t =
      by_test (is_label g image (suc n) && in_extent g (label_at g image (suc n)) i)
      (λ y. (suc n, omega arith, omega arith, (and_l (is_label g image (suc n)) _ y, and_r (is_label g image (suc n)) _ y)))
      (λ y. let m = taken_by n (or_rest _ _ y t) in (m.0, m.1, omega (arith, m.2), m.3))

  pub untaken_by : (n : ℕ) → taken g image i n ≡ false → (slot : ℕ) → 1 ≤ slot → slot ≤ n → is_label g image slot ≡ true → in_extent g (label_at g image slot) i ≡ false
  unfolding taken
  untaken_by zero t slot l m h = absurd (omega arith)
  untaken_by (suc n) t slot l m h =
      either (eq-or-lt_of_le m)
      (λ (e : slot ≡ suc n).
      let a : is_label g image (suc n) ≡ true = subst (λ (s : ℕ). is_label g image s ≡ true) e h in
      let b : in_extent g (label_at g image (suc n)) i ≡ false = rw a at (or_l (is_label g image (suc n) && in_extent g (label_at g image (suc n)) i) _ t) in
      subst (λ (s : ℕ). in_extent g (label_at g image s) i ≡ false) (sym e) b)
      (λ (k : slot < suc n). untaken_by n (or_r (is_label g image (suc n) && in_extent g (label_at g image (suc n)) i) _ t) slot l (omega arith) h)

  pub takes : (n slot : ℕ) → 1 ≤ slot → slot ≤ n → TakenBy slot → taken g image i n ≡ true
  takes n slot l m b =
      by_test (taken g image i n) (λ t. t) (λ t. absurd (true_not_false (in_extent g (label_at g image slot) i) b.1 (untaken_by n t slot l m b.0)))

  pub none_takes : (n : ℕ) → ((slot : ℕ) → 1 ≤ slot → slot ≤ n → TakenBy slot → ⊥) → taken g image i n ≡ false
  none_takes n h =
      by_test (taken g image i n) (λ t. let m = taken_by n t in absurd (h m.0 m.1 m.2 m.3)) (λ t. t)

-- so many addresses from one on are free exactly if each of them is
module _ (g : Geometry) (image : List ℕ) where
  pub free_each : (n i : ℕ) → free_run g image n i ≡ true → (k : ℕ) → i ≤ k → k < i + n → taken g image k (slot_count g) ≡ false
  unfolding free_run
  free_each zero i h k l m = absurd (omega arith)
  free_each (suc n) i h k l m =
      either (eq-or-lt_of_le l)
      (λ (e : i ≡ k). subst (λ (x : ℕ). taken g image x (slot_count g) ≡ false) e (not-true _ (and_l (not (taken g image i (slot_count g))) _ h)))
      (λ (u : i < k). free_each n (i + 1) (and_r (not (taken g image i (slot_count g))) _ h) k (omega arith) (omega arith))

  pub free_all : (n i : ℕ) → ((k : ℕ) → i ≤ k → k < i + n → taken g image k (slot_count g) ≡ false) → free_run g image n i ≡ true
  unfolding free_run
  free_all zero i h = refl
  free_all (suc n) i h =
      rw (h i (omega arith) (omega arith)) (free_all n (i + 1) (λ k l m. h k (omega arith) (omega arith)))

  -- where they are not all free, one of them is taken
  pub one_taken : (n i : ℕ) → free_run g image n i ≡ false → (k : ℕ) × (i ≤ k) × (k < i + n) × (taken g image k (slot_count g) ≡ true)
  unfolding free_run
  one_taken zero i h = absurd (true_not_false true refl h)
  one_taken (suc n) i h =
      by_test (taken g image i (slot_count g))
      (λ t. (i, omega arith, omega arith, t))
      (λ t.
      let r : free_run g image n (i + 1) ≡ false = rw t at h in
      let m = one_taken n (i + 1) r in
      (m.0, omega (arith, m.1), omega (arith, m.2), m.3))

  -- the first start among so many
  module _ (n : ℕ) where
    abbrev First : ℕ → ℕ → ℕ → Type 0
    First left first i = (first ≤ i) × (i < first + left) × (free_run g image n i ≡ true) × ((k : ℕ) → first ≤ k → k < i → free_run g image n k ≡ false)

    from_at : (left first i : ℕ) → run_from g image n left first ≡ Some i → First left first i
    unfolding run_from
    from_at zero first i h = never (cc)
    from_at (suc left) first i h = go (free_run g image n first) refl h (λ k. from_at left (first + 1) i k)
      where
        go : (t : Bool) → free_run g image n first ≡ t → cond t (Some first) (run_from g image n left (first + 1)) ≡ Some i
            → (run_from g image n left (first + 1) ≡ Some i → First left (first + 1) i) → First (suc left) first i
        go true e k ih =
            let p : first ≡ i = cc in
            subst (λ (s : ℕ). First (suc left) first s) p (omega arith, omega arith, e, (λ k l m. absurd (omega arith)))
        go false e k ih =
            let m = ih k in (
              omega (arith, m.0),
              omega (arith, m.1),
              m.2,
              (λ k l u. either (eq-or-lt_of_le l)
                  (λ (x : first ≡ k). subst (λ (s : ℕ). free_run g image n s ≡ false) x e)
                  (λ (x : first < k). m.3 k (omega arith) u)),
            )

    from_none : (left first : ℕ) → run_from g image n left first ≡ None → (k : ℕ) → first ≤ k → k < first + left → free_run g image n k ≡ false
    unfolding run_from
    from_none zero first h k l m = absurd (omega arith)
    from_none (suc left) first h k l m = go (free_run g image n first) refl h (λ y u v. from_none left (first + 1) y k u v)
      where
        go : (t : Bool) → free_run g image n first ≡ t → cond t (Some first) (run_from g image n left (first + 1)) ≡ None
            → (run_from g image n left (first + 1) ≡ None → first + 1 ≤ k → k < first + 1 + left → free_run g image n k ≡ false) → free_run g image n k ≡ false
        go true e y ih = never (cc)
        go false e y ih =
            either (eq-or-lt_of_le l)
            (λ (x : first ≡ k). subst (λ (s : ℕ). free_run g image n s ≡ false) x e)
            (λ (x : first < k). ih y (omega arith) (omega arith))

    -- a search goes on from a start that is no run, past so many of them, and stops at a run
    pub run_here : (left i : ℕ) → free_run g image n i ≡ true → run_from g image n (suc left) i ≡ Some i
    unfolding run_from
    run_here left i h = rw h

    pub run_none : (i : ℕ) → run_from g image n 0 i ≡ None
    unfolding run_from
    run_none i = refl

    pub run_past : (d left i : ℕ) → ((k : ℕ) → i ≤ k → k < i + d → free_run g image n k ≡ false) → run_from g image n left i ≡ run_from g image n (left - d) (i + d)
    unfolding run_from
    run_past zero left i h =
        let a : left - 0 ≡ left = omega arith in
        let b : i + 0 ≡ i = omega arith in
        rw (a, b)
    run_past (suc d) zero i h =
        let a : 0 - suc d ≡ 0 = omega arith in
        rw a
    run_past (suc d) (suc left) i h =
        let a : suc left - suc d ≡ left - d = omega arith in
        let b : i + suc d ≡ i + 1 + d = omega arith in
        rw (h i (omega arith) (omega arith), a, b) (run_past d left (i + 1) (λ k l m. h k (omega arith) (omega arith)))

  -- SKIP-RUN: if a label's extent meets the addresses from i to i+n-1, no run of n starts from i to its end
  module _ (slot : ℕ) (has : has_label g image slot ≡ true) where
    abbrev lo : ℕ
    lo = rank g (start_of (label_at g image slot))

    abbrev hi : ℕ
    hi = rank g (end_of (label_at g image slot))

    pub extent_takes : (k : ℕ) → lo ≤ k → k ≤ hi → taken g image k (slot_count g) ≡ true
    extent_takes k l m =
        let s = has_slot g image slot has in
        takes g image k (slot_count g) slot s.0 s.1 (s.2, bounds_extent g (label_at g image slot) k l m)

    pub run_meets : (n k : ℕ) → lo ≤ hi → lo < k + n → k ≤ hi → 1 ≤ n → free_run g image n k ≡ false
    run_meets n k o a b p =
        by_test (free_run g image n k)
        (λ f. either (lt_or_le lo k)
        (λ (x : lo < k). absurd (true_not_false (taken g image k (slot_count g)) (extent_takes k (omega arith) b) (free_each n k f k (omega arith) (omega arith))))
        (λ (x : k ≤ lo). absurd (true_not_false (taken g image lo (slot_count g)) (extent_takes lo (omega arith) o) (free_each n k f lo x a))))
        (λ f. f)

    pub skip_run : (n left i : ℕ) → 1 ≤ n → lo ≤ hi → lo < i + n → i ≤ hi
        → run_from g image n left i ≡ run_from g image n (left - (suc hi - i)) (suc hi)
    skip_run n left i p o a b =
        let e : i + (suc hi - i) ≡ suc hi = omega arith in
        run_past n (suc hi - i) left i (λ k l m. run_meets n k o (omega arith) (omega arith) p)
        ∙ ap (λ (x : ℕ). run_from g image n (left - (suc hi - i)) x) e

  -- where no label's extent meets them, they are free
  pub none_meets : (n i : ℕ)
      → ((slot : ℕ) → has_label g image slot ≡ true → rank g (start_of (label_at g image slot)) < i + n → i ≤ rank g (end_of (label_at g image slot)) → ⊥)
      → free_run g image n i ≡ true
  none_meets n i h =
      free_all n i (λ k l m.
      none_takes g image k (slot_count g) (λ slot u v b.
      let e = extent_bounds g (label_at g image slot) k b.1 in
      h slot (has_label_lem g image slot u v b.0) (omega (arith, e.0)) (omega (arith, e.1))))

  -- A FREE RUN OF n ADDRESSES FROM THE i-th ON, with no word of the search: it lies inside, and no label's extent has one of them
  pub record Free (n i : ℕ) : Type 0 where
    pub inside : i + n ≤ address_count g
    pub free : (k : ℕ) → i ≤ k → k < i + n → (slot : ℕ) → has_label g image slot ≡ true → in_extent g (label_at g image slot) k ≡ false

  pub free_run_lem : (n i : ℕ) → i + n ≤ address_count g → free_run g image n i ≡ true → Free n i
  free_run_lem n i l f =
      record {
        inside = l;
        free = λ k a b slot h. let s = has_slot g image slot h in untaken_by g image k (slot_count g) (free_each n i f k a b) slot s.0 s.1 s.2;
      }

  pub run_free : (n i : ℕ) → Free n i → free_run g image n i ≡ true
  run_free n i f =
      free_all n i (λ k a b. none_takes g image k (slot_count g)
      (λ slot l m t. true_not_false (in_extent g (label_at g image slot) k) t.1 (f.free k a b slot (has_label_lem g image slot l m t.0))))

  -- THE LOWEST FREE RUN: free, inside, and no lower start has that
  pub record Lowest (n i : ℕ) : Type 0 where
    pub run : Free n i
    pub lowest : (k : ℕ) → k < i → Free n k → ⊥

  pub lowest_run_lem : (n i : ℕ) → lowest_run g image n ≡ Some i → Lowest n i
  unfolding lowest_run
  lowest_run_lem n i h =
      let f = from_at n (suc (address_count g) - n) 0 i h in
      record {
        run = free_run_lem n i (omega (arith, f.1)) f.2;
        lowest = λ k l r. true_not_false (free_run g image n k) (run_free n k r) (f.3 k (omega arith) l);
      }

  pub no_run : (n : ℕ) → lowest_run g image n ≡ None → (i : ℕ) → Free n i → ⊥
  unfolding lowest_run
  no_run n h i r =
      true_not_false (free_run g image n i) (run_free n i r)
      (from_none n (suc (address_count g) - n) 0 h i (omega arith) (omega (arith, r.inside)))

  room_is : (n : ℕ) (r : Option ℕ) → lowest_run g image n ≡ r → ((i : ℕ) → Free n i → ⊥) → lowest_run g image n ≡ None
  room_is n None e h = e
  room_is n (Some i) e h = absurd (h i (lowest_run_lem n i e).run)

  lowest_is : (n i : ℕ) (r : Option ℕ) → lowest_run g image n ≡ r → Lowest n i → lowest_run g image n ≡ Some i
  lowest_is n i None e w = absurd (no_run n e i w.run)
  lowest_is n i (Some k) e w =
      let v = lowest_run_lem n k e in
      either (lt_or_le k i)
      (λ (l : k < i). absurd (w.lowest k l v.run))
      (λ (m : i ≤ k).
      either (eq-or-lt_of_le m) (λ (q : i ≡ k). e ∙ ap Some (sym q)) (λ (l : i < k). absurd (v.lowest i l w.run)))

  pub lowest_run_exactly : (n i : ℕ) → Exactly (lowest_run g image n ≡ Some i) (Lowest n i)
  lowest_run_exactly n i = (lowest_run_lem n i, lowest_is n i (lowest_run g image n) refl)

  pub no_run_exactly : (n : ℕ) → Exactly (lowest_run g image n ≡ None) ((i : ℕ) → Free n i → ⊥)
  no_run_exactly n = (no_run n, room_is n (lowest_run g image n) refl)

  -- THERE IS NO RUN EXACTLY IF every n addresses in a row have one in some label's extent
  pub record Blocked (n i : ℕ) : Type 0 where
    pub address : ℕ
    pub low : i ≤ address
    pub high : address < i + n
    pub slot : ℕ
    pub has : has_label g image slot ≡ true
    pub inside : in_extent g (label_at g image slot) address ≡ true

  pub run_blocked : (n i : ℕ) → free_run g image n i ≡ false → Blocked n i
  run_blocked n i f =
      let m = one_taken n i f in
      let t = taken_by g image m.0 (slot_count g) m.3 in
      record { address = m.0; low = m.1; high = m.2; slot = t.0; has = has_label_lem g image t.0 t.1 t.2 t.3.0; inside = t.3.1 }

  pub blocked_exactly : (n : ℕ) → Exactly (lowest_run g image n ≡ None) ((i : ℕ) → i + n ≤ address_count g → Blocked n i)
  blocked_exactly n = (
    (λ h i l.
        by_test (free_run g image n i) (λ f. absurd (no_run n h i (free_run_lem n i l f))) (λ f. run_blocked n i f)),
    (λ h. (no_run_exactly n).1 (λ i r.
        let b = h i r.inside in
        true_not_false (in_extent g (label_at g image b.slot) b.address) b.inside (r.free b.address b.low b.high b.slot b.has))),
  )

  -- "the lowest deleted slot"
  abbrev FirstDeleted : ℕ → ℕ → ℕ → Type 0
  FirstDeleted left first slot =
      (first ≤ slot) × (slot < first + left) × (is_deleted g image slot ≡ true) × ((k : ℕ) → first ≤ k → k < slot → is_deleted g image k ≡ false)

  deleted_at : (left first slot : ℕ) → 1 ≤ first → deleted_from g image left first ≡ slot → 1 ≤ slot → FirstDeleted left first slot
  unfolding deleted_from
  deleted_at zero first slot o h p = absurd (omega arith)
  deleted_at (suc left) first slot o h p = go (is_deleted g image first) refl h (λ k. deleted_at left (first + 1) slot (omega arith) k p)
    where
      go : (t : Bool) → is_deleted g image first ≡ t → cond t first (deleted_from g image left (first + 1)) ≡ slot
          → (deleted_from g image left (first + 1) ≡ slot → FirstDeleted left (first + 1) slot) → FirstDeleted (suc left) first slot
      go true e q ih =
          subst (λ (s : ℕ). FirstDeleted (suc left) first s) q (omega arith, omega arith, e, (λ k l m. absurd (omega arith)))
      go false e q ih =
          let m = ih q in (
            omega (arith, m.0),
            omega (arith, m.1),
            m.2,
            (λ k l u. either (eq-or-lt_of_le l)
                (λ (x : first ≡ k). subst (λ (s : ℕ). is_deleted g image s ≡ false) x e)
                (λ (x : first < k). m.3 k (omega arith) u)),
          )

  deleted_none : (left first : ℕ) → 1 ≤ first → deleted_from g image left first ≡ 0 → (slot : ℕ) → first ≤ slot → slot < first + left → is_deleted g image slot ≡ false
  unfolding deleted_from
  deleted_none zero first o h slot l m = absurd (omega arith)
  deleted_none (suc left) first o h slot l m = go (is_deleted g image first) refl h (λ y u v. deleted_none left (first + 1) (omega arith) y slot u v)
    where
      go : (t : Bool) → is_deleted g image first ≡ t → cond t first (deleted_from g image left (first + 1)) ≡ 0
          → (deleted_from g image left (first + 1) ≡ 0 → first + 1 ≤ slot → slot < first + 1 + left → is_deleted g image slot ≡ false) → is_deleted g image slot ≡ false
      go true e y ih = absurd (omega arith)
      go false e y ih =
          either (eq-or-lt_of_le l)
          (λ (x : first ≡ slot). subst (λ (s : ℕ). is_deleted g image s ≡ false) x e)
          (λ (x : first < slot). ih y (omega arith) (omega arith))

  pub record LowestDeleted (slot : ℕ) : Type 0 where
    pub low : 1 ≤ slot
    pub high : slot ≤ slot_count g
    pub deleted : is_deleted g image slot ≡ true
    pub lowest : (k : ℕ) → 1 ≤ k → k < slot → is_deleted g image k ≡ false

  pub lowest_deleted_lem : (slot : ℕ) → lowest_deleted g image ≡ slot → 1 ≤ slot → LowestDeleted slot
  unfolding lowest_deleted
  lowest_deleted_lem slot h p =
      let d = deleted_at (slot_count g) 1 slot (omega arith) h p in
      record { low = p; high = omega (arith, d.1); deleted = d.2; lowest = d.3 }

  pub none_deleted : lowest_deleted g image ≡ 0 → (slot : ℕ) → 1 ≤ slot → slot ≤ slot_count g → is_deleted g image slot ≡ false
  unfolding lowest_deleted
  none_deleted h slot l m = deleted_none (slot_count g) 1 (omega arith) h slot l (omega arith)

  pub lowest_deleted_exactly : (slot : ℕ) → Exactly ((lowest_deleted g image ≡ slot) × (1 ≤ slot)) (LowestDeleted slot)
  lowest_deleted_exactly slot = (
    (λ h. lowest_deleted_lem slot h.0 h.1),
    (λ w.
        either (lt_or_le 0 (lowest_deleted g image))
        (λ (p : 0 < lowest_deleted g image).
        let v = lowest_deleted_lem (lowest_deleted g image) refl p in
        either (lt_or_le (lowest_deleted g image) slot)
        (λ (l : lowest_deleted g image < slot). absurd (true_not_false _ v.deleted (w.lowest (lowest_deleted g image) p l)))
        (λ (m : slot ≤ lowest_deleted g image).
        either (eq-or-lt_of_le m) (λ (q : slot ≡ lowest_deleted g image). (sym q, w.low))
        (λ (l : slot < lowest_deleted g image). absurd (true_not_false _ w.deleted (v.lowest slot w.low l)))))
        (λ (z : lowest_deleted g image ≤ 0).
        absurd (true_not_false _ w.deleted (none_deleted (omega arith) slot w.low w.high)))),
  )

  -- FOR A SEARCH IN STEPS: so far every start below is none, that is, what is looked for is what is left from here on
  abbrev pub Searched : ℕ → ℕ → Type 0
  Searched n start = lowest_run g image n ≡ run_from g image n (suc (address_count g) - n - start) start

  pub room_start : (n : ℕ) → Searched n 0
  unfolding lowest_run
  room_start n =
      let e : suc (address_count g) - n - 0 ≡ suc (address_count g) - n = omega arith in
      rw e

  -- an extent that meets the n addresses from here on: go on behind its end
  pub room_skip : (slot : ℕ) (has : has_label g image slot ≡ true) (n start : ℕ) → 1 ≤ n → lo slot has ≤ hi slot has → lo slot has < start + n → start ≤ hi slot has
      → Searched n start → Searched n (suc (hi slot has))
  room_skip slot has n start p o a b h =
      let e : suc (address_count g) - n - start - (suc (hi slot has) - start) ≡ suc (address_count g) - n - suc (hi slot has) = omega arith in
      h ∙ skip_run slot has n (suc (address_count g) - n - start) start p o a b ∙ ap (λ (x : ℕ). run_from g image n x (suc (hi slot has))) e

  -- no extent meets them: found
  pub room_here : (n start : ℕ) → start + n ≤ address_count g
      → ((slot : ℕ) → has_label g image slot ≡ true → rank g (start_of (label_at g image slot)) < start + n → start ≤ rank g (end_of (label_at g image slot)) → ⊥)
      → Searched n start → lowest_run g image n ≡ Some start
  room_here n start l f h =
      let e : suc (address_count g) - n - start ≡ suc (address_count g - n - start) = omega arith in
      h ∙ ap (λ (x : ℕ). run_from g image n x start) e ∙ run_here n (address_count g - n - start) start (none_meets n start f)

  -- too few addresses are left
  pub room_full : (n start : ℕ) → address_count g < start + n → Searched n start → lowest_run g image n ≡ None
  room_full n start l h =
      let e : suc (address_count g) - n - start ≡ 0 = omega arith in
      h ∙ ap (λ (x : ℕ). run_from g image n x start) e ∙ run_none n start

  -- the slots one by one: of `count` slots the first `i` are passed
  deleted_go : (k left slot : ℕ) → left ≡ suc k → deleted_from g image left slot ≡ cond (is_deleted g image slot) slot (deleted_from g image k (slot + 1))
  unfolding deleted_from
  deleted_go k left slot e = rw e

  pub deleted_next : (count i : ℕ) → i < count
      → deleted_from g image (count - i) (i + 1) ≡ cond (is_deleted g image (i + 1)) (i + 1) (deleted_from g image (count - (i + 1)) (i + 1 + 1))
  deleted_next count i l = deleted_go (count - (i + 1)) (count - i) (i + 1) (omega arith)

  pub deleted_end : (slot : ℕ) → deleted_from g image 0 slot ≡ 0
  unfolding deleted_from
  deleted_end slot = refl
