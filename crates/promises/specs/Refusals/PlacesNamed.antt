-- What the places of refusals name: "6 and 17 name the first such sector", "11, 12 name the lowest slot clashing with a lower one", "slots checked one by
-- one through 8, 9, 10", and "In all three labels a fault is reported at its field's first position, the lowest first."
-- Assumes nothing.
use Prim.Native.Nat.{ℕ, zero, suc, ◌+◌, ◌-◌, ◌<◌, ◌≤◌}
use Rattle.std.specs.Prelude.{◌≡◌, Bool, not, ◌&&◌, ◌||◌, ◌⊎◌, length, eqb, Result, Ok, Err, ⊤}
use Rattle.std.proofs.Math.Path.{refl, ap, subst}
use Rattle.std.proofs.Common.{sym, ◌∙◌, inl, inr, arith, eq-or-lt_of_le, ltb-true, lt-ltb}
use Rattle.std.proofs.Math.Bool.{true, false, cond}
use mathlib.Core.List.{List, [], ◌∷◌, ◌++◌}
use Rattle.std.proofs.Math.Dec.{ltb}
use Rattle.std.proofs.lemmas.Bool.{not-true, not-false}
use Rattle.standard.specs.Characters.{one_of}
use Rattle.standard.specs.Refusals.{refuse, refuse_at, given_when, in_order, or_else}
use Rattle.standard.specs.Rules.{Row, row, lowest_fault}
use Rattle.standard.specs.Layout.{slot_count, sector_count, label_at}
use Rattle.standard.specs.Volume.{vol1_rules}
use Rattle.standard.specs.Defects.{ermap_rules}
use Rattle.standard.specs.Addresses.{ordinal}
use Rattle.standard.specs.Labels.{known_level, name_of, hdr1_rules, label_fault}
use Rattle.standard.specs.Slots.{is_label, is_deleted, is_unreadable, slot_refusal, slots_from}
use Rattle.standard.specs.Judgement.{legal_kind, kinds_from, refusal3, refusal6, refusal7, refusal8to10, clashes_below, clashes_from, shares, same_name, namesake, refusal11, refusal12}
use Rattle.standard.specs.Files.{is_wrong, wrong_among}
use Rattle.standard.specs.Writing.{wrong_length, lengths_from}
use Rattle.standard.specs.declared.Geometry.{Geometry}
use Rattle.standard.specs.declared.Address.{Address}
use Rattle.standard.specs.declared.Refusal.{Refusal}
use Rattle.promises.specs.Ground.Basics.{either, by_test, true_not_false, and_l, and_r, or_right, or_rest, never}
use Rattle.promises.specs.Ground.Lists.{Every}
use Rattle.promises.specs.Volumes.Judging.{numbered, none_below, readable}
use Rattle.promises.specs.Refusals.Refusing.{Exactly}
use Rattle.promises.specs.Volumes.FindingLaws.{same_exactly}

-- ---- the first of so many numbers from one on
pub record FirstIn (first left : ℕ) (Is Not : ℕ → Type 0) : Type 0 where
  pub place : ℕ
  pub low : first ≤ place
  pub high : place < first + left
  pub is_so : Is place
  pub none_lower : (k : ℕ) → first ≤ k → k < place → Not k

first_map : (first left : ℕ) (Is Not Is' Not' : ℕ → Type 0) → ((n : ℕ) → Is n → Is' n) → ((n : ℕ) → first ≤ n → n < first + left → Not n → Not' n)
    → FirstIn first left Is Not → FirstIn first left Is' Not'
first_map first left Is Not Is' Not' f h x =
    record {
      place = x.place;
      low = x.low;
      high = x.high;
      is_so = f x.place x.is_so;
      none_lower = λ k l m. h k l (omega (arith, x.high)) (x.none_lower k l m);
    }

abbrev Walked : (ℕ → Result ⊤ Refusal) → ℕ → ℕ → Refusal → Type 0
Walked one left first r = FirstIn first left (λ n. one n ≡ Err r) (λ n. one n ≡ Ok tt)

-- a walk that asks one number after the other
module _ (run : ℕ → ℕ → Result ⊤ Refusal) (one : ℕ → Result ⊤ Refusal) (none : (n : ℕ) → run zero n ≡ Ok tt)
    (more : (left n : ℕ) → run (suc left) n ≡ or_else (one n) (run left (n + 1))) where
  here_or_on : (left first : ℕ) (r : Refusal) (c : Result ⊤ Refusal) → one first ≡ c → or_else c (run left (first + 1)) ≡ Err r
      → (run left (first + 1) ≡ Err r → Walked one left (first + 1) r) → Walked one (suc left) first r
  unfolding or_else
  here_or_on left first r (Err q) e h ih =
      record { place = first; low = omega arith; high = omega arith; is_so = e ∙ h; none_lower = λ k l m. absurd (omega arith) }
  here_or_on left first r (Ok _) e h ih =
      let f = ih h in
      record {
        place = f.place;
        low = omega (arith, f.low);
        high = omega (arith, f.high);
        is_so = f.is_so;
        none_lower = λ k l m. either (eq-or-lt_of_le l)
            (λ (x : first ≡ k). subst (λ (n : ℕ). one n ≡ Ok tt) x e)
            (λ (x : first < k). f.none_lower k (omega arith) m);
      }

  run_first : (left first : ℕ) (r : Refusal) → run left first ≡ Err r → Walked one left first r
  run_first zero first r h = let z = none first in never (cc)
  run_first (suc left) first r h =
      here_or_on left first r (one first) refl (sym (more left first) ∙ h) (λ k. run_first left (first + 1) r k)

  first_run : (left first : ℕ) (r : Refusal) → Walked one left first r → run left first ≡ Err r
  unfolding or_else
  first_run zero first r f = absurd (omega (arith, f.low, f.high))
  first_run (suc left) first r f =
      more left first ∙ either (eq-or-lt_of_le f.low)
      (λ (x : first ≡ f.place).
      let e : one first ≡ Err r = subst (λ (n : ℕ). one n ≡ Err r) (sym x) f.is_so in
      rw e)
      (λ (x : first < f.place).
      let e = f.none_lower first (omega arith) x in
      rw e (first_run left (first + 1) r
      (record { place = f.place; low = omega arith; high = omega (arith, f.high); is_so = f.is_so; none_lower = λ k l m. f.none_lower k (omega arith) m })))

-- ---- the first of a list, and how many stand before it
pub record FirstOf {A : Type 0} (Is : ℕ → A → Type 0) (Not : A → Type 0) (xs : List A) : Type 0 where
  pub earlier : List A
  pub it : A
  pub later : List A
  pub stands : xs ≡ earlier ++ (it ∷ later)
  pub is_so : Is (length earlier) it
  pub none_earlier : Every Not earlier

module _ {A : Type 0} (test : A → Bool) (ref : ℕ → A → Refusal) where
  abbrev Listed : ℕ → Refusal → List A → Type 0
  Listed i r xs = FirstOf (λ n a. (test a ≡ true) × (r ≡ ref (i + n) a)) (λ a. test a ≡ false) xs

  one_later : (i : ℕ) (r : Refusal) (a : A) (xs : List A) → test a ≡ false → Listed (i + 1) r xs → Listed i r (a ∷ xs)
  one_later i r a xs e f =
      let n : (i + 1) + length f.earlier ≡ i + suc (length f.earlier) = omega arith in
      record {
        earlier = a ∷ f.earlier;
        it = f.it;
        later = f.later;
        stands = ap (λ (l : List A). a ∷ l) f.stands;
        is_so = (f.is_so.0, f.is_so.1 ∙ ap (λ (m : ℕ). ref m f.it) n);
        none_earlier = (e, f.none_earlier);
      }

  module _ (run : ℕ → List A → Result ⊤ Refusal) (none : (i : ℕ) → run i [] ≡ Ok tt)
      (more : (i : ℕ) (a : A) (xs : List A) → run i (a ∷ xs) ≡ cond (test a) (Err (ref i a)) (run (i + 1) xs)) where
    list_first : (xs : List A) (i : ℕ) (r : Refusal) → run i xs ≡ Err r → Listed i r xs
    list_first [] i r h = let z = none i in never (cc)
    list_first (a ∷ xs) i r h = go (test a) refl (sym (more i a xs) ∙ h) (λ k. list_first xs (i + 1) r k)
      where
        go : (t : Bool) → test a ≡ t → cond t (Err (ref i a)) (run (i + 1) xs) ≡ Err r → (run (i + 1) xs ≡ Err r → Listed (i + 1) r xs) → Listed i r (a ∷ xs)
        go true e k ih =
            let z : i ≡ i + 0 = omega arith in
            let q : ref i a ≡ r = cc in
            record { earlier = []; it = a; later = xs; stands = refl; is_so = (e, sym q ∙ ap (λ (m : ℕ). ref m a) z); none_earlier = tt }
        go false e k ih = one_later i r a xs e (ih k)

    behind : (earlier later : List A) (a : A) (i : ℕ) (r : Refusal) → Every (λ x. test x ≡ false) earlier → test a ≡ true → r ≡ ref (i + length earlier) a
        → run i (earlier ++ (a ∷ later)) ≡ Err r
    behind [] later a i r h e q =
        let z : i + 0 ≡ i = omega arith in
        more i a later ∙ rw e (ap Err (sym (q ∙ ap (λ (m : ℕ). ref m a) z)))
    behind (x ∷ earlier) later a i r h e q =
        let n : i + suc (length earlier) ≡ (i + 1) + length earlier = omega arith in
        more i x (earlier ++ (a ∷ later)) ∙ rw h.0 (behind earlier later a (i + 1) r h.1 e (q ∙ ap (λ (m : ℕ). ref m a) n))

    first_list : (xs : List A) (i : ℕ) (r : Refusal) → Listed i r xs → run i xs ≡ Err r
    first_list xs i r f = ap (run i) f.stands ∙ behind f.earlier f.later f.it i r f.none_earlier f.is_so.0 f.is_so.1

    listed : (xs : List A) (i : ℕ) (r : Refusal) → Exactly (run i xs ≡ Err r) (Listed i r xs)
    listed xs i r = (list_first xs i r, first_list xs i r)

-- ---- a test that stops a walk
stop_here : (t : Bool) (r : Refusal) (c : Result ⊤ Refusal) → cond t (Err r) c ≡ or_else (given_when t r) c
unfolding or_else given_when
stop_here true r c = refl
stop_here false r c = refl

stop_else : (t : Bool) (r : Refusal) (c : Result ⊤ Refusal) → cond t c (Err r) ≡ or_else (given_when (not t) r) c
unfolding or_else given_when
stop_else true r c = refl
stop_else false r c = refl

pub given_exactly : (t : Bool) (q r : Refusal) → Exactly (given_when t q ≡ Err r) ((t ≡ true) × (r ≡ q))
unfolding given_when
given_exactly t q r = ((λ h. go t h), (λ f. rw f.0 (ap Err (sym f.1))))
  where
    go : (u : Bool) → cond {A = Result ⊤ Refusal} u (Err q) (Ok tt) ≡ Err r → (u ≡ true) × (r ≡ q)
    go true h = (refl, (cc))
    go false h = never (cc)

pub not_given_exactly : (t : Bool) (q : Refusal) → Exactly (given_when t q ≡ Ok tt) (t ≡ false)
unfolding given_when
not_given_exactly t q = ((λ h. go t h), (λ f. rw f))
  where
    go : (u : Bool) → cond {A = Result ⊤ Refusal} u (Err q) (Ok tt) ≡ Ok tt → u ≡ false
    go true h = never (cc)
    go false h = refl

not_of : (t : Bool) → t ≡ true → not t ≡ false
not_of t e = rw e

not_of_false : (t : Bool) → t ≡ false → not t ≡ true
not_of_false t e = rw e

-- a walk of tests
module _ (test : ℕ → Bool) (ref : ℕ → Refusal) (run : ℕ → ℕ → Result ⊤ Refusal) (none : (n : ℕ) → run zero n ≡ Ok tt)
    (more : (left n : ℕ) → run (suc left) n ≡ or_else (given_when (test n) (ref n)) (run left (n + 1))) where
  walked : (left first : ℕ) (r : Refusal)
      → Exactly (run left first ≡ Err r) (FirstIn first left (λ n. (test n ≡ true) × (r ≡ ref n)) (λ n. test n ≡ false))
  walked left first r = (
    (λ h. first_map first left (λ n. given_when (test n) (ref n) ≡ Err r) (λ n. given_when (test n) (ref n) ≡ Ok tt) _ _
        (λ n. (given_exactly (test n) (ref n) r).0) (λ n l m. (not_given_exactly (test n) (ref n)).0)
        (run_first run (λ n. given_when (test n) (ref n)) none more left first r h)),
    (λ f. first_run run (λ n. given_when (test n) (ref n)) none more left first r
        (first_map first left (λ n. (test n ≡ true) × (r ≡ ref n)) (λ n. test n ≡ false) _ _
        (λ n. (given_exactly (test n) (ref n) r).1) (λ n l m. (not_given_exactly (test n) (ref n)).1) f)),
  )

-- 6: the first sector whose kind is not one of its three
module _ (g : Geometry) (image : List ℕ) where
  kinds_none : (n : ℕ) → kinds_from g image zero n ≡ Ok tt
  unfolding kinds_from
  kinds_none n = refl

  kinds_more : (left n : ℕ) → kinds_from g image (suc left) n ≡ or_else (given_when (not (legal_kind g image n)) (refuse 6 n)) (kinds_from g image left (n + 1))
  unfolding kinds_from
  kinds_more left n = stop_else (legal_kind g image n) (refuse 6 n) (kinds_from g image left (n + 1))

  pub place_6 : (r : Refusal)
      → Exactly (refusal6 g image ≡ Err r)
      (FirstIn 0 (sector_count g) (λ n. (legal_kind g image n ≡ false) × (r ≡ refuse 6 n)) (λ n. legal_kind g image n ≡ true))
  place_6 r =
      let w = walked (λ n. not (legal_kind g image n)) (refuse 6) (kinds_from g image) kinds_none kinds_more (sector_count g) 0 r in (
        (λ h. first_map 0 (sector_count g) (λ n. (not (legal_kind g image n) ≡ true) × (r ≡ refuse 6 n)) (λ n. not (legal_kind g image n) ≡ false) _ _
            (λ n x. (not-true (legal_kind g image n) x.0, x.1)) (λ n l m x. not-false (legal_kind g image n) x) (w.0 h)),
        (λ f. w.1 (first_map 0 (sector_count g) (λ n. (legal_kind g image n ≡ false) × (r ≡ refuse 6 n)) (λ n. legal_kind g image n ≡ true) _ _
            (λ n x. (not_of_false (legal_kind g image n) x.0, x.1)) (λ n l m x. not_of (legal_kind g image n) x) f)),
      )

  -- 17: the first record of a list of them
  wrong_none : (i : ℕ) → wrong_among g image [] ≡ Ok tt
  unfolding wrong_among
  wrong_none i = refl

  wrong_more : (i : ℕ) (a : Address) (xs : List Address)
      → wrong_among g image (a ∷ xs) ≡ cond (is_wrong g image a) (Err (refuse 17 (ordinal g a))) (wrong_among g image xs)
  unfolding wrong_among
  wrong_more i a xs = refl

  pub place_17 : (xs : List Address) (r : Refusal)
      → Exactly (wrong_among g image xs ≡ Err r)
      (FirstOf (λ n a. (is_wrong g image a ≡ true) × (r ≡ refuse 17 (ordinal g a))) (λ a. is_wrong g image a ≡ false) xs)
  place_17 xs r = listed (is_wrong g image) (λ i a. refuse 17 (ordinal g a)) (λ i ys. wrong_among g image ys) wrong_none wrong_more xs 0 r

-- 26: the first record of a length that the file does not take, counted from 0
module _ (h : List ℕ) where
  lengths_none : (i : ℕ) → lengths_from h i [] ≡ Ok tt
  unfolding lengths_from
  lengths_none i = refl

  lengths_more : (i n : ℕ) (xs : List ℕ) → lengths_from h i (n ∷ xs) ≡ cond (wrong_length h n) (Err (refuse 26 i)) (lengths_from h (i + 1) xs)
  unfolding lengths_from
  lengths_more i n xs = refl

  pub place_26 : (i : ℕ) (lengths : List ℕ) (r : Refusal)
      → Exactly (lengths_from h i lengths ≡ Err r)
      (FirstOf (λ before n. (wrong_length h n ≡ true) × (r ≡ refuse 26 (i + before))) (λ n. wrong_length h n ≡ false) lengths)
  place_26 i lengths r = listed (wrong_length h) (λ k n. refuse 26 k) (lengths_from h) lengths_none lengths_more lengths i r

-- 3, 7, 10: the position of the first row of a label's table that does not hold
module _ (p : ℕ) where
  abbrev pub FirstBroken : List Row → Type 0
  FirstBroken rows = FirstOf (λ n x. x ≡ row p false) (λ x. x.holds ≡ true) rows

  broken_first : (rows : List Row) → 0 < p → lowest_fault rows ≡ p → FirstBroken rows
  unfolding lowest_fault
  broken_first [] z h = absurd (omega arith)
  broken_first (x ∷ rows) z h = go x.holds refl h (λ k. broken_first rows z k)
    where
      go : (t : Bool) → x.holds ≡ t → cond t (lowest_fault rows) x.position ≡ p → (lowest_fault rows ≡ p → FirstBroken rows) → FirstBroken (x ∷ rows)
      go true e k ih =
          let f = ih k in
          record { earlier = x ∷ f.earlier; it = f.it; later = f.later; stands = ap (λ (l : List Row). x ∷ l) f.stands; is_so = f.is_so; none_earlier = (e, f.none_earlier) }
      go false e k ih =
          let same : x ≡ row p false = ap (λ (q : ℕ). row q x.holds) k ∙ ap (λ (b : Bool). row p b) e in
          record { earlier = []; it = x; later = rows; stands = refl; is_so = same; none_earlier = tt }

  first_broken : (earlier later : List Row) → Every (λ x. x.holds ≡ true) earlier → lowest_fault (earlier ++ (row p false ∷ later)) ≡ p
  unfolding lowest_fault
  first_broken [] later h = refl
  first_broken (x ∷ earlier) later h = rw h.0 (first_broken earlier later h.1)

  pub lowest_fault_lem : (rows : List Row) → 0 < p → Exactly (lowest_fault rows ≡ p) (FirstBroken rows)
  lowest_fault_lem rows z = (
    broken_first rows z,
    (λ f. ap lowest_fault (f.stands ∙ ap (λ (x : Row). f.earlier ++ (x ∷ f.later)) f.is_so) ∙ first_broken f.earlier f.later f.none_earlier),
  )

-- a table in which every row that does not hold is of one of some positions: so is the lowest fault, or there is none
abbrev pub Held : List ℕ → List Row → Type 0
Held ps rows = Every (λ r. (r.holds ≡ true) ⊎ (one_of ps r.position ≡ true)) rows

pub held_named : (ps : List ℕ) (rows : List Row) → Held ps rows → one_of (0 ∷ ps) (lowest_fault rows) ≡ true
unfolding lowest_fault one_of
held_named ps [] h = refl
held_named ps (r ∷ rows) h = go r.holds h.0 (held_named ps rows h.1)
  where
    go : (t : Bool) → (t ≡ true) ⊎ (one_of ps r.position ≡ true) → (eqb (lowest_fault rows) 0 || one_of ps (lowest_fault rows)) ≡ true
        → (eqb (cond t (lowest_fault rows) r.position) 0 || one_of ps (cond t (lowest_fault rows) r.position)) ≡ true
    go true a ih = ih
    go false (inl e) ih = absurd (true_not_false false e refl)
    go false (inr e) ih = or_right (eqb r.position 0) _ e

-- a refusal at the fault's position, where every row has a position
module _ (ref : ℕ → Refusal) where
  abbrev pub FaultNamed : Refusal → List Row → Type 0
  FaultNamed r rows = FirstOf (λ n x. (x.holds ≡ false) × (r ≡ ref x.position)) (λ x. x.holds ≡ true) rows

  position_there : (earlier later : List Row) (x : Row) → numbered (earlier ++ (x ∷ later)) ≡ true → 0 < x.position
  position_there [] later x n = ltb-true 0 x.position (and_l (ltb 0 x.position) _ n)
  position_there (y ∷ earlier) later x n = position_there earlier later x (and_r (ltb 0 y.position) _ n)

  fault_named : (rows : List Row) (r : Refusal) → numbered rows ≡ true
      → Exactly (given_when (ltb 0 (lowest_fault rows)) (ref (lowest_fault rows)) ≡ Err r) (FaultNamed r rows)
  fault_named rows r n = (
    (λ h.
        let t = (given_exactly (ltb 0 (lowest_fault rows)) (ref (lowest_fault rows)) r).0 h in
        let f = (lowest_fault_lem (lowest_fault rows) rows (ltb-true 0 (lowest_fault rows) t.0)).0 refl in
        record {
          earlier = f.earlier;
          it = f.it;
          later = f.later;
          stands = f.stands;
          is_so = (ap (λ (x : Row). x.holds) f.is_so, t.1 ∙ ap ref (sym (ap (λ (x : Row). x.position) f.is_so)));
          none_earlier = f.none_earlier;
        }),
    (λ f.
        let p = f.it.position in
        let z : 0 < p = position_there f.earlier f.later f.it (subst (λ (l : List Row). numbered l ≡ true) f.stands n) in
        let e : lowest_fault rows ≡ p =
        (lowest_fault_lem p rows z).1
        (record { earlier = f.earlier; it = f.it; later = f.later; stands = f.stands; is_so = ap (λ (b : Bool). row p b) f.is_so.0; none_earlier = f.none_earlier }) in
        (given_exactly (ltb 0 (lowest_fault rows)) (ref (lowest_fault rows)) r).1 (lt-ltb 0 (lowest_fault rows) (omega arith), f.is_so.1 ∙ ap ref (sym e))),
  )

pub place_3 : (v : List ℕ) (r : Refusal) → Exactly (refusal3 v ≡ Err r) (FaultNamed (refuse 3) r (vol1_rules v))
unfolding vol1_rules
place_3 v r = fault_named (refuse 3) (vol1_rules v) r refl

pub place_7 : (L : ℕ) (e : List ℕ) (r : Refusal) → Exactly (refusal7 L e ≡ Err r) (FaultNamed (refuse 7) r (ermap_rules L e))
unfolding ermap_rules
place_7 L e r = fault_named (refuse 7) (ermap_rules L e) r refl

label_place : (g : Geometry) (h : List ℕ) (slot : ℕ) (r : Refusal)
    → Exactly (given_when (ltb 0 (label_fault g h)) (refuse_at 10 slot (label_fault g h)) ≡ Err r) (FaultNamed (refuse_at 10 slot) r (hdr1_rules g h))
unfolding label_fault hdr1_rules
label_place g h slot r = fault_named (refuse_at 10 slot) (hdr1_rules g h) r refl

-- 8, 9, 10: the slot, and for 10 the position too
pub data SlotFault (g : Geometry) (image : List ℕ) (slot : ℕ) (r : Refusal) : Type 0 where
  unreadable : is_unreadable g image slot ≡ true → r ≡ refuse 8 slot → SlotFault g image slot r
  neither : is_unreadable g image slot ≡ false → is_label g image slot ≡ false → is_deleted g image slot ≡ false → r ≡ refuse 9 slot → SlotFault g image slot r
  broken : is_label g image slot ≡ true → FaultNamed (refuse_at 10 slot) r (hdr1_rules g (label_at g image slot)) → SlotFault g image slot r

last : (c : Result ⊤ Refusal) (r : Refusal) → in_order (c ∷ []) ≡ Err r → c ≡ Err r
unfolding in_order
last (Ok _) r h = never (cc)
last (Err q) r h = h

module _ (g : Geometry) (image : List ℕ) where
  pub slot_fault : (slot : ℕ) (r : Refusal) → Exactly (slot_refusal g image slot ≡ Err r) (SlotFault g image slot r)
  unfolding slot_refusal in_order given_when
  slot_fault slot r = ((λ h. go (is_unreadable g image slot) (is_label g image slot) (is_deleted g image slot) refl refl refl h), back)
    where
      go : (t u v : Bool) → is_unreadable g image slot ≡ t → is_label g image slot ≡ u → is_deleted g image slot ≡ v
          → in_order
          (given_when t (refuse 8 slot) ∷ given_when (not (u || v)) (refuse 9 slot)
          ∷ given_when (u && ltb 0 (label_fault g (label_at g image slot))) (refuse_at 10 slot (label_fault g (label_at g image slot))) ∷ [])
          ≡ Err r → SlotFault g image slot r
      go true u v a b c h = unreadable a (cc)
      go false false false a b c h = neither a b c (cc)
      go false false true a b c h = never (cc)
      go false true v a b c h =
          let ten = given_when (ltb 0 (label_fault g (label_at g image slot))) (refuse_at 10 slot (label_fault g (label_at g image slot))) in
          broken b ((label_place g (label_at g image slot) slot r).0 (last ten r h))

      back : SlotFault g image slot r → slot_refusal g image slot ≡ Err r
      back (unreadable a e) = rw a (ap Err (sym e))
      back (neither a b c e) = rw (a, b, c) (ap Err (sym e))
      back (broken b f) =
          let t = (label_place g (label_at g image slot) slot r).1 f in
          rw (readable g image slot b, b) (ap (λ (c : Result ⊤ Refusal). in_order (c ∷ [])) t)

  slots_none : (n : ℕ) → slots_from g image zero n ≡ Ok tt
  unfolding slots_from
  slots_none n = refl

  slots_more : (left n : ℕ) → slots_from g image (suc left) n ≡ or_else (slot_refusal g image n) (slots_from g image left (n + 1))
  unfolding slots_from
  slots_more left n = refl

  pub slots_first : (left first : ℕ) (r : Refusal)
      → Exactly (slots_from g image left first ≡ Err r)
      (FirstIn first left (λ slot. slot_refusal g image slot ≡ Err r) (λ slot. slot_refusal g image slot ≡ Ok tt))
  slots_first left first r = (
    run_first (slots_from g image) (slot_refusal g image) slots_none slots_more left first r,
    first_run (slots_from g image) (slot_refusal g image) slots_none slots_more left first r,
  )

  pub place_8_to_10 : (r : Refusal)
      → Exactly (refusal8to10 g image ≡ Err r)
      (FirstIn 1 (slot_count g) (λ slot. SlotFault g image slot r) (λ slot. slot_refusal g image slot ≡ Ok tt))
  place_8_to_10 r =
      let w = slots_first (slot_count g) 1 r in (
        (λ h. first_map 1 (slot_count g) (λ slot. slot_refusal g image slot ≡ Err r) (λ slot. slot_refusal g image slot ≡ Ok tt) _ _
            (λ n. (slot_fault n r).0) (λ n l m x. x) (w.0 h)),
        (λ f. w.1 (first_map 1 (slot_count g) (λ slot. SlotFault g image slot r) (λ slot. slot_refusal g image slot ≡ Ok tt) _ _
            (λ n. (slot_fault n r).1) (λ n l m x. x) f)),
      )

-- 11, 12: the lowest slot clashing with a lower one
pub record ClashBelow (clash : ℕ → ℕ → Bool) (slot n : ℕ) : Type 0 where
  pub lower : ℕ
  pub low : 1 ≤ lower
  pub high : lower ≤ n
  pub they_clash : clash slot lower ≡ true

module _ (clash : ℕ → ℕ → Bool) where
  below_there : (slot n : ℕ) → clashes_below clash slot n ≡ true → ClashBelow clash slot n
  unfolding clashes_below
  below_there slot zero h = absurd (true_not_false false h refl)
  below_there slot (suc n) h =
      by_test (clash slot (suc n))
      (λ e. record { lower = suc n; low = omega arith; high = omega arith; they_clash = e })
      (λ e.
      let b = below_there slot n (or_rest _ _ e h) in
      record { lower = b.lower; low = b.low; high = omega (arith, b.high); they_clash = b.they_clash })

  pub clash_below : (slot n : ℕ) → Exactly (clashes_below clash slot n ≡ true) (ClashBelow clash slot n)
  clash_below slot n = (
    below_there slot n,
    (λ b. by_test (clashes_below clash slot n)
        (λ e. e)
        (λ e. absurd (true_not_false (clash slot b.lower) b.they_clash (none_below clash slot n b.lower e b.low b.high)))),
  )

  pub no_clash_below : (slot n : ℕ)
      → Exactly (clashes_below clash slot n ≡ false) ((lower : ℕ) → 1 ≤ lower → lower ≤ n → clash slot lower ≡ false)
  no_clash_below slot n = (
    (λ h lower l m. none_below clash slot n lower h l m),
    (λ f. by_test (clashes_below clash slot n)
        (λ e.
        let b = below_there slot n e in
        absurd (true_not_false (clash slot b.lower) b.they_clash (f b.lower b.low b.high)))
        (λ e. e)),
  )

  clashes_none : (number n : ℕ) → clashes_from clash number zero n ≡ Ok tt
  unfolding clashes_from
  clashes_none number n = refl

  clashes_more : (number left n : ℕ)
      → clashes_from clash number (suc left) n ≡ or_else (given_when (clashes_below clash n (n - 1)) (refuse number n)) (clashes_from clash number left (n + 1))
  unfolding clashes_from
  clashes_more number left n = stop_here (clashes_below clash n (n - 1)) (refuse number n) (clashes_from clash number left (n + 1))

  pub clashes_first : (number left first : ℕ) (r : Refusal)
      → Exactly (clashes_from clash number left first ≡ Err r)
      (FirstIn first left (λ slot. (clashes_below clash slot (slot - 1) ≡ true) × (r ≡ refuse number slot)) (λ slot. clashes_below clash slot (slot - 1) ≡ false))
  clashes_first number left first r =
      walked (λ n. clashes_below clash n (n - 1)) (refuse number) (clashes_from clash number) (clashes_none number) (clashes_more number) left first r

  -- the slot clashes with a lower one, and none before it does
  abbrev pub LowestClash : ℕ → ℕ → Refusal → Type 0
  LowestClash number count r =
      FirstIn 1 count (λ slot. ClashBelow clash slot (slot - 1) × (r ≡ refuse number slot))
      (λ slot. (lower : ℕ) → 1 ≤ lower → lower ≤ slot - 1 → clash slot lower ≡ false)

  pub lowest_clash : (number count : ℕ) (r : Refusal) → Exactly (clashes_from clash number count 1 ≡ Err r) (LowestClash number count r)
  lowest_clash number count r =
      let w = clashes_first number count 1 r in (
        (λ h. first_map 1 count (λ slot. (clashes_below clash slot (slot - 1) ≡ true) × (r ≡ refuse number slot)) (λ slot. clashes_below clash slot (slot - 1) ≡ false) _ _
            (λ n x. ((clash_below n (n - 1)).0 x.0, x.1)) (λ n l m. (no_clash_below n (n - 1)).0) (w.0 h)),
        (λ f. w.1 (first_map 1 count (λ slot. ClashBelow clash slot (slot - 1) × (r ≡ refuse number slot))
            (λ slot. (lower : ℕ) → 1 ≤ lower → lower ≤ slot - 1 → clash slot lower ≡ false) _ _
            (λ n x. ((clash_below n (n - 1)).1 x.0, x.1)) (λ n l m. (no_clash_below n (n - 1)).1) f)),
      )

pub place_11 : (g : Geometry) (image : List ℕ) (r : Refusal) → Exactly (refusal11 g image ≡ Err r) (LowestClash (shares g image) 11 (slot_count g) r)
place_11 g image r = lowest_clash (shares g image) 11 (slot_count g) r

pub place_12 : (g : Geometry) (image : List ℕ) (r : Refusal) → Exactly (refusal12 g image ≡ Err r) (LowestClash (namesake g image) 12 (slot_count g) r)
place_12 g image r = lowest_clash (namesake g image) 12 (slot_count g) r

-- two labels clash by their names: one name, both levels known. (By their extents: ExtentWhole.)
module _ (g : Geometry) (image : List ℕ) (slot lower : ℕ) where
  pub namesake_exactly : Exactly (namesake g image slot lower ≡ true)
      ((is_label g image slot ≡ true) × (is_label g image lower ≡ true) × (known_level (label_at g image slot) ≡ true) × (known_level (label_at g image lower) ≡ true)
      × (name_of (label_at g image slot) ≡ name_of (label_at g image lower)))
  unfolding namesake same_name
  namesake_exactly = (
    (λ s.
        let h = label_at g image slot in
        let k = label_at g image lower in
        let labels = and_l (is_label g image slot && is_label g image lower) _ s in
        let named = and_r (is_label g image slot && is_label g image lower) _ s in
        let known = and_l (known_level h && known_level k) _ named in (
          and_l (is_label g image slot) _ labels,
          and_r (is_label g image slot) _ labels,
          and_l (known_level h) _ known,
          and_r (known_level h) _ known,
          (same_exactly (name_of h) (name_of k)).0 (and_r (known_level h && known_level k) _ named),
        )),
    (λ f. rw (f.0, f.1, f.2, f.3) ((same_exactly (name_of (label_at g image slot)) (name_of (label_at g image lower))).1 f.4)),
  )
