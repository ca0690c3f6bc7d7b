-- Rules taken in order, and the judgement of a volume: that it is passed says that every part of it is, and the other way round.
-- Assumes nothing.
use Prim.Native.Nat.{ℕ, zero, suc, ◌+◌, ◌-◌, ◌<◌, ◌≤◌}
use Rattle.std.specs.Prelude.{◌≡◌, Bool, true, cond, ◌&&◌, List, ◌∷◌, [], ◌++◌, Result, Ok, Err, ⊤}
use Rattle.std.proofs.Math.Path.{refl}
use Rattle.std.proofs.Common.{sym, subst, arith, eq-or-lt_of_le}
use Rattle.std.proofs.Math.Bool.{false}
use Rattle.std.proofs.Math.Dec.{ltb}
use borrow.Author.Tests.{ltb-true, ltb-false}
use Rattle.standard.specs.Layout.{slot_count, sector_count, slot_ordinal, valid_mark, ermap_of, vol1_of, label_at}
use Rattle.standard.specs.Refusals.{given_when, in_order, or_else}
use Rattle.standard.specs.Labels.{label_fault}
use Rattle.standard.specs.Slots.{is_label, slot_refusal, slots_from, is_unreadable}
use Rattle.standard.specs.Judgement.{volume_of, refusal1, refusal2, refusal3, refusal4, refusal5, refusal6, refusal7, refusal8to10, clashes_below, clashes_from, refusal11, refusal12, volume_refusal, verdict, judged, legal_kind, kinds_from}
use Rattle.standard.specs.Rules.{Row, lowest_fault}
use Rattle.standard.specs.declared.Geometry.{Geometry}
use Rattle.standard.specs.declared.Refusal.{Refusal}
use Rattle.promises.specs.Ground.Basics.{either, and_l, and_r, or_l, or_r}
use Rattle.promises.specs.Ground.Lists.{Every}
use Rattle.promises.specs.Images.SectorLaws.{valid_correct, valid_sound}

-- rules in order
stopped_never : (r : Refusal) → ◌≡◌ {A = Result ⊤ Refusal} (Err r) (Ok tt) → ⊥
stopped_never r h = let z : ◌≡◌ {A = ℕ} 0 1 = cc in omega arith

pub order_each : (cs : List (Result ⊤ Refusal)) → in_order cs ≡ Ok tt → Every (λ c. c ≡ Ok tt) cs
unfolding in_order
order_each [] h = tt
order_each (Ok _ ∷ cs) h = (refl, order_each cs h)
order_each (Err r ∷ cs) h = absurd (stopped_never r h)

pub order_all : (cs : List (Result ⊤ Refusal)) → Every (λ c. c ≡ Ok tt) cs → in_order cs ≡ Ok tt
unfolding in_order
order_all [] h = refl
order_all (Ok _ ∷ cs) h = order_all cs h.1
order_all (Err r ∷ cs) h = h.0

-- one row behind another: the first refusal of both, and none
pub order_append : (xs ys : List (Result ⊤ Refusal)) → in_order (xs ++ ys) ≡ or_else (in_order xs) (in_order ys)
unfolding in_order or_else
order_append [] ys = refl
order_append (Ok _ ∷ xs) ys = order_append xs ys
order_append (Err r ∷ xs) ys = refl

pub else_both : (c d : Result ⊤ Refusal) → or_else c d ≡ Ok tt → (c ≡ Ok tt) × (d ≡ Ok tt)
unfolding or_else
else_both (Ok _) d h = (refl, h)
else_both (Err r) d h = absurd (stopped_never r h)

pub stop_first : (t : Bool) (r : Refusal) (c : Result ⊤ Refusal) → cond t (Err r) c ≡ Ok tt → t ≡ false
stop_first true r c h = absurd (stopped_never r h)
stop_first false r c h = refl

pub stop_rest : (t : Bool) (r : Refusal) (c : Result ⊤ Refusal) → cond t (Err r) c ≡ Ok tt → c ≡ Ok tt
stop_rest true r c h = absurd (stopped_never r h)
stop_rest false r c h = h

pub not_given : (t : Bool) (r : Refusal) → given_when t r ≡ Ok tt → t ≡ false
unfolding given_when
not_given t r h = stop_first t r (Ok tt) h

-- so many in a row, from one on: passed where each is
module _ (run : ℕ → ℕ → Result ⊤ Refusal) (Q : ℕ → Type 0) where
  run_each : ((left n : ℕ) → run (suc left) n ≡ Ok tt → Q n × (run left (n + 1) ≡ Ok tt))
      → (left first : ℕ) → run left first ≡ Ok tt → (n : ℕ) → first ≤ n → n < first + left → Q n
  run_each one zero first h n l m = absurd (omega arith)
  run_each one (suc left) first h n l m =
      let p = one left first h in
      either (eq-or-lt_of_le l)
      (λ (e : first ≡ n). subst Q e p.0)
      (λ (k : first < n). run_each one left (first + 1) p.1 n (omega arith) (omega arith))

  run_all : ((n : ℕ) → run zero n ≡ Ok tt) → ((left n : ℕ) → Q n → run left (n + 1) ≡ Ok tt → run (suc left) n ≡ Ok tt)
      → (left first : ℕ) → ((n : ℕ) → first ≤ n → n < first + left → Q n) → run left first ≡ Ok tt
  run_all none one zero first h = none first
  run_all none one (suc left) first h =
      one left first (h first (omega arith) (omega arith)) (run_all none one left (first + 1) (λ n l m. h n (omega arith) (omega arith)))

-- a label's table: no fault where each row holds
abbrev pub numbered : List Row → Bool
numbered [] = true
numbered (r ∷ rows) = ltb 0 r.position && numbered rows

pub rows_each : (rows : List Row) → lowest_fault rows ≡ 0 → numbered rows ≡ true → Every (λ r. r.holds ≡ true) rows
unfolding lowest_fault
rows_each [] z n = tt
rows_each (r ∷ rows) z n = go r.holds refl z (λ y. rows_each rows y (and_r (ltb 0 r.position) _ n))
  where
    go : (t : Bool) → r.holds ≡ t → cond t (lowest_fault rows) r.position ≡ 0 → (lowest_fault rows ≡ 0 → Every (λ r. r.holds ≡ true) rows)
        → (r.holds ≡ true) × Every (λ r. r.holds ≡ true) rows
    go true e y ih = (e, ih y)
    go false e y ih = absurd (omega (arith, ltb-true 0 r.position (and_l (ltb 0 r.position) _ n)))

pub rows_all : (rows : List Row) → Every (λ r. r.holds ≡ true) rows → lowest_fault rows ≡ 0
unfolding lowest_fault
rows_all [] h = refl
rows_all (r ∷ rows) h = rw h.0 (rows_all rows h.1)

-- the stages of an accepted volume
pub record Accepted (image : List ℕ) (g : Geometry) : Type 0 where
  pub numbers : volume_of image ≡ g
  pub long : refusal1 image ≡ Ok tt
  pub readable : refusal2 image ≡ Ok tt
  pub vol1 : refusal3 (vol1_of image) ≡ Ok tt
  pub open_access : refusal4 (vol1_of image) ≡ Ok tt
  pub size : refusal5 g image ≡ Ok tt
  pub kinds : refusal6 g image ≡ Ok tt
  pub ermap : refusal7 g.L (ermap_of image) ≡ Ok tt
  pub slots : refusal8to10 g image ≡ Ok tt
  pub extents : refusal11 g image ≡ Ok tt
  pub names : refusal12 g image ≡ Ok tt

verdict_passed : (c : Result ⊤ Refusal) (g g' : Geometry) → verdict c g ≡ Ok g' → c ≡ Ok tt
verdict_passed (Ok _) g g' h = refl
verdict_passed (Err r) g g' h = let z : ◌≡◌ {A = ℕ} 0 1 = cc in absurd (omega (arith, z))

verdict_numbers : (c : Result ⊤ Refusal) (g g' : Geometry) → verdict c g ≡ Ok g' → g ≡ g'
verdict_numbers (Ok _) g g' h = cc
verdict_numbers (Err r) g g' h = let z : ◌≡◌ {A = ℕ} 0 1 = cc in absurd (omega (arith, z))

stages : (image : List ℕ) (g : Geometry) → volume_of image ≡ g → volume_refusal image g ≡ Ok tt → Accepted image g
unfolding volume_refusal
stages image g e h =
    let (r1, (r2, (r3, (r4, (r5, (r6, (r7, (r8, (r11, (r12, _)))))))))) = order_each _ h in
    record {
      numbers = e;
      long = r1;
      readable = r2;
      vol1 = r3;
      open_access = r4;
      size = r5;
      kinds = r6;
      ermap = r7;
      slots = r8;
      extents = r11;
      names = r12;
    }

pub accepted : (image : List ℕ) (g : Geometry) → judged image ≡ Ok g → Accepted image g
unfolding judged
accepted image g h =
    let e = verdict_numbers (volume_refusal image (volume_of image)) (volume_of image) g h in
    let p = verdict_passed (volume_refusal image (volume_of image)) (volume_of image) g h in
    stages image g e (subst (λ (x : Geometry). volume_refusal image x ≡ Ok tt) e p)

-- THE JUDGEMENT IS ITS STAGES
pub judged_from : (image : List ℕ) (g : Geometry) → Accepted image g → judged image ≡ Ok g
unfolding judged volume_refusal in_order
judged_from image g a =
    rw
    (a.numbers, a.long, a.readable, a.vol1, a.open_access, a.size, a.kinds, a.ermap, a.slots, a.extents, a.names)

-- the kinds of the sectors, and the slots
kind_both : (t : Bool) (r : Refusal) (c : Result ⊤ Refusal) → cond t c (Err r) ≡ Ok tt → (t ≡ true) × (c ≡ Ok tt)
kind_both true r c h = (refl, h)
kind_both false r c h = absurd (stopped_never r h)

module _ (g : Geometry) (image : List ℕ) where
  pub kinds_each : refusal6 g image ≡ Ok tt → (n : ℕ) → n < sector_count g → legal_kind g image n ≡ true
  unfolding kinds_from
  kinds_each h n l =
      run_each (kinds_from g image) (λ n. legal_kind g image n ≡ true) (λ left n p. kind_both (legal_kind g image n) _ (kinds_from g image left (n + 1)) p)
      (sector_count g) 0 h n (omega arith) (omega arith)

  pub kinds_all : ((n : ℕ) → n < sector_count g → legal_kind g image n ≡ true) → refusal6 g image ≡ Ok tt
  unfolding kinds_from
  kinds_all h =
      run_all (kinds_from g image) (λ n. legal_kind g image n ≡ true) (λ n. refl) (λ left n q p. rw q p) (sector_count g) 0 (λ n l m. h n (omega arith))

  pub slots_each : refusal8to10 g image ≡ Ok tt → (slot : ℕ) → 1 ≤ slot → slot ≤ slot_count g → slot_refusal g image slot ≡ Ok tt
  unfolding slots_from
  slots_each h slot l m =
      run_each (slots_from g image) (λ n. slot_refusal g image n ≡ Ok tt) (λ left n p. else_both (slot_refusal g image n) _ p)
      (slot_count g) 1 h slot l (omega arith)

  pub slots_all : ((slot : ℕ) → 1 ≤ slot → slot ≤ slot_count g → slot_refusal g image slot ≡ Ok tt) → refusal8to10 g image ≡ Ok tt
  unfolding slots_from or_else
  slots_all h =
      run_all (slots_from g image) (λ n. slot_refusal g image n ≡ Ok tt) (λ n. refl) (λ left n q p. rw q p) (slot_count g) 1 (λ n l m. h n l (omega arith))

  -- one slot
  pub label_right : (slot : ℕ) → slot_refusal g image slot ≡ Ok tt → is_label g image slot ≡ true → label_fault g (label_at g image slot) ≡ 0
  unfolding slot_refusal
  label_right slot h l =
      let (r8, (r9, (r10, _))) = order_each _ h in
      let f = not_given (is_label g image slot && ltb 0 (label_fault g (label_at g image slot))) _ r10 in
      let b : ltb 0 (label_fault g (label_at g image slot)) ≡ false = rw l at f in
      omega (arith, ltb-false 0 (label_fault g (label_at g image slot)) b)

  pub readable : (slot : ℕ) → is_label g image slot ≡ true → is_unreadable g image slot ≡ false
  unfolding is_label is_unreadable
  readable slot l =
      let v = and_l (valid_mark g image (slot_ordinal slot)) _ l in
      rw (valid_sound g image (slot_ordinal slot) v, valid_correct g image (slot_ordinal slot) v)

  pub label_passes : (slot : ℕ) → is_label g image slot ≡ true → label_fault g (label_at g image slot) ≡ 0 → slot_refusal g image slot ≡ Ok tt
  unfolding slot_refusal given_when
  label_passes slot l f = order_all _ (rw (readable slot l), (rw l, (rw (l, f), tt)))

-- no slot clashes with a lower one
pub none_below : (clash : ℕ → ℕ → Bool) (slot n lower : ℕ) → clashes_below clash slot n ≡ false → 1 ≤ lower → lower ≤ n → clash slot lower ≡ false
unfolding clashes_below
none_below clash slot zero lower h l m = absurd (omega arith)
none_below clash slot (suc n) lower h l m =
    either (eq-or-lt_of_le m)
    (λ (e : lower ≡ suc n). subst (λ (x : ℕ). clash slot x ≡ false) (sym e) (or_l (clash slot (suc n)) _ h))
    (λ (k : lower < suc n). none_below clash slot n lower (or_r (clash slot (suc n)) _ h) l (omega arith))

pub none_clash : (clash : ℕ → ℕ → Bool) (number count : ℕ) → clashes_from clash number count 1 ≡ Ok tt
    → (slot lower : ℕ) → 1 ≤ lower → lower < slot → slot ≤ count → clash slot lower ≡ false
unfolding clashes_from
none_clash clash number count h slot lower l m k =
    none_below clash slot (slot - 1) lower
    (run_each (clashes_from clash number) (λ n. clashes_below clash n (n - 1) ≡ false)
    (λ left n p. (stop_first _ _ (clashes_from clash number left (n + 1)) p, stop_rest (clashes_below clash n (n - 1)) _ _ p))
    count 1 h slot (omega arith) (omega arith)) l (omega arith)

-- and the other way round
below_none : (clash : ℕ → ℕ → Bool) (slot n : ℕ) → ((lower : ℕ) → 1 ≤ lower → lower ≤ n → clash slot lower ≡ false) → clashes_below clash slot n ≡ false
unfolding clashes_below
below_none clash slot zero h = refl
below_none clash slot (suc n) h =
    rw (h (suc n) (omega arith) (omega arith)) (below_none clash slot n (λ lower l m. h lower l (omega arith)))

pub clash_none : (clash : ℕ → ℕ → Bool) (number count : ℕ)
    → ((slot lower : ℕ) → 1 ≤ lower → lower < slot → slot ≤ count → clash slot lower ≡ false) → clashes_from clash number count 1 ≡ Ok tt
unfolding clashes_from
clash_none clash number count h =
    run_all (clashes_from clash number) (λ n. clashes_below clash n (n - 1) ≡ false) (λ n. refl) (λ left n q p. rw q p) count 1
    (λ n l m. below_none clash n (n - 1) (λ lower a b. h n lower a (omega arith) (omega arith)))

-- clashes, where two ways to ask agree
module _ (clash clash' : ℕ → ℕ → Bool) (count : ℕ) (same : (s l : ℕ) → 1 ≤ s → s ≤ count → 1 ≤ l → l ≤ count → clash s l ≡ clash' s l) where
  below_same : (slot n : ℕ) → 1 ≤ slot → slot ≤ count → n ≤ count → clashes_below clash slot n ≡ clashes_below clash' slot n
  unfolding clashes_below
  below_same slot zero low h l = refl
  below_same slot (suc n) low h l = rw (same slot (suc n) low h (omega arith) l, below_same slot n low h (omega arith))

  pub clashes_same : (number left first : ℕ) → 1 ≤ first → first + left ≤ count + 1 → clashes_from clash number left first ≡ clashes_from clash' number left first
  unfolding clashes_from
  clashes_same number zero first h l = refl
  clashes_same number (suc left) first h l =
      rw (below_same first (first - 1) h (omega arith) (omega arith), clashes_same number left (first + 1) (omega arith) (omega arith))
