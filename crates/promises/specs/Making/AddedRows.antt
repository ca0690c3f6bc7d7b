-- Request 2026-01: a table of rules with a condition added to one of its rows. The lowest fault is then the lower of the old one and that row's position, so
-- that a program judges the draft as it judges every label and looks at the three conditions afterwards.
-- Assumes nothing.
use Rattle.std.specs.Prelude.{ℕ, ◌<◌, ◌≤◌, ◌≡◌, refl, Bool, true, false, cond, ◌&&◌, ◌||◌, ◌⊎◌, List, [], ◌∷◌, map, length, ltb, eqb}
use Rattle.std.proofs.Common.{sym, ap, ◌∙◌, inl, inr, arith, ltb-true, eqb-true, ne_eqb, eq-eqb, lt-ltb, le-ltb}
use Rattle.standard.specs.Characters.{same}
use Rattle.standard.specs.Rules.{Row, lowest_fault}
use Rattle.standard.specs.Labels.{known_level, another_level, rule6, hdr1_rules, label_fault}
use Rattle.standard.specs.Creating.{proposed, also, bracket, draft, proposed_rules, proposal_fault}
use Rattle.standard.specs.declared.Geometry.{Geometry}
use Rattle.promises.specs.Ground.Basics.{either, by_test, true_not_false, and_l, and_r, or_rest}

-- the lower of a position and a fault, where 0 is no fault; a condition added at a position
abbrev pub lower_of : ℕ → ℕ → ℕ
lower_of q p = cond (eqb p 0) q (cond (ltb q p) q p)

abbrev pub added : ℕ → Bool → ℕ → ℕ
added q test p = cond test p (lower_of q p)

-- the rows stand in ascending order, behind a position; one of them is of a position
abbrev ascends : ℕ → List Row → Bool
ascends low [] = true
ascends low (r ∷ rows) = ltb low r.position && ascends r.position rows

abbrev has_row : ℕ → List Row → Bool
has_row q [] = false
has_row q (r ∷ rows) = eqb r.position q || has_row q rows

fault_behind : (low : ℕ) (rows : List Row) → ascends low rows ≡ true → (lowest_fault rows ≡ 0) ⊎ (low < lowest_fault rows)
unfolding lowest_fault
fault_behind low [] h = inl refl
fault_behind low (r ∷ rows) h =
    let l = ltb-true low r.position (and_l (ltb low r.position) _ h) in
    go r.holds l (fault_behind r.position rows (and_r (ltb low r.position) _ h))
  where
    go : (t : Bool) → low < r.position → (lowest_fault rows ≡ 0) ⊎ (r.position < lowest_fault rows)
        → (cond t (lowest_fault rows) r.position ≡ 0) ⊎ (low < cond t (lowest_fault rows) r.position)
    go true l (inl e) = inl e
    go true l (inr m) = inr (omega arith)
    go false l ih = inr l

row_behind : (q low : ℕ) (rows : List Row) → ascends low rows ≡ true → has_row q rows ≡ true → low < q
row_behind q low [] h k = absurd (true_not_false false k refl)
row_behind q low (r ∷ rows) h k =
    let l = ltb-true low r.position (and_l (ltb low r.position) _ h) in
    by_test (eqb r.position q)
    (λ e. omega (arith, eqb-true r.position q e))
    (λ e. omega (arith, row_behind q r.position rows (and_r (ltb low r.position) _ h) (or_rest (eqb r.position q) _ e k)))

-- behind its position nothing changes
also_behind : (q : ℕ) (test : Bool) (low : ℕ) (rows : List Row) → q ≤ low → ascends low rows ≡ true → lowest_fault (map (also q test) rows) ≡ lowest_fault rows
unfolding lowest_fault
also_behind q test low [] l h = refl
also_behind q test low (r ∷ rows) l h =
    let m = ltb-true low r.position (and_l (ltb low r.position) _ h) in
    let e : eqb r.position q ≡ false = ne_eqb r.position q (λ (x : r.position ≡ q). omega arith) in
    rw (e, also_behind q test r.position rows (omega arith) (and_r (ltb low r.position) _ h))

lower_kept : (q p : ℕ) → 0 < p → p < q → lower_of q p ≡ p
lower_kept q p l m = rw (ne_eqb p 0 (λ (x : p ≡ 0). omega arith), le-ltb q p (omega arith))

lower_taken : (q p : ℕ) → (p ≡ 0) ⊎ (q < p) → lower_of q p ≡ q
lower_taken q p (inl e) = rw (eq-eqb p 0 e)
lower_taken q p (inr l) = rw (ne_eqb p 0 (λ (x : p ≡ 0). omega arith), lt-ltb q p l)

lower_self : (q : ℕ) → 0 < q → lower_of q q ≡ q
lower_self q l = rw (ne_eqb q 0 (λ (x : q ≡ 0). omega arith), le-ltb q q (omega arith))

-- THE LOWEST FAULT WITH A CONDITION ADDED
pub also_lowest : (q : ℕ) (test : Bool) (low : ℕ) (rows : List Row) → ascends low rows ≡ true → has_row q rows ≡ true
    → lowest_fault (map (also q test) rows) ≡ added q test (lowest_fault rows)
unfolding lowest_fault
also_lowest q test low [] h k = absurd (true_not_false false k refl)
also_lowest q test low (r ∷ rows) h k =
    let l = ltb-true low r.position (and_l (ltb low r.position) _ h) in
    let up = and_r (ltb low r.position) _ h in
    by_test (eqb r.position q)
    (λ e.
    let p = eqb-true r.position q e in
    rw (e, also_behind q test r.position rows (omega arith) up)
    (here r.holds test (lowest_fault rows) p (omega arith) (fault_behind r.position rows up)))
    (λ e.
    let there = or_rest (eqb r.position q) _ e k in
    rw (e, also_lowest q test r.position rows up there)
    (on r.holds test (lowest_fault rows) (omega arith) (row_behind q r.position rows up there)))
  where
    here : (t u : Bool) (f : ℕ) → r.position ≡ q → 0 < r.position → (f ≡ 0) ⊎ (r.position < f)
        → cond (t && u) f r.position ≡ added q u (cond t f r.position)
    here true true f p l b = refl
    here true false f p l b = p ∙ sym (lower_taken q f (either b (λ (x : f ≡ 0). inl x) (λ (x : r.position < f). inr (omega arith))))
    here false true f p l b = refl
    here false false f p l b = p ∙ sym (lower_self q (omega arith)) ∙ ap (lower_of q) (sym p)

    on : (t u : Bool) (f : ℕ) → 0 < r.position → r.position < q → cond t (added q u f) r.position ≡ added q u (cond t f r.position)
    on true u f l m = refl
    on false true f l m = refl
    on false false f l m = sym (lower_kept q r.position l m)

-- three conditions, one behind the other
bracket_map : (w : List ℕ) (n : ℕ) (h : List ℕ) (rows : List Row)
    → map (bracket w n h) rows ≡ map (also 6 (eqb (length w) 29)) (map (also 35 (ltb 0 n)) (map (also 44 (known_level h)) rows))
bracket_map w n h [] = refl
bracket_map w n h (r ∷ rows) = ap (λ (t : List Row). bracket w n h r ∷ t) (bracket_map w n h rows)

-- THE PROPOSAL'S FAULT from that of the draft
pub proposal_is : (g : Geometry) (w : List ℕ) (n : ℕ)
    → proposal_fault g w n ≡ added 6 (eqb (length w) 29) (added 35 (ltb 0 n) (added 44 (known_level (draft w)) (label_fault g (draft w))))
unfolding proposal_fault proposed_rules hdr1_rules label_fault
proposal_is g w n =
    let rows = hdr1_rules g (draft w) in
    let k = known_level (draft w) in
    ap lowest_fault (bracket_map w n (draft w) rows)
    ∙ also_lowest 6 (eqb (length w) 29) 0 (map (also 35 (ltb 0 n)) (map (also 44 k) rows)) refl refl
    ∙ ap (added 6 (eqb (length w) 29)) (also_lowest 35 (ltb 0 n) 0 (map (also 44 k) rows) refl refl
    ∙ ap (added 35 (ltb 0 n)) (also_lowest 44 k 0 rows refl refl))

-- "other than 29 bytes at 6": nothing else is looked at
and_none : (b : Bool) → (b && false) ≡ false
and_none true = refl
and_none false = refl

pub wrong_length : (g : Geometry) (w : List ℕ) (n : ℕ) → eqb (length w) 29 ≡ false → proposal_fault g w n ≡ 6
unfolding proposal_fault proposed_rules hdr1_rules lowest_fault proposed same
wrong_length g w n e = rw (e, and_none (another_level (draft w) || rule6 (draft w)))

-- with 29 bytes: the draft's, and the two conditions
pub right_length : (g : Geometry) (w : List ℕ) (n : ℕ) → eqb (length w) 29 ≡ true
    → proposal_fault g w n ≡ added 35 (ltb 0 n) (added 44 (known_level (draft w)) (label_fault g (draft w)))
right_length g w n e = proposal_is g w n ∙ rw e
