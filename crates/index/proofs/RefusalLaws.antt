-- Refusals 8, 9, 10: what a slot's kind, first byte and label say of it; one turn and the end of the loop over the slots.
-- Assumes nothing.
use Rattle.std.specs.Prelude.{Result, Ok, Err, ⊤}
use Rattle.std.proofs.Common.{◌≡◌, ℕ, suc, ◌+◌, ◌-◌, ◌<◌, ◌≤◌, Bool, true, false, cond, not, ◌&&◌, ◌||◌, eqb, ltb, List, [], ◌∷◌, drop, sym, refl, ap, ◌∙◌, arith, ltb-true, lt-ltb, ne_eqb}
use Rattle.standard.specs.Layout.{index_sectors, k_at, kind_at, valid_mark, incorrect_mark, check_failed, first_byte, slot_ordinal, label_at}
use Rattle.standard.specs.Characters.{bytes, same, field}
use Rattle.standard.specs.Rules.{Row, lowest_fault}
use Rattle.standard.specs.Labels.{hdr1_rules, label_fault}
use Rattle.standard.specs.Refusals.{refuse, refuse_at, given_when, in_order, or_else}
use Rattle.standard.specs.Slots.{is_label, is_deleted, is_unreadable, slot_refusal, slots_from}
use Rattle.standard.specs.declared.Geometry.{Geometry}
use Rattle.promises.specs.Ground.Basics.{by_test, and_l, and_r}
use Rattle.standard.specs.declared.Refusal.{Refusal}
use Rattle.layout.proofs.Laws.{k_first}

-- position 1 of the table is `HDR1`, and no other row stands there
abbrev later : List Row → Bool
later [] = true
later (r ∷ rows) = ltb 1 r.position && later rows

not_first : (rows : List Row) → later rows ≡ true → lowest_fault rows ≡ 1 → ⊥
unfolding lowest_fault
not_first [] h e = omega (arith, e)
not_first (r ∷ rows) h e = go r.holds e (not_first rows (and_r (ltb 1 r.position) _ h))
  where
    go : (t : Bool) → cond t (lowest_fault rows) r.position ≡ 1 → (lowest_fault rows ≡ 1 → ⊥) → ⊥
    go true f ih = ih f
    go false f ih = omega (arith, f, ltb-true 1 r.position (and_l (ltb 1 r.position) _ h))

module _ (g : Geometry) (h : List ℕ) where
  abbrev pub headed : Bool
  headed = same (field h 1 4) (bytes "HDR1")

  headless : headed ≡ false → label_fault g h ≡ 1
  unfolding label_fault hdr1_rules lowest_fault
  headless t = rw t

  behind : headed ≡ true → lowest_fault (drop 1 (hdr1_rules g h)) ≡ label_fault g h
  unfolding label_fault hdr1_rules lowest_fault
  behind t = rw t

  pub not_headed : label_fault g h ≡ 1 → headed ≡ false
  unfolding hdr1_rules
  not_headed e = by_test headed (λ t. absurd (not_first (drop 1 (hdr1_rules g h)) refl (behind t ∙ e))) (λ t. t)

  pub is_headed : (label_fault g h ≡ 1 → ⊥) → headed ≡ true
  is_headed n = by_test headed (λ t. t) (λ t. absurd (n (headless t)))

-- a slot by the byte of its kind, its first byte, whether it has `HDR1`, and its label's fault
abbrev ruled : ℕ → ℕ → ℕ → Bool → ℕ → Result ⊤ Refusal
ruled slot k c s f =
    in_order
    (given_when (eqb k 32 || (eqb k 16 && eqb c 70)) (refuse 8 slot)
    ∷ given_when (not ((eqb k 0 && s) || (eqb k 16 && eqb c 68))) (refuse 9 slot)
    ∷ given_when ((eqb k 0 && s) && ltb 0 f) (refuse_at 10 slot f)
    ∷ [])

module _ (g : Geometry) (image : List ℕ) (slot : ℕ) (h : slot + 6 < index_sectors g) where
  no_k : k_at g (slot_ordinal slot) ≡ 0
  unfolding slot_ordinal
  no_k = sym (k_first g (slot + 6) 0 h refl)

  slot_form : slot_refusal g image slot
      ≡ ruled slot (kind_at g image (slot_ordinal slot)) (first_byte g image (slot_ordinal slot)) (headed g (label_at g image slot)) (label_fault g (label_at g image slot))
  unfolding slot_refusal is_unreadable is_label is_deleted valid_mark incorrect_mark check_failed
  slot_form = rw no_k

  module _ (k : ℕ) (e : kind_at g image (slot_ordinal slot) ≡ k) where
    by_kind : slot_refusal g image slot ≡ ruled slot k (first_byte g image (slot_ordinal slot)) (headed g (label_at g image slot)) (label_fault g (label_at g image slot))
    by_kind = slot_form ∙ ap (λ (x : ℕ). ruled slot x (first_byte g image (slot_ordinal slot)) (headed g (label_at g image slot)) (label_fault g (label_at g image slot))) e

    pub no_mark : (k ≡ 0 → ⊥) → (k ≡ 16 → ⊥) → (k ≡ 32 → ⊥) → Err (refuse 9 slot) ≡ slot_refusal g image slot
    unfolding in_order given_when
    no_mark a b c = sym (by_kind ∙ simp (ne_eqb k 0 a, ne_eqb k 16 b, ne_eqb k 32 c))

  pub failed_mark : kind_at g image (slot_ordinal slot) ≡ 32 → Err (refuse 8 slot) ≡ slot_refusal g image slot
  unfolding in_order given_when
  failed_mark e = sym (by_kind 32 e)

  -- the incorrect mark
  module _ (e : kind_at g image (slot_ordinal slot) ≡ 16) (c : ℕ) (f : c ≡ first_byte g image (slot_ordinal slot)) where
    by_first : slot_refusal g image slot ≡ ruled slot 16 c (headed g (label_at g image slot)) (label_fault g (label_at g image slot))
    by_first = by_kind 16 e ∙ ap (λ (x : ℕ). ruled slot 16 x (headed g (label_at g image slot)) (label_fault g (label_at g image slot))) (sym f)

    pub deleted : c ≡ 68 → Ok tt ≡ slot_refusal g image slot
    unfolding in_order given_when
    deleted d = sym (by_first ∙ ap (λ (x : ℕ). ruled slot 16 x (headed g (label_at g image slot)) (label_fault g (label_at g image slot))) d)

    pub unreadable : c ≡ 70 → Err (refuse 8 slot) ≡ slot_refusal g image slot
    unfolding in_order given_when
    unreadable d = sym (by_first ∙ ap (λ (x : ℕ). ruled slot 16 x (headed g (label_at g image slot)) (label_fault g (label_at g image slot))) d)

    pub neither : (c ≡ 68 → ⊥) → (c ≡ 70 → ⊥) → Err (refuse 9 slot) ≡ slot_refusal g image slot
    unfolding in_order given_when
    neither a b = sym (by_first ∙ simp (ne_eqb c 68 a, ne_eqb c 70 b))

  -- the valid mark
  module _ (e : kind_at g image (slot_ordinal slot) ≡ 0) (f : ℕ) (q : f ≡ label_fault g (label_at g image slot)) where
    by_label : (s : Bool) → headed g (label_at g image slot) ≡ s → slot_refusal g image slot ≡ ruled slot 0 (first_byte g image (slot_ordinal slot)) s f
    by_label s t =
        by_kind 0 e
        ∙ ap (λ (x : Bool). ruled slot 0 (first_byte g image (slot_ordinal slot)) x (label_fault g (label_at g image slot))) t
        ∙ ap (λ (x : ℕ). ruled slot 0 (first_byte g image (slot_ordinal slot)) s x) (sym q)

    pub label_passed : f ≡ 0 → Ok tt ≡ slot_refusal g image slot
    unfolding in_order given_when
    label_passed z =
        sym (by_label true (is_headed g (label_at g image slot) (λ o. omega arith))
        ∙ ap (λ (x : ℕ). ruled slot 0 (first_byte g image (slot_ordinal slot)) true x) z)

    pub no_label : f ≡ 1 → Err (refuse 9 slot) ≡ slot_refusal g image slot
    unfolding in_order given_when
    no_label o = sym (by_label false (not_headed g (label_at g image slot) (omega arith)))

    pub label_broken : (f ≡ 0 → ⊥) → (f ≡ 1 → ⊥) → Err (refuse_at 10 slot f) ≡ slot_refusal g image slot
    unfolding in_order given_when
    label_broken a b =
        sym (by_label true (is_headed g (label_at g image slot) (λ o. b (omega arith))) ∙ simp (lt-ltb 0 f (omega (arith, a))))

-- the loop over the slots: those below this one are passed
module _ (g : Geometry) (image : List ℕ) (count slot : ℕ) where
  slots_go : (k : ℕ) → count + 1 - slot ≡ suc k → slots_from g image (count + 1 - slot) slot ≡ or_else (slot_refusal g image slot) (slots_from g image k (slot + 1))
  unfolding slots_from
  slots_go k e = rw e

  pub slots_stop : (c d : Result ⊤ Refusal) → slot < count + 1 → c ≡ slot_refusal g image slot → c ≡ d
      → or_else d (slots_from g image (count + 1 - (slot + 1)) (slot + 1)) ≡ slots_from g image (count + 1 - slot) slot
  slots_stop c d h e f =
      sym (slots_go (count + 1 - (slot + 1)) (omega arith) ∙ ap (λ (x : Result ⊤ Refusal). or_else x (slots_from g image (count + 1 - (slot + 1)) (slot + 1))) (sym e ∙ f))

  pub slots_end : count + 1 ≤ slot → slots_from g image (count + 1 - slot) slot ≡ Ok tt
  unfolding slots_from
  slots_end h = let e : count + 1 - slot ≡ 0 = omega arith in rw e
