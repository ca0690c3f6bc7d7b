-- Slots that passed 8 to 10: a valid mark is a label's.
-- Assumes nothing.
use Rattle.std.proofs.Common.{◌≡◌, ℕ, ◌+◌, ◌<◌, ◌≤◌, Bool, true, false, not, ◌||◌, eqb, List, sym, refl, ap, ◌∙◌, arith}
use borrow.Author.Tests.{not-false}
use Rattle.standard.specs.Layout.{index_sectors, kind_at, valid_mark, slot_count, slot_ordinal}
use Rattle.standard.specs.Slots.{is_label, is_deleted, slot_refusal}
use Rattle.standard.specs.declared.Geometry.{Geometry}
use Rattle.promises.specs.Ground.Basics.{by_test, either, lt_or_le}
use Rattle.promises.specs.Images.SectorLaws.{valid_correct}
use Rattle.promises.specs.Volumes.Judging.{order_each, not_given, slots_each}
use Rattle.layout.proofs.Laws.{k_first}
use Rattle.index.specs.Whole.{Slotted, some_slot}
use Rattle.std.specs.Prelude.{Some, None, ltb, Ok}
use Rattle.std.proofs.lemmas.Option.{cond_some, none-some}
use borrow.Author.Tests.{lt-ltb, ltb-true}

or_left : (a b : Bool) → b ≡ false → (a || b) ≡ true → a ≡ true
or_left true b e h = refl
or_left false b e h = sym e ∙ h

module _ (g : Geometry) (image : List ℕ) (slot : ℕ) where
  -- the kinds of the index cylinder are those of k = 0
  pub valid_slot : slot + 6 < index_sectors g → valid_mark g image (slot_ordinal slot) ≡ eqb (kind_at g image (slot_ordinal slot)) 0
  unfolding valid_mark slot_ordinal
  valid_slot h = ap (λ (k : ℕ). eqb (kind_at g image (slot + 6)) k) (sym (k_first g (slot + 6) 0 h refl))

  not_deleted : valid_mark g image (slot_ordinal slot) ≡ true → is_deleted g image slot ≡ false
  unfolding is_deleted
  not_deleted v = rw (valid_correct g image (slot_ordinal slot) v)

  not_label : valid_mark g image (slot_ordinal slot) ≡ false → is_label g image slot ≡ false
  unfolding is_label
  not_label v = rw v

  either_one : slot_refusal g image slot ≡ Ok tt → (is_label g image slot || is_deleted g image slot) ≡ true
  unfolding slot_refusal
  either_one p =
      let (r8, (r9, _)) = order_each _ p in
      not-false _ (not_given (not (is_label g image slot || is_deleted g image slot)) _ r9)

  valid_label : slot_refusal g image slot ≡ Ok tt → is_label g image slot ≡ valid_mark g image (slot_ordinal slot)
  valid_label p =
      by_test (valid_mark g image (slot_ordinal slot))
      (λ v. or_left (is_label g image slot) (is_deleted g image slot) (not_deleted v) (either_one p) ∙ sym v)
      (λ v. not_label v ∙ sym v)

  pub slot_passed : Slotted g image → 1 ≤ slot → slot ≤ slot_count g → slot_refusal g image slot ≡ Ok tt
  slot_passed s l m = slots_each g image s.passed slot l m

  -- THE BYTE OF KIND TELLS
  pub label_by_kind : (k : ℕ) → Slotted g image → 1 ≤ slot → slot ≤ slot_count g → k ≡ kind_at g image (slot_ordinal slot) → eqb k 0 ≡ is_label g image slot
  label_by_kind k s l m e =
      ap (λ (x : ℕ). eqb x 0) e ∙ sym (valid_label (slot_passed s l m) ∙ valid_slot (omega (arith, s.whole.indexed)))

-- a slot that was looked for is there, or it is none
pub slot_is : (n : ℕ) → 1 ≤ n → Some n ≡ some_slot n
unfolding some_slot
slot_is n l = rw (lt-ltb 0 n l)

pub slot_none : (n : ℕ) → n ≡ 0 → None ≡ some_slot n
unfolding some_slot
slot_none n e = rw e

pub slot_found : (n slot : ℕ) → some_slot n ≡ Some slot → (slot ≡ n) × (1 ≤ n)
unfolding some_slot
slot_found n slot h = let c = cond_some (ltb 0 n) n slot h in (sym c.1, ltb-true 0 n c.0)

pub slot_missed : (n : ℕ) → some_slot n ≡ None → n ≡ 0
slot_missed n h = either (lt_or_le 0 n) (λ (l : 0 < n). absurd (none-some n (sym h ∙ sym (slot_is n l)))) (λ (l : n ≤ 0). omega arith)
