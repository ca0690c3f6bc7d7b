-- Request 2026-01: a kind and bytes laid over a slot's sector from its label's first byte on.
-- Assumes nothing.
use Rattle.std.specs.Prelude.{ℕ, ◌+◌, ◌<◌, ◌≤◌, ◌≡◌, true, false, not, ◌||◌, List, [], ◌∷◌, length, take, drop, Ok}
use Rattle.std.proofs.Common.{sym, ◌∙◌}
use Rattle.std.proofs.Math.Path.{ap}
use Rattle.std.proofs.Math.Logic.{inl, inr}
use Rattle.std.proofs.Math.ListN.{get_or}
use native.Mathlib.Omega.{arith}
use borrow.Author.Tests.{eq-eqb, eqb-true, ne_eqb, not-false}
use Rattle.standard.specs.Characters.{byte}
use Rattle.standard.specs.Layout.{k_at, kind_offset, body_offset, kind_at, first_byte, valid_mark, incorrect_mark, check_failed, slot_count, slot_ordinal, label_offset, label_at}
use Rattle.standard.specs.Refusals.{given_when}
use Rattle.standard.specs.Slots.{is_label, is_deleted, is_unreadable, slot_refusal}
use Rattle.standard.specs.Judgement.{legal_kind}
use Rattle.standard.specs.Writing.{splice}
use Rattle.standard.specs.Creating.{store_slot, image_with_label, image_without}
use Rattle.standard.specs.declared.Geometry.{Geometry}
use Rattle.promises.specs.Ground.Basics.{either, lt_or_le, by_test, true_not_false, and_l, and_r, or_rest}
use Rattle.promises.specs.Ground.Splices.{Outside, splice_length, splice_before, splice_at, splice_part, splice_outside}
use Rattle.promises.specs.Images.Tiling.{size_index, sector_outside}
use Rattle.promises.specs.Images.SectorLaws.{sector_from_bytes, valid_correct, failed_correct}
use Rattle.promises.specs.Volumes.Judging.{order_all, order_each, not_given}
use Rattle.promises.specs.Volumes.VolumeNumbers.{Numbers, slot_in_index, label_room}
use Rattle.promises.proofs.Writing.Storing.{WholeImage}
use Rattle.promises.proofs.Making.SlotEdits.{Edit}

module _ (g : Geometry) (n : Numbers g) (slot : ℕ) (low : 1 ≤ slot) (inside : slot ≤ slot_count g) (kind : ℕ) (new : List ℕ) (short : length new ≤ 128)
    (s : List ℕ) (l : WholeImage g s) where
  abbrev at : ℕ
  at = kind_offset g (slot_ordinal slot)

  abbrev marked : List ℕ
  marked = splice at (kind ∷ []) s

  abbrev pub laid : List ℕ
  laid = splice (label_offset g slot) new marked

  room : at + 1 + 128 ≤ length s
  unfolding label_offset body_offset
  room = omega (arith, label_room g slot n inside)

  marked_length : length marked ≡ length s
  marked_length = splice_length at (kind ∷ []) s (omega (arith, room))

  label_fits : label_offset g slot + length new ≤ length marked
  unfolding label_offset body_offset
  label_fits = omega (arith, room, marked_length)

  pub laid_length : length laid ≡ length s
  laid_length = splice_length (label_offset g slot) new marked label_fits ∙ marked_length

  -- EVERY OTHER BYTE STAYS
  pub laid_outside : (i : ℕ) → Outside i at (1 + length new) → get_or laid i 0 ≡ get_or s i 0
  unfolding label_offset body_offset
  laid_outside i (inl k) =
      splice_before (at + 1) new marked label_fits i (omega arith) ∙ splice_before at (kind ∷ []) s (omega (arith, room)) i k
  laid_outside i (inr k) =
      splice_outside (at + 1) new marked label_fits i (inr (omega arith)) ∙ splice_outside at (kind ∷ []) s (omega (arith, room)) i (inr (omega arith))

  pub laid_kind : kind_at g laid (slot_ordinal slot) ≡ kind
  unfolding kind_at label_offset body_offset
  laid_kind =
      let z : at + 0 ≡ at = omega arith in
      splice_before (at + 1) new marked label_fits at (omega arith)
      ∙ ap (λ (i : ℕ). get_or marked i 0) (sym z) ∙ splice_at at (kind ∷ []) s (omega (arith, room)) 0 (omega arith)

  pub laid_part : take (length new) (drop (label_offset g slot) laid) ≡ new
  laid_part = splice_part (label_offset g slot) new marked label_fits

  -- every sector but this slot's is the same
  pub laid_edit : Edit g s laid slot
  laid_edit =
      record {
        low = low;
        high = inside;
        size = sym laid_length;
        others = λ k ne.
            let z = size_index g (slot_ordinal slot) (slot_in_index g slot n inside) in
            sector_from_bytes g s laid k (sym laid_length)
            (λ i lo hi.
            let o : Outside i at (128 + 1) = rw z at (sector_outside g k (slot_ordinal slot) i ne lo hi) in
            either o
            (λ (b : i < at). sym (laid_outside i (inl b)))
            (λ (b : at + (128 + 1) ≤ i). sym (laid_outside i (inr (omega arith)))));
      }

-- A DELETED SLOT is no label, and passes
module _ (g : Geometry) (image : List ℕ) (slot : ℕ) (d : is_deleted g image slot ≡ true) where
  deleted_incorrect : incorrect_mark g image (slot_ordinal slot) ≡ true
  unfolding is_deleted
  deleted_incorrect = and_l (incorrect_mark g image (slot_ordinal slot)) _ d

  deleted_not_valid : valid_mark g image (slot_ordinal slot) ≡ false
  deleted_not_valid =
      by_test (valid_mark g image (slot_ordinal slot))
      (λ v. absurd (true_not_false _ deleted_incorrect (valid_correct g image (slot_ordinal slot) v))) (λ v. v)

  deleted_not_failed : check_failed g image (slot_ordinal slot) ≡ false
  deleted_not_failed =
      by_test (check_failed g image (slot_ordinal slot))
      (λ v. absurd (true_not_false _ deleted_incorrect (failed_correct g image (slot_ordinal slot) v))) (λ v. v)

  pub deleted_no_label : is_label g image slot ≡ false
  unfolding is_label
  deleted_no_label = rw deleted_not_valid

  deleted_readable : is_unreadable g image slot ≡ false
  unfolding is_unreadable is_deleted
  deleted_readable =
      let f = eqb-true (first_byte g image (slot_ordinal slot)) (byte "D") (and_r (incorrect_mark g image (slot_ordinal slot)) _ d) in
      let x = ne_eqb (first_byte g image (slot_ordinal slot)) (byte "F") (λ (q : first_byte g image (slot_ordinal slot) ≡ byte "F"). omega arith) in
      rw (deleted_not_failed, deleted_incorrect, x)

  pub deleted_passes : slot_refusal g image slot ≡ Ok tt
  unfolding slot_refusal given_when
  deleted_passes = order_all _ (rw deleted_readable, (rw (deleted_no_label, d), (rw deleted_no_label, tt)))

  pub deleted_legal : legal_kind g image (slot_ordinal slot) ≡ true
  unfolding legal_kind
  deleted_legal = rw (deleted_not_valid, deleted_incorrect)

-- a slot that passed 8 to 10 is deleted exactly if it has no label
pub deleted_unless : (g : Geometry) (image : List ℕ) (slot : ℕ) → slot_refusal g image slot ≡ Ok tt → is_deleted g image slot ≡ not (is_label g image slot)
unfolding slot_refusal
deleted_unless g image slot p =
    let (r8, (r9, _)) = order_each _ p in
    let one : (is_label g image slot || is_deleted g image slot) ≡ true = not-false _ (not_given (not (is_label g image slot || is_deleted g image slot)) _ r9) in
    by_test (is_label g image slot)
    (λ l. by_test (is_deleted g image slot) (λ d. absurd (true_not_false _ l (deleted_no_label g image slot d))) (λ d. d ∙ sym (ap not l)))
    (λ l. or_rest (is_label g image slot) _ l one ∙ sym (ap not l))

-- a label's kind is legal
pub label_legal : (g : Geometry) (image : List ℕ) (slot : ℕ) → is_label g image slot ≡ true → legal_kind g image (slot_ordinal slot) ≡ true
unfolding is_label legal_kind
label_legal g image slot h = rw (and_l (valid_mark g image (slot_ordinal slot)) _ h)

-- THE SLOT AFTERWARDS: deleted; with a whole label
module _ (g : Geometry) (n : Numbers g) (slot : ℕ) (low : 1 ≤ slot) (inside : slot ≤ slot_count g) (s : List ℕ) (l : WholeImage g s) where
  abbrev without : List ℕ
  without = image_without g slot s

  abbrev o : ℕ
  o = slot_ordinal slot

  short : 1 ≤ 128
  short = omega arith

  pub without_edit : Edit g s without slot
  unfolding store_slot
  without_edit = laid_edit g n slot low inside (16 + k_at g o) (byte "D" ∷ []) short s l

  pub without_deleted : is_deleted g without slot ≡ true
  unfolding is_deleted incorrect_mark first_byte store_slot label_offset
  without_deleted =
      let k = laid_kind g n slot low inside (16 + k_at g o) (byte "D" ∷ []) short s l in
      let z : body_offset g o + 0 ≡ body_offset g o = omega arith in
      let b = ap (λ (i : ℕ). get_or (image_without g slot s) i 0) (sym z)
      ∙ splice_at (body_offset g o) (byte "D" ∷ []) (splice (kind_offset g o) ((16 + k_at g o) ∷ []) s)
      (label_fits g n slot low inside (16 + k_at g o) (byte "D" ∷ []) short s l) 0 (omega arith) in
      rw (eq-eqb _ _ k, eq-eqb _ _ b)

  -- two bytes change: the kind, and the label's first
  pub without_bytes : (i : ℕ) → (i ≡ kind_offset g o → ⊥) → (i ≡ label_offset g slot → ⊥) → get_or without i 0 ≡ get_or s i 0
  unfolding store_slot label_offset body_offset
  without_bytes i a b =
      let k = kind_offset g o in
      laid_outside g n slot low inside (16 + k_at g o) (byte "D" ∷ []) short s l i
      (either (lt_or_le i k)
      (λ (x : i < k). inl x)
      (λ (x : k ≤ i).
      either (lt_or_le k i)
      (λ (y : k < i).
      either (lt_or_le (k + 1) i) (λ (z : k + 1 < i). inr (omega arith)) (λ (z : i ≤ k + 1). absurd (b (omega arith))))
      (λ (y : i ≤ k). absurd (a (omega arith)))))

module _ (g : Geometry) (n : Numbers g) (slot : ℕ) (low : 1 ≤ slot) (inside : slot ≤ slot_count g) (h : List ℕ) (whole : length h ≡ 128) (s : List ℕ)
    (l : WholeImage g s) where
  abbrev with_label : List ℕ
  with_label = image_with_label g slot h s

  fits : length h ≤ 128
  fits = omega arith

  pub with_edit : Edit g s with_label slot
  unfolding store_slot
  with_edit = laid_edit g n slot low inside (0 + k_at g (slot_ordinal slot)) h fits s l

  pub with_valid : valid_mark g with_label (slot_ordinal slot) ≡ true
  unfolding valid_mark store_slot
  with_valid =
      let z : 0 + k_at g (slot_ordinal slot) ≡ k_at g (slot_ordinal slot) = omega arith in
      eq-eqb _ _ (laid_kind g n slot low inside (0 + k_at g (slot_ordinal slot)) h fits s l ∙ z)

  pub with_label_lem : label_at g with_label slot ≡ h
  unfolding label_at store_slot
  with_label_lem = rw whole at (laid_part g n slot low inside (0 + k_at g (slot_ordinal slot)) h fits s l)

  -- every byte outside the slot's 129 stays
  pub with_bytes : (i : ℕ) → Outside i (kind_offset g (slot_ordinal slot)) 129 → get_or with_label i 0 ≡ get_or s i 0
  unfolding store_slot
  with_bytes i k = laid_outside g n slot low inside (0 + k_at g (slot_ordinal slot)) h fits s l i (rw whole k)
