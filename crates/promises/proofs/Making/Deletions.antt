-- Request 2026-01, "Deleting gives the slot the incorrect mark and first byte `D`, nothing else": the image after an accepted delete.
-- Assumes nothing.
use Rattle.std.specs.Prelude.{ℕ, ◌+◌, ◌≤◌, ◌≡◌, refl, true, false, not, get_or, eqb, Ok, Err, None}
use Rattle.std.proofs.Math.Path.{sym}
use Rattle.std.proofs.Common.{ap, subst, ◌∙◌, arith}
use mathlib.Core.List.{List}
use Rattle.std.proofs.lemmas.Bool.{not-false}
use Rattle.standard.specs.Characters.{at, byte}
use Rattle.standard.specs.Refusals.{refuse}
use Rattle.standard.specs.Layout.{kind_offset, slot_count, slot_ordinal, label_offset, label_at}
use Rattle.standard.specs.Addresses.{rank}
use Rattle.standard.specs.Labels.{known_level, name_of, start_of, end_of}
use Rattle.standard.specs.Slots.{is_label, is_deleted, has_label}
use Rattle.standard.specs.Judgement.{judged}
use Rattle.standard.specs.Files.{extent_size}
use Rattle.standard.specs.Finding.{found}
use Rattle.standard.specs.Free.{in_extent, free_records}
use Rattle.standard.specs.Creating.{lowest_run, lowest_deleted, delete_refusal, image_without, deletion, image_after_delete, Deletion}
use Rattle.standard.specs.declared.Geometry.{Geometry}
use Rattle.promises.specs.Ground.Basics.{either, eq_or_not, by_test, true_not_false}
use Rattle.promises.specs.Images.AddressLaws.{rank_lt}
use Rattle.promises.specs.Volumes.Judging.{accepted, judged_from, order_each, not_given}
use Rattle.promises.specs.Volumes.AcceptedLaws.{image_length_lem, has_slot, label_in_range, InRange, bounds_extent, labels_apart}
use Rattle.promises.specs.Volumes.VolumeNumbers.{Numbers, numbers_of_lem}
use Rattle.promises.specs.Volumes.FindingLaws.{one_of_name, find_none}
use Rattle.promises.specs.Making.RunsFree.{Free, no_run, none_deleted}
use Rattle.promises.proofs.Making.SlotEdits.{Edit, not_named, other_name, edit_back, edit_accepted, other_label, other_is_label, other_has, other_found_from, free_fewer}
use Rattle.promises.proofs.Making.OthersStay.{AsBefore, others_stay}
use Rattle.promises.proofs.Making.SlotSplices.{deleted_no_label, deleted_passes, deleted_legal, without_edit, without_deleted, without_bytes}

-- what an accepted delete says
pub record Deletable (g : Geometry) (image : List ℕ) (slot : ℕ) : Type 0 where
  pub labelled : has_label g image slot ≡ true
  pub known : known_level (label_at g image slot) ≡ true
  pub unprotected : eqb (at (label_at g image slot) 43) (byte "P") ≡ false

pub deletable : (g : Geometry) (image : List ℕ) (slot : ℕ) → delete_refusal g image slot ≡ Ok tt → Deletable g image slot
unfolding delete_refusal
deletable g image slot p =
    let h = label_at g image slot in
    let (r13, (r14, (r24, _))) = order_each _ p in
    record {
      labelled = not-false _ (not_given (not (has_label g image slot)) _ r13);
      known = not-false _ (not_given (not (known_level h)) _ r14);
      unprotected = not_given (eqb (at h 43) (byte "P")) _ r24;
    }

module _ (image : List ℕ) (g : Geometry) (slot : ℕ) (j : judged image ≡ Ok g) (d : delete_refusal g image slot ≡ Ok tt) where
  abbrev h : List ℕ
  h = label_at g image slot

  abbrev t : List ℕ
  t = image_without g slot image

  -- THE ANSWER: the size of the extent; and the image
  pub deletion_is : deletion image slot ≡ record { answer = Ok (extent_size g h); image = t }
  unfolding deletion
  deletion_is = rw (j, d)

  pub after_delete : image_after_delete image slot ≡ t
  after_delete = ap (λ (o : Deletion). o.image) deletion_is

  ns : Numbers g
  ns = numbers_of_lem image g j

  labelled : has_label g image slot ≡ true
  labelled = (deletable g image slot d).labelled

  range : InRange g h
  range = label_in_range image g slot j labelled

  pub delete_edit : Edit g image t slot
  delete_edit =
      let s = has_slot g image slot labelled in
      without_edit g ns slot s.0 s.1 image (image_length_lem image g j)

  -- THE SLOT IS DELETED, "nothing else": two bytes change
  pub slot_deleted : is_deleted g t slot ≡ true
  slot_deleted =
      let s = has_slot g image slot labelled in
      without_deleted g ns slot s.0 s.1 image (image_length_lem image g j)

  pub delete_bytes : (i : ℕ) → (i ≡ kind_offset g (slot_ordinal slot) → ⊥) → (i ≡ label_offset g slot → ⊥) → get_or t i 0 ≡ get_or image i 0
  delete_bytes =
      let s = has_slot g image slot labelled in
      without_bytes g ns slot s.0 s.1 image (image_length_lem image g j)

  no_label : is_label g t slot ≡ false
  no_label = deleted_no_label g t slot slot_deleted

  -- ACCEPTED AGAIN
  pub delete_accepted : judged t ≡ Ok g
  delete_accepted =
      judged_from t g
      (edit_accepted g image t slot ns delete_edit (deleted_legal g t slot slot_deleted) (deleted_passes g t slot slot_deleted)
      (λ other l m ne a b. absurd (true_not_false (is_label g t slot) a no_label))
      (λ other l m ne a b. absurd (true_not_false (is_label g t slot) a no_label))
      (accepted image g j))

  -- "Existing files read as before."
  pub delete_others : (other : ℕ) → (other ≡ slot → ⊥) → AsBefore g image t other
  delete_others = others_stay g image t slot ns delete_edit j delete_accepted

  -- found as before by every other name, and by its own no longer
  pub delete_found : (name : List ℕ) → (name_of h ≡ name → ⊥) → found image name ≡ found t name
  unfolding found
  delete_found name ne =
      rw (j, delete_accepted)
      (other_found_from g image t slot ns delete_edit name (other_name g image name slot ne ∙ sym (not_named g t name slot no_label)) (slot_count g) 1 (omega arith))

  pub delete_not_found : found t (name_of h) ≡ Err (refuse 13 0)
  delete_not_found =
      (find_none t g delete_accepted (name_of h) (refuse 13 0)).1 (
        refl,
        (λ other l m a b c.
            either (eq_or_not other slot)
            (λ (q : other ≡ slot). true_not_false (is_label g t slot) (subst (λ (x : ℕ). is_label g t x ≡ true) q a) no_label)
            (λ (ne : other ≡ slot → ⊥).
            let s = has_slot g image slot labelled in
            let e = sym (other_label g image t slot ns delete_edit other ne m) in
            ne (one_of_name image g j (name_of h) other slot l m s.0 s.1
            (other_is_label g image t slot ns delete_edit other ne m ∙ a, subst (λ (x : List ℕ). known_level x ≡ true) e b, subst (λ (x : List ℕ). name_of x ≡ name_of h) e c)
            (s.2, (deletable g image slot d).known, refl)))),
      )

  -- THE FREE RECORDS are as many more as the extent had
  pub delete_free : free_records g t ≡ free_records g image + extent_size g h
  delete_free = sym (free_fewer g t image slot ns (edit_back g image t slot delete_edit) no_label (has_slot g image slot labelled).2 delete_accepted j)

  -- "ROOM FREED BY A DELETE IS USED AGAIN": there is a deleted slot, and a run of every size up to the extent's
  pub room_again : (n : ℕ) → n ≤ extent_size g h → Free g t n (rank g (start_of h))
  unfolding extent_size
  room_again n l =
      record {
        inside = omega (arith, rank_lt g (end_of h) range.end_legal, range.ordered);
        free = λ k a b other ho.
            by_test (in_extent g (label_at g t other) k)
            (λ y.
            either (eq_or_not other slot)
            (λ (q : other ≡ slot).
            absurd (true_not_false (is_label g t slot) (subst (λ (x : ℕ). is_label g t x ≡ true) q (has_slot g t other ho).2) no_label))
            (λ (ne : other ≡ slot → ⊥).
            let m = (has_slot g t other ho).1 in
            let e = sym (other_label g image t slot ns delete_edit other ne m) in
            absurd (ne (labels_apart image g other slot k j (other_has g image t slot ns delete_edit other ne ∙ ho) labelled
            (subst (λ (x : List ℕ). in_extent g x k ≡ true) e y) (bounds_extent g h k a (omega (arith, range.ordered)))))))
            (λ y. y);
      }

  pub run_again : (n : ℕ) → n ≤ extent_size g h → lowest_run g t n ≡ None → ⊥
  run_again n l e = no_run g t n e (rank g (start_of h)) (room_again n l)

  pub slot_again : lowest_deleted g t ≡ 0 → ⊥
  slot_again e =
      let s = has_slot g image slot labelled in
      true_not_false (is_deleted g t slot) slot_deleted (none_deleted g t e slot s.0 s.1)
