-- The image after an accepted write is accepted again, with the same numbers.
-- Assumes nothing.
use Rattle.std.specs.Prelude.{ℕ, ◌+◌, ◌≤◌, ◌≡◌, List, Ok}
use Rattle.std.proofs.Common.{sym, subst, ◌∙◌, arith}
use Rattle.standard.specs.Layout.{slot_count, slot_ordinal, label_at, valid_mark}
use Rattle.standard.specs.Slots.{is_label, slot_refusal}
use Rattle.standard.specs.Judgement.{judged}
use Rattle.standard.specs.Writing.{write_refusal}
use Rattle.standard.specs.declared.Geometry.{Geometry}
use Rattle.promises.specs.Ground.Basics.{either, eq_or_not}
use Rattle.promises.specs.Images.Sectors.{sector_at}
use Rattle.promises.specs.Volumes.Judging.{Accepted, accepted, label_passes}
use Rattle.promises.specs.Volumes.AcceptedLaws.{image_length_lem, has_slot}
use Rattle.promises.specs.Volumes.VolumeNumbers.{numbers_of_lem, index_sectors_lem, slot_in_index}
use Rattle.promises.specs.Volumes.IndexLaws.{View, SameFront, SameViews, same_slot_refusal, same_view, accepted_alike}
use Rattle.promises.proofs.Writing.AcceptedWrite.{passing}
use Rattle.promises.specs.Writing.AlikeLabels.{f1, f6, f29, f35, known}
use Rattle.promises.proofs.Writing.WrittenImage.{result, result_whole, result_index, result_kind, result_label, result_legal}
use Rattle.promises.proofs.Writing.WrittenLabel.{new_right}

module _ (image : List ℕ) (g : Geometry) (slot : ℕ) (bodies lengths : List ℕ) (j : judged image ≡ Ok g)
    (w : write_refusal g image slot bodies lengths ≡ Ok tt) where
  abbrev t : List ℕ
  t = result image g slot bodies lengths j w

  -- the other slots
  pub other_sector : (other : ℕ) → other ≤ slot_count g → (other ≡ slot → ⊥) → sector_at g image (slot_ordinal other) ≡ sector_at g t (slot_ordinal other)
  unfolding slot_ordinal
  other_sector other inside ne =
      result_index image g slot bodies lengths j w (slot_ordinal other) (slot_in_index g other (numbers_of_lem image g j) inside)
      (λ (q : other + 6 ≡ slot + 6). ne (omega arith))

  -- this slot
  pub this_is_label : is_label g image slot ≡ is_label g t slot
  unfolding is_label valid_mark
  this_is_label =
      rw (result_kind image g slot bodies lengths j w, f1 (label_at g image slot) (label_at g t slot) (result_label image g slot bodies lengths j w))

  this_view : View g image t slot
  this_view =
      let h = label_at g image slot in
      let k = label_at g t slot in
      let alike = result_label image g slot bodies lengths j w in
      record {
        is_label_lem = this_is_label;
        level_known = sym (known h k alike);
        name = sym (f6 h k alike);
        start = sym (f29 h k alike);
        end = sym (f35 h k alike);
      }

  pub views : SameViews g image t
  views s _ l =
      either (eq_or_not s slot)
      (λ (q : s ≡ slot). subst (λ (x : ℕ). View g image t x) (sym q) this_view)
      (λ (ne : s ≡ slot → ⊥). same_view g image t (numbers_of_lem image g j) s l (other_sector s l ne))

  refusals : (s : ℕ) → s ≤ slot_count g → slot_refusal g image s ≡ Ok tt → slot_refusal g t s ≡ Ok tt
  refusals s l p =
      either (eq_or_not s slot)
      (λ (q : s ≡ slot).
      subst (λ (x : ℕ). slot_refusal g t x ≡ Ok tt) (sym q)
      (label_passes g t slot (sym this_is_label ∙ (has_slot g image slot (passing g image slot bodies lengths w).labelled).2) (new_right image g slot bodies lengths j w)))
      (λ (ne : s ≡ slot → ⊥). sym (same_slot_refusal g image t (numbers_of_lem image g j) s l (other_sector s l ne)) ∙ p)

  front : SameFront g image t
  unfolding slot_ordinal
  front n h =
      let i = index_sectors_lem g (numbers_of_lem image g j) in
      let s = (has_slot g image slot (passing g image slot bodies lengths w).labelled).0 in
      result_index image g slot bodies lengths j w n (omega arith) (λ (q : n ≡ slot + 6). omega arith)

  pub again : Accepted t g
  again =
      accepted_alike g image t views (numbers_of_lem image g j) front (image_length_lem image g j ∙ sym (result_whole image g slot bodies lengths j w))
      (λ n l h. result_legal image g slot bodies lengths j w n h) (λ s l m p. refusals s m p) (accepted image g j)
