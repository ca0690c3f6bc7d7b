-- Request 2026-01, deleting: the list of refusals, and the exits of the call.
-- Assumes nothing.
use Rattle.std.specs.Prelude.{Result, Ok, Err, ⊤}
use Prim.Native.Nat.{ℕ, ◌≤◌}
use mathlib.Core.Path.{◌≡◌, refl, sym, ap, ◌∙◌}
use mathlib.Core.Bool.{true, cond}
use mathlib.Core.List.{List, [], ◌∷◌}
use Rattle.standard.specs.Refusals.{in_order, or_else}
use Rattle.standard.specs.Layout.{slot_count, label_at}
use Rattle.standard.specs.Slots.{is_label}
use Rattle.standard.specs.Files.{extent_size}
use Rattle.standard.specs.Judgement.{judged}
use Rattle.standard.specs.Writing.{refusal24}
use Rattle.standard.specs.Creating.{delete_refusal, image_without, deletion, deleted, image_after_delete, Deletion}
use Rattle.standard.specs.declared.Geometry.{Geometry}
use Rattle.standard.specs.declared.Refusal.{Refusal}
use Rattle.promises.specs.Volumes.AcceptedLaws.{has_slot}
use Rattle.promises.proofs.Making.Deletions.{deletable, deletion_is}
use Rattle.finding.specs.Slot.{known_file}
use Rattle.finding.proofs.AskLaws.{known_first}

last_only : (c : Result ⊤ Refusal) → in_order (c ∷ []) ≡ c
unfolding in_order
last_only (Ok _) = refl
last_only (Err r) = refl

module _ (g : Geometry) (image : List ℕ) (slot : ℕ) where
  abbrev h : List ℕ
  h = label_at g image slot

  -- 13 and 14, then 24
  pub drop_list : (k : Result ⊤ Refusal) → k ≡ known_file g image slot → or_else k (refusal24 h slot) ≡ delete_refusal g image slot
  unfolding delete_refusal
  drop_list k e = rw (e, known_first g image slot (refusal24 h slot ∷ []), last_only (refusal24 h slot))

  -- a slot that is deleted has a label: it is one of the volume's, and the size of its extent is the label's
  pub dropped_slot : delete_refusal g image slot ≡ Ok tt → (1 ≤ slot) × (slot ≤ slot_count g) × (is_label g image slot ≡ true)
  dropped_slot d = has_slot g image slot (deletable g image slot d).labelled

  pub dropped_size : (r : ℕ) → delete_refusal g image slot ≡ Ok tt → r ≡ cond (is_label g image slot) (extent_size g h) 0 → r ≡ extent_size g h
  dropped_size r d e = rw (dropped_slot d).2 at e

-- THE ANSWER, and the image
abbrev pub Ends : List ℕ → ℕ → Result ℕ Refusal → List ℕ → Type 0
Ends image slot r after = (r ≡ deleted image slot) × (after ≡ image_after_delete image slot)

ended_with : (image : List ℕ) (slot : ℕ) (o : Deletion) → deletion image slot ≡ o → Ends image slot o.answer o.image
ended_with image slot o e = (sym (ap (λ (x : Deletion). x.answer) e), sym (ap (λ (x : Deletion). x.image) e))

abbrev undeleted : List ℕ → Refusal → Deletion
undeleted image r = record { answer = Err r; image = image }

pub drop_stopped : (image : List ℕ) (slot : ℕ) (r : Refusal) → judged image ≡ Err r → Ends image slot (Err r) image
unfolding deletion
drop_stopped image slot r j =
    let e : deletion image slot ≡ undeleted image r = rw j in
    ended_with image slot (undeleted image r) e

module _ (image : List ℕ) (g : Geometry) (slot : ℕ) (j : judged image ≡ Ok g) where
  pub drop_refused : (r : Refusal) → delete_refusal g image slot ≡ Err r → Ends image slot (Err r) image
  unfolding deletion
  drop_refused r d =
      let e : deletion image slot ≡ undeleted image r = rw (j, d) in
      ended_with image slot (undeleted image r) e

  pub drop_done : (n : ℕ) (after : List ℕ) → delete_refusal g image slot ≡ Ok tt → n ≡ extent_size g (label_at g image slot) → after ≡ image_without g slot image
      → Ends image slot (Ok n) after
  drop_done n after d p q =
      let e = ended_with image slot _ (deletion_is image g slot j d) in
      (ap Ok p ∙ e.0, q ∙ e.1)
