-- Two images equal but for the bodies of check-failed sectors, and for positions that are not judged: writing a file, creating and deleting one are answered alike,
-- and leave two such images.
-- Assumes nothing.
use Prim.Native.Nat.{ℕ, zero, suc, ◌+◌, ◌≤◌}
use Rattle.std.specs.Prelude.{◌≡◌, true, List, [], ◌∷◌, Result, Ok, Err, ⊤}
use Rattle.std.proofs.Math.Path.{refl, sym}
use Rattle.std.proofs.Common.{ap, subst, ◌∙◌}
use Rattle.std.proofs.Math.Bool.{false}
use Rattle.std.proofs.Math.ListN.{length}
use native.Mathlib.Omega.{arith}
use Rattle.standard.specs.Characters.{byte}
use Rattle.standard.specs.Refusals.{given_when, in_order}
use Rattle.standard.specs.Layout.{check_failed, slot_count, slot_ordinal, label_at}
use Rattle.standard.specs.Slots.{has_label}
use Rattle.standard.specs.Judgement.{judged}
use Rattle.standard.specs.Files.{good_records, records_to_block, extent_size}
use Rattle.standard.specs.Writing.{needed, packing, write_refusal, store_blocks, data_end_after, image_with, Outcome, outcome, written, image_after}
use Rattle.standard.specs.Creating.{name_in, deleted_from, lowest_deleted, free_run, run_from, lowest_run, create_refusal, created_label, image_created, Creation, creation, created, image_after_create, delete_refusal, image_without, Deletion, deletion, deleted, image_after_delete}
use Rattle.standard.specs.declared.Geometry.{Geometry}
use Rattle.standard.specs.declared.Refusal.{Refusal}
use Rattle.promises.specs.Ground.Basics.{by_test}
use Rattle.promises.proofs.Images.Alike.{Loose, NoneJudged, or_failed, EqualBut, unfailed_same}
use Rattle.promises.specs.Images.SectorLaws.{same_failed}
use Rattle.promises.specs.Volumes.Judging.{judged_from}
use Rattle.promises.specs.Volumes.AcceptedLaws.{image_length_lem, has_slot}
use Rattle.promises.specs.Volumes.VolumeNumbers.{Numbers, numbers_of_lem}
use Rattle.promises.specs.Volumes.IndexLaws.{same_is_deleted}
use Rattle.promises.specs.Volumes.IndexReads.{found_same, taken_same}
use Rattle.promises.proofs.Extents.ExtentReads.{alike_good_records}
use Rattle.promises.proofs.Locality.{write_same}
use Rattle.promises.proofs.Writing.AcceptedWrite.{passing, outcome_is, slot_inside, taken_legal}
use Rattle.promises.proofs.Writing.WrittenImage.{stored_slot}
use Rattle.promises.proofs.Writing.AcceptedAgain.{again}
use Rattle.promises.proofs.Making.Creations.{creatable, creation_is, created_fields, create_accepted}
use Rattle.promises.proofs.Making.Deletions.{deletable, deletion_is, delete_accepted}
use Rattle.promises.proofs.Unseen.AnswersAlike.{AlikeOn, alike_on, slot_unfailed, slot_same, label_same, views, file_alike, by_judgement}
use Rattle.promises.proofs.Unseen.LeftAlike.{equal_from, blocks_alike, set_alike, slot_stored_alike}

module _ (loose : Loose) (u : NoneJudged loose) (image image' : List ℕ) (g : Geometry) (j : judged image ≡ Ok g) (e : EqualBut loose image image') where
  ns : Numbers g
  ns = numbers_of_lem image g j

  abbrev alike : AlikeOn loose g image image'
  alike = alike_on loose u image image' g j e

  -- ---- WRITING
  module _ (slot : ℕ) (bodies lengths : List ℕ) where
    write_refusal_alike : write_refusal g image slot bodies lengths ≡ write_refusal g image' slot bodies lengths
    write_refusal_alike = write_same g image image' slot ns.size_low (file_alike loose u image image' g j e slot) bodies lengths

    module _ (w : write_refusal g image slot bodies lengths ≡ Ok tt) where
      abbrev h : List ℕ
      h = label_at g image slot

      abbrev fill : List ℕ → List ℕ
      fill s = store_blocks g (records_to_block g h) (packing h bodies lengths).contents (good_records g image h) s

      good_alike : good_records g image h ≡ good_records g image' h
      good_alike =
          alike_good_records g image image' ns.size_low h ((file_alike loose u image image' g j e slot).sectors (passing g image slot bodies lengths w).labelled)

      behind : (s : ℕ) → 1 ≤ s → 7 ≤ slot_ordinal s
      unfolding slot_ordinal
      behind s low = omega arith

      with_alike : AlikeOn loose g (image_with g image slot (packing h bodies lengths)) (image_with g image' slot (packing (label_at g image' slot) bodies lengths))
      unfolding image_with data_end_after
      with_alike =
          let s = has_slot g image slot (passing g image slot bodies lengths w).labelled in
          let b = blocks_alike loose g ns (records_to_block g h) (packing h bodies lengths).contents (good_records g image h) image image'
          (taken_legal image g slot bodies lengths j w) (image_length_lem image g j) alike in
          let f : check_failed g (fill image) (slot_ordinal slot) ≡ false =
          sym (same_failed g image (fill image) (slot_ordinal slot) (stored_slot image g slot bodies lengths j w)) ∙ slot_unfailed loose u image image' g j e slot s.0 s.1 in
          let same = unfailed_same g (fill image) (fill image') (slot_ordinal slot) (or_failed loose g (fill image) (fill image') (slot_ordinal slot) (b.1.sectors (slot_ordinal slot) (behind slot s.0))) f in
          rw (sym (label_same loose u image image' g j e slot s.0 s.1), sym good_alike)
          (set_alike loose g ns slot s.0 s.1 (fill image) (fill image') b.0 b.1 same _ _)

      with_equal : EqualBut loose (image_with g image slot (packing h bodies lengths)) (image_with g image' slot (packing (label_at g image' slot) bodies lengths))
      with_equal = equal_from loose _ _ g (judged_from _ g (again image g slot bodies lengths j w)) with_alike

  -- ---- CREATING
  deleted_from_alike : (left slot : ℕ) → 1 ≤ slot → slot + left ≤ slot_count g + 1 → deleted_from g image left slot ≡ deleted_from g image' left slot
  unfolding deleted_from
  deleted_from_alike zero slot low l = refl
  deleted_from_alike (suc left) slot low l =
      let i : slot ≤ slot_count g = omega arith in
      rw (same_is_deleted g image image' ns slot i (slot_same loose u image image' g j e slot low i), deleted_from_alike left (slot + 1) (omega arith) (omega arith))

  lowest_deleted_alike : lowest_deleted g image ≡ lowest_deleted g image'
  unfolding lowest_deleted
  lowest_deleted_alike = deleted_from_alike (slot_count g) 1 (omega arith) (omega arith)

  free_run_alike : (n i : ℕ) → free_run g image n i ≡ free_run g image' n i
  unfolding free_run
  free_run_alike zero i = refl
  free_run_alike (suc n) i = rw (taken_same g image image' (views loose u image image' g j e) i (slot_count g) (omega arith), free_run_alike n (i + 1))

  run_from_alike : (n left i : ℕ) → run_from g image n left i ≡ run_from g image' n left i
  unfolding run_from
  run_from_alike n zero i = refl
  run_from_alike n (suc left) i = rw (free_run_alike n i, run_from_alike n left (i + 1))

  lowest_run_alike : (n : ℕ) → lowest_run g image n ≡ lowest_run g image' n
  unfolding lowest_run
  lowest_run_alike n = run_from_alike n _ 0

  module _ (w : List ℕ) (n : ℕ) where
    create_refusal_alike : create_refusal g image w n ≡ create_refusal g image' w n
    unfolding create_refusal
    create_refusal_alike =
        rw (found_same g image image' (views loose u image image' g j e) (name_in w) (slot_count g) 1 (omega arith) (omega arith), lowest_deleted_alike, lowest_run_alike n)

    created_equal : create_refusal g image w n ≡ Ok tt → EqualBut loose (image_created g image w n) (image_created g image' w n)
    unfolding image_created
    created_equal c =
        let s = (creatable image g w n j c).slot in
        let short : length (created_label g image w n) ≤ 128 = omega (arith, (created_fields image g w n j c).whole) in
        equal_from loose _ _ g (create_accepted image g w n j c)
        (rw (sym lowest_deleted_alike, sym (lowest_run_alike n))
        (slot_stored_alike loose g ns (lowest_deleted g image) s.low s.high image image' (image_length_lem image g j) alike
        (slot_same loose u image image' g j e (lowest_deleted g image) s.low s.high) 0 (created_label g image w n) short))

  -- ---- DELETING
  module _ (slot : ℕ) where
    delete_refusal_alike : delete_refusal g image slot ≡ delete_refusal g image' slot
    unfolding delete_refusal in_order given_when
    delete_refusal_alike =
        let same = file_alike loose u image image' g j e slot in
        by_test (has_label g image slot)
        (λ (l : has_label g image slot ≡ true). rw (same.has, same.label l))
        (λ (l : has_label g image slot ≡ false). rw (l, sym same.has ∙ l))

    module _ (d : delete_refusal g image slot ≡ Ok tt) where
      own_label : label_at g image slot ≡ label_at g image' slot
      own_label = (file_alike loose u image image' g j e slot).label (deletable g image slot d).labelled

      without_equal : EqualBut loose (image_without g slot image) (image_without g slot image')
      without_equal =
          let s = has_slot g image slot (deletable g image slot d).labelled in
          let same = slot_same loose u image image' g j e slot s.0 s.1 in
          equal_from loose _ _ g (delete_accepted image g slot j d)
          (slot_stored_alike loose g ns slot s.0 s.1 image image' (image_length_lem image g j) alike same 16 (byte "D" ∷ []) (omega arith))

-- ---- ANY TWO IMAGES
-- what a call leaves that is refused, by the volume or by its own list: the image
outcome_refused : (image : List ℕ) (r : Refusal) (slot : ℕ) (bodies lengths : List ℕ) → judged image ≡ Err r
    → outcome image slot bodies lengths ≡ record { answer = Err r; image = image }
unfolding outcome
outcome_refused image r slot bodies lengths j = rw j

outcome_stopped : (image : List ℕ) (g : Geometry) (r : Refusal) (slot : ℕ) (bodies lengths : List ℕ) → judged image ≡ Ok g
    → write_refusal g image slot bodies lengths ≡ Err r → outcome image slot bodies lengths ≡ record { answer = Err r; image = image }
unfolding outcome
outcome_stopped image g r slot bodies lengths j w = rw (j, w)

creation_refused : (image : List ℕ) (r : Refusal) (w : List ℕ) (n : ℕ) → judged image ≡ Err r
    → creation image w n ≡ record { answer = Err r; image = image }
unfolding creation
creation_refused image r w n j = rw j

creation_stopped : (image : List ℕ) (g : Geometry) (r : Refusal) (w : List ℕ) (n : ℕ) → judged image ≡ Ok g → create_refusal g image w n ≡ Err r
    → creation image w n ≡ record { answer = Err r; image = image }
unfolding creation
creation_stopped image g r w n j c = rw (j, c)

deletion_refused : (image : List ℕ) (r : Refusal) (slot : ℕ) → judged image ≡ Err r → deletion image slot ≡ record { answer = Err r; image = image }
unfolding deletion
deletion_refused image r slot j = rw j

deletion_stopped : (image : List ℕ) (g : Geometry) (r : Refusal) (slot : ℕ) → judged image ≡ Ok g → delete_refusal g image slot ≡ Err r
    → deletion image slot ≡ record { answer = Err r; image = image }
unfolding deletion
deletion_stopped image g r slot j d = rw (j, d)

-- the same answer, and two such images
abbrev WrittenAlike : Loose → Outcome → Outcome → Type 0
WrittenAlike loose o o' = (o.answer ≡ o'.answer) × EqualBut loose o.image o'.image

abbrev CreatedAlike : Loose → Creation → Creation → Type 0
CreatedAlike loose o o' = (o.answer ≡ o'.answer) × EqualBut loose o.image o'.image

abbrev DeletedAlike : Loose → Deletion → Deletion → Type 0
DeletedAlike loose o o' = (o.answer ≡ o'.answer) × EqualBut loose o.image o'.image

carried : {A : Type 0} (R : A → A → Type 0) (x x' : A) {y y' : A} → x ≡ y → x' ≡ y' → R y y' → R x x'
carried {A = A} R x x' {y = y} p q r = subst (λ (a : A). R a x') (sym p) (subst (R y) (sym q) r)

module _ (loose : Loose) (u : NoneJudged loose) (image image' : List ℕ) (e : EqualBut loose image image') where
  write_alike : (slot : ℕ) (bodies lengths : List ℕ) → WrittenAlike loose (outcome image slot bodies lengths) (outcome image' slot bodies lengths)
  write_alike slot bodies lengths =
      by_judgement loose u image image' e
      (λ r j j'. carried (WrittenAlike loose) _ _ (outcome_refused image r slot bodies lengths j) (outcome_refused image' r slot bodies lengths j') (refl, e))
      (λ g j j'. go g j j' (write_refusal g image slot bodies lengths) refl)
    where
      go : (g : Geometry) → judged image ≡ Ok g → judged image' ≡ Ok g → (c : Result ⊤ Refusal) → write_refusal g image slot bodies lengths ≡ c
          → WrittenAlike loose (outcome image slot bodies lengths) (outcome image' slot bodies lengths)
      go g j j' (Ok _) w =
          let w' = sym (write_refusal_alike loose u image image' g j e slot bodies lengths) ∙ w in
          let h = label_same loose u image image' g j e slot (has_slot g image slot (passing g image slot bodies lengths w).labelled).0 (slot_inside image g slot bodies lengths j w) in
          carried (WrittenAlike loose) _ _ (outcome_is image g slot bodies lengths j w) (outcome_is image' g slot bodies lengths j' w')
          (ap (λ (x : List ℕ). Ok (needed x bodies lengths)) h, with_equal loose u image image' g j e slot bodies lengths w)
      go g j j' (Err r) w =
          let w' = sym (write_refusal_alike loose u image image' g j e slot bodies lengths) ∙ w in
          carried (WrittenAlike loose) _ _ (outcome_stopped image g r slot bodies lengths j w) (outcome_stopped image' g r slot bodies lengths j' w') (refl, e)

  create_alike : (w : List ℕ) (n : ℕ) → CreatedAlike loose (creation image w n) (creation image' w n)
  create_alike w n =
      by_judgement loose u image image' e
      (λ r j j'. carried (CreatedAlike loose) _ _ (creation_refused image r w n j) (creation_refused image' r w n j') (refl, e))
      (λ g j j'. go g j j' (create_refusal g image w n) refl)
    where
      go : (g : Geometry) → judged image ≡ Ok g → judged image' ≡ Ok g → (c : Result ⊤ Refusal) → create_refusal g image w n ≡ c
          → CreatedAlike loose (creation image w n) (creation image' w n)
      go g j j' (Ok _) c =
          let c' = sym (create_refusal_alike loose u image image' g j e w n) ∙ c in
          carried (CreatedAlike loose) _ _ (creation_is image g w n j c) (creation_is image' g w n j' c')
          (rw (lowest_deleted_alike loose u image image' g j e, lowest_run_alike loose u image image' g j e n), created_equal loose u image image' g j e w n c)
      go g j j' (Err r) c =
          let c' = sym (create_refusal_alike loose u image image' g j e w n) ∙ c in
          carried (CreatedAlike loose) _ _ (creation_stopped image g r w n j c) (creation_stopped image' g r w n j' c') (refl, e)

  delete_alike : (slot : ℕ) → DeletedAlike loose (deletion image slot) (deletion image' slot)
  delete_alike slot =
      by_judgement loose u image image' e
      (λ r j j'. carried (DeletedAlike loose) _ _ (deletion_refused image r slot j) (deletion_refused image' r slot j') (refl, e))
      (λ g j j'. go g j j' (delete_refusal g image slot) refl)
    where
      go : (g : Geometry) → judged image ≡ Ok g → judged image' ≡ Ok g → (c : Result ⊤ Refusal) → delete_refusal g image slot ≡ c
          → DeletedAlike loose (deletion image slot) (deletion image' slot)
      go g j j' (Ok _) d =
          let d' = sym (delete_refusal_alike loose u image image' g j e slot) ∙ d in
          carried (DeletedAlike loose) _ _ (deletion_is image g slot j d) (deletion_is image' g slot j' d')
          (ap (λ (x : List ℕ). Ok (extent_size g x)) (own_label loose u image image' g j e slot d), without_equal loose u image image' g j e slot d)
      go g j j' (Err r) d =
          let d' = sym (delete_refusal_alike loose u image image' g j e slot) ∙ d in
          carried (DeletedAlike loose) _ _ (deletion_stopped image g r slot j d) (deletion_stopped image' g r slot j' d') (refl, e)

  pub written_alike : (slot : ℕ) (bodies lengths : List ℕ) → written image slot bodies lengths ≡ written image' slot bodies lengths
  written_alike slot bodies lengths = (write_alike slot bodies lengths).0

  pub write_leaves_alike : (slot : ℕ) (bodies lengths : List ℕ) → EqualBut loose (image_after image slot bodies lengths) (image_after image' slot bodies lengths)
  write_leaves_alike slot bodies lengths = (write_alike slot bodies lengths).1

  pub created_alike : (w : List ℕ) (n : ℕ) → created image w n ≡ created image' w n
  created_alike w n = (create_alike w n).0

  pub create_leaves_alike : (w : List ℕ) (n : ℕ) → EqualBut loose (image_after_create image w n) (image_after_create image' w n)
  create_leaves_alike w n = (create_alike w n).1

  pub deleted_alike : (slot : ℕ) → deleted image slot ≡ deleted image' slot
  deleted_alike slot = (delete_alike slot).0

  pub delete_leaves_alike : (slot : ℕ) → EqualBut loose (image_after_delete image slot) (image_after_delete image' slot)
  delete_leaves_alike slot = (delete_alike slot).1
