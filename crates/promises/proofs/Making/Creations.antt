-- Request 2026-01, creating: the image after an accepted create.
-- Assumes nothing.
use Rattle.std.specs.Prelude.{ℕ, ◌+◌, ◌-◌, ◌<◌, ◌≤◌, ◌≡◌, refl, true, false, ◌&&◌, List, length, get_or, ltb, eqb, Result, Option, Ok, Err, Some, None}
use Rattle.std.proofs.Math.Path.{sym, ap}
use Rattle.std.proofs.Common.{subst, ◌∙◌, arith}
use Rattle.std.proofs.Math.Dec.{leb}
use borrow.Author.Tests.{ltb-false, leb-true, eqb-false}
use Rattle.standard.specs.Characters.{same, bytes}
use Rattle.standard.specs.Layout.{kind_offset, slot_count, slot_ordinal, label_offset, label_at}
use Rattle.standard.specs.Addresses.{rank, address_count, legal}
use Rattle.standard.specs.Labels.{known_level, name_of, start_of, end_of, data_end_of, label_fault}
use Rattle.standard.specs.Slots.{is_label}
use Rattle.standard.specs.Judgement.{judged, overlap, same_name}
use Rattle.standard.specs.Files.{extent_size}
use Rattle.standard.specs.Finding.{found_from, found, label_found}
use Rattle.standard.specs.Free.{free_records}
use Rattle.standard.specs.Creating.{name_in, proposal_fault, name_used, run_start, no_room, free_run, lowest_run, lowest_deleted, create_refusal, created_start, created_end, created_label, image_created, creation, image_after_create, Creation, file_made}
use Rattle.standard.specs.declared.Geometry.{Geometry}
use Rattle.standard.specs.declared.Address.{Address}
use Rattle.standard.specs.declared.Refusal.{Refusal}
use Rattle.standard.specs.declared.Found.{Found}
use Rattle.promises.specs.Ground.Basics.{either, lt_or_le, by_test, true_not_false, and_l, and_r, never}
use Rattle.promises.specs.Ground.Splices.{Outside}
use Rattle.promises.specs.Images.AddressLaws.{rank_of, legal_of}
use Rattle.promises.specs.Volumes.Judging.{accepted, judged_from, label_passes, order_each, not_given}
use Rattle.promises.specs.Volumes.AcceptedLaws.{image_length_lem, label_in_range}
use Rattle.promises.specs.Volumes.VolumeNumbers.{Numbers, numbers_of_lem}
use Rattle.promises.specs.Volumes.FindingLaws.{same_equal, same_self, find_named, find_none}
use Rattle.promises.specs.Volumes.FreeLaws.{has_label_lem}
use Rattle.promises.specs.Making.RunsFree.{Lowest, lowest_run_lem, run_free, run_meets, LowestDeleted, lowest_deleted_lem}
use Rattle.promises.proofs.Making.SlotEdits.{Edit, not_named, other_name, edit_accepted, other_found_from, free_fewer}
use Rattle.promises.proofs.Making.OthersStay.{AsBefore, others_stay}
use Rattle.promises.proofs.Making.SlotSplices.{deleted_no_label, label_legal, with_edit, with_valid, with_label_lem, with_bytes}
use Rattle.promises.specs.Making.Drafts.{Right, proposal_right, Fields, proposed_fields, draft_known, draft_start, draft_end, draft_data_end, draft_right}

-- WHAT AN ACCEPTED CREATE SAYS: the proposal has no fault, no file has the name, a slot is deleted, and there is a run
pub record Creatable (g : Geometry) (image w : List ℕ) (n : ℕ) : Type 0 where
  pub right : proposal_fault g w n ≡ 0
  pub unnamed : (slot : ℕ) → 1 ≤ slot → slot ≤ slot_count g → is_label g image slot ≡ true → known_level (label_at g image slot) ≡ true
      → name_of (label_at g image slot) ≡ name_in w → ⊥
  pub slot : LowestDeleted g image (lowest_deleted g image)
  pub run : Lowest g image n (run_start (lowest_run g image n))

unused_name : (f : Result Found Refusal) → name_used f ≡ Ok tt → (r : Refusal) × (f ≡ Err r)
unused_name (Err r) h = (r, refl)
unused_name (Ok f) h = never (cc)

room_there : (r : Option ℕ) → no_room r ≡ Ok tt → r ≡ Some (run_start r)
room_there None h = never (cc)
room_there (Some i) h = refl

pub creatable : (image : List ℕ) (g : Geometry) (w : List ℕ) (n : ℕ) → judged image ≡ Ok g → create_refusal g image w n ≡ Ok tt → Creatable g image w n
unfolding create_refusal found
creatable image g w n j p =
    let (r10, (r12, (r28, (r29, _)))) = order_each _ p in
    let u = unused_name (found_from g image (name_in w) (slot_count g) 1) r12 in
    let f : found image (name_in w) ≡ Err u.0 = rw j u.1 in
    let s = eqb-false (lowest_deleted g image) 0 (not_given (eqb (lowest_deleted g image) 0) _ r28) in
    let low : 1 ≤ lowest_deleted g image =
    either (lt_or_le 0 (lowest_deleted g image)) (λ (l : 0 < lowest_deleted g image). l) (λ (m : lowest_deleted g image ≤ 0). absurd (s (omega arith))) in
    record {
      right = omega (arith, ltb-false 0 (proposal_fault g w n) (not_given (ltb 0 (proposal_fault g w n)) _ r10));
      unnamed = ((find_none image g j (name_in w) u.0).0 f).1;
      slot = lowest_deleted_lem g image (lowest_deleted g image) refl low;
      run = lowest_run_lem g image n (run_start (lowest_run g image n)) (room_there (lowest_run g image n) r29);
    }

module _ (image : List ℕ) (g : Geometry) (w : List ℕ) (n : ℕ) (j : judged image ≡ Ok g) (c : create_refusal g image w n ≡ Ok tt) where
  abbrev slot : ℕ
  slot = lowest_deleted g image

  abbrev i : ℕ
  i = run_start (lowest_run g image n)

  abbrev start : Address
  start = created_start g image n

  abbrev end : Address
  end = created_end g image n

  abbrev h : List ℕ
  h = created_label g image w n

  abbrev t : List ℕ
  t = image_created g image w n

  -- THE ANSWER: the lowest deleted slot and the start of the lowest free run; and the image
  pub creation_is : creation image w n ≡ record { answer = file_made slot start; image = t }
  unfolding creation
  creation_is = rw (j, c)

  pub after_create : image_after_create image w n ≡ t
  after_create = ap (λ (o : Creation). o.image) creation_is

  ns : Numbers g
  ns = numbers_of_lem image g j

  able : Creatable g image w n
  able = creatable image g w n j c

  r : Right g w n
  r = proposal_right g w n able.right

  low : 1 ≤ slot
  low = able.slot.low

  high : slot ≤ slot_count g
  high = able.slot.high

  -- start and end
  start_in : i < address_count g
  start_in = omega (arith, able.run.run.inside, r.some)

  end_in : i + (n - 1) < address_count g
  end_in = omega (arith, able.run.run.inside, r.some)

  pub start_rank : rank g start ≡ i
  start_rank = rank_of g i

  pub end_rank : rank g end ≡ i + (n - 1)
  end_rank = rank_of g (i + (n - 1))

  ordered : rank g start ≤ rank g end
  ordered = omega (arith, start_rank, end_rank)

  start_legal : legal g start ≡ true
  start_legal = legal_of g i start_in

  end_legal : legal g end ≡ true
  end_legal = legal_of g (i + (n - 1)) end_in

  -- THE LABEL: all 128 bytes are those that were proposed, in a slot that is a label now, and no rule is broken
  pub created_fields : Fields w start end h
  created_fields = proposed_fields w r.bytes29 start end

  whole : length h ≡ 128
  whole = created_fields.whole

  pub created_label_lem : label_at g t slot ≡ h
  unfolding image_created
  created_label_lem = with_label_lem g ns slot low high h whole image (image_length_lem image g j)

  pub created_is_label : is_label g t slot ≡ true
  unfolding is_label image_created
  created_is_label =
      rw (with_valid g ns slot low high h whole image (image_length_lem image g j), created_label_lem, created_fields.tag) (same_self (bytes "HDR1"))

  pub created_right : label_fault g h ≡ 0
  created_right = draft_right g ns w n able.right start end start_legal end_legal ordered

  pub created_known : known_level h ≡ true
  created_known = draft_known g ns w n able.right start end start_legal end_legal ordered

  pub created_name : name_of h ≡ name_in w
  created_name = created_fields.name

  pub created_start_lem : start_of h ≡ start
  created_start_lem = draft_start g ns w n able.right start end start_legal end_legal ordered

  pub created_end_lem : end_of h ≡ end
  created_end_lem = draft_end g ns w n able.right start end start_legal end_legal ordered

  -- "the data end is the start"
  pub created_data_end : data_end_of h ≡ start
  created_data_end = draft_data_end g ns w n able.right start end start_legal end_legal ordered

  pub create_edit : Edit g image t slot
  unfolding image_created
  create_edit = with_edit g ns slot low high h whole image (image_length_lem image g j)

  -- NO BYTE OUTSIDE THE SLOT'S SECTOR CHANGES
  pub create_bytes : (k : ℕ) → Outside k (kind_offset g (slot_ordinal slot)) 129 → get_or t k 0 ≡ get_or image k 0
  unfolding image_created
  create_bytes = with_bytes g ns slot low high h whole image (image_length_lem image g j)

  none_before : is_label g image slot ≡ false
  none_before = deleted_no_label g image slot able.slot.deleted

  -- the new extent shares no record with another, and no other has the name
  apart : (other : ℕ) → 1 ≤ other → other ≤ slot_count g → is_label g image other ≡ true → overlap g h (label_at g image other) ≡ false
  unfolding overlap
  apart other l m b =
      let k = label_at g image other in
      let own = has_label_lem g image other l m b in
      by_test (leb (rank g (start_of h)) (rank g (end_of k)) && leb (rank g (start_of k)) (rank g (end_of h)))
      (λ y.
      let p = leb-true (rank g (start_of h)) (rank g (end_of k)) (and_l (leb (rank g (start_of h)) (rank g (end_of k))) _ y) in
      let q = leb-true (rank g (start_of k)) (rank g (end_of h)) (and_r (leb (rank g (start_of h)) (rank g (end_of k))) _ y) in
      let a = ap (rank g) created_start_lem ∙ start_rank in
      let e = ap (rank g) created_end_lem ∙ end_rank in
      absurd (true_not_false (free_run g image n i) (run_free g image n i able.run.run)
      (run_meets g image other own n i (label_in_range image g other j own).ordered (omega (arith, q, e, r.some)) (omega (arith, p, a)) r.some)))
      (λ y. y)

  named : (other : ℕ) → 1 ≤ other → other ≤ slot_count g → is_label g image other ≡ true → same_name h (label_at g image other) ≡ false
  unfolding same_name
  named other l m b =
      let k = label_at g image other in
      by_test ((known_level h && known_level k) && same (name_of h) (name_of k))
      (λ y.
      let q = and_r (known_level h) _ (and_l (known_level h && known_level k) _ y) in
      let e = same_equal (name_of h) (name_of k) (and_r (known_level h && known_level k) _ y) in
      absurd (able.unnamed other l m b q (sym e ∙ created_name)))
      (λ y. y)

  -- ACCEPTED AGAIN
  pub create_accepted : judged t ≡ Ok g
  create_accepted =
      judged_from t g
      (edit_accepted g image t slot ns create_edit (label_legal g t slot created_is_label)
      (label_passes g t slot created_is_label (ap (label_fault g) created_label_lem ∙ created_right))
      (λ other l m ne a b. subst (λ (x : List ℕ). overlap g x (label_at g image other) ≡ false) (sym created_label_lem) (apart other l m b))
      (λ other l m ne a b. subst (λ (x : List ℕ). same_name x (label_at g image other) ≡ false) (sym created_label_lem) (named other l m b))
      (accepted image g j))

  -- "Existing files read as before."
  pub create_others : (other : ℕ) → (other ≡ slot → ⊥) → AsBefore g image t other
  create_others = others_stay g image t slot ns create_edit j create_accepted

  -- found as before by every other name; the new file by its own
  pub create_found : (name : List ℕ) → (name_in w ≡ name → ⊥) → found image name ≡ found t name
  unfolding found
  create_found name ne =
      rw (j, create_accepted)
      (other_found_from g image t slot ns create_edit name
      (not_named g image name slot none_before
      ∙ sym (other_name g t name slot (λ (q : name_of (label_at g t slot) ≡ name). ne (sym created_name ∙ ap name_of (sym created_label_lem) ∙ q))))
      (slot_count g) 1 (omega arith))

  pub create_found_new : found t (name_in w) ≡ label_found slot (label_offset g slot)
  create_found_new =
      (find_named t g create_accepted (name_in w) slot (label_offset g slot)).1
      (low, high, created_is_label, ap known_level created_label_lem ∙ created_known, ap name_of created_label_lem ∙ created_name, refl)

  -- THE FREE RECORDS are n fewer
  created_size : extent_size g (label_at g t slot) ≡ n
  unfolding extent_size
  created_size =
      rw created_label_lem (omega (arith, ap (rank g) created_start_lem, ap (rank g) created_end_lem, start_rank, end_rank, r.some))

  pub create_free : free_records g t + n ≡ free_records g image
  create_free = ap (λ (x : ℕ). free_records g t + x) (sym created_size) ∙ free_fewer g image t slot ns create_edit none_before created_is_label j create_accepted
