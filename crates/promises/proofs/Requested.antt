-- THE REQUESTS OF DOCUMENT 02, of the definitions, for a reader who proves nothing: as `Demands`, of which the first lines say how to read this. Each promise stands
-- under the sentence that it states; the lines behind `=` only name its proof. 2026-01, "Make and drop files on the box"; 2026-02, "The version digit is at 80"; 2026-03,
-- "Cylinder skip readable beside the paper".
-- Assumes nothing.
use Rattle.std.specs.Prelude.{ℕ, ◌+◌, ◌-◌, ◌*◌, ◌<◌, ◌≤◌, ◌≡◌, true, length, get_or, Ok, Err}
use Rattle.std.proofs.Math.Path.{refl, sym, ap}
use Rattle.std.proofs.Common.{subst, ◌∙◌, arith}
use mathlib.Core.List.{List, [], ◌∷◌, ◌++◌, map, flatten}
use Rattle.standard.specs.Characters.{byte, one_of, at}
use Rattle.standard.specs.Refusals.{refuse}
use Rattle.standard.specs.Layout.{ordinal_at, body_at, vol1_of, kind_offset, slot_count, slot_ordinal, label_offset, label_at}
use Rattle.standard.specs.Addresses.{rank, address_of, address_count, ordinal}
use Rattle.standard.specs.Rules.{lowest_fault}
use Rattle.standard.specs.Defects.{ermap_rules, defect1, defect2, skip_one, physical}
use Rattle.standard.specs.Skips.{StopsAt, walked, walked_ordinal}
use Rattle.standard.specs.Packed.{packed_judged}
use Rattle.standard.specs.Labels.{known_level, name_of}
use Rattle.standard.specs.Slots.{is_label, is_deleted}
use Rattle.standard.specs.Judgement.{judged, refusal1, refusal2}
use Rattle.standard.specs.Writing.{splice}
use Rattle.standard.specs.Places.{start}
use Rattle.standard.specs.Records.{Mode}
use Rattle.standard.specs.Reading.{Reply, read_answer}
use Rattle.standard.specs.Files.{extent_size, refusal17, counted, bytes_of}
use Rattle.standard.specs.Finding.{found, label_found}
use Rattle.standard.specs.Free.{free_records}
use Rattle.standard.specs.Creating.{proposed, name_in, proposal_fault, lowest_deleted, create_list, create_refusal, created_start, image_created, created, image_after_create, Creation, delete_list, delete_refusal, image_without, deleted, image_after_delete, Deletion, file_made}
use Rattle.standard.specs.declared.Geometry.{Geometry}
use Rattle.standard.specs.declared.Address.{Address}
use Rattle.standard.specs.declared.Refusal.{Refusal}
use Rattle.standard.specs.declared.Answer.TheVariants.{End}
use Rattle.promises.specs.Ground.Splices.{Outside}
use Rattle.promises.specs.Images.Unjudged.{reserve_unjudged}
use Rattle.promises.proofs.Images.Alike.{NoneJudged, Only}
use Rattle.promises.specs.Refusals.Refusing.{Exactly, First}
use Rattle.promises.specs.Bounds.VersionNamed.{HoldBelow80, version_is, three_at_80, three_names}
use Rattle.promises.proofs.Demands.{unseen_judged, unjudged_byte}
use Rattle.promises.specs.Making.RunsFree.{Blocked}
use Rattle.promises.specs.Bounds.PackedLaws.{bits, geometry_back}
use Rattle.promises.proofs.Bounds.PackedLaws.{numbers_exact}
use Rattle.promises.specs.Volumes.VolumeNumbers.{numbers_of_lem, Pair, ermap_pair, defects_of}
use Rattle.promises.proofs.Volumes.SkipWalk.{skip_walks, skip_stops}
use Rattle.promises.specs.Volumes.PairsPass.{ermap_with, pair_passes}
use Rattle.promises.proofs.Making.OthersStay.{AsBefore}
use Rattle.promises.proofs.Making.Deletions.{Deletable, deletion_is, after_delete, delete_edit, slot_deleted, delete_bytes, delete_accepted, delete_others, delete_found, delete_not_found, delete_free}
use Rattle.promises.proofs.Making.Creations.{creation_is, after_create, start_rank, created_label_lem, created_is_label, create_edit, create_bytes, create_accepted, create_others, create_found, create_found_new, create_free}
use Rattle.promises.proofs.Making.MadeExactly.{file_made_same, create_first, delete_first, refusal_creates_nothing, refusal_deletes_nothing, accepted_create, accepted_delete, Creates, creates_exactly, deletes_exactly, Unnamed, refused_for_room_exactly, room_used_again, name_used_again}
use Rattle.promises.specs.Making.ProposedFaults.{proposal_places}
use Rattle.promises.proofs.Making.EmptyFiles.{created_count, created_reads, created_wrong}

-- ======== 2026-01, FILES MADE AND DROPPED: WHEN
-- "Refusals: after 1-12 on the volume, 10 for the proposed label [..], 12 for a name in use, with the slot that has it, then 28 no deleted slot, 29 no run;
-- delete gives 13, 14, 24." Each is given exactly where it is the first of its list, and a refusal changes no byte.
module _ (image : List ℕ) (g : Geometry) (accepted : judged image ≡ Ok g) where
  pub creating_refused : (w : List ℕ) (n : ℕ) (r : Refusal) → Exactly (created image w n ≡ Err r) (First r (create_list g image w n))
  creating_refused = create_first image g accepted

  pub deleting_refused : (slot : ℕ) (r : Refusal) → Exactly (deleted image slot ≡ Err r) (First r (delete_list g image slot))
  deleting_refused = delete_first image g accepted

  -- "Creating takes the 29 bytes [..] and uses the lowest free run of n consecutive data addresses and the lowest deleted slot": done exactly if the label is
  -- right, its name is in no use, `slot` is deleted and no lower one is, and from `start` on n addresses are free, and from no lower one (`Creates`)
  pub creating_done : (w : List ℕ) (n slot : ℕ) (start : Address) → Exactly (created image w n ≡ file_made slot start) (Creates image g accepted w n slot start)
  creating_done = creates_exactly image g accepted

  -- "With a deleted slot at hand, creation is refused for lack of room exactly if no run of n free addresses exists": wherever one would start, a label's extent
  -- has one of its addresses (`Blocked`)
  pub no_room_exactly : (w : List ℕ) (n slot : ℕ) → proposal_fault g w n ≡ 0 → Unnamed image g accepted w
      → 1 ≤ slot → slot ≤ slot_count g → is_deleted g image slot ≡ true
      → Exactly (created image w n ≡ Err (refuse 29 0)) ((i : ℕ) → i + n ≤ address_count g → Blocked g image n i)
  no_room_exactly = refused_for_room_exactly image g accepted

  -- a label of a known level, not protected; the answer is the number of records that are free again
  pub deleting_done : (slot n : ℕ) → Exactly (deleted image slot ≡ Ok n) (Deletable g image slot × (n ≡ extent_size g (label_at g image slot)))
  deleting_done = deletes_exactly image g accepted

-- the position that a 10 of creating names: 6, 23, 35, 40, 44, 54 or 63 (0: none is given)
pub proposed_at : (image : List ℕ) (g : Geometry) → judged image ≡ Ok g → (w : List ℕ) (n : ℕ) → one_of (0 ∷ 6 ∷ 23 ∷ 35 ∷ 40 ∷ 44 ∷ 54 ∷ 63 ∷ []) (proposal_fault g w n) ≡ true
proposed_at image g accepted w n = proposal_places g (numbers_of_lem image g accepted) w n

pub refused_create_stays : (image w : List ℕ) (n : ℕ) (r : Refusal) → created image w n ≡ Err r → image_after_create image w n ≡ image
refused_create_stays = refusal_creates_nothing

pub refused_delete_stays : (image : List ℕ) (slot : ℕ) (r : Refusal) → deleted image slot ≡ Err r → image_after_delete image slot ≡ image
refused_delete_stays = refusal_deletes_nothing

-- ======== A FILE CREATED
module _ (image : List ℕ) (g : Geometry) (accepted : judged image ≡ Ok g) (w : List ℕ) (n slot : ℕ) (from : Address)
    (done : created image w n ≡ file_made slot from) where
  abbrev after : List ℕ
  after = image_after_create image w n

  passed : create_refusal g image w n ≡ Ok tt
  passed = accepted_create image g accepted w n slot from done

  -- slot, start and image are those of the definitions
  thus : (P : ℕ → Address → List ℕ → Type 0) → P (lowest_deleted g image) (created_start g image n) (image_created g image w n) → P slot from after
  thus P p =
      let e = sym (ap (λ (o : Creation). o.answer) (creation_is image g w n accepted passed)) ∙ done in
      let both = file_made_same (lowest_deleted g image) slot (created_start g image n) from e in
      let s = both.0 in
      let a = both.1 in
      subst (λ (x : List ℕ). P slot from x) (sym (after_create image g w n accepted passed))
      (subst (λ (x : Address). P slot x (image_created g image w n)) a (subst (λ (x : ℕ). P x (created_start g image n) (image_created g image w n)) s p))

  -- "Other fields are spaces, the data end is the start." The slot has the label, all 128 bytes of it, from the start to the n-th address from there on.
  pub create_label_is : (is_label g after slot ≡ true) × (label_at g after slot ≡ proposed w from (address_of g (rank g from + (n - 1))))
  create_label_is =
      thus (λ s a x. (is_label g x s ≡ true) × (label_at g x s ≡ proposed w a (address_of g (rank g a + (n - 1))))) (
        created_is_label image g w n accepted passed,
        created_label_lem image g w n accepted passed
            ∙ ap (λ (i : ℕ). proposed w (created_start g image n) (address_of g (i + (n - 1)))) (sym (start_rank image g w n accepted passed)),
      )

  -- no byte outside the slot's sector changes
  pub create_changes_no_more : (length after ≡ length image)
      × ((i : ℕ) → Outside i (kind_offset g (slot_ordinal slot)) 129 → get_or after i 0 ≡ get_or image i 0)
  create_changes_no_more =
      thus (λ s a x. (length x ≡ length image) × ((i : ℕ) → Outside i (kind_offset g (slot_ordinal s)) 129 → get_or x i 0 ≡ get_or image i 0))
      (sym (create_edit image g w n accepted passed).size, create_bytes image g w n accepted passed)

  -- the volume is accepted with the same numbers: so the new extent is in range, shares no record with another, and the name is no other's
  pub create_stays_accepted : judged after ≡ Ok g
  create_stays_accepted = thus (λ s a x. judged x ≡ Ok g) (create_accepted image g w n accepted passed)

  -- "Existing files read as before": every other slot is `AsBefore` (OthersStay)
  pub create_others_stay : (other : ℕ) → (other ≡ slot → ⊥) → AsBefore g image after other
  create_others_stay = thus (λ s a x. (other : ℕ) → (other ≡ s → ⊥) → AsBefore g image x other) (create_others image g w n accepted passed)

  -- it is found by its name, and every other name as before
  pub create_found_by_name : (found after (name_in w) ≡ label_found slot (label_offset g slot)) × ((name : List ℕ) → (name_in w ≡ name → ⊥) → found after name ≡ found image name)
  create_found_by_name =
      thus (λ s a x. (found x (name_in w) ≡ label_found s (label_offset g s)) × ((name : List ℕ) → (name_in w ≡ name → ⊥) → found x name ≡ found image name))
      (create_found_new image g w n accepted passed, (λ name ne. sym (create_found image g w n accepted passed name ne)))

  -- n records fewer are free
  pub create_free_less : free_records g after + n ≡ free_records g image
  create_free_less = thus (λ s a x. free_records g x + n ≡ free_records g image) (create_free image g w n accepted passed)

  -- it is empty: no blocks, and its start answers End, in both modes, unless a record of the run has an incorrect mark and a first byte that is not `F`
  pub create_reads_empty : refusal17 g image (label_at g after slot) ≡ Ok tt
      → (counted after slot ≡ Ok 0) × ((m : Mode) (out : List ℕ) → read_answer m after slot start out ≡ Ok (End start))
  create_reads_empty =
      thus (λ s a x. refusal17 g image (label_at g x s) ≡ Ok tt → (counted x s ≡ Ok 0) × ((m : Mode) (out : List ℕ) → read_answer m x s start out ≡ Ok (End start)))
      (λ p.
      let q = subst (λ (h : List ℕ). refusal17 g image h ≡ Ok tt) (created_label_lem image g w n accepted passed) p in (
        created_count image g w n accepted passed ∙ rw q,
        (λ m out. ap (λ (r : Reply). r.answer) (created_reads image g w n accepted passed m (length out) q)),
      ))

  -- and if one has, that is what the count and every reading of its start are refused for: 17, naming the first
  pub create_reads_wrong : (r : Refusal) → refusal17 g image (label_at g after slot) ≡ Err r
      → (counted after slot ≡ Err r) × ((m : Mode) (out : List ℕ) → read_answer m after slot start out ≡ Err r)
  create_reads_wrong r =
      thus (λ s a x. refusal17 g image (label_at g x s) ≡ Err r → (counted x s ≡ Err r) × ((m : Mode) (out : List ℕ) → read_answer m x s start out ≡ Err r))
      (λ p.
      let q = subst (λ (h : List ℕ). refusal17 g image h ≡ Err r) (created_label_lem image g w n accepted passed) p in (
        created_count image g w n accepted passed ∙ rw q,
        (λ m out. ap (λ (x : Reply). x.answer) (created_wrong image g w n accepted passed m (length out) r q)),
      ))

-- ======== A FILE DELETED
module _ (image : List ℕ) (g : Geometry) (accepted : judged image ≡ Ok g) (slot n : ℕ) (done : deleted image slot ≡ Ok n) where
  abbrev left : List ℕ
  left = image_after_delete image slot

  abbrev label : List ℕ
  label = label_at g image slot

  gone : delete_refusal g image slot ≡ Ok tt
  gone = accepted_delete image g accepted slot n done

  so : (P : ℕ → List ℕ → Type 0) → P (extent_size g label) (image_without g slot image) → P n left
  so P p =
      let e = ap (λ (o : Deletion). o.answer) (deletion_is image g slot accepted gone) in
      let s : extent_size g label ≡ n = cc in
      subst (λ (x : List ℕ). P n x) (sym (after_delete image g slot accepted gone)) (subst (λ (x : ℕ). P x (image_without g slot image)) s p)

  -- "Deleting gives the slot the incorrect mark and first byte `D`, nothing else."
  pub delete_is : (is_deleted g left slot ≡ true) × (length left ≡ length image)
      × ((i : ℕ) → (i ≡ kind_offset g (slot_ordinal slot) → ⊥) → (i ≡ label_offset g slot → ⊥) → get_or left i 0 ≡ get_or image i 0)
  delete_is =
      so (λ k x. (is_deleted g x slot ≡ true) × (length x ≡ length image)
      × ((i : ℕ) → (i ≡ kind_offset g (slot_ordinal slot) → ⊥) → (i ≡ label_offset g slot → ⊥) → get_or x i 0 ≡ get_or image i 0))
      (slot_deleted image g slot accepted gone, sym (delete_edit image g slot accepted gone).size, delete_bytes image g slot accepted gone)

  pub delete_stays_accepted : judged left ≡ Ok g
  delete_stays_accepted = so (λ k x. judged x ≡ Ok g) (delete_accepted image g slot accepted gone)

  -- "Existing files read as before": every other slot is `AsBefore` (OthersStay)
  pub delete_others_stay : (other : ℕ) → (other ≡ slot → ⊥) → AsBefore g image left other
  delete_others_stay = so (λ k x. (other : ℕ) → (other ≡ slot → ⊥) → AsBefore g image x other) (delete_others image g slot accepted gone)

  -- its name is found no longer, and every other as before
  pub delete_found_no_more : (found left (name_of label) ≡ Err (refuse 13 0)) × ((name : List ℕ) → (name_of label ≡ name → ⊥) → found left name ≡ found image name)
  delete_found_no_more =
      so (λ k x. (found x (name_of label) ≡ Err (refuse 13 0)) × ((name : List ℕ) → (name_of label ≡ name → ⊥) → found x name ≡ found image name))
      (delete_not_found image g slot accepted gone, (λ name ne. sym (delete_found image g slot accepted gone name ne)))

  -- n records more are free
  pub delete_free_more : free_records g left ≡ free_records g image + n
  delete_free_more = so (λ k x. free_records g x ≡ free_records g image + k) (delete_free image g slot accepted gone)

  -- "Room freed by a delete is used again": a right label with the name of the file deleted, or with one that is in no use, of as many records or fewer, is placed
  pub delete_room_again : (w : List ℕ) (k : ℕ) → proposal_fault g w k ≡ 0 → k ≤ n → name_in w ≡ name_of label
      → (s : ℕ) × (a : Address) × (created left w k ≡ file_made s a)
  delete_room_again =
      so (λ e x. (w : List ℕ) (k : ℕ) → proposal_fault g w k ≡ 0 → k ≤ e → name_in w ≡ name_of label → (s : ℕ) × (a : Address) × (created x w k ≡ file_made s a))
      (λ w k z l e. (_, _, name_used_again image g slot accepted gone w k z e l))

  pub delete_room_other : (w : List ℕ) (k : ℕ) → proposal_fault g w k ≡ 0 → k ≤ n
      → ((s : ℕ) → 1 ≤ s → s ≤ slot_count g → is_label g left s ≡ true → known_level (label_at g left s) ≡ true → name_of (label_at g left s) ≡ name_in w → ⊥)
      → (s : ℕ) × (a : Address) × (created left w k ≡ file_made s a)
  delete_room_other =
      so (λ e x. (w : List ℕ) (k : ℕ) → proposal_fault g w k ≡ 0 → k ≤ e
      → ((s : ℕ) → 1 ≤ s → s ≤ slot_count g → is_label g x s ≡ true → known_level (label_at g x s) ≡ true → name_of (label_at g x s) ≡ name_in w → ⊥)
      → (s : ℕ) × (a : Address) × (created x w k ≡ file_made s a))
      (λ w k z l u. (_, _, room_used_again image g slot accepted gone w k z u l))

-- ======== 2026-02, THE VERSION DIGIT IS AT 80
module _ (image : List ℕ) where
  -- "Position 80 must be `3`"
  pub version_digit : (g : Geometry) → judged image ≡ Ok g → at (vol1_of image) 80 ≡ byte "3"
  version_digit = version_is image

  -- "Refusals: 3 now names 80": exactly if neither 1 nor 2 is given, the rules of the positions below 80 hold (`HoldBelow80`: the first seven rows of VOL1's table),
  -- and 80 is not `3`. What stands behind 80, and every refusal from 4 on, plays no part.
  pub version_refused : Exactly (judged image ≡ Err (refuse 3 80))
      ((refusal1 image ≡ Ok tt) × (refusal2 image ≡ Ok tt) × HoldBelow80 (vol1_of image) × (at (vol1_of image) 80 ≡ byte "3" → ⊥))
  version_refused = three_at_80 image

  -- "and no longer 79": the positions that a 3 names
  pub named_by_3 : (r : Refusal) → r.number ≡ 3 → judged image ≡ Err r
      → one_of (1 ∷ 5 ∷ 11 ∷ 38 ∷ 72 ∷ 76 ∷ 77 ∷ 80 ∷ 81 ∷ 83 ∷ 85 ∷ 89 ∷ []) r.first ≡ true
  named_by_3 = three_names image

-- "79 becomes reserved and is not judged": it is one of the positions that no answer hangs on (Demands, its last section), so whatever byte is put there, a volume is
-- judged as before, accepted or refused. (VOL1's position p is byte 6·129 + p of the image; `splice`: bytes laid over others from an offset on.)
pub reserve_not_judged : NoneJudged (Only 7 79)
reserve_not_judged sector p q = rw (q.0, q.1) reserve_unjudged

pub reserve_judged_alike : (image : List ℕ) (x : ℕ) → 6 * 129 + 79 < length image → judged image ≡ judged (splice (6 * 129 + 79) (x ∷ []) image)
reserve_judged_alike image x inside =
    unseen_judged (Only 7 79) reserve_not_judged image _ (unjudged_byte image 7 79 x (omega arith) (omega arith) (omega arith) (omega arith) inside)

-- ======== 2026-03, CYLINDER SKIP READABLE BESIDE THE PAPER
-- "Our bench engineer checks the skip by hand and the code walks cylinders counting good ones. Please rewrite it as the two comparisons of document 01 [..]. What it
-- answers stays the same for every cylinder and pair of defects." `physical` is the two comparisons; `walked` is the walk as a loop, and `StopsAt g c n` says of n that
-- a walk for data cylinder c stops there, however it is written: n is good, and of the cylinders 1 to n there are c good ones (Skips).
-- `Pair L d1 d2`: none is present; d1 is, at most L; both are, d1 < d2, at most L+1. These are exactly the pairs that 128 bytes without a
-- fault of ERMAP have.
pub pairs_that_pass : (L d1 d2 : ℕ) → L ≤ 96
    → Exactly ((e : List ℕ) × (length e ≡ 128) × (lowest_fault (ermap_rules L e) ≡ 0) × (defect1 e ≡ d1) × (defect2 e ≡ d2)) (Pair L d1 d2)
pairs_that_pass L d1 d2 few = (
  (λ (f : (e : List ℕ) × (length e ≡ 128) × (lowest_fault (ermap_rules L e) ≡ 0) × (defect1 e ≡ d1) × (defect2 e ≡ d2)).
      subst (λ (x : ℕ). Pair L x d2) f.3 (subst (λ (y : ℕ). Pair L (defect1 f.0) y) f.4 (ermap_pair L f.0 f.2))),
  (λ p. let q = pair_passes L d1 d2 few p in (ermap_with d1 d2, q.0, q.1, q.2, q.3)),
)

-- "for every cylinder and pair of defects", those that pass: c is any number. (With d1 = d2, or with the two exchanged, the two ways part: `edges_part`.)
module _ (g : Geometry) (passes : Pair g.L g.d1 g.d2) where
  pub skip_is_walk : (c : ℕ) → walked g c ≡ physical g c
  skip_is_walk = skip_walks g passes.in_order

  pub skip_is_any_walk : (c n : ℕ) → 1 ≤ c → Exactly (n ≡ physical g c) (StopsAt g c n)
  skip_is_any_walk = skip_stops g passes.in_order

-- so of every accepted volume; and so the sector of every address, by which alone answers hang on the skip (`ordinal` is the one definition that uses `physical`), is
-- on the cylinder at which the walk stops
module _ (image : List ℕ) (g : Geometry) (accepted : judged image ≡ Ok g) where
  pub accepted_pair : Pair g.L g.d1 g.d2
  accepted_pair = defects_of image g accepted

  pub stands_where_walked : (a : Address) → ordinal g a ≡ walked_ordinal g a
  unfolding ordinal
  stands_where_walked a = ap (λ (n : ℕ). ordinal_at g n a.side a.sector) (sym (skip_is_walk g accepted_pair a.cylinder))

  -- so the bytes that reading takes from records, one behind the other, are those of the sectors that the walk leads to
  pub bytes_where_walked : (records : List Address) → bytes_of g image records ≡ flatten (map (λ a. body_at g image (walked_ordinal g a)) records)
  unfolding bytes_of flatten
  bytes_where_walked [] = refl
  bytes_where_walked (a ∷ others) =
      ap (λ (n : ℕ). body_at g image n ++ bytes_of g image others) (stands_where_walked a)
      ∙ ap (λ (rest : List ℕ). body_at g image (walked_ordinal g a) ++ rest) (bytes_where_walked others)

  -- a caller in C has d1 and d2 from the returned number, and the same cylinder by comparing with them (galz_physical in the header)
  pub number_skips : (c : ℕ) → skip_one (bits 40 8 (packed_judged (judged image))) (skip_one (bits 32 8 (packed_judged (judged image))) c) ≡ walked g c
  unfolding physical geometry_back
  number_skips c = ap (λ (x : Geometry). physical x c) (numbers_exact image g accepted) ∙ sym (skip_is_walk g accepted_pair c)
