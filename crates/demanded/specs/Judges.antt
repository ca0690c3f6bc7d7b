-- DEMAND 2 OF FUNCTIONS THAT JUDGE, FIND AND COUNT, for a reader who proves nothing: what an accepted volume is, what is found and handed out of it, how many
-- blocks a file has and how many records are free; said of any function that meets the contract (Calls), whatever its code. What holds of every call, demand 1
-- and that a contract leaves no choice, is in Called. The lines behind `=` only name the proof. `A → B`: if A then B; `A × B`: both; `A → ⊥`: not A.
-- Assumes nothing.
use Rattle.std.specs.Prelude.{ℕ, ◌+◌, ◌*◌, ◌≤◌, ◌≡◌, true, length, take, drop, Result, Ok, Err, ⊤}
use Rattle.std.proofs.Math.Path.{refl, sym}
use Rattle.std.proofs.Common.{ap, ◌∙◌}
use mathlib.Core.List.{List, [], ◌∷◌, Memᴰ}
use native.Mathlib.Omega.{arith}
use Rattle.standard.specs.Characters.{bytes, byte, one_of, same, at}
use Rattle.standard.specs.Refusals.{refuse}
use Rattle.standard.specs.Layout.{image_length, vol1_of, index_sectors, label_at, slot_count, k_at, body_size, kind_offset, body_offset, slot_ordinal, label_offset, kind_at, body_at, valid_mark}
use Rattle.standard.specs.Defects.{skip_one, physical}
use Rattle.standard.specs.Skips.{StopsAt, walked, walked_ordinal}
use Rattle.standard.specs.Addresses.{ordinal, address_count, legal, rank}
use Rattle.standard.specs.Labels.{known_level, name_of}
use Rattle.standard.specs.Slots.{has_label, is_label}
use Rattle.standard.specs.Judgement.{judged, volume_of, refusal1, refusal2}
use Rattle.standard.specs.Free.{free_records, in_extent}
use Rattle.standard.specs.Files.{extent, block_count, count_or, count_refusal, counted}
use Rattle.standard.specs.Writing.{image_after}
use Rattle.standard.specs.declared.Geometry.{Geometry}
use Rattle.standard.specs.declared.Address.{Address}
use Rattle.standard.specs.declared.Refusal.{Refusal}
use Rattle.standard.specs.declared.Found.{Found}
use Rattle.promises.specs.Ground.Basics.{never}
use Rattle.promises.specs.Refusals.Refusing.{Exactly}
use Rattle.promises.specs.Bounds.VersionNamed.{HoldBelow80}
use Rattle.promises.specs.Bounds.PackedLaws.{bits}
use Rattle.promises.specs.Volumes.VolumeNumbers.{Numbers, numbers_of_lem, image_range}
use Rattle.promises.specs.Volumes.Judging.{accepted as stages-of}
use Rattle.promises.specs.Volumes.AcceptedLaws.{image_length_lem}
use Rattle.promises.specs.Volumes.VolumePromises.{RecordInRange}
use Rattle.promises.proofs.Extents.DefectsApart.{OnDefect}
use Rattle.promises.specs.Volumes.FindingLaws.{find_slot as found-in-slot, slot_handed_out}
use Rattle.promises.specs.Volumes.FreeLaws.{extents_below}
use Rattle.promises.specs.Images.Sectors.{AgreeOn, sector_of}
use Rattle.promises.proofs.Demands.{extents_in_range, extents_off_defects, sharing_no_record, extent_is, finding_gives, label_given, free_gives, locality, write_counts}
use Rattle.promises.proofs.Requested.{version_digit, version_refused, named_by_3, skip_is_walk, skip_is_any_walk, accepted_pair, stands_where_walked, number_skips}
use Rattle.promises.proofs.Instances.{demo, demo_volume, demo_bodies, demo_lengths, demo_old, demo_accepted, demo_version}
use Rattle.standard.specs.Finding.{label_found}
use Rattle.demanded.specs.Calls.{Response, Meets, ByName, InSlot, named, in_slot, judge, find, find_slot, label_named_row, label_in_slot_row, free, count, contract, galz_judge, exported}

-- ======== JUDGING
module _ (judger : List ℕ → Response (Result Geometry Refusal)) (judges : Meets (contract judge) judger) where
  module _ (image : List ℕ) (g : Geometry) (accepts : (judger image).answer ≡ Ok g) where
    pub accepted : judged image ≡ Ok g
    accepted = sym (judges image).0 ∙ accepts

    -- the numbers are those that VOL1 and ERMAP spell, and the image has the length that they give
    pub numbers_are : g ≡ volume_of image
    numbers_are = sym (stages-of image g accepted).numbers

    pub length_is : length image ≡ image_length g
    length_is = image_length_lem image g accepted

    -- L, I, D, P and S are those that VOL1 may have, and the image is "from 1,548 to 5,283,408" bytes long
    pub numbers_in_range : Numbers g
    numbers_in_range = numbers_of_lem image g accepted

    pub length_in_range : (1548 ≤ length image) × (length image ≤ 5283408)
    length_in_range = image_range image g accepted

    -- "extents in range": the address of every record of an extent is one of the volume, its sector behind the index cylinder and on no defective one, its
    -- bytes inside the image; and an extent has exactly the addresses from its start to its end
    pub keeps_extents_in_range : (slot : ℕ) (a : Address) → has_label g image slot ≡ true → Memᴰ a (extent g (label_at g image slot)) → RecordInRange image g a
    keeps_extents_in_range slot a h = extents_in_range image g slot a accepted h

    pub has_whole_extents : (slot : ℕ) (a : Address) → has_label g image slot ≡ true
        → Exactly (Memᴰ a (extent g (label_at g image slot))) ((legal g a ≡ true) × (in_extent g (label_at g image slot) (rank g a) ≡ true))
    has_whole_extents slot a h = extent_is image g slot a accepted h

    -- "data skip them (house)": no extent has a sector of a defective cylinder (`OnDefect`). So none is read (Readers, `looks_past_defects`), and none is changed
    -- (Writers, `leaves_defects`)
    pub keeps_off_defects : (slot n : ℕ) → has_label g image slot ≡ true → sector_of g (extent g (label_at g image slot)) n ≡ true → OnDefect g n → ⊥
    keeps_off_defects = extents_off_defects image g accepted

    -- "sharing no record"
    pub shares_no_record : (slot other : ℕ) (a b : Address) → has_label g image slot ≡ true → has_label g image other ≡ true
        → Memᴰ a (extent g (label_at g image slot)) → Memᴰ b (extent g (label_at g image other)) → ordinal g a ≡ ordinal g b → slot ≡ other
    shares_no_record slot other a b = sharing_no_record image g slot other a b accepted

    -- request 2026-02, "Position 80 must be `3`"
    pub has_version : at (vol1_of image) 80 ≡ byte "3"
    has_version = version_digit image g accepted

    -- request 2026-03, "What it answers stays the same for every cylinder and pair of defects": with the numbers that it gives, the two comparisons (`physical`) lead to the
    -- cylinder at which a walk that counts good ones stops, as a loop (`walked`) and however it is written (`StopsAt`); and every address stands there
    pub skips_as_walked : (c : ℕ) → (walked g c ≡ physical g c) × ((n : ℕ) → 1 ≤ c → Exactly (n ≡ physical g c) (StopsAt g c n))
    skips_as_walked c = let p = accepted_pair image g accepted in (skip_is_walk g p c, skip_is_any_walk g p c)

    pub stands_as_walked : (a : Address) → ordinal g a ≡ walked_ordinal g a
    stands_as_walked = stands_where_walked image g accepted

  -- "Refusals: 3 now names 80 and no longer 79": exactly if neither 1 nor 2 is given, the rules of VOL1's positions below 80 hold, and 80 is not `3`; and these are all
  -- the positions that a 3 names. (79 is not judged: Unseen, `reserve_at_79`.)
  pub refuses_version_exactly : (image : List ℕ) → Exactly ((judger image).answer ≡ Err (refuse 3 80))
      ((refusal1 image ≡ Ok tt) × (refusal2 image ≡ Ok tt) × HoldBelow80 (vol1_of image) × (at (vol1_of image) 80 ≡ byte "3" → ⊥))
  refuses_version_exactly image =
      let e = version_refused image in
      let is = (judges image).0 in
      ((λ h. e.0 (sym is ∙ h)), (λ f. is ∙ e.1 f))

  pub three_names_these : (image : List ℕ) (r : Refusal) → (judger image).answer ≡ Err r → r.number ≡ 3
      → one_of (1 ∷ 5 ∷ 11 ∷ 38 ∷ 72 ∷ 76 ∷ 77 ∷ 80 ∷ 81 ∷ 83 ∷ 85 ∷ 89 ∷ []) r.first ≡ true
  three_names_these image r h three = named_by_3 image r three (sym (judges image).0 ∙ h)

  -- one that takes the digit at either place: `demo` with `3` at 79 and a space at 80 is refused, and 80 is named
  pub no_either_place : (judger demo_old).answer ≡ Err (refuse 3 80)
  no_either_place = (judges demo_old).0 ∙ demo_version.0

  -- "These programs have to be rejected: one refusing everything": a small volume with an empty file (`demo`, in Instances) is accepted
  pub no_refusing_judge : (x : Refusal) → (judger demo).answer ≡ Err x → ⊥
  no_refusing_judge x h = let e = sym demo_accepted.1 ∙ (sym (judges demo).0 ∙ h) in never (cc)

-- the same for C, of the number that is returned: by comparing with its bits 32-39 and 40-47, d1 and d2 (galz_physical), a caller has the cylinder of the walk
module _ (judger : List ℕ → Response ℕ) (judges : Meets (exported galz_judge) judger) where
  pub number_skips_as_walked : (image : List ℕ) (g : Geometry) (c : ℕ) → judged image ≡ Ok g
      → let n = (judger image).answer in skip_one (bits 40 8 n) (skip_one (bits 32 8 n) c) ≡ walked g c
  number_skips_as_walked image g c j =
      ap (λ (n : ℕ). skip_one (bits 40 8 n) (skip_one (bits 32 8 n) c)) (judges image).0 ∙ number_skips image g j c

-- ======== FINDING
module _ (finder : ByName → Response (Result Found Refusal)) (finds : Meets (contract find) finder) where
  -- "Names are 17 bytes, found among levels space, 1, 2 only"
  pub finds_exactly : (image name : List ℕ) (g : Geometry) (slot offset : ℕ) → judged image ≡ Ok g
      → Exactly ((finder (named image name)).answer ≡ label_found slot offset)
      ((1 ≤ slot) × (slot ≤ slot_count g) × (is_label g image slot ≡ true) × (known_level (label_at g image slot) ≡ true)
      × (name_of (label_at g image slot) ≡ name) × (offset ≡ label_offset g slot))
  finds_exactly image name g slot offset j =
      let e = finding_gives image g j name slot offset in
      let is = (finds (named image name)).0 in
      ((λ h. e.0 (sym is ∙ h)), (λ f. is ∙ e.1 f))

  -- "A file's label is handed out as the 128 bytes in the image itself": the bytes from the offset on that is found
  pub hands_out_named : (labeler : ByName → Response (List ℕ)) → Meets (contract label_named_row) labeler → (image name : List ℕ) (g : Geometry) (slot offset : ℕ)
      → judged image ≡ Ok g → (finder (named image name)).answer ≡ label_found slot offset
      → ((labeler (named image name)).answer ≡ take 128 (drop offset image)) × (length (labeler (named image name)).answer ≡ 128)
  hands_out_named labeler labels image name g slot offset j h =
      let l = label_given image g j name slot offset (sym (finds (named image name)).0 ∙ h) in
      let is = (labels (named image name)).0 in
      (is ∙ l.0, ap length is ∙ l.1)

  -- one that refuses everything: the file of `demo` is found
  pub no_refusing_find : (x : Refusal) → (finder (named demo (bytes "LOG              "))).answer ≡ Err x → ⊥
  unfolding one_of same k_at body_size kind_offset body_offset slot_ordinal label_offset label_at kind_at body_at valid_mark slot_count is_label known_level
  no_refusing_find x h =
      let f = (finds_exactly demo (bytes "LOG              ") demo_volume 1 904 demo_accepted.1).1 (omega arith, omega arith, refl, refl, refl, refl) in
      let e = sym f ∙ h in
      never (cc)

module _ (finder : InSlot → Response (Result Found Refusal)) (finds : Meets (contract find_slot) finder) where
  pub finds_slot_exactly : (image : List ℕ) (g : Geometry) (slot s offset : ℕ) → judged image ≡ Ok g
      → Exactly ((finder (in_slot image slot)).answer ≡ label_found s offset) ((has_label g image slot ≡ true) × (s ≡ slot) × (offset ≡ label_offset g slot))
  finds_slot_exactly image g slot s offset j =
      let e = found-in-slot image g j slot s offset in
      let is = (finds (in_slot image slot)).0 in
      ((λ h. e.0 (sym is ∙ h)), (λ f. is ∙ e.1 f))

  pub hands_out_in_slot : (labeler : InSlot → Response (List ℕ)) → Meets (contract label_in_slot_row) labeler → (image : List ℕ) (g : Geometry) (slot s offset : ℕ)
      → judged image ≡ Ok g → (finder (in_slot image slot)).answer ≡ label_found s offset
      → ((labeler (in_slot image slot)).answer ≡ take 128 (drop offset image)) × (length (labeler (in_slot image slot)).answer ≡ 128)
  hands_out_in_slot labeler labels image g slot s offset j h =
      let l = slot_handed_out image g j slot s offset (sym (finds (in_slot image slot)).0 ∙ h) in
      let is = (labels (in_slot image slot)).0 in
      (is ∙ l.0, ap length is ∙ l.1)

-- ======== COUNTING
counted_exactly : (c : Result ⊤ Refusal) (blocks n : ℕ) → Exactly (count_or c blocks ≡ Ok n) ((c ≡ Ok tt) × (n ≡ blocks))
counted_exactly (Ok _) blocks n = ((λ h. (refl, cc)), (λ p. ap Ok (sym p.1)))
counted_exactly (Err r) blocks n = ((λ h. never (cc)), (λ p. never (let e = p.0 in cc)))

module _ (counter : InSlot → Response (Result ℕ Refusal)) (counts : Meets (contract count) counter) where
  -- "The number of blocks is 0 if data end = start; .." (`block_count`), where the count is not refused
  pub counts_exactly : (image : List ℕ) (g : Geometry) (slot n : ℕ) → judged image ≡ Ok g
      → Exactly ((counter (in_slot image slot)).answer ≡ Ok n) ((count_refusal g image slot ≡ Ok tt) × (n ≡ block_count g image (label_at g image slot)))
  unfolding counted
  counts_exactly image g slot n j =
      let e = counted_exactly (count_refusal g image slot) (block_count g image (label_at g image slot)) n in
      let is : (counter (in_slot image slot)).answer ≡ count_or (count_refusal g image slot) (block_count g image (label_at g image slot)) =
      (counts (in_slot image slot)).0 ∙ rw j in
      ((λ h. e.0 (sym is ∙ h)), (λ p. is ∙ e.1 p))

  -- "Two accepted images equal in the index cylinder and in one file's extent give equal answers": the count too. `AgreeOn g set`: the images have the same
  -- bytes in every sector of the set; `sectorOf g addresses`: the set of the sectors that have these addresses
  pub counts_locally : (image image' : List ℕ) (g g' : Geometry) (slot : ℕ) → judged image ≡ Ok g → judged image' ≡ Ok g'
      → take (index_sectors g * 129) image ≡ take (index_sectors g * 129) image'
      → AgreeOn g (sector_of g (extent g (label_at g image slot))) image image'
      → (counter (in_slot image slot)).answer ≡ (counter (in_slot image' slot)).answer
  counts_locally image image' g g' slot j j' index extents =
      (counts (in_slot image slot)).0 ∙ (locality image image' g g' slot j j' index extents).2 ∙ sym (counts (in_slot image' slot)).0

  -- "an invented block .. count": another number than that of the blocks
  pub no_inventing_blocks : (image : List ℕ) (g : Geometry) (slot n : ℕ) → judged image ≡ Ok g → (n ≡ block_count g image (label_at g image slot) → ⊥)
      → (counter (in_slot image slot)).answer ≡ Ok n → ⊥
  no_inventing_blocks image g slot n j other h = other ((counts_exactly image g slot n j).0 h).1

  -- one that refuses everything: the file of `demo`, after a write of two records, has one block
  pub no_refusing_count : (x : Refusal) → (counter (in_slot (image_after demo 1 demo_bodies demo_lengths) 1)).answer ≡ Err x → ⊥
  no_refusing_count x h =
      let one = (write_counts demo demo_volume 1 demo_bodies demo_lengths 1 demo_accepted.1 demo_accepted.3).1 in
      let e = sym one ∙ (sym (counts (in_slot (image_after demo 1 demo_bodies demo_lengths) 1)).0 ∙ h) in
      never (cc)

-- ======== FREE RECORDS
module _ (counter : List ℕ → Response (Result ℕ Refusal)) (counts : Meets (contract free) counter) where
  -- all data addresses less the sizes of the labels' extents (`extentsBelow g image n`: of the labels in the slots 1 to n, in all)
  pub counts_free : (image : List ℕ) (g : Geometry) → judged image ≡ Ok g
      → ((counter image).answer ≡ Ok (free_records g image)) × (free_records g image + extents_below g image (slot_count g) ≡ address_count g)
  counts_free image g j = let f = free_gives image g j in ((counts image).0 ∙ f.0, f.1)

  -- "an invented .. free count": one that with the extents does not make up all data addresses
  pub no_inventing_free : (image : List ℕ) (g : Geometry) (n : ℕ) → judged image ≡ Ok g → (n + extents_below g image (slot_count g) ≡ address_count g → ⊥)
      → (counter image).answer ≡ Ok n → ⊥
  no_inventing_free image g n j other h =
      let f = counts_free image g j in
      let e = sym f.0 ∙ h in
      let same : free_records g image ≡ n = cc in
      other (ap (λ (k : ℕ). k + extents_below g image (slot_count g)) (sym same) ∙ f.1)

  -- one that refuses everything
  pub no_refusing_free : (x : Refusal) → (counter demo).answer ≡ Err x → ⊥
  no_refusing_free x h = let e = sym (counts_free demo demo_volume demo_accepted.1).0 ∙ h in never (cc)
