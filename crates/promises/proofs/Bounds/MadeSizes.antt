-- Request 2026-01: how large the numbers in the answers to a create and a delete can be.
-- Assumes nothing.
use Rattle.std.specs.Prelude.{ℕ, ◌<◌, ◌≤◌, ◌≡◌, List, map, Result, Option, Ok, Err, Some, None}
use Rattle.std.proofs.Math.Path.{refl, subst}
use Rattle.std.proofs.Common.{arith}
use Rattle.standard.specs.Refusals.{refuse, refuse_at, in_order}
use Rattle.standard.specs.Layout.{slot_count, label_at}
use Rattle.standard.specs.Addresses.{address_number}
use Rattle.standard.specs.Labels.{hdr1_rules, end_of}
use Rattle.standard.specs.Judgement.{judged}
use Rattle.standard.specs.Files.{extent_size}
use Rattle.standard.specs.Finding.{found_from, found}
use Rattle.standard.specs.Creating.{name_in, bracket, draft, proposed_rules, proposal_fault, name_used, no_room, lowest_run, refusal12for, refusal29, create_refusal, created, delete_list, deleted, file_made}
use Rattle.standard.specs.declared.Geometry.{Geometry}
use Rattle.standard.specs.declared.Address.{Address}
use Rattle.standard.specs.declared.Refusal.{Refusal}
use Rattle.standard.specs.declared.Found.{Found}
use Rattle.promises.specs.Ground.Basics.{never}
use Rattle.promises.specs.Images.AddressLaws.{parts, rank_lt}
use Rattle.promises.specs.Volumes.AcceptedLaws.{label_in_range}
use Rattle.promises.specs.Volumes.VolumeNumbers.{numbers_of_lem}
use Rattle.promises.specs.Refusals.Refusing.{first_order}
use Rattle.promises.specs.Bounds.Sizes.{Small, small_one, small_given, by_order, by_none, fault_below, slots_few, addresses_few, volume_small, labelled, thirteen_small, names_slot, find_low}
use Rattle.promises.proofs.Making.Deletions.{Deletable}
use Rattle.promises.proofs.Making.MadeExactly.{Creates, creates_exactly, create_refused, delete_first, deletes_exactly, volume_stops_create, volume_stops_delete}

proposal_position : (g : Geometry) (w : List ℕ) (n : ℕ) → proposal_fault g w n < 129
unfolding proposal_fault proposed_rules hdr1_rules
proposal_position g w n = fault_below (map (bracket w n (draft w)) (hdr1_rules g (draft w))) refl

-- a refusal: its number is in the table, its places have room
module _ (image : List ℕ) (g : Geometry) (j : judged image ≡ Ok g) where
  name_small : (w : List ℕ) (r : Refusal) → refusal12for g image w ≡ Err r → Small r
  unfolding found
  name_small w r h = on (found_from g image (name_in w) (slot_count g) 1) refl h
    where
      on : (f : Result Found Refusal) → found_from g image (name_in w) (slot_count g) 1 ≡ f → name_used f ≡ Err r → Small r
      on (Err q) e k = never (cc)
      on (Ok f) e k =
          let h : found image (name_in w) ≡ Ok f = rw j e in
          let l = find_low image (name_in w) f.slot f.offset h in
          let s : refuse 12 f.slot ≡ r = cc in
          subst Small s (small_one 12 f.slot (omega arith) (omega arith) (omega (arith, l.0)))

  room_small : (n : ℕ) (r : Refusal) → refusal29 g image n ≡ Err r → Small r
  room_small n r h = on (lowest_run g image n) h
    where
      on : (x : Option ℕ) → no_room x ≡ Err r → Small r
      on None k =
          let s : refuse 29 0 ≡ r = cc in
          subst Small s (small_one 29 0 (omega arith) (omega arith) (omega arith))
      on (Some i) k = never (cc)

  create_on_small : (w : List ℕ) (n : ℕ) (r : Refusal) → create_refusal g image w n ≡ Err r → Small r
  unfolding create_refusal
  create_on_small w n r h =
      let p = proposal_position g w n in
      let ten : Small (refuse_at 10 0 (proposal_fault g w n)) = record { number_low = omega arith; number_high = omega arith; first_low = omega arith; second_low = omega arith; third_none = refl } in
      by_order _ _ r h (small_given _ _ r ten)
      (λ _ h12. by_order _ _ r h12 (name_small w r)
      (λ _ h28. by_order _ _ r h28 (small_given _ _ r (small_one 28 0 (omega arith) (omega arith) (omega arith)))
      (λ _ h29. by_order _ _ r h29 (room_small n r)
      (λ _ none. by_none r none))))

  delete_on_small : (slot : ℕ) (r : Refusal) → in_order (delete_list g image slot) ≡ Err r → Small r
  delete_on_small slot r h =
      by_order _ _ r h (thirteen_small image g j slot r)
      (λ at h14. let l = labelled image g j slot at in
      by_order _ _ r h14 (names_slot image g j slot l 14 (omega arith) (omega arith) _ r)
      (λ _ h24. by_order _ _ r h24 (names_slot image g j slot l 24 (omega arith) (omega arith) _ r)
      (λ _ none. by_none r none)))

  extent_few : (slot : ℕ) → Deletable g image slot → extent_size g (label_at g image slot) ≤ 4992
  unfolding extent_size
  extent_few slot d =
      let r = label_in_range image g slot j d.labelled in
      omega (arith, rank_lt g (end_of (label_at g image slot)) r.end_legal, addresses_few g (numbers_of_lem image g j))

-- what is placed: "slot ≤ 45, start ≤ 96,126"
pub record CreatedSmall (slot : ℕ) (start : Address) : Type 0 where
  pub slot_low : slot ≤ 45
  pub number : address_number start ≤ 96126
  pub side : start.side < 2
  pub sector : start.sector ≤ 26

placed_small : (image : List ℕ) (g : Geometry) (j : judged image ≡ Ok g) (w : List ℕ) (n slot : ℕ) (start : Address) → Creates image g j w n slot start
    → CreatedSmall slot start
placed_small image g j w n slot start c =
    let k = numbers_of_lem image g j in
    let p = parts g start c.start_legal in
    let s : start.side < 2 = omega (arith, p.side_low, k.side_high) in
    let e : start.sector ≤ 26 = omega (arith, p.sector_high, k.sectors) in
    record {
      slot_low = omega (arith, c.slot_is.high, slots_few g k);
      number = omega (arith, p.cylinder_high, k.cylinders);
      side = s;
      sector = e;
    }

module _ (image : List ℕ) where
  pub create_small : (w : List ℕ) (n : ℕ) (r : Refusal) → created image w n ≡ Err r → Small r
  create_small w n r h = on (judged image) refl
    where
      on : (v : Result Geometry Refusal) → judged image ≡ v → Small r
      on (Err q) j = let e = volume_stops_create image w n q j in let same : q ≡ r = cc in subst Small same (volume_small image q j)
      on (Ok g) j = create_on_small image g j w n r ((create_refused image g j w n r).0 h)

  pub create_low : (w : List ℕ) (n slot : ℕ) (start : Address) → created image w n ≡ file_made slot start → CreatedSmall slot start
  create_low w n slot start h = on (judged image) refl
    where
      on : (v : Result Geometry Refusal) → judged image ≡ v → CreatedSmall slot start
      on (Err q) j = let e = volume_stops_create image w n q j in never (cc)
      on (Ok g) j = placed_small image g j w n slot start ((creates_exactly image g j w n slot start).0 h)

  pub delete_small : (slot : ℕ) (r : Refusal) → deleted image slot ≡ Err r → Small r
  delete_small slot r h = on (judged image) refl
    where
      on : (v : Result Geometry Refusal) → judged image ≡ v → Small r
      on (Err q) j = let e = volume_stops_delete image slot q j in let same : q ≡ r = cc in subst Small same (volume_small image q j)
      on (Ok g) j = delete_on_small image g j slot r (first_order (delete_list g image slot) r ((delete_first image g j slot r).0 h))

  -- "freed ≤ 4,992"
  pub delete_few : (slot n : ℕ) → deleted image slot ≡ Ok n → n ≤ 4992
  delete_few slot n h = on (judged image) refl
    where
      on : (v : Result Geometry Refusal) → judged image ≡ v → n ≤ 4992
      on (Err q) j = let e = volume_stops_delete image slot q j in never (cc)
      on (Ok g) j =
          let d = (deletes_exactly image g j slot n).0 h in
          omega (arith, d.1, extent_few image g j slot d.0)
