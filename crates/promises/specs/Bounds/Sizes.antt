-- How large the numbers in an answer can be: a volume's numbers, its slots and sectors, the places of refusals.
-- Assumes nothing.
use Rattle.std.specs.Prelude.{ℕ, suc, ◌+◌, ◌-◌, ◌*◌, ◌^◌, ◌<◌, ◌≤◌, ◌≡◌, Bool, true, false, cond, not, ◌&&◌, List, [], ◌∷◌, length, ltb, eqb, Result, Ok, Err, ⊤}
use Rattle.std.proofs.Math.Path.{refl}
use Rattle.std.proofs.Common.{sym, subst, arith, mul-le-mul_right, ltb-true, lt-ltb}
use Rattle.std.proofs.Math.Nat.{mul-le-mul_left}
use Rattle.std.proofs.lemmas.Bool.{not-false}
use Rattle.standard.specs.Layout.{sector_count, index_sectors, slot_count, slot_ordinal, kind_offset, body_offset, label_offset, label_at, vol1_of, ermap_of}
use Rattle.standard.specs.Rules.{Row, lowest_fault}
use Rattle.standard.specs.Volume.{vol1_rules}
use Rattle.standard.specs.Defects.{ermap_rules}
use Rattle.standard.specs.Addresses.{address_count, ordinal}
use Rattle.standard.specs.Labels.{end_of, hdr1_rules, label_fault}
use Rattle.standard.specs.Slots.{has_label, slot_refusal}
use Rattle.standard.specs.Refusals.{refuse, refuse_at, given_when, in_order}
use Rattle.standard.specs.Judgement.{volume_of, volume_list, refusal1, refusal2, refusal3, refusal6, refusal7, refusal8to10, refusal11, refusal12, clashes_from, shares, namesake, judged}
use Rattle.standard.specs.Finding.{found, label_found}
use Rattle.standard.specs.Free.{free_records, free_count}
use Rattle.standard.specs.Files.{extent, extent_size, is_defective, good_among, good_records, block_count, refusal13, refusal17, count_list, count_or, count_refusal, counted, open_refusal}
use Rattle.standard.specs.declared.Geometry.{Geometry}
use Rattle.standard.specs.declared.Address.{Address}
use Rattle.standard.specs.declared.Refusal.{Refusal}
use Rattle.promises.specs.Ground.Basics.{and_l, and_r, cond_elim, never}
use Rattle.promises.specs.Ground.Lists.{Every, every_right}
use Rattle.promises.specs.Images.AddressLaws.{Legal, rank_lt}
use Rattle.promises.specs.Images.Tiling.{address_inside}
use Rattle.promises.specs.Volumes.Judging.{order_each, not_given}
use Rattle.promises.specs.Volumes.AcceptedLaws.{has_slot, label_in_range}
use Rattle.promises.specs.Volumes.VolumeNumbers.{Numbers, of_rules, vol1_right, numbers_of_lem, slot_in_index}
use Rattle.promises.specs.Extents.ExtentAddresses.{extent_legal}
use Rattle.promises.specs.Extents.FullBlocks.{count_held, records_one}
use Rattle.promises.specs.Refusals.Refusing.{first_order, volume_first, volume_stops, count_first}
use Rattle.promises.specs.Volumes.FindingLaws.{find_named, find_none}
use Rattle.promises.specs.Refusals.PlacesNamed.{given_exactly, place_6, place_17, slots_first, clashes_first}
use Rattle.promises.specs.Extents.ExtentWhole.{extent_length}
use Rattle.promises.specs.Volumes.FreeLaws.{free_is, free_counted}

-- "08 to I are label slots 1 to I-7. On two-sided volumes, side 1 sectors 01 to I continue the slots.": at most 45
pub slots_few : (g : Geometry) → Numbers g → slot_count g ≤ 45
unfolding slot_count
slots_few g n = go (eqb g.S 2)
  where
    go : (t : Bool) → (g.I - 7) + cond t g.I 0 ≤ 45
    go true = omega (arith, n.index_high)
    go false = omega (arith, n.index_high)

-- at most two sides of 26 sectors on each of 100 cylinders
pub sectors_few : (g : Geometry) → Numbers g → sector_count g ≤ 5200
unfolding sector_count
sectors_few g n =
    let index : g.S * g.I ≤ 52 = omega (arith, mul-le-mul_right g.I n.side_high, n.index_high) in
    let tracks : (g.L + 3) * g.S ≤ 198 = omega (arith, mul-le-mul_left (g.L + 3) n.side_high, n.cylinders) in
    let others : (g.L + 3) * g.S * g.D ≤ 5148 = omega (arith, mul-le-mul_right g.D tracks, n.sectors) in
    omega arith

-- ---- the blocks of a file, and the free records
pub addresses_few : (g : Geometry) → Numbers g → address_count g ≤ 4992
addresses_few g n =
    let tracks : g.L * g.S ≤ 192 = omega (arith, mul-le-mul_left g.L n.side_high, n.cylinders) in
    omega (arith, mul-le-mul_right g.D tracks, n.sectors)

pub good_few : (g : Geometry) (image : List ℕ) (xs : List Address) → length (good_among g image xs) ≤ length xs
unfolding good_among
good_few g image [] = omega arith
good_few g image (a ∷ xs) =
    let k = good_few g image xs in
    cond_elim (λ (ys : List Address). length ys ≤ suc (length xs)) (is_defective g image a) {x = good_among g image xs} {y = a ∷ good_among g image xs} (λ _. omega arith) (λ _. omega arith)

module _ (image : List ℕ) (g : Geometry) (j : judged image ≡ Ok g) where
  ns : Numbers g
  ns = numbers_of_lem image g j

  pub blocks_few : (slot : ℕ) → has_label g image slot ≡ true → block_count g image (label_at g image slot) ≤ 4992
  unfolding good_records extent_size
  blocks_few slot l =
      let h = label_at g image slot in
      let r = label_in_range image g slot j l in
      let m = mul-le-mul_left (block_count g image h) (records_one g h ns.size_low) in
      omega
      (arith, count_held g image h, good_few g image (extent g h), extent_length g h, rank_lt g (end_of h) r.end_legal, addresses_few g ns)

  free_few : free_records g image ≤ 4992
  free_few = omega (arith, free_is image g j, addresses_few g ns)

  -- a label's slot, and where it begins
  pub label_low : (slot : ℕ) → slot ≤ slot_count g → (slot ≤ 45) × (label_offset g slot ≤ 6580)
  unfolding label_offset body_offset kind_offset slot_ordinal
  label_low slot l =
      let few : slot ≤ 45 = omega (arith, slots_few g ns) in
      let i = slot_in_index g slot ns l in
      (few, rw (lt-ltb (slot + 6) (index_sectors g) i) (omega arith))

  -- ---- what is found
  found_low : (name : List ℕ) (slot offset : ℕ) → found image name ≡ label_found slot offset → (slot ≤ 45) × (offset ≤ 6580)
  found_low name slot offset h =
      let f = (find_named image g j name slot offset).0 h in
      let l = label_low slot f.1 in
      (l.0, omega (arith, l.1, f.5))

-- ---- the places of refusals
-- A refusal of the volume, of finding and of the count: its number is in the table, its first place below 2^32, its second below 2^20, and it has no third.
pub record Small (r : Refusal) : Type 0 where
  pub number_low : 1 ≤ r.number
  pub number_high : r.number ≤ 29
  pub first_low : r.first < 2 ^ 32
  pub second_low : r.second < 2 ^ 20
  pub third_none : r.third ≡ 0

pub small_one : (number place : ℕ) → 1 ≤ number → number ≤ 29 → place < 2 ^ 32 → Small (refuse number place)
small_one number place l h p = record { number_low = l; number_high = h; first_low = p; second_low = omega arith; third_none = refl }

pub small_given : (t : Bool) (q r : Refusal) → Small q → given_when t q ≡ Err r → Small r
small_given t q r s h = subst Small (sym ((given_exactly t q r).0 h).1) s

-- small, and of another number than VOL1's
abbrev pub Other : Refusal → Type 0
Other r = (r.number ≡ 3 → ⊥) × Small r

other_one : (number place : ℕ) → (number ≡ 3 → ⊥) → 1 ≤ number → number ≤ 29 → place < 2 ^ 32 → Other (refuse number place)
other_one number place ne l h p = (ne, small_one number place l h p)

other_given : (t : Bool) (q r : Refusal) → Other q → given_when t q ≡ Err r → Other r
other_given t q r s h = subst Other (sym ((given_exactly t q r).0 h).1) s

-- the first of a list is given, or the rest decides
pub by_order : {A : Type 0} (c : Result ⊤ Refusal) (rest : List (Result ⊤ Refusal)) (r : Refusal) → in_order (c ∷ rest) ≡ Err r
    → (c ≡ Err r → A) → (c ≡ Ok tt → in_order rest ≡ Err r → A) → A
unfolding in_order
by_order (Ok _) rest r h stop on = on refl h
by_order (Err q) rest r h stop on = stop h

pub by_none : {A : Type 0} (r : Refusal) → in_order [] ≡ Err r → A
unfolding in_order
by_none r h = never (cc)

-- a label's positions are below 129
abbrev pub below : List Row → Bool
below [] = true
below (x ∷ rows) = ltb x.position 129 && below rows

pub fault_below : (rows : List Row) → below rows ≡ true → lowest_fault rows < 129
unfolding lowest_fault
fault_below [] h = omega arith
fault_below (x ∷ rows) h =
    let k = fault_below rows (and_r (ltb x.position 129) _ h) in
    cond_elim (λ n. n < 129) x.holds (λ _. k) (λ _. ltb-true x.position 129 (and_l (ltb x.position 129) _ h))

vol1_position : (v : List ℕ) → lowest_fault (vol1_rules v) < 129
unfolding vol1_rules
vol1_position v = fault_below (vol1_rules v) refl

ermap_position : (L : ℕ) (e : List ℕ) → lowest_fault (ermap_rules L e) < 129
unfolding ermap_rules
ermap_position L e = fault_below (ermap_rules L e) refl

hdr1_position : (g : Geometry) (h : List ℕ) → label_fault g h < 129
unfolding label_fault hdr1_rules
hdr1_position g h = fault_below (hdr1_rules g h) refl

-- one slot
slot_other : (g : Geometry) (image : List ℕ) (slot : ℕ) (r : Refusal) → slot ≤ 45 → slot_refusal g image slot ≡ Err r → Other r
unfolding slot_refusal
slot_other g image slot r l h =
    let p = hdr1_position g (label_at g image slot) in
    let ten : Small (refuse_at 10 slot (label_fault g (label_at g image slot))) = record { number_low = omega arith; number_high = omega arith; first_low = omega arith; second_low = omega arith; third_none = refl } in
    by_order _ _ r h (other_given _ _ r (other_one 8 slot (λ q. omega (arith, q)) (omega arith) (omega arith) (omega arith)))
    (λ _ h9. by_order _ _ r h9 (other_given _ _ r (other_one 9 slot (λ q. omega (arith, q)) (omega arith) (omega arith) (omega arith)))
    (λ _ h10. by_order _ _ r h10 (other_given _ _ r ((λ q. omega (arith, q)), ten))
    (λ _ none. by_none r none)))

-- A REFUSAL OF THE VOLUME is VOL1's, behind 1 and 2, or of another number than 3
pub data VolumeFault (image : List ℕ) (r : Refusal) : Type 0 where
  of_vol1 : refusal1 image ≡ Ok tt → refusal2 image ≡ Ok tt → refusal3 (vol1_of image) ≡ Err r → VolumeFault image r
  of_another : Other r → VolumeFault image r

-- the volume: 6 to 12 are reached only where VOL1 has given the numbers
module _ (image : List ℕ) where
  abbrev g : Geometry
  g = volume_of image

  two_other : (r : Refusal) → refusal2 image ≡ Err r → Other r
  two_other r h =
      by_order _ _ r h (other_given _ _ r (other_one 2 5 (λ q. omega (arith, q)) (omega arith) (omega arith) (omega arith)))
      (λ _ h7. by_order _ _ r h7 (other_given _ _ r (other_one 2 7 (λ q. omega (arith, q)) (omega arith) (omega arith) (omega arith)))
      (λ _ none. by_none r none))

  kinds_other : Numbers g → (r : Refusal) → refusal6 g image ≡ Err r → Other r
  kinds_other n r h =
      let f = (place_6 g image r).0 h in
      subst Other (sym f.is_so.1) (other_one 6 f.place (λ q. omega (arith, q)) (omega arith) (omega arith) (omega (arith, f.high, sectors_few g n)))

  slots_other : Numbers g → (r : Refusal) → refusal8to10 g image ≡ Err r → Other r
  slots_other n r h =
      let f = (slots_first g image (slot_count g) 1 r).0 h in
      slot_other g image f.place r (omega (arith, f.high, slots_few g n)) f.is_so

  clash_other : Numbers g → (clash : ℕ → ℕ → Bool) (number : ℕ) → 4 ≤ number → number ≤ 29 → (r : Refusal) → clashes_from clash number (slot_count g) 1 ≡ Err r → Other r
  clash_other n clash number l m r h =
      let f = (clashes_first clash number (slot_count g) 1 r).0 h in
      subst Other (sym f.is_so.1) (other_one number f.place (λ q. omega (arith, q)) (omega arith) m (omega (arith, f.high, slots_few g n)))

  late_other : Numbers g → (r : Refusal)
      → in_order (refusal6 g image ∷ refusal7 g.L (ermap_of image) ∷ refusal8to10 g image ∷ refusal11 g image ∷ refusal12 g image ∷ []) ≡ Err r → Other r
  late_other n r h =
      let p = ermap_position g.L (ermap_of image) in
      by_order _ _ r h (kinds_other n r)
      (λ _ h7. by_order _ _ r h7 (other_given _ _ r (other_one 7 _ (λ q. omega (arith, q)) (omega arith) (omega arith) (omega arith)))
      (λ _ h8. by_order _ _ r h8 (slots_other n r)
      (λ _ h11. by_order _ _ r h11 (clash_other n (shares g image) 11 (omega arith) (omega arith) r)
      (λ _ h12. by_order _ _ r h12 (clash_other n (namesake g image) 12 (omega arith) (omega arith) r)
      (λ _ none. by_none r none)))))

  pub volume_fault : (r : Refusal) → judged image ≡ Err r → VolumeFault image r
  volume_fault r j =
      by_order _ _ r (first_order (volume_list image g) r ((volume_first image r).0 j))
      (λ h. of_another (other_given _ _ r (other_one 1 0 (λ q. omega (arith, q)) (omega arith) (omega arith) (omega arith)) h))
      (λ long h2. by_order _ _ r h2 (λ h. of_another (two_other r h))
      (λ readable h3. by_order _ _ r h3 (λ here. of_vol1 long readable here)
      (λ vol1 h4. by_order _ _ r h4
      (λ h. of_another (other_given _ _ r (other_one 4 11 (λ q. omega (arith, q)) (omega arith) (omega arith) (omega arith)) h))
      (λ _ h5. by_order _ _ r h5
      (λ h. of_another (other_given _ _ r (other_one 5 0 (λ q. omega (arith, q)) (omega arith) (omega arith) (omega arith)) h))
      (λ _ h6. of_another (late_other (of_rules image (vol1_right (vol1_of image) vol1)) r h6))))))

  pub volume_small : (r : Refusal) → judged image ≡ Err r → Small r
  volume_small r j = go (volume_fault r j)
    where
      go : VolumeFault image r → Small r
      go (of_vol1 long readable here) =
          let p = vol1_position (vol1_of image) in
          small_given _ _ r (small_one 3 _ (omega arith) (omega arith) (omega arith)) here
      go (of_another other) = other.1

-- a file of an accepted volume: behind 13 the slot is one of the volume
module _ (image : List ℕ) (g : Geometry) (j : judged image ≡ Ok g) (slot : ℕ) where
  pub labelled : refusal13 g image slot ≡ Ok tt → has_label g image slot ≡ true
  labelled h = not-false (has_label g image slot) (not_given (not (has_label g image slot)) _ h)

  pub slot_low : has_label g image slot ≡ true → slot ≤ 45
  slot_low l = (label_low image g j slot (has_slot g image slot l).1).0

  pub thirteen_small : (r : Refusal) → refusal13 g image slot ≡ Err r → Small r
  thirteen_small r = small_given _ _ r (small_one 13 0 (omega arith) (omega arith) (omega arith))

  -- 14, 15, 16, 18, 24: the slot
  pub names_slot : has_label g image slot ≡ true → (number : ℕ) → 1 ≤ number → number ≤ 29 → (t : Bool) (r : Refusal)
      → given_when t (refuse number slot) ≡ Err r → Small r
  names_slot l number low high t r = small_given t (refuse number slot) r (small_one number slot low high (omega (arith, slot_low l)))

  -- 17: the ordinal of a sector
  pub wrong_small : has_label g image slot ≡ true → (r : Refusal) → refusal17 g image (label_at g image slot) ≡ Err r → Small r
  wrong_small l r h =
      let k = label_at g image slot in
      let f = (place_17 g image (extent g k) r).0 h in
      let legal_all = subst (λ (xs : List Address). Every (Legal g) xs) f.stands (extent_legal g k (label_in_range image g slot j l)) in
      let there = (every_right (Legal g) f.earlier (f.it ∷ f.later) legal_all).0 in
      subst Small (sym f.is_so.1)
      (small_one 17 (ordinal g f.it) (omega arith) (omega arith) (omega (arith, address_inside g f.it there, sectors_few g (numbers_of_lem image g j))))

  count_on_small : (r : Refusal) → counted image slot ≡ Err r → Small r
  count_on_small r h =
      by_order _ _ r (first_order (count_list g image slot) r ((count_first image g j slot r).0 h)) (thirteen_small r)
      (λ at h14. let l = labelled at in
      by_order _ _ r h14 (names_slot l 14 (omega arith) (omega arith) _ r)
      (λ _ h17. by_order _ _ r h17 (wrong_small l r)
      (λ _ h18. by_order _ _ r h18 (names_slot l 18 (omega arith) (omega arith) _ r)
      (λ _ none. by_none r none))))

  -- 13 to 18, which every reading asks first
  pub open_small : (r : Refusal) → open_refusal g image slot ≡ Err r → Small r
  unfolding open_refusal
  open_small r h =
      by_order _ _ r h (thirteen_small r)
      (λ at h14. let l = labelled at in
      by_order _ _ r h14 (names_slot l 14 (omega arith) (omega arith) _ r)
      (λ _ h15. by_order _ _ r h15 (names_slot l 15 (omega arith) (omega arith) _ r)
      (λ _ h16. by_order _ _ r h16 (names_slot l 16 (omega arith) (omega arith) _ r)
      (λ _ h17. by_order _ _ r h17 (wrong_small l r)
      (λ _ h18. by_order _ _ r h18 (names_slot l 18 (omega arith) (omega arith) _ r)
      (λ _ none. by_none r none))))))

  count_on_few : (n : ℕ) → counted image slot ≡ Ok n → n ≤ 4992
  unfolding counted count_refusal
  count_on_few n h = go (in_order (count_list g image slot)) refl (rw j at h)
    where
      go : (c : Result ⊤ Refusal) → in_order (count_list g image slot) ≡ c → count_or c (block_count g image (label_at g image slot)) ≡ Ok n → n ≤ 4992
      go (Err q) e k = never (cc)
      go (Ok _) e k =
          let same : block_count g image (label_at g image slot) ≡ n = cc in
          let (r13, _) = order_each _ e in
          omega (arith, blocks_few image g j slot (labelled r13))

module _ (image : List ℕ) where
  pub count_small : (slot : ℕ) (r : Refusal) → counted image slot ≡ Err r → Small r
  count_small slot r h = on (judged image) refl
    where
      on : (v : Result Geometry Refusal) → judged image ≡ v → Small r
      on (Err q) j = let e = (volume_stops image q j).2 slot in let same : q ≡ r = cc in subst Small same (volume_small image q j)
      on (Ok g) j = count_on_small image g j slot r h

  pub find_small : (name : List ℕ) (r : Refusal) → found image name ≡ Err r → Small r
  find_small name r h = on (judged image) refl
    where
      on : (v : Result Geometry Refusal) → judged image ≡ v → Small r
      on (Err q) j = let e = (volume_stops image q j).0 name in let same : q ≡ r = cc in subst Small same (volume_small image q j)
      on (Ok g) j = subst Small (sym ((find_none image g j name r).0 h).0) (small_one 13 0 (omega arith) (omega arith) (omega arith))

  pub free_small : (r : Refusal) → free_count image ≡ Err r → Small r
  free_small r h = on (judged image) refl
    where
      on : (v : Result Geometry Refusal) → judged image ≡ v → Small r
      on (Err q) j = let e = (volume_stops image q j).3 in let same : q ≡ r = cc in subst Small same (volume_small image q j)
      on (Ok g) j = let e = free_counted image g j in never (cc)

  -- what is counted
  pub count_few : (slot n : ℕ) → counted image slot ≡ Ok n → n ≤ 4992
  count_few slot n h = on (judged image) refl
    where
      on : (v : Result Geometry Refusal) → judged image ≡ v → n ≤ 4992
      on (Err q) j = let e = (volume_stops image q j).2 slot in never (cc)
      on (Ok g) j = count_on_few image g j slot n h

  pub free_low : (n : ℕ) → free_count image ≡ Ok n → n ≤ 4992
  free_low n h = on (judged image) refl
    where
      on : (v : Result Geometry Refusal) → judged image ≡ v → n ≤ 4992
      on (Err q) j = let e = (volume_stops image q j).3 in never (cc)
      on (Ok g) j =
          let e = free_counted image g j in
          let same : free_records g image ≡ n = cc in
          omega (arith, free_few image g j)

  -- what is found: the slot, and the label's offset, on any image
  pub find_low : (name : List ℕ) (slot offset : ℕ) → found image name ≡ label_found slot offset → (slot ≤ 45) × (offset ≤ 6580)
  find_low name slot offset h = on (judged image) refl
    where
      on : (v : Result Geometry Refusal) → judged image ≡ v → (slot ≤ 45) × (offset ≤ 6580)
      on (Err q) j = let e = (volume_stops image q j).0 name in never (cc)
      on (Ok g) j = found_low image g j name slot offset h
