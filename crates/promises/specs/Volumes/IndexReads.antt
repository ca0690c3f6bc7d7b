-- What is answered from the index cylinder alone: files found, labels handed out, free records. And the index cylinder as bytes.
-- Assumes nothing.
use Prim.Native.Nat.{ℕ, zero, suc, ◌+◌, ◌*◌, ◌<◌, ◌≤◌}
use Rattle.std.specs.Prelude.{◌≡◌, List, take, Result, Ok, Err}
use Rattle.std.proofs.Math.Path.{refl, ap}
use Rattle.std.proofs.Common.{sym, ◌∙◌, arith, ltb-true, lt-ltb}
use Rattle.standard.specs.Free.{in_extent, taken, free_from, free_count}
use Rattle.standard.specs.Layout.{index_sectors, body_size, kind_offset, slot_count, label_at}
use Rattle.standard.specs.Addresses.{address_count}
use Rattle.standard.specs.Slots.{has_label}
use Rattle.standard.specs.Judgement.{judged}
use Rattle.standard.specs.Finding.{is_named, found_from, found_slot, found, found_at, label_part, label_named, label_in_slot}
use Rattle.standard.specs.declared.Geometry.{Geometry}
use Rattle.standard.specs.declared.Found.{Found}
use Rattle.promises.specs.Ground.Basics.{cond_elim}
use Rattle.promises.specs.Ground.Splices.{part_front}
use Rattle.promises.specs.Images.Sectors.{sector_at, AgreeOn, in_index}
use Rattle.promises.specs.Volumes.AcceptedLaws.{has_slot}
use Rattle.promises.specs.Volumes.VolumeNumbers.{numbers_of_lem}
use Rattle.standard.specs.declared.Refusal.{Refusal}
use Rattle.promises.specs.Volumes.IndexLaws.{SameViews, same_has_label, index_views, index_label, index_judged}

-- THE INDEX CYLINDER AS BYTES: its sectors are the first S·I·129 bytes
index_sector : (g : Geometry) (image : List ℕ) (n : ℕ) → n < index_sectors g → sector_at g (take (index_sectors g * 129) image) n ≡ sector_at g image n
unfolding sector_at body_size kind_offset
index_sector g image n h = rw (lt-ltb n (index_sectors g) h) (part_front 129 (n * 129) (index_sectors g * 129) image (omega arith))

pub index_bytes : (g : Geometry) (image image' : List ℕ) → take (index_sectors g * 129) image ≡ take (index_sectors g * 129) image'
    → AgreeOn g (in_index g) image image'
unfolding AgreeOn
index_bytes g image image' e n h =
    let l = ltb-true n (index_sectors g) h in
    sym (index_sector g image n l) ∙ ap (λ (s : List ℕ). sector_at g s n) e ∙ index_sector g image' n l

-- slots with the same views: files found, free records
module _ (g : Geometry) (image image' : List ℕ) (v : SameViews g image image') where
  named_same : (name : List ℕ) (slot : ℕ) → 1 ≤ slot → slot ≤ slot_count g → is_named g image name slot ≡ is_named g image' name slot
  unfolding is_named
  named_same name slot low l = let x = v slot low l in rw (x.is_label_lem, x.level_known, x.name)

  pub found_same : (name : List ℕ) (left slot : ℕ) → 1 ≤ slot → slot + left ≤ slot_count g + 1 → found_from g image name left slot ≡ found_from g image' name left slot
  unfolding found_from
  found_same name zero slot low l = refl
  found_same name (suc left) slot low l = rw (named_same name slot low (omega arith), found_same name left (slot + 1) (omega arith) (omega arith))

  slot_same : (slot : ℕ) → found_slot g image slot ≡ found_slot g image' slot
  slot_same slot = rw (same_has_label g image image' v slot)

  pub taken_same : (i n : ℕ) → n ≤ slot_count g → taken g image i n ≡ taken g image' i n
  unfolding taken in_extent
  taken_same i zero l = refl
  taken_same i (suc n) l = let x = v (suc n) (omega arith) l in rw (x.is_label_lem, x.start, x.end, taken_same i n (omega arith))

  pub free_same : (left i : ℕ) → free_from g image left i ≡ free_from g image' left i
  unfolding free_from
  free_same zero i = refl
  free_same (suc left) i = rw (taken_same i (slot_count g) (omega arith), free_same left (i + 1))

  module _ (j : judged image ≡ Ok g) (j' : judged image' ≡ Ok g) where
    pub views_found : (name : List ℕ) → found image name ≡ found image' name
    unfolding found
    views_found name = rw (j, j') (found_same name (slot_count g) 1 (omega arith) (omega arith))

    pub views_found_at : (slot : ℕ) → found_at image slot ≡ found_at image' slot
    unfolding found_at
    views_found_at slot = rw (j, j') (slot_same slot)

    pub views_free : free_count image ≡ free_count image'
    unfolding free_count
    views_free = rw (j, j') (ap Ok (free_same (address_count g) 0))

-- a found slot is one of the volume
module _ (g : Geometry) (image : List ℕ) where
  abbrev Within : Result Found Refusal → Type 0
  Within (Err r) = Unit {0}
  Within (Ok f) = (1 ≤ f.slot) × (f.slot ≤ slot_count g)

  found_within : (name : List ℕ) (left slot : ℕ) → 1 ≤ slot → slot + left ≤ slot_count g + 1 → Within (found_from g image name left slot)
  unfolding found_from
  found_within name zero slot low l = tt
  found_within name (suc left) slot low l =
      let k = found_within name left (slot + 1) (omega arith) (omega arith) in
      cond_elim Within (is_named g image name slot) (λ _. (low, omega arith)) (λ _. k)

  slot_within : (slot : ℕ) → Within (found_slot g image slot)
  slot_within slot = cond_elim Within (has_label g image slot) (λ e. ((has_slot g image slot e).0, (has_slot g image slot e).1)) (λ _. tt)

-- two accepted images whose labels, and with them their views, are the same: the labels handed out
module _ (g : Geometry) (image image' : List ℕ) (v : SameViews g image image')
    (labels : (slot : ℕ) → 1 ≤ slot → slot ≤ slot_count g → label_at g image slot ≡ label_at g image' slot) (j : judged image ≡ Ok g) (j' : judged image' ≡ Ok g) where
  part_alike : (f : Result Found Refusal) → Within g image f → label_part g image f ≡ label_part g image' f
  part_alike (Err r) l = refl
  part_alike (Ok f) l = labels f.slot l.0 l.1

  pub labels_named : (name : List ℕ) → label_named image name ≡ label_named image' name
  unfolding label_named
  labels_named name =
      rw (j, j')
      (part_alike (found_from g image name (slot_count g) 1) (found_within g image name (slot_count g) 1 (omega arith) (omega arith))
      ∙ ap (label_part g image') (found_same g image image' v name (slot_count g) 1 (omega arith) (omega arith)))

  pub labels_in : (slot : ℕ) → label_in_slot image slot ≡ label_in_slot image' slot
  unfolding label_in_slot
  labels_in slot =
      rw (j, j')
      (part_alike (found_slot g image slot) (slot_within g image slot) ∙ ap (label_part g image') (slot_same g image image' v slot))

-- two accepted images equal in the index cylinder
module _ (image image' : List ℕ) (g g' : Geometry) (j : judged image ≡ Ok g) (j' : judged image' ≡ Ok g')
    (agree : AgreeOn g (in_index g) image image') where
  judged_same : judged image' ≡ Ok g
  judged_same = index_judged image image' g g' j j' agree

  views : SameViews g image image'
  views = index_views g image image' (numbers_of_lem image g j) agree

  same_labels : (slot : ℕ) → 1 ≤ slot → slot ≤ slot_count g → label_at g image slot ≡ label_at g image' slot
  same_labels slot _ = index_label g image image' (numbers_of_lem image g j) agree slot

  pub index_found : (name : List ℕ) → found image name ≡ found image' name
  index_found = views_found g image image' views j judged_same

  pub index_found_at : (slot : ℕ) → found_at image slot ≡ found_at image' slot
  index_found_at = views_found_at g image image' views j judged_same

  pub index_label_named : (name : List ℕ) → label_named image name ≡ label_named image' name
  index_label_named = labels_named g image image' views same_labels j judged_same

  pub index_label_in : (slot : ℕ) → label_in_slot image slot ≡ label_in_slot image' slot
  index_label_in = labels_in g image image' views same_labels j judged_same

  pub index_free : free_count image ≡ free_count image'
  index_free = views_free g image image' views j judged_same
