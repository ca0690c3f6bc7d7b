-- What is read of the index cylinder: two images with the same sectors there have the same numbers and the same labels; and an image is accepted if what
-- the judgement reads of it is as in an accepted one.
-- Assumes nothing.
use Rattle.std.specs.Prelude.{ℕ, ◌-◌, ◌<◌, ◌≤◌, ◌≡◌, Bool, ◌&&◌, List, length, leb, Ok}
use Rattle.std.proofs.Common.{ap, sym, ◌∙◌, arith, lt-ltb, leb-true}
use Rattle.std.proofs.Math.Path.{refl}
use Rattle.std.proofs.Math.Bool.{true, false}
use Rattle.standard.specs.Judgement.{judged, numbers_in, volume_of, legal_kind, shares, namesake, overlap, same_name, refusal11, refusal12}
use Rattle.standard.specs.Characters.{between, field}
use Rattle.standard.specs.Layout.{index_sectors, sector_count, index_kind, ermap_of, vol1_of, slot_count, slot_ordinal, label_at, index_body}
use Rattle.standard.specs.Slots.{is_label, is_deleted, is_unreadable, slot_refusal, has_label}
use Rattle.standard.specs.Labels.{known_level}
use Rattle.standard.specs.declared.Geometry.{Geometry}
use Rattle.promises.specs.Ground.Basics.{and_l, and_r}
use Rattle.promises.specs.Images.Sectors.{sector_at, AgreeOn, in_index}
use Rattle.promises.specs.Images.SectorLaws.{same_kind, same_body, same_first, same_valid, same_incorrect, same_failed, index_kind_lem, index_body_lem, slot_body}
use Rattle.promises.specs.Volumes.Judging.{Accepted, accepted, kinds_each, kinds_all, slots_each, slots_all, clashes_same}
use Rattle.promises.specs.Volumes.VolumeNumbers.{Numbers, numbers_of_lem, index_sectors_lem, slot_in_index}

-- what the judgement and a search read of a slot
pub record View (g : Geometry) (image image' : List ℕ) (slot : ℕ) : Type 0 where
  pub is_label_lem : is_label g image slot ≡ is_label g image' slot
  pub level_known : known_level (label_at g image slot) ≡ known_level (label_at g image' slot)
  pub name : field (label_at g image slot) 6 22 ≡ field (label_at g image' slot) 6 22
  pub start : field (label_at g image slot) 29 33 ≡ field (label_at g image' slot) 29 33
  pub end : field (label_at g image slot) 35 39 ≡ field (label_at g image' slot) 35 39

abbrev pub SameFront : Geometry → List ℕ → List ℕ → Type 0
SameFront g image image' = (n : ℕ) → n < 7 → sector_at g image n ≡ sector_at g image' n

abbrev pub SameViews : Geometry → List ℕ → List ℕ → Type 0
SameViews g image image' = (slot : ℕ) → 1 ≤ slot → slot ≤ slot_count g → View g image image' slot

module _ (g : Geometry) (image image' : List ℕ) (numbers : Numbers g) where
  -- VOL1 and ERMAP, in the sectors before the labels
  module _ (front : SameFront g image image') where
    same_index_kind : (sector : ℕ) → sector - 1 < 7 → index_kind image sector ≡ index_kind image' sector
    same_index_kind sector h =
        let l : sector - 1 < index_sectors g = omega (arith, index_sectors_lem g numbers) in
        sym (index_kind_lem g image sector l) ∙ same_kind g image image' (sector - 1) (front (sector - 1) h) ∙ index_kind_lem g image' sector l

    same_index_body : (sector : ℕ) → sector - 1 < 7 → index_body image sector ≡ index_body image' sector
    same_index_body sector h =
        let l : sector - 1 < index_sectors g = omega (arith, index_sectors_lem g numbers) in
        sym (index_body_lem g image sector l) ∙ same_body g image image' (sector - 1) (front (sector - 1) h) ∙ index_body_lem g image' sector l

    same_vol1 : vol1_of image ≡ vol1_of image'
    same_vol1 = same_index_body 7 (omega arith)

    same_ermap : ermap_of image ≡ ermap_of image'
    same_ermap = same_index_body 5 (omega arith)

    same_volume : volume_of image ≡ volume_of image'
    unfolding numbers_in
    same_volume = rw (same_vol1, same_ermap)

  -- a slot
  module _ (slot : ℕ) (l : slot ≤ slot_count g) (e : sector_at g image (slot_ordinal slot) ≡ sector_at g image' (slot_ordinal slot)) where
    pub same_label : label_at g image slot ≡ label_at g image' slot
    same_label =
        let i = slot_in_index g slot numbers l in
        sym (slot_body g image slot i) ∙ same_body g image image' (slot_ordinal slot) e ∙ slot_body g image' slot i

    pub same_is_label : is_label g image slot ≡ is_label g image' slot
    unfolding is_label
    same_is_label = rw (same_valid g image image' (slot_ordinal slot) e, same_label)

    pub same_is_deleted : is_deleted g image slot ≡ is_deleted g image' slot
    unfolding is_deleted
    same_is_deleted =
        rw (same_incorrect g image image' (slot_ordinal slot) e, same_first g image image' (slot_ordinal slot) e numbers.size_low)

    same_is_unreadable : is_unreadable g image slot ≡ is_unreadable g image' slot
    unfolding is_unreadable
    same_is_unreadable =
        rw (
          same_failed g image image' (slot_ordinal slot) e,
          same_incorrect g image image' (slot_ordinal slot) e,
          same_first g image image' (slot_ordinal slot) e numbers.size_low,
        )

    pub same_slot_refusal : slot_refusal g image slot ≡ slot_refusal g image' slot
    unfolding slot_refusal
    same_slot_refusal = rw (same_is_unreadable, same_is_label, same_is_deleted, same_label)

    pub same_view : View g image image' slot
    same_view =
        record { is_label_lem = same_is_label; level_known = rw same_label; name = rw same_label; start = rw same_label; end = rw same_label }

-- AN IMAGE IS ACCEPTED, WITH THE NUMBERS OF AN ACCEPTED ONE, if its length, VOL1 and ERMAP are the same, its kinds are legal, its slots pass, and no two of
-- its labels clash
pub accepted_with : (g : Geometry) (image image' : List ℕ) → Numbers g → SameFront g image image' → length image ≡ length image'
    → ((n : ℕ) → n < sector_count g → legal_kind g image n ≡ true → legal_kind g image' n ≡ true)
    → ((slot : ℕ) → 1 ≤ slot → slot ≤ slot_count g → slot_refusal g image slot ≡ Ok tt → slot_refusal g image' slot ≡ Ok tt)
    → refusal11 g image' ≡ Ok tt → refusal12 g image' ≡ Ok tt → Accepted image g → Accepted image' g
accepted_with g image image' numbers front e k s extents names a =
    let v1 = same_vol1 g image image' numbers front in
    record {
      numbers = sym (same_volume g image image' numbers front) ∙ a.numbers;
      long = rw e at a.long;
      readable = rw (same_index_kind g image image' numbers front 5 (omega arith), same_index_kind g image image' numbers front 7 (omega arith)) at a.readable;
      vol1 = rw v1 at a.vol1;
      open_access = rw v1 at a.open_access;
      size = rw e at a.size;
      kinds = kinds_all g image' (λ n l. k n l (kinds_each g image a.kinds n l));
      ermap = rw (same_ermap g image image' numbers front) at a.ermap;
      slots = slots_all g image' (λ slot l m. s slot l m (slots_each g image a.slots slot l m));
      extents = extents;
      names = names;
    }

-- slots with the same views
module _ (g : Geometry) (image image' : List ℕ) (v : SameViews g image image') where
  same_shares : (s k : ℕ) → 1 ≤ s → s ≤ slot_count g → 1 ≤ k → k ≤ slot_count g → shares g image s k ≡ shares g image' s k
  unfolding shares overlap
  same_shares s k a h b l = let x = v s a h in let y = v k b l in rw (x.is_label_lem, y.is_label_lem, x.start, x.end, y.start, y.end)

  same_namesake : (s k : ℕ) → 1 ≤ s → s ≤ slot_count g → 1 ≤ k → k ≤ slot_count g → namesake g image s k ≡ namesake g image' s k
  unfolding namesake same_name
  same_namesake s k a h b l = let x = v s a h in let y = v k b l in rw (x.is_label_lem, y.is_label_lem, x.level_known, y.level_known, x.name, y.name)

  pub same_has_label : (slot : ℕ) → has_label g image slot ≡ has_label g image' slot
  unfolding has_label
  same_has_label slot = go (between 1 (slot_count g) slot) refl
    where
      go : (t : Bool) → between 1 (slot_count g) slot ≡ t → (t && is_label g image slot) ≡ (t && is_label g image' slot)
      go true e = (v slot (leb-true 1 slot (and_l (leb 1 slot) _ e)) (leb-true slot (slot_count g) (and_r (leb 1 slot) _ e))).is_label_lem
      go false e = refl

  -- or if the views of its labels are the same
  pub accepted_alike : Numbers g → SameFront g image image' → length image ≡ length image'
      → ((n : ℕ) → n < sector_count g → legal_kind g image n ≡ true → legal_kind g image' n ≡ true)
      → ((slot : ℕ) → 1 ≤ slot → slot ≤ slot_count g → slot_refusal g image slot ≡ Ok tt → slot_refusal g image' slot ≡ Ok tt)
      → Accepted image g → Accepted image' g
  accepted_alike numbers front e k s a =
      accepted_with g image image' numbers front e k s
      (sym (clashes_same (shares g image) (shares g image') (slot_count g) same_shares 11 (slot_count g) 1 (omega arith) (omega arith)) ∙ a.extents)
      (sym (clashes_same (namesake g image) (namesake g image') (slot_count g) same_namesake 12 (slot_count g) 1 (omega arith) (omega arith)) ∙ a.names) a

-- images that agree on the index cylinder
module _ (g : Geometry) (image image' : List ℕ) (numbers : Numbers g) (agree : AgreeOn g (in_index g) image image') where
  here : (n : ℕ) → n < index_sectors g → sector_at g image n ≡ sector_at g image' n
  unfolding AgreeOn
  here n h = agree n (lt-ltb n (index_sectors g) h)

  index_front : SameFront g image image'
  index_front n h = here n (omega (arith, index_sectors_lem g numbers))

  index_slot : (slot : ℕ) → slot ≤ slot_count g → sector_at g image (slot_ordinal slot) ≡ sector_at g image' (slot_ordinal slot)
  index_slot slot l = here (slot_ordinal slot) (slot_in_index g slot numbers l)

  pub index_views : SameViews g image image'
  index_views slot _ l = same_view g image image' numbers slot l (index_slot slot l)

  pub index_label : (slot : ℕ) → slot ≤ slot_count g → label_at g image slot ≡ label_at g image' slot
  index_label slot l = same_label g image image' numbers slot l (index_slot slot l)

  pub index_has : (slot : ℕ) → has_label g image slot ≡ has_label g image' slot
  index_has slot = same_has_label g image image' index_views slot

  -- AN IMAGE WITH THE INDEX CYLINDER OF AN ACCEPTED ONE, OF ITS LENGTH, AND WITH LEGAL KINDS IS ACCEPTED, WITH THE SAME NUMBERS
  pub accepted_too : length image ≡ length image' → ((n : ℕ) → legal_kind g image n ≡ true → legal_kind g image' n ≡ true) → Accepted image g → Accepted image' g
  accepted_too e k a =
      accepted_alike g image image' index_views numbers index_front e (λ n l h. k n h)
      (λ slot l m p. sym (same_slot_refusal g image image' numbers slot m (index_slot slot m)) ∙ p) a

-- two accepted images that agree there have the same numbers
pub index_judged : (image image' : List ℕ) (g g' : Geometry) → judged image ≡ Ok g → judged image' ≡ Ok g' → AgreeOn g (in_index g) image image'
    → judged image' ≡ Ok g
index_judged image image' g g' j j' agree =
    let n = numbers_of_lem image g j in
    j' ∙ ap Ok (sym (accepted image' g' j').numbers ∙ sym (same_volume g image image' n (index_front g image image' n agree)) ∙ (accepted image g j).numbers)
