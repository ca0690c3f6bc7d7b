-- NO DATA STAND ON A DEFECTIVE CYLINDER: "These are physical numbers, and data skip them (house)." No sector of one is in an extent, so none is read as data, and a
-- write changes none.
-- Assumes nothing.
use Rattle.std.specs.Prelude.{ℕ, ◌+◌, ◌<◌, ◌≤◌, ◌≡◌, true, false, List, get_or, Ok}
use Rattle.std.proofs.Common.{ap, subst, ◌∙◌, arith}
use borrow.Author.Tests.{ltb-true}
use Rattle.standard.specs.Layout.{ordinal_at, index_sectors, body_offset, slot_ordinal, label_offset, label_at}
use Rattle.standard.specs.Defects.{physical}
use Rattle.standard.specs.Skips.{good_cylinder}
use Rattle.standard.specs.Addresses.{legal, ordinal}
use Rattle.standard.specs.Slots.{has_label}
use Rattle.standard.specs.Files.{extent}
use Rattle.standard.specs.Judgement.{judged}
use Rattle.standard.specs.Writing.{needed, write_refusal, image_after}
use Rattle.standard.specs.declared.Geometry.{Geometry}
use Rattle.standard.specs.declared.Address.{Address}
use Rattle.promises.specs.Ground.Basics.{either, lt_or_le, true_not_false}
use Rattle.promises.specs.Ground.Lists.{Every, every_map}
use Rattle.promises.specs.Images.AddressLaws.{Legal, parts, On, on_legal, sector_inj, ordinal_at_lem, physical_low}
use Rattle.promises.specs.Images.Tiling.{offset_index, offset_data}
use Rattle.promises.specs.Images.Sectors.{sector_at, sector_of, AgreeOn}
use Rattle.promises.proofs.Images.ByteSectors.{InSector, only_sector, MayChange, of_blocks, of_unused, of_data_end, write_changes}
use Rattle.promises.specs.Volumes.AcceptedLaws.{label_in_range}
use Rattle.promises.specs.Volumes.VolumeNumbers.{numbers_of_lem, defects_of, slot_in_index}
use Rattle.promises.proofs.Volumes.SkipWalk.{not_defect, physical_good}
use Rattle.promises.proofs.Locality.{SameForFile}
use Rattle.promises.specs.Extents.ExtentAddresses.{extent_legal}
use Rattle.promises.proofs.Extents.ExtentReads.{sector_every}
use Rattle.promises.proofs.Writing.AcceptedWrite.{taken_by, taken_legal, slot_inside}

-- sector n of the image, by its ordinal, is on a cylinder that is not good
pub record OnDefect (g : Geometry) (n : ℕ) : Type 0 where
  pub cylinder : ℕ
  pub side : ℕ
  pub sector : ℕ
  pub on : On g side sector
  pub bad : good_cylinder g cylinder ≡ false
  pub is : n ≡ ordinal_at g cylinder side sector

-- two images have the same bytes in every sector that is not on one
abbrev pub SameOffDefects : Geometry → List ℕ → List ℕ → Type 0
SameOffDefects g image image' = (n : ℕ) → (OnDefect g n → ⊥) → sector_at g image n ≡ sector_at g image' n

-- the index cylinder is good
bad_low : (g : Geometry) (c : ℕ) → good_cylinder g c ≡ false → 1 ≤ c
unfolding good_cylinder
bad_low g c bad =
    either (lt_or_le 0 c)
    (λ (l : 0 < c). l)
    (λ (r : c ≤ 0).
    let e = not_defect g.d1 c (λ h q. omega arith) in
    let f = not_defect g.d2 c (λ h q. omega arith) in
    absurd (true_not_false (good_cylinder g c) (simp (e, f)) bad))

behind_index : (g : Geometry) (n : ℕ) → OnDefect g n → index_sectors g ≤ n
behind_index g n d = let e = d.is ∙ ordinal_at_lem g d.cylinder d.side d.sector (bad_low g d.cylinder d.bad) in omega arith

module _ (image : List ℕ) (g : Geometry) (j : judged image ≡ Ok g) where
  address_apart : (a : Address) → legal g a ≡ true → OnDefect g (ordinal g a) → ⊥
  unfolding ordinal
  address_apart a l d =
      let c = physical g a.cylinder in
      let same = (sector_inj g c d.cylinder a.side d.side a.sector d.sector
      (omega (arith, physical_low g a.cylinder, (parts g a l).cylinder_low)) (bad_low g d.cylinder d.bad) (on_legal g a l) d.on d.is).0 in
      true_not_false (good_cylinder g c) (physical_good g (defects_of image g j).in_order a.cylinder) (ap (good_cylinder g) same ∙ d.bad)

  among_apart : (xs : List Address) → Every (Legal g) xs → (n : ℕ) → sector_of g xs n ≡ true → OnDefect g n → ⊥
  among_apart xs l = sector_every (λ n. OnDefect g n → ⊥) g xs (every_map (Legal g) (λ a. OnDefect g (ordinal g a) → ⊥) address_apart xs l)

  -- NO EXTENT HAS A SECTOR OF A DEFECTIVE CYLINDER
  pub extents_apart : (slot n : ℕ) → has_label g image slot ≡ true → sector_of g (extent g (label_at g image slot)) n ≡ true → OnDefect g n → ⊥
  extents_apart slot n h = among_apart (extent g (label_at g image slot)) (extent_legal g (label_at g image slot) (label_in_range image g slot j h)) n

  -- so images that agree on every other sector have one index cylinder and the same extents
  pub same_off_defects : (image' : List ℕ) (slot : ℕ) → SameOffDefects g image image' → SameForFile g image image' slot
  unfolding SameForFile AgreeOn
  same_off_defects image' slot same = (
    (λ n e. same n (λ d. omega (arith, ltb-true n (index_sectors g) e, behind_index g n d))),
    (λ h n e. same n (extents_apart slot n h e)),
  )

  -- NO WRITE CHANGES A BYTE OF ONE
  module _ (slot : ℕ) (bodies lengths : List ℕ) (w : write_refusal g image slot bodies lengths ≡ Ok tt) where
    label_apart : (i n : ℕ) → InSector g i n → OnDefect g n → i < label_offset g slot + 128 → ⊥
    unfolding label_offset body_offset
    label_apart i n at d l =
        let inside = slot_in_index g slot (numbers_of_lem image g j) (slot_inside image g slot bodies lengths j w) in
        omega (arith, at.from, offset_data g n (behind_index g n d), offset_index g (slot_ordinal slot) inside, behind_index g n d)

    pub write_apart : (i n : ℕ) → InSector g i n → OnDefect g n → get_or (image_after image slot bodies lengths) i 0 ≡ get_or image i 0
    write_apart i n at d = either (write_changes image g slot bodies lengths j w i) (λ same. same) (λ may. absurd (not may))
      where
        not : MayChange g image slot (needed (label_at g image slot) bodies lengths) i → ⊥
        not (of_blocks m in-m e) =
            among_apart (taken_by g image (label_at g image slot) (needed (label_at g image slot) bodies lengths)) (taken_legal image g slot bodies lengths j w) n
            (subst (λ (k : ℕ). sector_of g (taken_by g image (label_at g image slot) (needed (label_at g image slot) bodies lengths)) k ≡ true) (only_sector g i m n in-m at) e) d
        not (of_unused a b) = label_apart i n at d (omega arith)
        not (of_data_end a b) = label_apart i n at d (omega arith)
