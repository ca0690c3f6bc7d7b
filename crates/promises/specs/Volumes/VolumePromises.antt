-- Demand 2, the volume: of an accepted volume, every label's extent is in range, and no two labels' extents share a physical record.
-- Assumes nothing.
use Rattle.std.specs.Prelude.{ℕ, ◌+◌, ◌<◌, ◌≤◌, ◌≡◌, true, length, Ok}
use Rattle.std.proofs.Common.{subst, arith}
use mathlib.Core.List.{List, Memᴰ}
use Rattle.standard.specs.Layout.{index_sectors, sector_count, body_offset, label_at}
use Rattle.standard.specs.Addresses.{legal, rank, ordinal}
use Rattle.standard.specs.Labels.{start_of, end_of}
use Rattle.standard.specs.Slots.{has_label}
use Rattle.standard.specs.Free.{in_extent}
use Rattle.standard.specs.Files.{extent, file_in, file_at}
use Rattle.standard.specs.Judgement.{judged}
use Rattle.standard.specs.Defects.{physical}
use Rattle.standard.specs.declared.Geometry.{Geometry}
use Rattle.standard.specs.declared.Address.{Address}
use Rattle.promises.specs.Ground.Lists.{every_member}
use Rattle.promises.specs.Images.AddressLaws.{ordinal_ge, ordinal_inj, skips_first, skips_second}
use Rattle.promises.specs.Images.Tiling.{address_inside, address_room}
use Rattle.promises.specs.Volumes.Judging.{accepted}
use Rattle.promises.specs.Volumes.AcceptedLaws.{image_length_lem, InRange, label_in_range, bounds_extent, labels_apart}
use Rattle.promises.specs.Extents.ExtentAddresses.{Between, rising_every, extent_rising}
use Rattle.promises.specs.Volumes.VolumeNumbers.{defects_of}

-- the addresses of an extent are legal, and their ranks are those from its start to its end
pub in_extent_lem : (g : Geometry) (h : List ℕ) (b : Address) → InRange g h → Memᴰ b (extent g h) → (legal g b ≡ true) × (in_extent g h (rank g b) ≡ true)
in_extent_lem g h b r m =
    let lo = rank g (start_of h) in
    let hi = rank g (end_of h) in
    let w = every_member (Between g lo hi) (extent g h) b (rising_every g lo hi (extent g h) (extent_rising g h r)) m in
    (w.0, bounds_extent g h (rank g b) w.1 w.2)

-- EVERY LABEL'S EXTENT IS IN RANGE: each record of it has an address of the volume, is in a sector of the image behind the index cylinder, and on no defective
-- cylinder.
pub record RecordInRange (image : List ℕ) (g : Geometry) (a : Address) : Type 0 where
  pub address : legal g a ≡ true
  pub behind_index : index_sectors g ≤ ordinal g a
  pub sector : ordinal g a < sector_count g
  pub bytes : body_offset g (ordinal g a) + g.P ≤ length image
  pub not_first_defect : 0 < g.d1 → physical g a.cylinder ≡ g.d1 → ⊥
  pub not_second_defect : 0 < g.d2 → physical g a.cylinder ≡ g.d2 → ⊥

pub extent_in_range : (image : List ℕ) (g : Geometry) (slot : ℕ) (a : Address) → judged image ≡ Ok g → has_label g image slot ≡ true
    → Memᴰ a (extent g (label_at g image slot)) → RecordInRange image g a
extent_in_range image g slot a j h m =
    let l = (in_extent_lem g (label_at g image slot) a (label_in_range image g slot j h) m).0 in
    record {
      address = l;
      behind_index = ordinal_ge g a l;
      sector = address_inside g a l;
      bytes = omega (arith, address_room g a l, image_length_lem image g j);
      not_first_defect = skips_first g a.cylinder (defects_of image g j).in_order;
      not_second_defect = skips_second g a.cylinder;
    }

-- NO TWO LABELS' EXTENTS SHARE A PHYSICAL RECORD: where records of two extents are in one sector, the two labels are one.
pub no_record_shared : (image : List ℕ) (g : Geometry) (slot other : ℕ) (a b : Address) → judged image ≡ Ok g
    → has_label g image slot ≡ true → has_label g image other ≡ true
    → Memᴰ a (extent g (label_at g image slot)) → Memᴰ b (extent g (label_at g image other))
    → ordinal g a ≡ ordinal g b → slot ≡ other
no_record_shared image g slot other a b j hs ho ma mb e =
    let x = in_extent_lem g (label_at g image slot) a (label_in_range image g slot j hs) ma in
    let y = in_extent_lem g (label_at g image other) b (label_in_range image g other j ho) mb in
    let q = ordinal_inj g a b x.0 y.0 e in
    labels_apart image g slot other (rank g b) j hs ho (subst (λ (c : Address). in_extent g (label_at g image slot) (rank g c) ≡ true) q x.1) y.1

-- the file in a slot of an accepted volume, as the readings have it
pub file_at_lem : (image : List ℕ) (g : Geometry) (slot : ℕ) → judged image ≡ Ok g → file_at image slot ≡ file_in g image (label_at g image slot)
unfolding file_at
file_at_lem image g slot j = rw (accepted image g j).numbers
