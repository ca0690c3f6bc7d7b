-- The extents of the slots, as ranks.
-- Assumes nothing.
use Rattle.std.specs.Prelude.{◌≡◌, ℕ, ◌+◌, ◌<◌, ◌≤◌, Bool, cond, ◌&&◌, List, length, get_or, nat_le}
use Rattle.standard.specs.Layout.{label_at}
use Rattle.standard.specs.Addresses.{rank}
use Rattle.standard.specs.Labels.{start_of, end_of}
use Rattle.standard.specs.Slots.{is_label}
use Rattle.standard.specs.declared.Geometry.{Geometry}
use Rattle.index.specs.declared.Extent.{Extent}

-- where the extent of a slot's label begins and ends; a slot with no label has one that begins behind every end, and shares a record with none
unfoldable pub start_in : Geometry → List ℕ → ℕ → ℕ
start_in g image slot = cond (is_label g image slot) (rank g (start_of (label_at g image slot))) 4294967295

unfoldable pub end_in : Geometry → List ℕ → ℕ → ℕ
end_in g image slot = cond (is_label g image slot) (rank g (end_of (label_at g image slot))) 0

abbrev pub extent_in : Geometry → List ℕ → ℕ → Extent
extent_in g image slot = record { start = start_in g image slot; end = end_in g image slot }

-- a slot with no label's
abbrev pub no_extent : Extent
no_extent = record { start = 4294967295; end = 0 }

-- a row holds the extents of the slots 1 to n
pub record Known (g : Geometry) (image : List ℕ) (row : List Extent) (n : ℕ) : Type 0 where
  pub long : n ≤ length row
  pub extents_are : (j : ℕ) → j < n → get_or row j no_extent ≡ extent_in g image (j + 1)

-- whether two extents share a record
abbrev pub touches : Extent → Extent → Bool
touches x e = nat_le x.start e.end && nat_le e.start x.end
