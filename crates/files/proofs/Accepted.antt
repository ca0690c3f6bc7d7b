-- What an accepted volume gives to whoever counts a file's blocks.
-- Assumes nothing.
use Rattle.std.specs.Prelude.{Ok}
use Prim.Native.Nat.{ℕ, ◌<◌, ◌≤◌}
use mathlib.Core.Path.{◌≡◌}
use mathlib.Core.Bool.{true}
use mathlib.Core.List.{List}
use native.Mathlib.Omega.{arith}
use Rattle.standard.specs.Layout.{label_at}
use Rattle.standard.specs.Addresses.{legal, rank, address_count}
use Rattle.standard.specs.Labels.{known_level, start_of, end_of, data_end_of}
use Rattle.standard.specs.Files.{extent_size}
use Rattle.standard.specs.Slots.{has_label}
use Rattle.standard.specs.Judgement.{judged}
use Rattle.standard.specs.declared.Geometry.{Geometry}
use Rattle.promises.specs.Images.AddressLaws.{rank_lt}
use Rattle.promises.specs.Volumes.AcceptedLaws.{label_faultless, label_in_range}
use Rattle.promises.specs.Volumes.LabelRules.{data_end_behind}
use Rattle.promises.specs.Volumes.VolumeNumbers.{numbers_of_lem}
use Rattle.promises.specs.Extents.FullBlocks.{records_one}
use Rattle.volume.proofs.NumberLaws.{slotted_of}
use Rattle.extents.specs.Cursors.{legal_on}
use Rattle.files.specs.Numbers.{numbers_of}
use Rattle.files.specs.declared.Numbers.{Numbers as Numbered}
use Rattle.files.proofs.Blocks.{extent_on, size_most}

size_few : (g : Geometry) (h : List ℕ) → legal g (end_of h) ≡ true → address_count g < 65536 → extent_size g h < 4294967296
unfolding extent_size
size_few g h l n = omega (arith, rank_lt g (end_of h) l)

-- a label of level space, 1 or 2, ready to be counted
module _ (image : List ℕ) (g : Geometry) (slot : ℕ) (j : judged image ≡ Ok g) (l : has_label g image slot ≡ true) (kn : known_level (label_at g image slot) ≡ true) where
  pub behind : rank g (start_of (label_at g image slot)) ≤ rank g (data_end_of (label_at g image slot))
  behind = data_end_behind g (label_at g image slot) (label_faultless image g slot j l) kn

  pub ready : (n : Numbered) → n ≡ numbers_of g (label_at g image slot)
      → (0 < n.m) × (n.before ≤ n.size) × (n.size < 4294967296) × (legal_on g n.size n.start ≡ true)
  unfolding numbers_of
  ready n e =
      let h = label_at g image slot in
      let r = label_in_range image g slot j l in
      rw e (
        records_one g h (numbers_of_lem image g j).size_low,
        size_most g image h r behind,
        size_few g h r.end_legal (slotted_of image g j).whole.addresses,
        extent_on g h r,
      )
