-- What the code asks of a volume before it goes through the slots.
-- Assumes nothing.
use Rattle.std.specs.Prelude.{◌≡◌, ℕ, ◌+◌, ◌*◌, ◌<◌, ◌≤◌, List, length, Option, Some, None, cond, ltb, Ok}
use Rattle.standard.specs.Layout.{index_sectors, slot_count}
use Rattle.standard.specs.Addresses.{address_count}
use Rattle.standard.specs.Judgement.{refusal8to10}
use Rattle.standard.specs.declared.Geometry.{Geometry}

-- The numbers are those of VOL1, and the image has its length: I is at most 26 and S at most 2, so that there are at most 45 slots, all in the index
-- cylinder; and the addresses are few.
pub record Whole (g : Geometry) (image : List ℕ) : Type 0 where
  pub few : slot_count g ≤ 45
  pub indexed : slot_count g + 6 < index_sectors g
  pub inside : index_sectors g * 129 ≤ length image
  pub addresses : address_count g < 65536

-- and the slots passed 8 to 10
pub record Slotted (g : Geometry) (image : List ℕ) : Type 0 where
  pub whole : Whole g image
  pub passed : refusal8to10 g image ≡ Ok tt

-- a slot that is looked for: slots count from 1, and 0 is none
unfoldable pub some_slot : ℕ → Option ℕ
some_slot slot = cond (ltb 0 slot) (Some slot) None
