-- A file's numbers, and its blocks counted from them.
-- Assumes nothing.
use Rattle.std.specs.Prelude.{ℕ, ◌-◌, ◌/◌, ◌%◌, Bool, true, false, cond, not, ◌&&◌, ◌||◌, List, length, ltb, eqb, Result, Ok, Err}
use Rattle.standard.specs.Refusals.{refuse}
use Rattle.standard.specs.Addresses.{rank}
use Rattle.standard.specs.Labels.{block_length, record_length, unused_count, start_of, data_end_of}
use Rattle.standard.specs.Files.{extent_size, addresses_from, records_to_block, data_end_in_extent}
use Rattle.standard.specs.declared.Geometry.{Geometry}
use Rattle.extents.specs.Cursors.{good_from}
use Rattle.extents.specs.Surveys.{surveyed}
use Rattle.standard.specs.declared.Refusal.{Refusal}
use Rattle.files.specs.declared.Numbers.{Numbers}

-- the addresses of the extent before the data end: all, where it is beyond
unfoldable pub size_before : Geometry → List ℕ → ℕ
size_before g h = cond (data_end_in_extent g h) (rank g (data_end_of h) - rank g (start_of h)) (extent_size g h)

unfoldable pub numbers_of : Geometry → List ℕ → Numbers
numbers_of g h =
    record {
      B = block_length h;
      R = record_length h;
      U = unused_count h;
      m = records_to_block g h;
      start = start_of h;
      size = extent_size g h;
      inside = data_end_in_extent g h;
      before = size_before g h;
    }

-- 18 "data end in the extent splits a block, or U > 0 with 0 blocks", or the number of blocks, of so many good records before the data end
unfoldable pub ended_by : Numbers → ℕ → ℕ → Result ℕ Refusal
ended_by n slot good =
    cond ((n.inside && not (eqb (good % n.m) 0)) || (ltb 0 n.U && eqb (good / n.m) 0))
    (Err (refuse 18 slot))
    (Ok (good / n.m))

-- 17, then 18, or the number of blocks, from what one walk over the extent tells
abbrev pub tallied_by : Numbers → ℕ → ℕ → Result Bool Refusal → Result ℕ Refusal
tallied_by n slot good (Err r) = Err r
tallied_by n slot good (Ok true) = ended_by n slot n.before
tallied_by n slot good (Ok false) = ended_by n slot good

unfoldable pub tallied : Geometry → List ℕ → Numbers → ℕ → Result ℕ Refusal
tallied g image n slot = tallied_by n slot (length (good_from g image n.before n.start)) (surveyed g image false (addresses_from g n.size n.start))
