-- Each field by its function.
-- Assumes nothing.
use Prim.Native.Nat.{suc, ◌-◌}
use mathlib.Core.Path.{◌≡◌}
use native.Mathlib.Omega.{arith}
use Rattle.standard.specs.Addresses.{rank}
use Rattle.standard.specs.Labels.{start_of, end_of}
use Rattle.standard.specs.Files.{extent_size, data_end_in_extent}
use Rattle.files.specs.Numbers.{numbers_of, size_before}
use Rattle.files.proofs.numbers_of.Goals as goal

pub returns : goal.returns
unfolding numbers_of size_before extent_size data_end_in_extent
returns c =
    let x = c.args in
    let first = c.start_rank-first.ensures.0 in
    let last = c.end_rank-last.ensures.0 in
    let size : c.minus-size.result ≡ suc (rank x.g (end_of x.h.now)) - rank x.g (start_of x.h.now) =
    omega (arith, c.minus-size.ensures, first, last) in
    cc (size)
