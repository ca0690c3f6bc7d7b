-- From block to block: what is to be laid from here is what was to be laid from the start.
use Prim.Native.Nat.{ℕ}
use mathlib.Core.Path.{◌≡◌}
use mathlib.Core.List.{List}
use lib.ListN.{length}
use Rattle.std.specs.Slice.Iter.{chunks_rest, chunks_size}
use Rattle.filling.specs.Poured.{Placed}
use Rattle.laying.proofs.DeskLaws.{BlocksFrom}
use Rattle.laying.proofs.lay_blocks.Given as goal

abbrev pub invariant-loop-block : goal.invariant-loop-block
invariant-loop-block l = (goal.iterator-loop-block).can_next l.block-iterator
    × (goal.iterator-loop-block).is_finite l.block-iterator
    × (chunks_size l.block-iterator ≡ l.B)
    × ((tail : List ℕ) → BlocksFrom l.g l.B l.size l.fn.image l.initial.p l.bodies tail ≡ BlocksFrom l.g l.B l.size l.image l.p (chunks_rest l.block-iterator) tail)
    × Placed l.g l.image l.p
    × (length l.image ≡ length l.fn.image)
