-- What is still to be laid of a list of records, from some point of a block on, as it will stand over the block's records.
-- Assumes nothing.
use Rattle.std.specs.Prelude.{ℕ, zero, suc, ◌+◌, ◌<◌, ◌≤◌, ◌≡◌, Bool, true, false, cond, List, [], ◌∷◌, ◌++◌, length, take, drop, leb}
use Rattle.standard.specs.Packing.{fill, record_v, Laid, least, start_if, spread}
use Rattle.standard.specs.Writing.{filled_to}
use Rattle.standard.specs.declared.Geometry.{Geometry}
use Rattle.promises.specs.Writing.Laying.{place_if}
use Rattle.promises.specs.Writing.NeededLaws.{least_for}
use Rattle.filling.specs.Poured.{flat, laid_by, Placed, Lays}
use Rattle.laying.specs.declared.Shape.{Shape}
use Rattle.laying.specs.declared.Desk.{Desk}

-- "Content left, and physical records' ends, are filled with 00": the rest of the current block, filled to the end of its records, which is `rest` bytes on; and
-- the blocks behind it, each of `size` bytes with its fill
abbrev pub flat_laid : ℕ → ℕ → Laid → List ℕ
flat_laid size rest l = filled_to rest l.here ++ flat size l.later

-- One record of V, or of S if `spanned`, laid where `room` is left of the current block, and what follows. `joined`: the next one may stand in the same block,
-- which "V unblocked: one to a block" rules out.
abbrev pub lay_record : Bool → Bool → ℕ → ℕ → List ℕ → (ℕ → Laid) → Laid
lay_record false joined B room x more = place_if (leb (length (record_v x)) room) B room (record_v x) (λ room'. more (cond joined room' 0))
lay_record true joined B room x more = start_if (leb (least x) room) B room (λ room'. spread (suc (length x)) B false room' x more)

unfoldable pub lay_from : Bool → Bool → ℕ → ℕ → List (List ℕ) → Laid
lay_from f joined B room [] = record { here = []; later = []; unused = room }
lay_from f joined B room (x ∷ xs) = lay_record f joined B room x (λ room'. lay_from f joined B room' xs)

-- so many bytes of a body can be laid
abbrev pub fits_as : Bool → ℕ → ℕ → Type 0
fits_as false B n = 4 + n ≤ B
fits_as true B n = least_for n ≤ B

-- F: "B/R to a block", so a block is B bytes of the bodies joined. (The first argument bounds the number of blocks.)
unfoldable pub chunked : ℕ → ℕ → List ℕ → List (List ℕ)
chunked zero B s = []
chunked (suc n) B [] = []
chunked (suc n) B (b ∷ s) = take B (b ∷ s) ∷ chunked n B (drop B (b ∷ s))

abbrev pub chunks : ℕ → List ℕ → List (List ℕ)
chunks B s = chunked (length s) B s

-- B bytes of content stand in the block's physical records
abbrev pub Shaped : Shape → Type 0
Shaped s = (s.B ≤ s.size) × (s.size < 4294967296)

-- the writer's pen is placed, and the room is inside the block, and the block inside its records
abbrev pub Ready : Geometry → List ℕ → Shape → Desk → Type 0
Ready g image s d = Placed g image d.p × (d.room ≤ d.rest) × (d.rest ≤ s.size) × (d.room ≤ s.B)

-- a block with so much room: the current one, or the next, where the current one is filled up
abbrev pub HasRoom : Geometry → Shape → List ℕ → Desk → ℕ → List ℕ → Desk → Type 0
HasRoom g s image d need image' d' =
    (Lays g image d.p (cond (leb need d.room) [] (fill d.rest)) image' d'.p)
    × (d'.room ≡ cond (leb need d.room) d.room s.B)
    × (d'.rest ≡ cond (leb need d.room) d.rest s.size)

-- A RECORD IS LAID: what stands at the end is, whatever follows it, what is laid from the new desk on
abbrev pub Steps : Geometry → Shape → List ℕ → Desk → ((ℕ → Laid) → Laid) → List ℕ → Desk → Type 0
Steps g s image d record' image' d' =
    ((more : ℕ → Laid) (tail : List ℕ)
    → laid_by g image d.p (flat_laid s.size d.rest (record' more) ++ tail) ≡ laid_by g image' d'.p (flat_laid s.size d'.rest (more d'.room) ++ tail))
    × Ready g image' s d'
