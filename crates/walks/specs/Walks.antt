-- A reader on its way through the blocks of an opened file.
-- Assumes nothing.
use Rattle.std.specs.Prelude.{ℕ, ◌+◌, ◌-◌, ◌*◌, ◌<◌, ◌≤◌, ◌≡◌, false, List, ◌++◌, length, take, Result, Ok, Err}
use Rattle.standard.specs.Pieces.{look_in, ahead}
use Rattle.standard.specs.Records.{Mode as ModeOf, plain, salvage, Met, first_met}
use Rattle.standard.specs.Files.{any_failed}
use Rattle.labels.specs.Forms.{format_for}
use Rattle.extents.specs.Cursors.{standing}
use Rattle.opening.specs.Opened.{file_of, Opened, Seated, size_at}
use Rattle.opening.specs.declared.FileNumbers.{FileNumbers}
use Rattle.blocks.specs.Streams.{stream}
use Rattle.blocks.specs.declared.Role.{Role}
use Rattle.pieces.specs.Looks.{seen_of, head_of}
use Rattle.pieces.specs.declared.Seen.{Seen}
use Rattle.pieces.specs.declared.Seen.TheVariants.{Part}
use Rattle.walks.specs.Stands.{length_of, state_with, limit_in, met_with, length_in}
use Rattle.walks.specs.declared.Mode.{Mode}
use Rattle.walks.specs.declared.Mode.TheVariants.{Plain, Salvage}
use Rattle.walks.specs.declared.Measured.{Measured}
use Rattle.walks.specs.declared.Measured.TheVariants.{Took, Lost, Ended}
use Rattle.walks.specs.declared.Walk.{Walk}
use Rattle.walks.specs.declared.Turn.{Turn}
use Rattle.standard.specs.declared.Refusal.{Refusal}
use Rattle.walks.specs.declared.Turn.TheVariants.{Done, On}

abbrev pub mode_of : Mode → ModeOf
mode_of Plain = plain
mode_of Salvage = salvage

-- what a reader meets that is on its way so, and has these bytes of a body
abbrev pub met_from : List ℕ → FileNumbers → Mode → Walk → List ℕ → Met
met_from image f s w body =
    let file = file_of image f in
    first_met (mode_of s) file.params (ahead file.params file.blocks w.place.block w.place.offset) (state_with body w.stand)

-- a walk in the file: its cursor is on the first record of its block
abbrev pub Walking : List ℕ → FileNumbers → Walk → Type 0
Walking image f w =
    (Seated image f w.place.block w.at)
    × (w.place.block ≤ f.count)
    × (w.place.offset < 65536)
    × (length_of w.stand ≤ w.place.block * 65536 + w.place.offset)

-- and in a block of it
abbrev pub Entered : List ℕ → FileNumbers → Walk → Type 0
Entered image f w = (Opened image f) × (Walking image f w) × (w.place.block < f.count)

-- the content of its block from an offset on; what stands at its place; the bytes behind the control word there
abbrev pub rest_at : List ℕ → FileNumbers → Walk → ℕ → List ℕ
rest_at image f w o = take (size_at f w.place.block - o) (stream f.g image w.at o)

abbrev pub seen_at : List ℕ → FileNumbers → Walk → Seen
seen_at image f w = seen_of (look_in (format_for f.form) f.R f.blocked w.place.offset (rest_at image f w w.place.offset))

abbrev pub body_ahead : List ℕ → FileNumbers → Walk → List ℕ
body_ahead image f w = stream f.g image w.at (w.place.offset + head_of f.form)

-- its block is not lost
abbrev pub NotLost : List ℕ → FileNumbers → Walk → Type 0
NotLost image f w = any_failed f.g image (take f.m (standing f.g image w.at)) ≡ false

abbrev pub PartAt : List ℕ → FileNumbers → Walk → Role → ℕ → Type 0
PartAt image f w k size = (NotLost image f w) × (Part k size ≡ seen_at image f w)

abbrev pub limit_by : FileNumbers → ℕ
limit_by f = limit_in (format_for f.form) f.R

-- up to so many bytes of a record's body are there: those that the reader has, and then those ahead of it
abbrev pub Reached : List ℕ → FileNumbers → Walk → ℕ → Type 0
Reached image f w n = (length_of w.stand ≤ n) × (n ≤ length_of w.stand + length (body_ahead image f w)) × (n < length_of w.stand + 65536)

-- the bytes that a reader has when its record's body has come to so many
abbrev pub grown : List ℕ → FileNumbers → Walk → List ℕ → ℕ → List ℕ
grown image f w body n = body ++ take (n - length_of w.stand) (body_ahead image f w)

-- what is left of the file behind a place: it falls with every turn
abbrev pub to_go : FileNumbers → Walk → ℕ
to_go f w = (f.count + 1 - w.place.block) * 65536 - w.place.offset

abbrev pub ReachedBy : List ℕ → FileNumbers → Walk → Result Measured Refusal → Type 0
ReachedBy image f w (Ok (Took n b pl)) = Reached image f w n
ReachedBy image f w (Ok (Lost pl)) = Unit {0}
ReachedBy image f w (Ok Ended) = Unit {0}
ReachedBy image f w (Err r) = Unit {0}

-- WHAT A TURN SAYS: the answer itself, whatever the bytes so far are; or the same answer as from further on, with the bytes that have come
abbrev pub Turned : List ℕ → FileNumbers → Mode → Walk → Turn → Type 0
Turned image f s w (Done x) =
    ((body : List ℕ) → length body ≡ length_of w.stand → met_from image f s w body ≡ met_with (grown image f w body (length_in x)) x)
    × (ReachedBy image f w x)
Turned image f s w (On v) =
    ((body : List ℕ) → length body ≡ length_of w.stand → met_from image f s w body ≡ met_from image f s v (grown image f w body (length_of v.stand)))
    × (Reached image f w (length_of v.stand))
    × (Walking image f v)
    × (to_go f v < to_go f w)
