-- What has room in the bits that the packed number keeps for it. A refusal always has: a place too large is given as the largest.
-- Assumes nothing.
use Rattle.std.specs.Prelude.{◌<◌, ◌^◌, Result, Ok, Err}
use Rattle.standard.specs.Addresses.{address_number}
use Rattle.standard.specs.declared.Place.{Place}
use Rattle.standard.specs.declared.Found.{Found}
use Rattle.standard.specs.declared.Created.{Created}
use Rattle.standard.specs.declared.Answer.{Answer}
use Rattle.standard.specs.declared.Refusal.{Refusal}
use Rattle.standard.specs.declared.Answer.TheVariants.{Record, Gap, End}

-- "slot in bits 24-55, the label's byte offset in the image in bits 0-23"
abbrev pub FoundFits : Result Found Refusal → Type 0
FoundFits (Err r) = Unit {0}
FoundFits (Ok f) = (f.slot < 2 ^ 32) × (f.offset < 2 ^ 24)

-- "bits 1-15 its offset, bits 16-31 its block"
abbrev pub PlaceFits : Place → Type 0
PlaceFits pl = (pl.offset < 2 ^ 15) × (pl.block < 2 ^ 16)

-- "bits 32-55 the record's length"
abbrev pub AnswerFits : Result Answer Refusal → Type 0
AnswerFits (Err r) = Unit {0}
AnswerFits (Ok (Record n pl)) = (n < 2 ^ 24) × PlaceFits pl
AnswerFits (Ok (Gap pl)) = PlaceFits pl
AnswerFits (Ok (End pl)) = PlaceFits pl

-- "slot in bits 24-55; the start as the number of its five digits [..] in bits 0-23"
abbrev pub CreatedFits : Result Created Refusal → Type 0
CreatedFits (Err r) = Unit {0}
CreatedFits (Ok c) = (c.slot < 2 ^ 32) × (address_number c.start < 2 ^ 24)
