-- THE ONE RETURNED NUMBER, the caller's side: how a caller in C takes it apart, as include/galzeranta.h does. proofs/Bounds/PackedLaws proves that it then has
-- the answer of the definitions again, all of it.
-- Assumes nothing.
use Rattle.std.specs.Prelude.{ℕ, ◌*◌, ◌/◌, ◌%◌, ◌^◌, Bool, cond, eqb, Result, Ok, Err}
use Rattle.standard.specs.declared.Address.{Address}
use Rattle.standard.specs.declared.Created.{Created}
use Rattle.standard.specs.declared.Geometry.{Geometry}
use Rattle.standard.specs.declared.Refusal.{Refusal}
use Rattle.standard.specs.declared.Place.{Place}
use Rattle.standard.specs.declared.Found.{Found}
use Rattle.standard.specs.declared.Answer.{Answer}
use Rattle.standard.specs.declared.Answer.TheVariants.{Record as RecordOf, Gap, End}
use Rattle.standard.specs.Creating.{file_made}
use Rattle.standard.specs.Finding.{label_found}
use Rattle.promises.specs.Bounds.WritingSizes.{capped}

-- ---- the caller's side
-- so many bits of a number, from a bit on
abbrev pub bits : ℕ → ℕ → ℕ → ℕ
bits from count n = n / 2 ^ from % 2 ^ count

-- "The code is the top byte, bits 56-63: 0 done"
abbrev pub code_of : ℕ → ℕ
code_of n = bits 56 8 n

abbrev pub is_done : ℕ → Bool
is_done n = eqb (code_of n) 0

-- "1 to 127 the refusal of that number"; "its first place in bits 24-55, its second in bits 4-23, its third in bits 0-3"
unfoldable pub refusal_back : ℕ → Refusal
refusal_back n = record { number = code_of n; first = bits 24 32 n; second = bits 4 20 n; third = bits 0 4 n }

-- "L bits 0-7, I 8-15, D 16-23, k 24-27, S 28-31, d1 32-39, d2 40-47 (0: absent)"; P is 128·2^k
unfoldable pub geometry_back : ℕ → Geometry
geometry_back n =
    record {
      L = bits 0 8 n;
      I = bits 8 8 n;
      D = bits 16 8 n;
      k = bits 24 4 n;
      P = 128 * 2 ^ bits 24 4 n;
      S = bits 28 4 n;
      d1 = bits 32 8 n;
      d2 = bits 40 8 n;
    }

abbrev pub judged_back : ℕ → Result Geometry Refusal
judged_back n = cond (is_done n) (Ok (geometry_back n)) (Err (refusal_back n))

-- "slot in bits 24-55, the label's byte offset in the image in bits 0-23"
abbrev pub found_back : ℕ → Result Found Refusal
found_back n = cond (is_done n) (label_found (bits 24 32 n) (bits 0 24 n)) (Err (refusal_back n))

-- "the number of blocks"; "the number of free physical records"
abbrev pub counted_back : ℕ → Result ℕ Refusal
counted_back n = cond (is_done n) (Ok (bits 0 56 n)) (Err (refusal_back n))

-- "Record, gap and End carry the next place: bit 0 its mark, bits 1-15 its offset, bits 16-31 its block; bits 32-55 the record's length"; code 128 is a gap,
-- 129 is End
unfoldable pub place_back : ℕ → Place
place_back n = record { block = bits 16 16 n; offset = bits 1 15 n; mark = eqb (bits 0 1 n) 1 }

abbrev pub answer_back : ℕ → Result Answer Refusal
answer_back n =
    cond (is_done n) (Ok (RecordOf (bits 32 24 n) (place_back n)))
    (cond (eqb (code_of n) 128) (Ok (Gap (place_back n)))
    (cond (eqb (code_of n) 129) (Ok (End (place_back n)))
    (Err (refusal_back n))))

-- "the number of blocks written"
abbrev pub written_back : ℕ → Result ℕ Refusal
written_back n = cond (is_done n) (Ok (bits 0 56 n)) (Err (refusal_back n))

-- "A first place above 2^32-1 is given as 2^32-1": only in writing, of lists that fit in no machine
abbrev pub capped_written : Result ℕ Refusal → Result ℕ Refusal
capped_written (Err r) = Err (capped r)
capped_written (Ok n) = Ok n

-- "slot in bits 24-55; the start as the number of its five digits (cylinder·1000 + side·100 + sector) in bits 0-23"
unfoldable pub address_back : ℕ → Address
address_back n = record { cylinder = n / 1000; side = n / 100 % 10; sector = n % 100 }

abbrev pub created_back : ℕ → Result Created Refusal
created_back n = cond (is_done n) (file_made (bits 24 32 n) (address_back (bits 0 24 n))) (Err (refusal_back n))
