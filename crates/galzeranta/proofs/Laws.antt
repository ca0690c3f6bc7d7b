-- What is found, what is read and what is created has room in the returned number.
-- Assumes nothing.
use Rattle.std.specs.Prelude.{Result, Ok, Err}
use mathlib.Core.Path.{◌≡◌, refl, sym, subst}
use mathlib.Core.List.{List}
use Prim.Native.Nat.{ℕ}
use native.Mathlib.Omega.{arith}
use Rattle.standard.specs.Finding.{found}
use Rattle.standard.specs.declared.Found.{Found}
use Rattle.standard.specs.Creating.{created}
use Rattle.standard.specs.declared.Created.{Created}
use Rattle.standard.specs.Records.{Mode}
use Rattle.standard.specs.Reading.{read_answer}
use Rattle.standard.specs.declared.Place.{Place}
use Rattle.standard.specs.declared.Answer.{Answer}
use Rattle.standard.specs.declared.Answer.TheVariants.{Record, Gap, End}
use Rattle.promises.proofs.Bounds.PackedLaws.{find_room}
use Rattle.promises.proofs.Bounds.MadeSizes.{create_low}
use Rattle.promises.proofs.Bounds.ReadingSizes.{AnswerSmall, reading_small}
use Rattle.standard.specs.declared.Refusal.{Refusal}
use Rattle.packing.specs.Room.{FoundFits, AnswerFits, CreatedFits}

pub found_fits : (image name : List ℕ) → FoundFits (found image name)
found_fits image name = on (found image name) refl
  where
    on : (f : Result Found Refusal) → found image name ≡ f → FoundFits f
    on (Err r) e = tt
    on (Ok f) e = find_room image name f.slot f.offset e

pub answer_fits : (m : Mode) (image : List ℕ) (slot : ℕ) (pl : Place) (out : List ℕ) (a : Result Answer Refusal) → a ≡ read_answer m image slot pl out → AnswerFits a
answer_fits m image slot pl out a e = on a (subst AnswerSmall (sym e) (reading_small m image slot pl out))
  where
    on : (a : Result Answer Refusal) → AnswerSmall a → AnswerFits a
    on (Err r) h = tt
    on (Ok (Record n next)) h = (h.0, (h.1.1, h.1.0))
    on (Ok (Gap next)) h = (h.1, h.0)
    on (Ok (End next)) h = (h.1, h.0)

pub created_fits : (image fields : List ℕ) (n : ℕ) → CreatedFits (created image fields n)
created_fits image fields n = on (created image fields n) refl
  where
    on : (c : Result Created Refusal) → created image fields n ≡ c → CreatedFits c
    on (Err r) e = tt
    on (Ok c) e =
        let s = create_low image fields n c.slot c.start e in
        (omega (arith, s.slot_low), omega (arith, s.number))
