-- The fields of a line as their parts in a row.
-- Assumes nothing.
use Rattle.std.specs.Prelude.{Result, Ok}
use Prim.Native.Nat.{ℕ, ◌+◌, ◌/◌, ◌%◌, ◌<◌, ◌≤◌}
use mathlib.Core.Path.{◌≡◌, refl, sym, ap, ◌∙◌}
use mathlib.Core.Bool.{Bool, true, false}
use mathlib.Core.List.{List, [], ◌∷◌, ◌++◌, append_assoc}
use lib.ListN.{length, get_or, take, drop, length-take, drop_of_length-le}
use lib.Seq.{drop-cons}
use native.Mathlib.Omega.{arith}
use native.Mathlib.Numerals.{add-one}
use mir.Val.{bool_byte}
use Rattle.standard.specs.Characters.{bytes, shown}
use Rattle.standard.specs.declared.Place.{Place}
use Rattle.standard.specs.declared.Refusal.{Refusal}
use Rattle.standard.specs.declared.Answer.{Answer}
use Rattle.standard.specs.declared.Answer.TheVariants.{Gap, End, Record as RecordOf}
use Rattle.following.specs.Lines.{spaced, mark_number, place_fields, hex_digit, pair_of, hex_of, body_field, refused_fields, record_fields, answer_fields}

-- the mark as a number
pub mark_is : (mark : Bool) → bool_byte mark ≡ mark_number mark
mark_is true = refl
mark_is false = refl

-- byte after byte
pub hex_more : (body : List ℕ) (i : ℕ) → i < length body → hex_of (drop i body) ≡ pair_of (get_or body i 0) ++ hex_of (drop (i + 1) body)
unfolding hex_of
hex_more body i h = rw (drop-cons body i 0 h, add-one)

pub hex_end : (body : List ℕ) (i : ℕ) → length body ≤ i → hex_of (drop i body) ≡ []
unfolding hex_of
hex_end body i h = rw (drop_of_length-le body h)

-- a record's bytes, or no field at all
pub body_none : (body : List ℕ) → length body ≡ 0 → body_field body ≡ []
unfolding body_field
body_none [] h = refl
body_none (b ∷ bs) h = absurd (omega (arith, h))

pub body_some : (body : List ℕ) → 0 < length body → spaced (hex_of body) ≡ body_field body
unfolding body_field
body_some [] h = absurd (omega (arith, h))
body_some (b ∷ bs) h = refl

pub no_longer : (n : ℕ) {body : List ℕ} (out : List ℕ) → body ≡ take n out → length body ≤ length out
no_longer n out e = let l = length-take n out in omega (arith, ap length e, l)

-- a refusal's number and places in a row
pub refused_is : (r : Refusal) → ((bytes " refused " ++ shown r.number) ++ (bytes " " ++ shown r.first)) ++ (bytes " " ++ shown r.second) ≡ refused_fields r
unfolding refused_fields
refused_is r = simp append_assoc

-- the fields of an answer, by what it is
pub as_record : {a : Result Answer Refusal} {n : ℕ} {next : Place} {body : List ℕ} (out : List ℕ) → a ≡ Ok (RecordOf n next) → body ≡ take n out
    → record_fields n next body ≡ answer_fields a out
as_record {n = n} {next = next} out e b = ap (record_fields n next) b ∙ ap (λ (k : Result Answer Refusal). answer_fields k out) (sym e)

pub as_gap : {a : Result Answer Refusal} {next : Place} (out : List ℕ) → a ≡ Ok (Gap next) → bytes " gap" ++ place_fields next ≡ answer_fields a out
as_gap out e = ap (λ (k : Result Answer Refusal). answer_fields k out) (sym e)

pub as_end : {a : Result Answer Refusal} {next : Place} (out : List ℕ) → a ≡ Ok (End next) → bytes " end" ++ place_fields next ≡ answer_fields a out
as_end out e = ap (λ (k : Result Answer Refusal). answer_fields k out) (sym e)

-- a byte as two digits
pub digits_pair : (b h l : ℕ) → h ≡ hex_digit (b / 16) → l ≡ hex_digit (b % 16) → h ∷ l ∷ [] ≡ pair_of b
unfolding pair_of
digits_pair b h l e f = rw (e, f)
