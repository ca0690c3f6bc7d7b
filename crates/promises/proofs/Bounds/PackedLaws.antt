-- THE ONE RETURNED NUMBER IS EXACT: a caller in C who takes it apart, as include/galzeranta.h does, has the answer of the definitions again, all of it. For
-- a reader who proves nothing: the definitions below are the caller's side, the theorems under EXACT say that nothing is lost on the way.
-- Assumes nothing.
use Rattle.std.specs.Prelude.{ℕ, ◌+◌, ◌*◌, ◌/◌, ◌%◌, ◌^◌, ◌<◌, ◌≡◌, Bool, false, cond, List, eqb, Result, Ok, Err}
use Rattle.std.proofs.Math.Path.{refl, ap}
use Rattle.std.proofs.Common.{sym, ◌∙◌, mod-eq_of_lt}
use Rattle.std.proofs.Math.Bool.{true}
use native.Mathlib.Omega.{arith}
use Rattle.std.proofs.Math.Nat.{add-mul-div_right, add-mul-mod_self_right, div-eq_of_lt}
use borrow.Author.Tests.{lt-ltb, eq-eqb, ne_eqb}
use Rattle.standard.specs.Packed.{most, packed_refusal, packed_judged, packed_found, packed_counted, packed_place, packed_answer, packed_written, packed_created}
use Rattle.standard.specs.Judgement.{judged}
use Rattle.standard.specs.Finding.{found, label_found}
use Rattle.standard.specs.Free.{free_count}
use Rattle.standard.specs.Files.{counted}
use Rattle.standard.specs.Records.{Mode}
use Rattle.standard.specs.Reading.{read_answer}
use Rattle.standard.specs.Writing.{written}
use Rattle.standard.specs.Creating.{created, deleted, file_made}
use Rattle.standard.specs.Addresses.{address_number}
use Rattle.standard.specs.declared.Address.{Address}
use Rattle.standard.specs.declared.Created.{Created}
use Rattle.standard.specs.declared.Geometry.{Geometry}
use Rattle.standard.specs.declared.Refusal.{Refusal}
use Rattle.standard.specs.declared.Place.{Place}
use Rattle.standard.specs.declared.Found.{Found}
use Rattle.standard.specs.declared.Answer.{Answer}
use Rattle.standard.specs.declared.Answer.TheVariants.{Record as RecordOf, Gap, End}
use Rattle.promises.specs.Images.AddressLaws.{address_eq}
use Rattle.promises.specs.Volumes.VolumeNumbers.{numbers_of_lem, defects_of}
use Rattle.promises.specs.Bounds.Sizes.{Small, volume_small, find_small, count_small, free_small, find_low, count_few, free_low}
use Rattle.promises.proofs.Bounds.ReadingSizes.{PlaceSmall, AnswerSmall, reading_small}
use Rattle.promises.specs.Bounds.WritingSizes.{capped}
use Rattle.promises.proofs.Bounds.WritingSizes.{most_low, write_small, write_few}
use Rattle.promises.proofs.Bounds.MadeSizes.{create_small, create_low, delete_small, delete_few}
use Rattle.promises.specs.Bounds.PackedLaws.{bits, code_of, is_done, refusal_back, geometry_back, judged_back, found_back, counted_back, place_back, answer_back, written_back, capped_written, address_back, created_back}

-- ---- a number made of parts: the part in the middle
part_is : (x y low b high : ℕ) → low < x → b < y → (low + b * x + high * (x * y)) / x % y ≡ b
part_is x y low b high l h =
    let e : low + b * x + high * (x * y) ≡ low + (b + high * y) * x = omega arith in
    let none : low / x ≡ 0 = div-eq_of_lt l in
    let d : (low + (b + high * y) * x) / x ≡ b + high * y = add-mul-div_right low (b + high * y) (omega arith) ∙ omega arith in
    ap (λ (z : ℕ). z / x % y) e ∙ ap (λ (z : ℕ). z % y) d ∙ add-mul-mod_self_right b high y ∙ mod-eq_of_lt h

between : (from count n low b high : ℕ) → n ≡ low + b * 2 ^ from + high * (2 ^ from * 2 ^ count) → low < 2 ^ from → b < 2 ^ count → bits from count n ≡ b
between from count n low b high e l h = ap (bits from count) e ∙ part_is (2 ^ from) (2 ^ count) low b high l h

-- ---- a refusal
abbrev refusal_of : ℕ → ℕ → ℕ → ℕ → Refusal
refusal_of number first second third = record { number = number; first = first; second = second; third = third }

same_refusal : (a b c d a' b' c' d' : ℕ) → a ≡ a' → b ≡ b' → c ≡ c' → d ≡ d' → refusal_of a b c d ≡ refusal_of a' b' c' d'
same_refusal a b c d a' b' c' d' p q r s = cc

refusal_eq : (r q : Refusal) → r.number ≡ q.number → r.first ≡ q.first → r.second ≡ q.second → r.third ≡ q.third → r ≡ q
refusal_eq r q a b c d = same_refusal _ _ _ _ _ _ _ _ a b c d

packed_small : (r : Refusal) → Small r → packed_refusal r ≡ r.number * 2 ^ 56 + r.first * 2 ^ 24 + r.second * 2 ^ 4 + r.third
unfolding packed_refusal
packed_small r s =
    let t : r.third < 16 = omega (arith, s.third_none) in
    simp (lt-ltb r.first (2 ^ 32) s.first_low, lt-ltb r.second (2 ^ 20) s.second_low, lt-ltb r.third (2 ^ 4) t)

-- a refusal and the same with its first place capped have one number
packed_capped : (r : Refusal) → packed_refusal r ≡ packed_refusal (capped r)
unfolding packed_refusal
packed_capped r = let e = lt-ltb (most 32 r.first) (2 ^ 32) (most_low r.first) in ap (λ (x : ℕ). r.number * 2 ^ 56 + x * 2 ^ 24 + most 20 r.second * 2 ^ 4 + most 4 r.third) (sym (rw e refl))

refusal_code : (r : Refusal) → Small r → (code_of (packed_refusal r) ≡ r.number) × (is_done (packed_refusal r) ≡ false)
refusal_code r s =
    let e = packed_small r s in
    let c : code_of (packed_refusal r) ≡ r.number = omega (arith, s) in
    (c, ne_eqb (code_of (packed_refusal r)) 0 (omega (arith, s.number_low)))

refusal_back_lem : (r : Refusal) → Small r → refusal_back (packed_refusal r) ≡ r
unfolding refusal_back
refusal_back_lem r s =
    let e = packed_small r s in
    refusal_eq (refusal_back (packed_refusal r)) r (refusal_code r s).0 (omega (arith, s)) (omega (arith, s)) (omega (arith, s))

-- ---- a volume
record Room (g : Geometry) : Type 0 where
  cylinders : g.L < 2 ^ 8
  index : g.I < 2 ^ 8
  sectors : g.D < 2 ^ 8
  size : g.k < 2 ^ 4
  sides : g.S < 2 ^ 4
  first_defect : g.d1 < 2 ^ 8
  second_defect : g.d2 < 2 ^ 8

volume_room : (image : List ℕ) (g : Geometry) → judged image ≡ Ok g → Room g
volume_room image g j =
    let n = numbers_of_lem image g j in
    let d = defects_of image g j in
    record {
      cylinders = omega (arith, n.cylinders);
      index = omega (arith, n.index_high);
      sectors = omega (arith, n.sectors);
      size = omega (arith, n.kind_high);
      sides = omega (arith, n.side_high);
      first_defect = omega (arith, d.first_high, n.cylinders);
      second_defect = omega (arith, d.second_high, n.cylinders);
    }

abbrev geometry_of : ℕ → ℕ → ℕ → ℕ → ℕ → ℕ → ℕ → ℕ → Geometry
geometry_of L I D k P S d1 d2 = record { L = L; I = I; D = D; k = k; P = P; S = S; d1 = d1; d2 = d2 }

same_geometry : (L I D k P S d1 d2 L' I' D' k' P' S' d1' d2' : ℕ)
    → L ≡ L' → I ≡ I' → D ≡ D' → k ≡ k' → P ≡ P' → S ≡ S' → d1 ≡ d1' → d2 ≡ d2'
    → geometry_of L I D k P S d1 d2 ≡ geometry_of L' I' D' k' P' S' d1' d2'
same_geometry L I D k P S d1 d2 L' I' D' k' P' S' d1' d2' a b c d e f h i = cc

volume_back : (g : Geometry) → Room g → g.P ≡ 128 * 2 ^ g.k → geometry_back (packed_judged (Ok g)) ≡ g
unfolding geometry_back packed_judged
volume_back g m p =
    let n = packed_judged (Ok g) in
    let above3 = g.k + g.S * 2 ^ 4 + g.d1 * 2 ^ 8 + g.d2 * 2 ^ 16 in
    let below4 = g.L + g.I * 2 ^ 8 + g.D * 2 ^ 16 + g.k * 2 ^ 24 in
    let k = between 24 4 n (g.L + g.I * 2 ^ 8 + g.D * 2 ^ 16) g.k (g.S + g.d1 * 2 ^ 4 + g.d2 * 2 ^ 12) (omega arith) (omega (arith, m)) m.size in
    same_geometry _ _ _ _ _ _ _ _ _ _ _ _ _ _ _ _
    (between 0 8 n 0 g.L (g.I + g.D * 2 ^ 8 + above3 * 2 ^ 16) (omega arith) (omega arith) m.cylinders)
    (between 8 8 n g.L g.I (g.D + above3 * 2 ^ 8) (omega arith) m.cylinders m.index)
    (between 16 8 n (g.L + g.I * 2 ^ 8) g.D above3 (omega arith) (omega (arith, m)) m.sectors)
    k
    (ap (λ (x : ℕ). 128 * 2 ^ x) k ∙ sym p)
    (between 28 4 n below4 g.S (g.d1 + g.d2 * 2 ^ 8) (omega arith) (omega (arith, m)) m.sides)
    (between 32 8 n (below4 + g.S * 2 ^ 28) g.d1 g.d2 (omega arith) (omega (arith, m)) m.first_defect)
    (between 40 8 n (below4 + g.S * 2 ^ 28 + g.d1 * 2 ^ 32) g.d2 0 (omega arith) (omega (arith, m)) m.second_defect)

volume_code : (g : Geometry) → Room g → is_done (packed_judged (Ok g)) ≡ true
unfolding packed_judged
volume_code g m = eq-eqb (code_of (packed_judged (Ok g))) 0 (omega (arith, m))

-- ---- what is found, and a count
at_back : (slot offset : ℕ) → slot < 2 ^ 32 → offset < 2 ^ 24 → found_back (packed_found (label_found slot offset)) ≡ label_found slot offset
unfolding packed_found
at_back slot offset s o =
    let n = packed_found (label_found slot offset) in
    let done : is_done n ≡ true = eq-eqb (code_of n) 0 (omega arith) in
    let a : bits 24 32 n ≡ slot = between 24 32 n offset slot 0 (omega arith) o s in
    let b : bits 0 24 n ≡ offset = between 0 24 n 0 offset slot (omega arith) (omega arith) o in
    rw done (cc)

count_back : (n : ℕ) → n < 2 ^ 56 → counted_back (packed_counted (Ok n)) ≡ Ok n
unfolding packed_counted
count_back n h =
    let done : is_done n ≡ true = eq-eqb (code_of n) 0 (omega arith) in
    let a : bits 0 56 n ≡ n = omega arith in
    rw done (ap Ok a)

unfound_back : (r : Refusal) → Small r → found_back (packed_found (Err r)) ≡ Err r
unfolding packed_found
unfound_back r s = rw (refusal_code r s).1 (ap Err (refusal_back_lem r s))

uncounted_back : (r : Refusal) → Small r → counted_back (packed_counted (Err r)) ≡ Err r
unfolding packed_counted
uncounted_back r s = rw (refusal_code r s).1 (ap Err (refusal_back_lem r s))

-- ---- a reading's answer, and a write's
mark_back : (t : Bool) → eqb (cond t 1 0) 1 ≡ t
mark_back true = refl
mark_back false = refl

mark_low : (t : Bool) → cond t 1 0 < 2
mark_low true = omega arith
mark_low false = omega arith

abbrev place_of : ℕ → ℕ → Bool → Place
place_of block offset mark = record { block = block; offset = offset; mark = mark }

same_place : (b o b' o' : ℕ) (t t' : Bool) → b ≡ b' → o ≡ o' → t ≡ t' → place_of b o t ≡ place_of b' o' t'
same_place b o b' o' t t' p q r = cc

-- a place below bit 32, whatever stands above
place_back_lem : (n top : ℕ) (pl : Place) → n ≡ top * 2 ^ 32 + packed_place pl → PlaceSmall pl → place_back n ≡ pl
unfolding place_back packed_place
place_back_lem n top pl e s =
    let mark : ℕ = cond pl.mark 1 0 in
    let low : mark < 2 = mark_low pl.mark in
    let m : bits 0 1 n ≡ mark = between 0 1 n 0 mark (pl.offset + pl.block * 2 ^ 15 + top * 2 ^ 31) (omega arith) (omega arith) low in
    same_place _ _ _ _ _ _
    (between 16 16 n (mark + pl.offset * 2) pl.block top (omega arith) (omega (arith, s)) s.0)
    (between 1 15 n mark pl.offset (pl.block + top * 2 ^ 16) (omega arith) (omega arith) s.1)
    (ap (λ (x : ℕ). eqb x 1) m ∙ mark_back pl.mark)

place_low : (pl : Place) → PlaceSmall pl → packed_place pl < 2 ^ 32
unfolding packed_place
place_low pl s = omega (arith, s, mark_low pl.mark)

code_is : (n code low : ℕ) → n ≡ code * 2 ^ 56 + low → low < 2 ^ 56 → code < 2 ^ 8 → code_of n ≡ code
code_is n code low e l h = between 56 8 n low code 0 (omega arith) l h

answer_back_lem : (a : Result Answer Refusal) → AnswerSmall a → answer_back (packed_answer a) ≡ a
unfolding packed_answer
answer_back_lem (Err r) s =
    let c = refusal_code r s in
    let g : eqb (code_of (packed_refusal r)) 128 ≡ false = ne_eqb (code_of (packed_refusal r)) 128 (omega (arith, c.0, s.number_high)) in
    let e : eqb (code_of (packed_refusal r)) 129 ≡ false = ne_eqb (code_of (packed_refusal r)) 129 (omega (arith, c.0, s.number_high)) in
    rw (c.1, g, e) (ap Err (refusal_back_lem r s))
answer_back_lem (Ok (RecordOf k pl)) s =
    let n = k * 2 ^ 32 + packed_place pl in
    let low = place_low pl s.1 in
    let c : code_of n ≡ 0 = code_is n 0 n (omega arith) (omega (arith, s.0)) (omega arith) in
    let a : bits 32 24 n ≡ k = between 32 24 n (packed_place pl) k 0 (omega arith) low s.0 in
    let b = place_back_lem n k pl (omega arith) s.1 in
    rw (eq-eqb (code_of n) 0 c) (cc)
answer_back_lem (Ok (Gap pl)) s =
    let n = 128 * 2 ^ 56 + packed_place pl in
    let c : code_of n ≡ 128 = code_is n 128 (packed_place pl) (omega arith) (omega (arith, place_low pl s)) (omega arith) in
    let b = place_back_lem n (128 * 2 ^ 24) pl (omega arith) s in
    rw (ne_eqb (code_of n) 0 (omega arith), eq-eqb (code_of n) 128 c) (ap (λ (next : Place). Ok (Gap next)) b)
answer_back_lem (Ok (End pl)) s =
    let n = 129 * 2 ^ 56 + packed_place pl in
    let c : code_of n ≡ 129 = code_is n 129 (packed_place pl) (omega arith) (omega (arith, place_low pl s)) (omega arith) in
    let b = place_back_lem n (129 * 2 ^ 24) pl (omega arith) s in
    rw (ne_eqb (code_of n) 0 (omega arith), ne_eqb (code_of n) 128 (omega arith), eq-eqb (code_of n) 129 c) (ap (λ (next : Place). Ok (End next)) b)

-- ---- a file created
digits_back : (c s n N : ℕ) → s < 10 → n < 100 → N ≡ c * 1000 + s * 100 + n → (N / 1000 ≡ c) × (N / 100 % 10 ≡ s) × (N % 100 ≡ n)
digits_back c s n N hs hn e = (omega arith, omega arith, omega arith)

address_back_lem : (a : Address) → a.side < 10 → a.sector < 100 → address_back (address_number a) ≡ a
unfolding address_back
address_back_lem a s n =
    let p = digits_back a.cylinder a.side a.sector (address_number a) s n refl in
    address_eq _ a p.0 p.1 p.2

placed_back : (slot : ℕ) (a : Address) → slot < 2 ^ 32 → address_number a < 2 ^ 24 → a.side < 10 → a.sector < 100
    → created_back (packed_created (file_made slot a)) ≡ file_made slot a
unfolding packed_created
placed_back slot a l m s k =
    let n = packed_created (file_made slot a) in
    let done : is_done n ≡ true = eq-eqb (code_of n) 0 (omega arith) in
    let x : bits 24 32 n ≡ slot = between 24 32 n (address_number a) slot 0 (omega arith) m l in
    let y : bits 0 24 n ≡ address_number a = between 0 24 n 0 (address_number a) slot (omega arith) (omega arith) m in
    let z : address_back (bits 0 24 n) ≡ a = ap address_back y ∙ address_back_lem a s k in
    rw done (cc)

uncreated_back : (r : Refusal) → Small r → created_back (packed_created (Err r)) ≡ Err r
unfolding packed_created
uncreated_back r s = rw (refusal_code r s).1 (ap Err (refusal_back_lem r s))

-- ======== EXACT
-- The caller has the definition's answer again, of any image, name and slot.
module _ (image : List ℕ) where
  pub judge_exact : judged_back (packed_judged (judged image)) ≡ judged image
  unfolding packed_judged
  judge_exact = on (judged image) refl
    where
      on : (v : Result Geometry Refusal) → judged image ≡ v → judged_back (packed_judged v) ≡ v
      on (Err r) j = let s = volume_small image r j in rw (refusal_code r s).1 (ap Err (refusal_back_lem r s))
      on (Ok g) j =
          let m = volume_room image g j in
          rw (volume_code g m) (ap Ok (volume_back g m (numbers_of_lem image g j).size_is))

  -- of an accepted volume its numbers
  pub numbers_exact : (g : Geometry) → judged image ≡ Ok g → geometry_back (packed_judged (judged image)) ≡ g
  numbers_exact g j = ap (λ (v : Result Geometry Refusal). geometry_back (packed_judged v)) j ∙ volume_back g (volume_room image g j) (numbers_of_lem image g j).size_is

  pub find_exact : (name : List ℕ) → found_back (packed_found (found image name)) ≡ found image name
  find_exact name = on (found image name) refl
    where
      on : (f : Result Found Refusal) → found image name ≡ f → found_back (packed_found f) ≡ f
      on (Err r) e = unfound_back r (find_small image name r e)
      on (Ok f) e =
          let l = find_low image name f.slot f.offset e in
          at_back f.slot f.offset (omega (arith, l)) (omega (arith, l))

  pub count_exact : (slot : ℕ) → counted_back (packed_counted (counted image slot)) ≡ counted image slot
  count_exact slot = on (counted image slot) refl
    where
      on : (c : Result ℕ Refusal) → counted image slot ≡ c → counted_back (packed_counted c) ≡ c
      on (Err r) e = uncounted_back r (count_small image slot r e)
      on (Ok n) e = count_back n (omega (arith, count_few image slot n e))

  pub free_exact : counted_back (packed_counted (free_count image)) ≡ free_count image
  free_exact = on (free_count image) refl
    where
      on : (c : Result ℕ Refusal) → free_count image ≡ c → counted_back (packed_counted c) ≡ c
      on (Err r) e = uncounted_back r (free_small image r e)
      on (Ok n) e = count_back n (omega (arith, free_low image n e))

  -- plain reading and salvage, from any place into any output
  pub read_exact : (m : Mode) (slot : ℕ) (pl : Place) (out : List ℕ)
      → answer_back (packed_answer (read_answer m image slot pl out)) ≡ read_answer m image slot pl out
  read_exact m slot pl out = answer_back_lem (read_answer m image slot pl out) (reading_small m image slot pl out)

  -- a write, of which a first place above 2^32-1 is given as 2^32-1, and nothing else is lost
  pub write_exact : (slot : ℕ) (bodies lengths : List ℕ)
      → written_back (packed_written (written image slot bodies lengths)) ≡ capped_written (written image slot bodies lengths)
  unfolding packed_written
  write_exact slot bodies lengths = on (written image slot bodies lengths) refl
    where
      on : (w : Result ℕ Refusal) → written image slot bodies lengths ≡ w → written_back (packed_written w) ≡ capped_written w
      on (Err r) e =
          let s = write_small image slot bodies lengths r e in
          ap written_back (packed_capped r) ∙ rw (refusal_code (capped r) s).1 (ap Err (refusal_back_lem (capped r) s))
      on (Ok n) e =
          let few = write_few image slot bodies lengths n e in
          let done : is_done n ≡ true = eq-eqb (code_of n) 0 (omega arith) in
          let a : bits 0 56 n ≡ n = omega arith in
          rw done (ap Ok a)

-- a create and a delete, of any image, bytes and numbers
module _ (image : List ℕ) where
  pub create_exact : (w : List ℕ) (n : ℕ) → created_back (packed_created (created image w n)) ≡ created image w n
  create_exact w n = on (created image w n) refl
    where
      on : (c : Result Created Refusal) → created image w n ≡ c → created_back (packed_created c) ≡ c
      on (Err r) e = uncreated_back r (create_small image w n r e)
      on (Ok c) e =
          let l = create_low image w n c.slot c.start e in
          placed_back c.slot c.start (omega (arith, l.slot_low)) (omega (arith, l.number)) (omega (arith, l.side)) (omega (arith, l.sector))

  pub delete_exact : (slot : ℕ) → counted_back (packed_counted (deleted image slot)) ≡ deleted image slot
  delete_exact slot = on (deleted image slot) refl
    where
      on : (c : Result ℕ Refusal) → deleted image slot ≡ c → counted_back (packed_counted c) ≡ c
      on (Err r) e = uncounted_back r (delete_small image slot r e)
      on (Ok n) e = count_back n (omega (arith, delete_few image slot n e))

-- The code alone: the number of the refusal, which is never 0, exactly where there is one.
abbrev pub Refuses : ℕ → Refusal → Type 0
Refuses n r = (code_of n ≡ r.number) × (0 < r.number) × (r.number < 128)

refuses : (r : Refusal) → Small r → Refuses (packed_refusal r) r
refuses r s = ((refusal_code r s).0, s.number_low, omega (arith, s.number_high))

module _ (image : List ℕ) where
  pub judge_done : (g : Geometry) → judged image ≡ Ok g → code_of (packed_judged (judged image)) ≡ 0
  unfolding packed_judged
  judge_done g j = let m = volume_room image g j in rw j (omega (arith, m))

  pub judge_refused : (r : Refusal) → judged image ≡ Err r → Refuses (packed_judged (judged image)) r
  unfolding packed_judged
  judge_refused r j = rw j (refuses r (volume_small image r j))

  pub find_done : (name : List ℕ) (slot offset : ℕ) → found image name ≡ label_found slot offset → code_of (packed_found (found image name)) ≡ 0
  unfolding packed_found
  find_done name slot offset f = let l = find_low image name slot offset f in rw f (omega (arith, l))

  pub find_refused : (name : List ℕ) (r : Refusal) → found image name ≡ Err r → Refuses (packed_found (found image name)) r
  unfolding packed_found
  find_refused name r f = rw f (refuses r (find_small image name r f))

  pub count_done : (slot n : ℕ) → counted image slot ≡ Ok n → code_of (packed_counted (counted image slot)) ≡ 0
  unfolding packed_counted
  count_done slot n c = rw c (omega (arith, count_few image slot n c))

  pub count_refused : (slot : ℕ) (r : Refusal) → counted image slot ≡ Err r → Refuses (packed_counted (counted image slot)) r
  unfolding packed_counted
  count_refused slot r c = rw c (refuses r (count_small image slot r c))

  pub free_done : (n : ℕ) → free_count image ≡ Ok n → code_of (packed_counted (free_count image)) ≡ 0
  unfolding packed_counted
  free_done n c = rw c (omega (arith, free_low image n c))

  pub free_refused : (r : Refusal) → free_count image ≡ Err r → Refuses (packed_counted (free_count image)) r
  unfolding packed_counted
  free_refused r c = rw c (refuses r (free_small image r c))

  -- a slot and an offset that are found have room in their bits
  pub find_room : (name : List ℕ) (slot offset : ℕ) → found image name ≡ label_found slot offset → (slot < 2 ^ 32) × (offset < 2 ^ 24)
  find_room name slot offset f = let l = find_low image name slot offset f in (omega (arith, l), omega (arith, l))

  pub create_done : (w : List ℕ) (n slot : ℕ) (start : Address) → created image w n ≡ file_made slot start → code_of (packed_created (created image w n)) ≡ 0
  unfolding packed_created
  create_done w n slot start c = let l = create_low image w n slot start c in rw c (omega (arith, l.slot_low, l.number))

  pub create_refuses : (w : List ℕ) (n : ℕ) (r : Refusal) → created image w n ≡ Err r → Refuses (packed_created (created image w n)) r
  unfolding packed_created
  create_refuses w n r c = rw c (refuses r (create_small image w n r c))

  pub delete_done : (slot n : ℕ) → deleted image slot ≡ Ok n → code_of (packed_counted (deleted image slot)) ≡ 0
  unfolding packed_counted
  delete_done slot n c = rw c (omega (arith, delete_few image slot n c))

  pub delete_refuses : (slot : ℕ) (r : Refusal) → deleted image slot ≡ Err r → Refuses (packed_counted (deleted image slot)) r
  unfolding packed_counted
  delete_refuses slot r c = rw c (refuses r (delete_small image slot r c))
