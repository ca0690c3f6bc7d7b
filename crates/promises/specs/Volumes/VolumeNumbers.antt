-- The numbers of an accepted volume, and where its label slots lie.
-- Assumes nothing.
use Rattle.std.specs.Prelude.{ℕ, ◌+◌, ◌-◌, ◌*◌, ◌^◌, ◌<◌, ◌≤◌, ◌≡◌, refl, Bool, true, false, cond, not, ◌&&◌, ◌||◌, List, length, leb, ltb, eqb, Ok}
use Rattle.std.proofs.Common.{subst, arith, mul-le-mul, mul-le-mul_right, ltb-false, leb-true, eqb-true, ltb-true}
use Rattle.std.proofs.Math.Nat.{one-le-pow, pow-le-pow_right}
use Rattle.standard.specs.Layout.{sector_count, index_sectors, image_length, slot_count, slot_ordinal, label_offset, vol1_of, ermap_of}
use Rattle.standard.specs.Characters.{bytes, one_of, at, is_space, field, between, hex_digits, hex, spaces, digit_value}
use Rattle.standard.specs.Volume.{hex_between, vol1_rules, volume_k}
use Rattle.standard.specs.Judgement.{numbers_in, volume_of, refusal3, judged}
use Rattle.standard.specs.Defects.{ermap_rule7, ermap_rule11, ermap_rules, defect1, defect2, is_cylinder, cylinder_in}
use Rattle.standard.specs.Rules.{lowest_fault}
use Rattle.standard.specs.declared.Geometry.{Geometry}
use Rattle.promises.specs.Ground.Basics.{true_not_false, and_l, and_r}
use Rattle.promises.specs.Images.Tiling.{size_index, sector_in_image}
use Rattle.promises.specs.Volumes.Judging.{not_given, rows_each, accepted}
use Rattle.promises.specs.Volumes.AcceptedLaws.{image_length_lem}

-- "81-82 hex L, 1-96; 83-84 hex I, 8-26; 85-86 hex D, 1-26; 89 hex S, 1-2"; "With k = 0 to 3 the body has 128·2^k bytes."
pub record Numbers (g : Geometry) : Type 0 where
  pub cylinders_low : 1 ≤ g.L
  pub cylinders : g.L ≤ 96
  pub index_low : 8 ≤ g.I
  pub index_high : g.I ≤ 26
  pub sectors_low : 1 ≤ g.D
  pub sectors : g.D ≤ 26
  pub side_low : 1 ≤ g.S
  pub side_high : g.S ≤ 2
  pub kind_high : g.k ≤ 3
  pub size_is : g.P ≡ 128 * 2 ^ g.k
  pub size_low : 0 < g.P
  pub size_high : g.P ≤ 1024

pub hex_bounds : (low high : ℕ) (f : List ℕ) → hex_between low high f ≡ true → (low ≤ hex f) × (hex f ≤ high)
hex_bounds low high f h =
    let b = and_r (hex_digits f) _ h in
    (leb-true low (hex f) (and_l (leb low (hex f)) _ b), leb-true (hex f) high (and_r (leb low (hex f)) _ b))

pub kinds_few : (c : ℕ) → one_of (bytes " 123") c ≡ true → cond (is_space c) 0 (digit_value c) ≤ 3
unfolding one_of digit_value
kinds_few c h = go (eqb c 32) (eqb c 49) (eqb c 50) (eqb c 51) refl refl refl refl
  where
    go : (t u v x : Bool) → eqb c 32 ≡ t → eqb c 49 ≡ u → eqb c 50 ≡ v → eqb c 51 ≡ x → cond t 0 (c - 48) ≤ 3
    go true u v x e f k l = omega arith
    go false true v x e f k l = omega (arith, eqb-true c 49 f)
    go false false true x e f k l = omega (arith, eqb-true c 50 k)
    go false false false true e f k l = omega (arith, eqb-true c 51 l)
    go false false false false e f k l = absurd (true_not_false (one_of (bytes " 123") c) h (rw (e, f, k, l)))

pub of_rules : (image : List ℕ) → lowest_fault (vol1_rules (vol1_of image)) ≡ 0 → Numbers (volume_of image)
unfolding vol1_rules numbers_in
of_rules image z =
    let (r1, (r5, (r11, (r38, (r72, (r76, (r77, (r80, (r81, (r83, (r85, (r89, _)))))))))))) = rows_each _ z refl in
    let v = vol1_of image in
    let l = hex_bounds 1 96 (field v 81 82) r81 in
    let i = hex_bounds 8 26 (field v 83 84) r83 in
    let d = hex_bounds 1 26 (field v 85 86) r85 in
    let s = hex_bounds 1 2 (field v 89 89) r89 in
    record {
      cylinders_low = l.0;
      cylinders = l.1;
      index_low = i.0;
      index_high = i.1;
      sectors_low = d.0;
      sectors = d.1;
      side_low = s.0;
      side_high = s.1;
      kind_high = kinds_few (at v 76) r76;
      size_is = refl;
      size_low = omega (arith, one-le-pow (volume_k v) 2 (omega arith));
      size_high = omega (arith, pow-le-pow_right {n = 2} (omega arith) {j = 3} (kinds_few (at v 76) r76));
    }

-- where 3 is not given VOL1 has no fault
pub vol1_right : (v : List ℕ) → refusal3 v ≡ Ok tt → lowest_fault (vol1_rules v) ≡ 0
vol1_right v h = omega (arith, ltb-false 0 (lowest_fault (vol1_rules v)) (not_given (ltb 0 (lowest_fault (vol1_rules v))) _ h))

pub numbers_of_lem : (image : List ℕ) (g : Geometry) → judged image ≡ Ok g → Numbers g
numbers_of_lem image g j =
    let a = accepted image g j in
    subst Numbers a.numbers (of_rules image (vol1_right (vol1_of image) a.vol1))

-- THE PAIRS OF DEFECTIVE CYLINDERS THAT ERMAP LETS PASS: none, d1 alone, or both in order. 0 stands for one that is absent.
-- "7-9 spaces, or a cylinder d1 in 01..L and `0`; 11-13 spaces, or d2 and `0`, where d1 is present and d1 < d2 ≤ L+1."
pub record Pair (L d1 d2 : ℕ) : Type 0 where
  pub first_high : d1 ≤ L
  pub second_high : d2 ≤ L + 1
  pub first_there : 0 < d2 → 0 < d1
  pub in_order : 0 < d2 → d1 < d2

of_fields : (L : ℕ) (e : List ℕ) → ermap_rule7 L e ≡ true → ermap_rule11 L e ≡ true → Pair L (defect1 e) (defect2 e)
unfolding ermap_rule7 ermap_rule11
of_fields L e h7 h11 = go (spaces (field e 7 9)) (spaces (field e 11 13)) h7 h11
  where
    first : ℕ
    first = cylinder_in (field e 7 9)

    second : ℕ
    second = cylinder_in (field e 11 13)

    go : (t u : Bool) → (t || (is_cylinder (field e 7 9) && between 1 L first)) ≡ true
        → (u || (is_cylinder (field e 11 13) && not t && ltb first second && leb second (L + 1))) ≡ true → Pair L (cond t 0 first) (cond u 0 second)
    go true true a b =
        record { first_high = omega arith; second_high = omega arith; first_there = λ z. absurd (omega arith); in_order = λ z. absurd (omega arith) }
    go true false a b = let no : false ≡ true = search (and_l, and_r) depth 9 in absurd (true_not_false false no refl)
    go false true a b =
        let high : leb first L ≡ true = search (and_l, and_r) depth 9 in
        record { first_high = leb-true first L high; second_high = omega arith; first_there = λ z. absurd (omega arith); in_order = λ z. absurd (omega arith) }
    go false false a b =
        let low : leb 1 first ≡ true = search (and_l, and_r) depth 9 in
        let high : leb first L ≡ true = search (and_l, and_r) depth 9 in
        let behind : ltb first second ≡ true = search (and_l, and_r) depth 9 in
        let most : leb second (L + 1) ≡ true = search (and_l, and_r) depth 9 in
        record {
          first_high = leb-true first L high;
          second_high = leb-true second (L + 1) most;
          first_there = λ _. leb-true 1 first low;
          in_order = λ _. ltb-true first second behind;
        }

pub ermap_pair : (L : ℕ) (e : List ℕ) → lowest_fault (ermap_rules L e) ≡ 0 → Pair L (defect1 e) (defect2 e)
unfolding ermap_rules
ermap_pair L e z = let (r1, (r7, (r11, _))) = rows_each _ z refl in of_fields L e r7 r11

-- ERMAP of an accepted volume has no fault
pub ermap_right : (image : List ℕ) (g : Geometry) → judged image ≡ Ok g → lowest_fault (ermap_rules g.L (ermap_of image)) ≡ 0
ermap_right image g j =
    let a = accepted image g j in
    let n = not_given (ltb 0 (lowest_fault (ermap_rules g.L (ermap_of image)))) _ a.ermap in
    omega (arith, ltb-false 0 (lowest_fault (ermap_rules g.L (ermap_of image))) n)

pub defects_of : (image : List ℕ) (g : Geometry) → judged image ≡ Ok g → Pair g.L g.d1 g.d2
unfolding numbers_in
defects_of image g j =
    subst (λ (x : Geometry). Pair g.L x.d1 x.d2) (accepted image g j).numbers (ermap_pair g.L (ermap_of image) (ermap_right image g j))

pub index_sectors_lem : (g : Geometry) → Numbers g → 8 ≤ index_sectors g
index_sectors_lem g n = omega (arith, mul-le-mul_right g.I n.side_low, n.index_low)

-- a slot of the volume is in the index cylinder
pub slot_in_index : (g : Geometry) (slot : ℕ) → Numbers g → slot ≤ slot_count g → slot_ordinal slot < index_sectors g
unfolding slot_count slot_ordinal
slot_in_index g slot n l = go (eqb g.S 2) refl l
  where
    go : (t : Bool) → eqb g.S 2 ≡ t → slot ≤ (g.I - 7) + cond t g.I 0 → slot + 6 < g.S * g.I
    go true e m =
        let q = eqb-true g.S 2 e in
        rw q (omega (arith, n.index_low))
    go false e m = omega (arith, mul-le-mul_right g.I n.side_low, n.index_low)

-- its label is inside the image
pub label_room : (g : Geometry) (slot : ℕ) → Numbers g → slot ≤ slot_count g → label_offset g slot + 128 ≤ image_length g
unfolding label_offset sector_count
label_room g slot n l =
    let i = slot_in_index g slot n l in
    omega (arith, sector_in_image g (slot_ordinal slot) (omega arith), size_index g (slot_ordinal slot) i)

-- "from 1,548 to 5,283,408" bytes: an accepted image is neither shorter nor longer
pub image_range : (image : List ℕ) (g : Geometry) → judged image ≡ Ok g → (1548 ≤ length image) × (length image ≤ 5283408)
unfolding image_length
image_range image g j =
    let n = numbers_of_lem image g j in
    let e = image_length_lem image g j in
    let power = one-le-pow g.k 2 (omega arith) in
    let bytes-least : 129 ≤ g.P + 1 = omega (arith, n.size_is, power) in
    let bytes_most : g.P + 1 ≤ 1025 = omega (arith, n.size_high) in
    let cylinders-least : 4 ≤ g.L + 3 = omega (arith, n.cylinders_low) in
    let cylinders-most : g.L + 3 ≤ 99 = omega (arith, n.cylinders) in
    let index-least : 1 * 8 ≤ g.S * g.I = mul-le-mul n.side_low n.index_low in
    let index-most : g.S * g.I ≤ 2 * 26 = mul-le-mul n.side_high n.index_high in
    let least = mul-le-mul (mul-le-mul (mul-le-mul cylinders-least n.side_low) n.sectors_low) bytes-least in
    let most = mul-le-mul (mul-le-mul (mul-le-mul cylinders-most n.side_high) n.sectors) bytes_most in
    (omega (arith, e, index-least, least), omega (arith, e, index-most, most))
