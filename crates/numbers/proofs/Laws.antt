-- The numbers of a VOL1 and an ERMAP without a fault fit their types.
-- Assumes nothing.
use Prim.Native.Nat.{ℕ, ◌<◌, ◌≤◌}
use mathlib.Core.Path.{◌≡◌, refl}
use mathlib.Core.Bool.{Bool, true, false, cond, ◌&&◌, ◌||◌}
use mathlib.Core.List.{List, [], ◌∷◌}
use native.Mathlib.Omega.{arith}
use Rattle.standard.specs.Characters.{at, field, every, is_digit, digits, number_from, spaces}
use Rattle.standard.specs.Rules.{lowest_fault}
use Rattle.standard.specs.Volume.{vol1_rules, volume_l, volume_i, volume_d, volume_k, volume_s}
use Rattle.standard.specs.Defects.{is_cylinder, cylinder_in, ermap_rule7, ermap_rule11, ermap_rules, defect_in, defect1, defect2}
use Rattle.standard.specs.declared.Geometry.{Geometry}
use Rattle.numbers.specs.Numbers.{defected}
use Rattle.fields.proofs.LoopLaws.{digit_most}
use Rattle.promises.specs.Ground.Basics.{and_l, and_r, or_rest}
use Rattle.promises.specs.Volumes.Judging.{rows_each}
use Rattle.promises.specs.Volumes.VolumeNumbers.{hex_bounds, kinds_few}

-- VOL1
pub record Small (v : List ℕ) : Type 0 where
  pub l : volume_l v < 256
  pub i : volume_i v < 256
  pub d : volume_d v < 256
  pub k : volume_k v ≤ 3
  pub s : volume_s v < 256

pub vol1_small : (v : List ℕ) → lowest_fault (vol1_rules v) ≡ 0 → Small v
unfolding vol1_rules
vol1_small v z =
    let (r1, (r5, (r11, (r38, (r72, (r76, (r77, (r80, (r81, (r83, (r85, (r89, _)))))))))))) = rows_each _ z refl in
    record {
      l = omega (arith, hex_bounds 1 96 (field v 81 82) r81);
      i = omega (arith, hex_bounds 8 26 (field v 83 84) r83);
      d = omega (arith, hex_bounds 1 26 (field v 85 86) r85);
      k = kinds_few (at v 76) r76;
      s = omega (arith, hex_bounds 1 2 (field v 89 89) r89);
    }

-- ERMAP: two digits are at most 99
two_most : (f : List ℕ) → digits f ≡ true → cylinder_in f ≤ 99
unfolding every number_from
two_most [] h = omega arith
two_most (a ∷ []) h = omega (arith, digit_most a (and_l (is_digit a) _ h))
two_most (a ∷ b ∷ f) h =
    let t = and_r (is_digit a) _ h in
    omega (arith, digit_most a (and_l (is_digit a) _ h), digit_most b (and_l (is_digit b) _ t))

defect_most : (f : List ℕ) (part : Bool) → (spaces f || (is_cylinder f && part)) ≡ true → defect_in f ≤ 99
defect_most f part h = go (spaces f) refl
  where
    go : (t : Bool) → spaces f ≡ t → cond t 0 (cylinder_in f) ≤ 99
    go true e = omega arith
    go false e = two_most f (and_l (digits f) _ (and_l (is_cylinder f) _ (or_rest (spaces f) _ e h)))

pub defects_small : (l : ℕ) (e : List ℕ) → lowest_fault (ermap_rules l e) ≡ 0 → (defect1 e < 256) × (defect2 e < 256)
unfolding ermap_rules ermap_rule7 ermap_rule11
defects_small l e z =
    let (r1, (r7, (r11, _))) = rows_each _ z refl in
    (omega (arith, defect_most (field e 7 9) _ r7), omega (arith, second r11))
  where
    second : ermap_rule11 l e ≡ true → defect2 e ≤ 99
    second h = go (spaces (field e 11 13)) refl
      where
        go : (t : Bool) → spaces (field e 11 13) ≡ t → cond t 0 (cylinder_in (field e 11 13)) ≤ 99
        go true q = omega arith
        go false q =
            let k = or_rest (spaces (field e 11 13)) _ q h in
            let d : is_cylinder (field e 11 13) ≡ true = search (and_l, and_r) depth 9 in
            two_most (field e 11 13) (and_l (digits (field e 11 13)) _ d)

-- the numbers with the defective cylinders
pub defects_put : (g : Geometry) (e : List ℕ) (a b : ℕ) → a ≡ defect1 e → b ≡ defect2 e
    → record { L = g.L; I = g.I; D = g.D; k = g.k; P = g.P; S = g.S; d1 = a; d2 = b } ≡ defected g e
unfolding defected
defects_put g e a b ha hb = rw (ha, hb)
