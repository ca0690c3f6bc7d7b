-- EVERY PAIR OF DEFECTS IS SOME ERMAP'S: the other way round of `ermap_pair` (VolumeNumbers), so that `Pair` is exactly the pairs that ERMAP lets pass.
-- Assumes nothing.
use Rattle.std.specs.Prelude.{ℕ, ◌+◌, ◌/◌, ◌%◌, ◌<◌, ◌≤◌, ◌≡◌, refl, Bool, true, false, cond, List, ◌++◌, length, replicate, eqb}
use Rattle.std.proofs.Common.{sym, arith}
use borrow.Author.Tests.{lt-ltb, le-leb, eqb-true, eqb-false, ne_eqb}
use Rattle.standard.specs.Characters.{bytes, byte, field, every, same, spaces, digit_value, number_from, padded}
use Rattle.standard.specs.Rules.{lowest_fault}
use Rattle.standard.specs.Defects.{is_cylinder, cylinder_in, ermap_rule7, ermap_rule11, ermap_rules, defect_in, defect1, defect2}
use Rattle.promises.specs.Ground.Digits.{digit_is}
use Rattle.promises.specs.Volumes.Judging.{rows_all}
use Rattle.promises.specs.Volumes.VolumeNumbers.{Pair}

-- "a cylinder [..] and `0`", or spaces where there is none; the 128 bytes of an ERMAP with two of them, spaces behind
abbrev spelled : ℕ → List ℕ
spelled d = padded 2 d ++ bytes "0"

abbrev in_field : Bool → ℕ → List ℕ
in_field none d = cond none (bytes "   ") (spelled d)

abbrev ermap_by : Bool → Bool → ℕ → ℕ → List ℕ
ermap_by none1 none2 d1 d2 = bytes "ERMAP " ++ (in_field none1 d1 ++ (bytes " " ++ (in_field none2 d2 ++ replicate 115 (byte " "))))

abbrev pub ermap_with : ℕ → ℕ → List ℕ
ermap_with d1 d2 = ermap_by (eqb d1 0) (eqb d2 0) d1 d2

spelled_some : (d : ℕ) → spaces (spelled d) ≡ false
unfolding padded every
spelled_some d = rw (ne_eqb (48 + d / 10 % 10) 32 (λ (e : 48 + d / 10 % 10 ≡ 32). omega arith))

spelled_is : (d : ℕ) → is_cylinder (spelled d) ≡ true
unfolding padded every
spelled_is d = rw (digit_is (d / 10), digit_is d, digit_is 0)

spelled_number : (d : ℕ) → d < 100 → cylinder_in (spelled d) ≡ d
unfolding padded number_from digit_value
spelled_number d h = omega arith

-- the rules of the two fields, of spaces and of a cylinder
module _ (L : ℕ) (e : List ℕ) where
  blank_7 : spaces (field e 7 9) ≡ true → ermap_rule7 L e ≡ true
  unfolding ermap_rule7
  blank_7 s = simp s

  blank_11 : spaces (field e 11 13) ≡ true → ermap_rule11 L e ≡ true
  unfolding ermap_rule11
  blank_11 s = simp s

  first_7 : (d : ℕ) → field e 7 9 ≡ spelled d → d < 100 → 1 ≤ d → d ≤ L → ermap_rule7 L e ≡ true
  unfolding ermap_rule7
  first_7 d f h low high = rw f (simp (spelled_some d, spelled_is d, spelled_number d h, le-leb 1 d low, le-leb d L high))

  second_11 : (d d' : ℕ) → field e 7 9 ≡ spelled d → field e 11 13 ≡ spelled d' → d < 100 → d' < 100 → d < d' → d' ≤ L + 1 → ermap_rule11 L e ≡ true
  unfolding ermap_rule11
  second_11 d d' f f' h h' l high =
      rw (f, f') (simp (spelled_some d, spelled_some d', spelled_is d', spelled_number d h, spelled_number d' h', lt-ltb d d' l, le-leb d' (L + 1) high))

spelled_defect : (d : ℕ) → d < 100 → defect_in (spelled d) ≡ d
spelled_defect d h = simp (spelled_some d) (spelled_number d h)

pub pair_passes : (L d1 d2 : ℕ) → L ≤ 96 → Pair L d1 d2
    → (length (ermap_with d1 d2) ≡ 128) × (lowest_fault (ermap_rules L (ermap_with d1 d2)) ≡ 0) × (defect1 (ermap_with d1 d2) ≡ d1) × (defect2 (ermap_with d1 d2) ≡ d2)
unfolding ermap_rules padded every same
pair_passes L d1 d2 few p = go (eqb d1 0) (eqb d2 0) refl refl
  where
    go : (t u : Bool) → eqb d1 0 ≡ t → eqb d2 0 ≡ u
        → (length (ermap_by t u d1 d2) ≡ 128) × (lowest_fault (ermap_rules L (ermap_by t u d1 d2)) ≡ 0) × (defect1 (ermap_by t u d1 d2) ≡ d1) × (defect2 (ermap_by t u d1 d2) ≡ d2)
    go true true a b =
        let e = ermap_by true true d1 d2 in
        (refl, rows_all _ (refl, (blank_7 L e refl, (blank_11 L e refl, tt))), sym (eqb-true d1 0 a), sym (eqb-true d2 0 b))
    go true false a b =
        let some : d2 ≡ 0 → ⊥ = eqb-false d2 0 b in
        absurd (omega (arith, eqb-true d1 0 a, p.first_there (omega (arith, some))))
    go false true a b =
        let e = ermap_by false true d1 d2 in
        let some : d1 ≡ 0 → ⊥ = eqb-false d1 0 a in
        let h : d1 < 100 = omega (arith, p.first_high) in
        (refl, rows_all _ (refl, (first_7 L e d1 refl h (omega (arith, some)) p.first_high, (blank_11 L e refl, tt))), spelled_defect d1 h, sym (eqb-true d2 0 b))
    go false false a b =
        let e = ermap_by false false d1 d2 in
        let some : d1 ≡ 0 → ⊥ = eqb-false d1 0 a in
        let more : d2 ≡ 0 → ⊥ = eqb-false d2 0 b in
        let h : d1 < 100 = omega (arith, p.first_high) in
        let h' : d2 < 100 = omega (arith, p.second_high) in
        (refl, rows_all _ (refl, (first_7 L e d1 refl h (omega (arith, some)) p.first_high, (second_11 L e d1 d2 refl refl h h' (p.in_order (omega (arith, more))) p.second_high, tt))), spelled_defect d1 h, spelled_defect d2 h')
