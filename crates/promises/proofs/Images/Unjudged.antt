-- What two labels share that have the same bytes everywhere but where no rule judges (Unjudged, in specs/).
-- Assumes nothing.
use Rattle.std.specs.Prelude.{ℕ, suc, ◌+◌, ◌-◌, ◌≤◌, ◌≡◌, refl, List}
use Rattle.std.proofs.Common.{arith}
use Rattle.standard.specs.Characters.{field, at}
use Rattle.standard.specs.Volume.{vol1_rules, volume_name}
use Rattle.standard.specs.Defects.{ermap_rule7, ermap_rule11, ermap_rules}
use Rattle.standard.specs.Judgement.{numbers_in}
use Rattle.promises.specs.Ground.Splices.{part_same}
use Rattle.promises.specs.Images.Unjudged.{Unjudged, SameBut, Whole}

module _ (loose : ℕ → Type 0) (v w : List ℕ) (s : SameBut loose v w) where
  -- a field, or a position, within such positions
  field_alike : (first last from to : ℕ) → Whole loose first last → 1 ≤ first → first ≤ from → to ≤ last → field v from to ≡ field w from to
  field_alike first last from to h one lo hi =
      part_same (from - 1) (suc to - from) w v s.same_length (λ i l m. s.same_at i (λ f. h (i + 1) f (omega arith) (omega arith)))

  at_alike : (first last p : ℕ) → Whole loose first last → 1 ≤ first → first ≤ p → p ≤ last → at v p ≡ at w p
  at_alike first last p h one lo hi = s.same_at (p - 1) (λ f. h (p - 1 + 1) f (omega arith) (omega arith))

-- VOL1
module _ (loose : ℕ → Type 0) (u : (p : ℕ) → loose p → Unjudged 7 p) (v w : List ℕ) (s : SameBut loose v w) where
  in_1 : (from to : ℕ) → 1 ≤ from → to ≤ 11 → field v from to ≡ field w from to
  in_1 from to = field_alike loose v w s 1 11 from to (λ p f. ((u p f).vol1 refl).0) (omega arith)

  in_80 : (from to : ℕ) → 80 ≤ from → to ≤ 86 → field v from to ≡ field w from to
  in_80 from to = field_alike loose v w s 80 86 from to (λ p f. ((u p f).vol1 refl).4) (omega arith)

  pub access_same : at v 11 ≡ at w 11
  access_same = at_alike loose v w s 1 11 11 (λ p f. ((u p f).vol1 refl).0) (omega arith) (omega arith) (omega arith)

  owner : field v 38 51 ≡ field w 38 51
  owner = field_alike loose v w s 38 51 38 51 (λ p f. ((u p f).vol1 refl).1) (omega arith) (omega arith) (omega arith)

  type : at v 72 ≡ at w 72
  type = at_alike loose v w s 72 72 72 (λ p f. ((u p f).vol1 refl).2) (omega arith) (omega arith) (omega arith)

  size : at v 76 ≡ at w 76
  size = at_alike loose v w s 76 78 76 (λ p f. ((u p f).vol1 refl).3) (omega arith) (omega arith) (omega arith)

  sequence : field v 77 78 ≡ field w 77 78
  sequence = field_alike loose v w s 76 78 77 78 (λ p f. ((u p f).vol1 refl).3) (omega arith) (omega arith) (omega arith)

  version : at v 80 ≡ at w 80
  version = at_alike loose v w s 80 86 80 (λ p f. ((u p f).vol1 refl).4) (omega arith) (omega arith) (omega arith)

  sides : field v 89 89 ≡ field w 89 89
  sides = field_alike loose v w s 89 89 89 89 (λ p f. ((u p f).vol1 refl).5) (omega arith) (omega arith) (omega arith)

  pub volume_name_same : volume_name v ≡ volume_name w
  volume_name_same = in_1 5 10 (omega arith) (omega arith)

  -- the same rules, and the same numbers
  pub vol1_rules_same : vol1_rules v ≡ vol1_rules w
  unfolding vol1_rules
  vol1_rules_same =
      rw (
        in_1 1 4 (omega arith) (omega arith),
        volume_name_same,
        access_same,
        owner,
        type,
        size,
        sequence,
        version,
        in_80 81 82 (omega arith) (omega arith),
        in_80 83 84 (omega arith) (omega arith),
        in_80 85 86 (omega arith) (omega arith),
        sides,
      )

  pub vol1_numbers_same : (e : List ℕ) → numbers_in v e ≡ numbers_in w e
  unfolding numbers_in
  vol1_numbers_same e =
      rw (in_80 81 82 (omega arith) (omega arith), in_80 83 84 (omega arith) (omega arith), in_80 85 86 (omega arith) (omega arith), size, sides)

-- ERMAP
module _ (loose : ℕ → Type 0) (u : (p : ℕ) → loose p → Unjudged 5 p) (e d : List ℕ) (s : SameBut loose e d) where
  ermap_name : field e 1 5 ≡ field d 1 5
  ermap_name = field_alike loose e d s 1 5 1 5 (λ p f. ((u p f).ermap refl).0) (omega arith) (omega arith) (omega arith)

  first_defect : field e 7 9 ≡ field d 7 9
  first_defect = field_alike loose e d s 7 9 7 9 (λ p f. ((u p f).ermap refl).1) (omega arith) (omega arith) (omega arith)

  second_defect : field e 11 13 ≡ field d 11 13
  second_defect = field_alike loose e d s 11 13 11 13 (λ p f. ((u p f).ermap refl).2) (omega arith) (omega arith) (omega arith)

  -- the same rules, and the same defective cylinders
  pub ermap_rules_same : (L : ℕ) → ermap_rules L e ≡ ermap_rules L d
  unfolding ermap_rules ermap_rule7 ermap_rule11
  ermap_rules_same L = rw (ermap_name, first_defect, second_defect)

  pub ermap_numbers_same : (v : List ℕ) → numbers_in v e ≡ numbers_in v d
  unfolding numbers_in
  ermap_numbers_same v = rw (first_defect, second_defect)
