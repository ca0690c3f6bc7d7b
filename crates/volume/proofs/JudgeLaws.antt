-- Each way out of the judgement: where it stops, and what is left behind the stages passed.
-- Assumes nothing.
use Rattle.std.specs.Prelude.{Result, Ok, Err, ⊤}
use Prim.Native.Nat.{ℕ, ◌<◌, ◌≤◌}
use mathlib.Core.Path.{◌≡◌, sym, ap, subst, ◌∙◌}
use mathlib.Core.List.{List}
use lib.ListN.{length}
use lib.Dec.{ltb}
use native.Mathlib.Omega.{arith}
use borrow.Author.Tests.{lt-ltb, le-ltb}
use Rattle.standard.specs.Characters.{at}
use Rattle.standard.specs.Refusals.{refuse}
use Rattle.standard.specs.Rules.{lowest_fault}
use Rattle.standard.specs.Layout.{index_kind, vol1_of, ermap_of, image_length}
use Rattle.standard.specs.Volume.{vol1_rules}
use Rattle.standard.specs.Defects.{ermap_rules}
use Rattle.standard.specs.Judgement.{judged, volume_of, refusal6}
use Rattle.standard.specs.declared.Geometry.{Geometry}
use Rattle.standard.specs.declared.Refusal.{Refusal}
use Rattle.promises.specs.Volumes.VolumeNumbers.{of_rules}
use Rattle.numbers.specs.Numbers.{bare, defected, numbers_both}
use Rattle.index.specs.Whole.{Whole}
use Rattle.volume.specs.Stages.{judged_from}
use Rattle.volume.proofs.StageLaws.{given, not_given, fault_given, no_fault, differ_given, equal_passed, stop_here, go_on, from_first, kind_5, kind_7, kinds_0}
use Rattle.volume.proofs.NumberLaws.{length_same, cylinders_same, kinds_same, whole_of}

module _ (image : List ℕ) where
  abbrev v : List ℕ
  v = vol1_of image

  abbrev e : List ℕ
  e = ermap_of image

  abbrev g : Geometry
  g = volume_of image

  -- 1 and 2
  pub short : length image < 903 → Err (refuse 1 0) ≡ judged image
  short h = stop_here image g 0 (refuse 1 0) (omega arith) (given (ltb (length image) 903) _ (lt-ltb (length image) 903 h)) ∙ from_first image

  module _ (long : 903 ≤ length image) where
    behind_1 : (j : Result Geometry Refusal) → j ≡ judged_from 1 image g → j ≡ judged image
    behind_1 j h = go_on image g 0 j (omega arith) (not_given (ltb (length image) 903) _ (le-ltb (length image) 903 long)) h ∙ from_first image

    pub bad_5 : (index_kind image 5 ≡ 0 → ⊥) → Err (refuse 2 5) ≡ judged image
    bad_5 h = behind_1 _ (stop_here image g 1 (refuse 2 5) (omega arith) (kind_5 image h))

    pub bad_7 : index_kind image 5 ≡ 0 → (index_kind image 7 ≡ 0 → ⊥) → Err (refuse 2 7) ≡ judged image
    bad_7 k h = behind_1 _ (stop_here image g 1 (refuse 2 7) (omega arith) (kind_7 image k h))

    pub behind_2 : (j : Result Geometry Refusal) → index_kind image 5 ≡ 0 → index_kind image 7 ≡ 0 → j ≡ judged_from 2 image g → j ≡ judged image
    behind_2 j k l h = behind_1 j (go_on image g 1 j (omega arith) (kinds_0 image k l) h)

  -- 3 and 4
  pub vol1_broken : (f : ℕ) → f ≡ lowest_fault (vol1_rules v) → 0 < f → Err (refuse 3 f) ≡ judged_from 2 image g
  vol1_broken f q h =
      ap (λ (n : ℕ). Err (refuse 3 n)) q
      ∙ stop_here image g 2 (refuse 3 (lowest_fault (vol1_rules v))) (omega arith) (fault_given 3 (lowest_fault (vol1_rules v)) (omega arith))

  module _ (whole : lowest_fault (vol1_rules v) ≤ 0) where
    behind_3 : (j : Result Geometry Refusal) → j ≡ judged_from 3 image g → j ≡ judged_from 2 image g
    behind_3 j h = go_on image g 2 j (omega arith) (no_fault 3 (lowest_fault (vol1_rules v)) whole) h

    pub not_open : (at v 11 ≡ 32 → ⊥) → Err (refuse 4 11) ≡ judged_from 2 image g
    not_open h = behind_3 _ (stop_here image g 3 (refuse 4 11) (omega arith) (differ_given (at v 11) 32 (refuse 4 11) h))

    pub behind_4 : (j : Result Geometry Refusal) → at v 11 ≡ 32 → j ≡ judged_from 4 image g → j ≡ judged_from 2 image g
    behind_4 j k h = behind_3 j (go_on image g 3 j (omega arith) (equal_passed (at v 11) 32 (refuse 4 11) k) h)

  -- 5 and 6, with the numbers of VOL1 alone
  module _ (b : Geometry) (eb : b ≡ bare v) where
    length_is : image_length b ≡ image_length g
    length_is = ap image_length eb ∙ length_same v e

    kinds_are : refusal6 b image ≡ refusal6 g image
    kinds_are = ap (λ (x : Geometry). refusal6 x image) eb ∙ kinds_same v e image

    pub wrong_length : (m : ℕ) → m ≡ image_length b → (length image ≡ m → ⊥) → Err (refuse 5 0) ≡ judged_from 4 image g
    wrong_length m q h =
        stop_here image g 4 (refuse 5 0) (omega arith)
        (differ_given (length image) (image_length g) (refuse 5 0) (λ (z : length image ≡ image_length g). h (z ∙ sym (q ∙ length_is))))

    module _ (right : length image ≡ image_length b) where
      behind_5 : (j : Result Geometry Refusal) → j ≡ judged_from 5 image g → j ≡ judged_from 4 image g
      behind_5 j h = go_on image g 4 j (omega arith) (equal_passed (length image) (image_length g) (refuse 5 0) (right ∙ length_is)) h

      pub bad_kind : (c : Result ⊤ Refusal) (r : Refusal) → c ≡ refusal6 b image → c ≡ Err r → Err r ≡ judged_from 4 image g
      bad_kind c r q h = behind_5 _ (stop_here image g 5 r (omega arith) (sym (q ∙ kinds_are) ∙ h))

      pub behind_6 : (c : Result ⊤ Refusal) (j : Result Geometry Refusal) → c ≡ refusal6 b image → c ≡ Ok tt → j ≡ judged_from 6 image g → j ≡ judged_from 4 image g
      behind_6 c j q k h = behind_5 j (go_on image g 5 j (omega arith) (sym (q ∙ kinds_are) ∙ k) h)

    -- 7, with L as the code has it
    module _ (l f : ℕ) (el : l ≡ b.L) (ef : f ≡ lowest_fault (ermap_rules l e)) where
      fault_is : f ≡ lowest_fault (ermap_rules g.L e)
      fault_is = ef ∙ ap (λ (x : ℕ). lowest_fault (ermap_rules x e)) (el ∙ ap (λ (x : Geometry). x.L) eb ∙ cylinders_same v e)

      pub ermap_broken : 0 < f → Err (refuse 7 f) ≡ judged_from 6 image g
      ermap_broken h =
          ap (λ (n : ℕ). Err (refuse 7 n)) fault_is
          ∙ stop_here image g 6 (refuse 7 (lowest_fault (ermap_rules g.L e))) (omega arith)
          (fault_given 7 (lowest_fault (ermap_rules g.L e)) (omega (arith, fault_is)))

      pub ermap_whole : f ≤ 0 → lowest_fault (ermap_rules b.L e) ≡ 0
      ermap_whole h = let q = ef ∙ ap (λ (x : ℕ). lowest_fault (ermap_rules x e)) el in omega (arith, q)

      -- the numbers that ERMAP adds make the volume's
      module _ (n : Geometry) (en : n ≡ defected b e) where
        pub numbers_are : n ≡ g
        numbers_are = en ∙ ap (λ (x : Geometry). defected x e) eb ∙ numbers_both v e

        pub whole_after : lowest_fault (vol1_rules v) ≡ 0 → length image ≡ image_length b → Whole n image
        whole_after z right =
            subst (λ (x : Geometry). Whole x image) (sym numbers_are) (whole_of g (of_rules image z) image (right ∙ length_is))

        pub behind_7 : (j : Result Geometry Refusal) → f ≤ 0 → j ≡ judged_from 7 image n → j ≡ judged_from 6 image g
        behind_7 j h k =
            go_on image g 6 j (omega arith) (no_fault 7 (lowest_fault (ermap_rules g.L e)) (omega (arith, fault_is)))
            (k ∙ ap (judged_from 7 image) numbers_are)
