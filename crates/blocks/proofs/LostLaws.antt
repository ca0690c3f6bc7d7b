-- Lost blocks: check-failed records among the next ones.
-- Assumes nothing.
use Prim.Native.Nat.{ℕ, suc, zero, ◌+◌, ◌-◌, ◌<◌, ◌≤◌}
use mathlib.Core.Path.{◌≡◌, refl, sym, ap, ◌∙◌}
use mathlib.Core.Bool.{Bool, true, false, cond, ◌&&◌, ◌||◌, or-false}
use mathlib.Core.List.{List, [], ◌∷◌}
use lib.ListN.{take, drop}
use lib.Seq.{take-nil}
use lib.Dec.{ltb, eqb}
use native.Mathlib.Omega.{arith}
use native.Mathlib.Numerals.{unary_clauses}
use borrow.Author.Tests.{eqb-true, ne_eqb, ltb-false}
use Rattle.standard.specs.Layout.{k_at, kind_at, incorrect_mark, check_failed}
use Rattle.standard.specs.Addresses.{ordinal, stepped}
use Rattle.standard.specs.Files.{is_defective, any_failed}
use Rattle.standard.specs.declared.Geometry.{Geometry}
use Rattle.standard.specs.declared.Address.{Address}
use Rattle.promises.specs.Ground.Basics.{by_test}
use Rattle.extents.specs.Cursors.{good_from, standing_from, standing}
use Rattle.extents.specs.declared.Cursor.{Cursor}
use Rattle.extents.proofs.CursorLaws.{good_skip, good_first, good_none, stand_none}

module _ (g : Geometry) (image : List ℕ) where
  -- the first one, then the others
  failed_split : (n : ℕ) (s : List Address) → 0 < n → any_failed g image (take n s) ≡ (any_failed g image (take 1 s) || any_failed g image (take (n - 1) (drop 1 s)))
  unfolding any_failed
  failed_split zero s h = absurd (omega arith)
  failed_split (suc n) [] h = simp (unary_clauses, take-nil {A = Address} n)
  failed_split (suc n) (a ∷ s) h = simp unary_clauses (ap (λ (t : Bool). t || any_failed g image (take n s)) (sym (or-false (check_failed g image (ordinal g a)))))

  pub failed_on : (n : ℕ) (s : List Address) → 0 < n → any_failed g image (take 1 s) ≡ false
      → any_failed g image (take (n - 1) (drop 1 s)) ≡ any_failed g image (take n s)
  failed_on n s h e = sym (failed_split n s h ∙ ap (λ (t : Bool). t || any_failed g image (take (n - 1) (drop 1 s))) e)

  pub failed_here : (n : ℕ) (s : List Address) → 0 < n → any_failed g image (take 1 s) ≡ true → any_failed g image (take n s) ≡ true
  failed_here n s h e = failed_split n s h ∙ ap (λ (t : Bool). t || any_failed g image (take (n - 1) (drop 1 s))) e

  pub failed_end : (n : ℕ) (s : List Address) → s ≡ [] → any_failed g image (take n s) ≡ false
  unfolding any_failed
  failed_end n s e = rw (e, take-nil n)

  pub failed_none : (n : ℕ) (s : List Address) → n ≤ 0 → any_failed g image (take n s) ≡ false
  unfolding any_failed
  failed_none zero s l = refl
  failed_none (suc n) s l = absurd (omega arith)

  from_first : (left : ℕ) (c : Cursor) → 0 < left → any_failed g image (take 1 (standing_from g image left c.at)) ≡ check_failed g image (ordinal g c.at)
  unfolding any_failed
  from_first zero c h = absurd (omega arith)
  from_first (suc n) c h = or-false (check_failed g image (ordinal g c.at))

  -- the record under a cursor
  pub failed_first : (c : Cursor) → 0 < c.left → any_failed g image (take 1 (standing g image c)) ≡ check_failed g image (ordinal g c.at)
  unfolding standing
  failed_first c h = from_first c.left c h

  -- a record that is check-failed has no incorrect mark, so it is good
  failed_good : (a : Address) → check_failed g image (ordinal g a) ≡ true → is_defective g image a ≡ false
  unfolding check_failed incorrect_mark is_defective
  failed_good a h =
      let n = ordinal g a in
      let e = eqb-true (kind_at g image n) (32 + k_at g n) h in
      simp (ne_eqb (kind_at g image n) (16 + k_at g n) (λ (f : kind_at g image n ≡ 16 + k_at g n). omega (arith, e, f)))

  -- ONE TURN OF A WALK: over a record that is not check-failed, which counts if it is good
  pub failed_stop : (n left : ℕ) (a : Address) → 0 < n → 0 < left → check_failed g image (ordinal g a) ≡ true → any_failed g image (take n (good_from g image left a)) ≡ true
  unfolding any_failed
  failed_stop zero left a k l h = absurd (omega arith)
  failed_stop (suc n) left a k l h = rw (good_first g image left a l (failed_good a h)) (simp h)

  pub failed_more : (n left : ℕ) (a : Address) → 0 < n → 0 < left → check_failed g image (ordinal g a) ≡ false
      → any_failed g image (take n (good_from g image left a)) ≡ any_failed g image (take (n - cond (is_defective g image a) 0 1) (good_from g image (left - 1) (stepped g a)))
  unfolding any_failed
  failed_more zero left a k l h = absurd (omega arith)
  failed_more (suc n) left a k l h =
      let z : suc n - 0 ≡ suc n = omega arith in
      by_test (is_defective g image a)
      (λ (d : is_defective g image a ≡ true). rw (d, z) (ap (λ (s : List Address). any_failed g image (take (suc n) s)) (sym (good_skip g image left a l d))))
      (λ (d : is_defective g image a ≡ false). rw (good_first g image left a l d, d) (simp (unary_clauses, h)))

  -- nothing is left to ask, or nobody
  none_left : (n left : ℕ) (a : Address) → left ≤ 0 → any_failed g image (take n (good_from g image left a)) ≡ false
  none_left n left a l = failed_end n (good_from g image left a) (sym (good_none g image left a l) ∙ stand_none g image (record { at = a; left = 0 }) (omega arith))

  pub failed_over : (n left : ℕ) (a : Address) → (ltb 0 n && ltb 0 left) ≡ false → any_failed g image (take n (good_from g image left a)) ≡ false
  failed_over n left a h =
      by_test (ltb 0 n)
      (λ (t : ltb 0 n ≡ true). none_left n left a (ltb-false 0 left (sym (ap (λ (z : Bool). z && ltb 0 left) t) ∙ h)))
      (λ (f : ltb 0 n ≡ false). failed_none n (good_from g image left a) (ltb-false 0 n f))

  pub failed_never : (n : ℕ) (c : Cursor) → (eqb n 0 || eqb c.left 0) ≡ true → any_failed g image (take n (standing g image c)) ≡ false
  failed_never n c h =
      by_test (eqb n 0)
      (λ (t : eqb n 0 ≡ true). failed_none n (standing g image c) (omega (arith, eqb-true n 0 t)))
      (λ (f : eqb n 0 ≡ false). failed_end n (standing g image c) (stand_none g image c (omega (arith, eqb-true c.left 0 (sym (ap (λ (z : Bool). z || eqb c.left 0) f) ∙ h)))))
