-- One step of a cursor, and what it stands on.
-- Assumes nothing.
use Prim.Native.Nat.{ℕ, suc, zero, ◌+◌, ◌-◌, ◌<◌, ◌≤◌}
use mathlib.Core.Path.{◌≡◌, refl, sym, ap, ◌∙◌}
use mathlib.Core.Bool.{Bool, true, false, cond, not, ◌&&◌, ◌||◌}
use mathlib.Core.List.{List, [], ◌∷◌}
use lib.ListN.{length, drop}
use lib.Seq.{drop-nil}
use lib.Dec.{eqb}
use mir.Val.{bool_byte}
use borrow.Author.Tests.{ne_eqb, eqb-true, eqb-false}
use native.Mathlib.Omega.{arith}
use native.Mathlib.Numerals.{unary_clauses}
use Rattle.standard.specs.Layout.{kind_offset, incorrect_mark, first_byte}
use Rattle.standard.specs.Addresses.{legal, stepped, ordinal}
use Rattle.standard.specs.Files.{addresses_from, good_among, is_defective, is_wrong}
use Rattle.standard.specs.declared.Geometry.{Geometry}
use Rattle.standard.specs.declared.Address.{Address}
use Rattle.promises.specs.Ground.Basics.{by_test, and_l, and_r, or_l, or_r}
use Rattle.extents.specs.Cursors.{legal_on, good_from, standing, Walks}
use Rattle.extents.specs.declared.Cursor.{Cursor}
use Rattle.extents.specs.declared.Flaw.{Flaw}
use Rattle.extents.specs.declared.Walk.{Walk}
use Rattle.extents.specs.declared.Flaw.TheVariants.{Good, Defective, Wrong}

-- what one look at a record tells: `w` it is wrong, `d` it is defective
abbrev pub flaw : Bool → Bool → Flaw
flaw w d = cond w Wrong (cond d Defective Good)

module _ (A : Type 0) where
  good_wrong : Good ≡ Wrong → A
  good_wrong e = let z : ◌≡◌ {A = ℕ} 0 1 = cc in absurd (omega arith)

  good_defective : Good ≡ Defective → A
  good_defective e = let z : ◌≡◌ {A = ℕ} 0 1 = cc in absurd (omega arith)

  defective_wrong : Defective ≡ Wrong → A
  defective_wrong e = let z : ◌≡◌ {A = ℕ} 0 1 = cc in absurd (omega arith)

pub flaw_wrong : (w d : Bool) → flaw w d ≡ Wrong → w ≡ true
flaw_wrong true d e = refl
flaw_wrong false true e = defective_wrong _ e
flaw_wrong false false e = good_wrong _ e

pub flaw_defective : (w d : Bool) → flaw w d ≡ Defective → (w ≡ false) × (d ≡ true)
flaw_defective true d e = defective_wrong _ (sym e)
flaw_defective false true e = (refl, refl)
flaw_defective false false e = good_defective _ e

pub flaw_good : (w d : Bool) → flaw w d ≡ Good → (w ≡ false) × (d ≡ false)
flaw_good true d e = good_wrong _ (sym e)
flaw_good false true e = good_defective _ (sym e)
flaw_good false false e = (refl, refl)

-- what the mark and the first byte say of a record
module _ (g : Geometry) (image : List ℕ) (a : Address) where
  pub defect_none : incorrect_mark g image (ordinal g a) ≡ false → is_defective g image a ≡ false
  unfolding is_defective
  defect_none h = simp h

  pub defect_first : incorrect_mark g image (ordinal g a) ≡ true → is_defective g image a ≡ eqb (first_byte g image (ordinal g a)) 70
  unfolding is_defective
  defect_first h = simp h

  pub look_none : incorrect_mark g image (ordinal g a) ≡ false → flaw (is_wrong g image a) (is_defective g image a) ≡ Good
  unfolding is_defective is_wrong
  look_none h = simp h

  pub look_first : incorrect_mark g image (ordinal g a) ≡ true → first_byte g image (ordinal g a) ≡ 70 → flaw (is_wrong g image a) (is_defective g image a) ≡ Defective
  unfolding is_defective is_wrong
  look_first h f = simp (h, f)

  pub look_other : incorrect_mark g image (ordinal g a) ≡ true → (first_byte g image (ordinal g a) ≡ 70 → ⊥) → flaw (is_wrong g image a) (is_defective g image a) ≡ Wrong
  unfolding is_defective is_wrong
  look_other h f = simp (h, ne_eqb (first_byte g image (ordinal g a)) 70 f)

-- a cursor with an address left
pub first_legal : (g : Geometry) (left : ℕ) (a : Address) → legal_on g (suc left) a ≡ true → (legal g a ≡ true) × (legal_on g left (stepped g a) ≡ true)
unfolding legal_on
first_legal g left a h = (and_l (legal g a) _ h, and_r (legal g a) _ h)

pub legal_head : (g : Geometry) (left : ℕ) (a : Address) → 0 < left → legal_on g left a ≡ true → legal g a ≡ true
legal_head g zero a l h = absurd (omega arith)
legal_head g (suc n) a l h = (first_legal g n a h).0

pub legal_next : (g : Geometry) (left : ℕ) (a : Address) → 0 < left → legal_on g left a ≡ true → legal_on g (left - 1) (stepped g a) ≡ true
legal_next g zero a l h = absurd (omega arith)
legal_next g (suc n) a l h = simp unary_clauses (first_legal g n a h).1

-- a walk with an address left stands at a record of the image, and knows where its kind is
pub walk_here : (g : Geometry) (w : Walk) → Walks g w → 0 < w.left → (legal g w.at ≡ true) × (w.kind ≡ kind_offset g (ordinal g w.at))
walk_here g w s l = (legal_head g w.left w.at l s.legal, s.stands)

pub good_skip : (g : Geometry) (image : List ℕ) (left : ℕ) (a : Address) → 0 < left → is_defective g image a ≡ true
    → good_from g image (left - 1) (stepped g a) ≡ good_from g image left a
unfolding good_among addresses_from
good_skip g image zero a l h = absurd (omega arith)
good_skip g image (suc n) a l h = simp (unary_clauses, h)

pub good_stand : (g : Geometry) (image : List ℕ) (left : ℕ) (a : Address) → 0 < left → is_defective g image a ≡ false
    → standing g image (record { at = a; left = left }) ≡ good_from g image left a
unfolding good_among addresses_from standing
good_stand g image zero a l h = absurd (omega arith)
good_stand g image (suc n) a l h = simp h

pub good_none : (g : Geometry) (image : List ℕ) (left : ℕ) (a : Address) → left ≤ 0
    → standing g image (record { at = a; left = 0 }) ≡ good_from g image left a
unfolding good_among addresses_from standing
good_none g image zero a l = refl
good_none g image (suc n) a l = absurd (omega arith)

pub legal_none : (g : Geometry) (a : Address) → legal_on g 0 a ≡ true
unfolding legal_on
legal_none g a = refl

pub stand_next : (g : Geometry) (image : List ℕ) (left : ℕ) (a : Address) → 0 < left
    → good_from g image (left - 1) (stepped g a) ≡ drop 1 (standing g image (record { at = a; left = left }))
unfolding standing
stand_next g image zero a l = absurd (omega arith)
stand_next g image (suc n) a l = simp unary_clauses

pub stand_none : (g : Geometry) (image : List ℕ) (c : Cursor) → c.left ≤ 0 → standing g image c ≡ []
unfolding standing
stand_none g image c l = let e : c.left ≡ 0 = omega arith in rw e

pub good_length : (g : Geometry) (image : List ℕ) (left : ℕ) (a : Address) → 0 < left
    → length (good_from g image left a) ≡ cond (is_defective g image a) 0 1 + length (good_from g image (left - 1) (stepped g a))
unfolding good_among addresses_from
good_length g image zero a l = absurd (omega arith)
good_length g image (suc n) a l = simp unary_clauses (by_test (is_defective g image a) (λ h. rw h (omega arith)) (λ h. rw h (omega arith)))

pub good_empty : (g : Geometry) (image : List ℕ) (left : ℕ) (a : Address) → left ≤ 0 → length (good_from g image left a) ≡ 0
unfolding good_among addresses_from
good_empty g image zero a l = refl
good_empty g image (suc n) a l = absurd (omega arith)

pub legal_fewer : (g : Geometry) (n left : ℕ) (a : Address) → n ≤ left → legal_on g left a ≡ true → legal_on g n a ≡ true
unfolding legal_on
legal_fewer g zero left a l h = refl
legal_fewer g (suc n) zero a l h = absurd (omega arith)
legal_fewer g (suc n) (suc left) a l h = rw (and_l (legal g a) _ h, legal_fewer g n left (stepped g a) (omega arith) (and_r (legal g a) _ h))

pub good_first : (g : Geometry) (image : List ℕ) (left : ℕ) (a : Address) → 0 < left → is_defective g image a ≡ false
    → good_from g image left a ≡ (a ∷ good_from g image (left - 1) (stepped g a))
unfolding good_among addresses_from
good_first g image zero a l h = absurd (omega arith)
good_first g image (suc n) a l h = simp (unary_clauses, h)

-- one record passed over: it counts if it is good, and then there was one to count
pub good_past : (g : Geometry) (image : List ℕ) (i left : ℕ) (a : Address) → 0 < left → (not (is_defective g image a) && eqb i 0) ≡ false
    → drop (i - cond (is_defective g image a) 0 1) (good_from g image (left - 1) (stepped g a)) ≡ drop i (good_from g image left a)
good_past g image i left a l h = by_test (is_defective g image a) skipped counted
  where
    skipped : is_defective g image a ≡ true → drop (i - cond (is_defective g image a) 0 1) (good_from g image (left - 1) (stepped g a)) ≡ drop i (good_from g image left a)
    skipped d = let z : i - 0 ≡ i = omega arith in rw (d, z) (ap (drop i) (good_skip g image left a l d))

    one : (k : ℕ) → i ≡ suc k → is_defective g image a ≡ false → drop (i - 1) (good_from g image (left - 1) (stepped g a)) ≡ drop i (good_from g image left a)
    one k e d = rw (good_first g image left a l d, e) (simp unary_clauses)

    counted : is_defective g image a ≡ false → drop (i - cond (is_defective g image a) 0 1) (good_from g image (left - 1) (stepped g a)) ≡ drop i (good_from g image left a)
    counted d =
        let e : eqb i 0 ≡ false = sym (ap (λ (b : Bool). not b && eqb i 0) d) ∙ h in
        let n = eqb-false i 0 e in
        let k : i ≡ suc (i - 1) = omega (arith, n) in
        rw d (one (i - 1) k d)

pub none_past : (g : Geometry) (image : List ℕ) (i left : ℕ) (a : Address) → left ≤ 0
    → standing g image (record { at = a; left = 0 }) ≡ drop i (good_from g image left a)
none_past g image i left a l =
    let e = stand_none g image (record { at = a; left = 0 }) (omega arith) in
    e ∙ sym (ap (drop i) (sym (good_none g image left a l) ∙ e) ∙ drop-nil i)

-- what a record counts
pub counts : (g : Geometry) (image : List ℕ) (a : Address) (bad : Bool) (k : ℕ) → bad ≡ is_defective g image a → k ≡ bool_byte (not bad) → k ≡ cond (is_defective g image a) 0 1
counts g image a bad k d e = e ∙ one bad ∙ ap (λ (b : Bool). cond b 0 1) d
  where
    one : (b : Bool) → bool_byte (not b) ≡ cond b 0 1
    one true = refl
    one false = refl

pub one_at_most : (b : Bool) (k : ℕ) → k ≡ bool_byte b → k ≤ 1
one_at_most true k e = omega (arith, e)
one_at_most false k e = omega (arith, e)

-- nothing to pass, or nothing to pass it by
pub some_of : (a b : ℕ) → (eqb a 0 || eqb b 0) ≡ false → (0 < a) × (0 < b)
some_of a b h = let p = eqb-false a 0 (or_l (eqb a 0) (eqb b 0) h) in let q = eqb-false b 0 (or_r (eqb a 0) (eqb b 0) h) in (omega (arith, p), omega (arith, q))

pub skip_none : (g : Geometry) (image : List ℕ) (c : Cursor) (n : ℕ) → (eqb n 0 || eqb c.left 0) ≡ true → (standing g image c ≡ drop n (standing g image c)) × (0 < n → c.left ≤ c.left - 1)
skip_none g image c n h = by_test (eqb n 0) nothing nobody
  where
    nothing : eqb n 0 ≡ true → (standing g image c ≡ drop n (standing g image c)) × (0 < n → c.left ≤ c.left - 1)
    nothing t = let e = eqb-true n 0 t in (ap (λ (k : ℕ). drop k (standing g image c)) (sym e), λ m. omega (arith, e, m))

    nobody : eqb n 0 ≡ false → (standing g image c ≡ drop n (standing g image c)) × (0 < n → c.left ≤ c.left - 1)
    nobody f =
        let e = eqb-true c.left 0 (sym (ap (λ (z : Bool). z || eqb c.left 0) f) ∙ h) in
        let s = stand_none g image c (omega (arith, e)) in
        (s ∙ sym (ap (drop n) s ∙ drop-nil n), λ m. omega (arith, e))
