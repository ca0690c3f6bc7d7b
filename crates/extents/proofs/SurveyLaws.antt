-- One step of a survey, its ends, and what its answer says of the extent.
-- Assumes nothing.
use Rattle.std.specs.Prelude.{Result, Ok, Err}
use Prim.Native.Nat.{ℕ, suc, zero, ◌-◌, ◌<◌, ◌≤◌}
use mathlib.Core.Path.{◌≡◌, refl, sym, ap, ◌∙◌}
use mathlib.Core.Bool.{Bool, true, false, not, ◌||◌, or-true, or-false}
use mathlib.Core.List.{List, [], ◌∷◌}
use native.Mathlib.Omega.{arith}
use native.Mathlib.Numerals.{unary_clauses}
use Rattle.standard.specs.Addresses.{stepped, ordinal}
use Rattle.standard.specs.Files.{addresses_from, is_defective, good_among, is_wrong, wrong_among}
use Rattle.standard.specs.declared.Geometry.{Geometry}
use Rattle.standard.specs.declared.Address.{Address}
use Rattle.standard.specs.Refusals.{refuse}
use Rattle.promises.specs.Ground.Basics.{by_test, or_l, or_r}
use Rattle.extents.specs.Surveys.{surveyed}
use Rattle.standard.specs.declared.Refusal.{Refusal}

or_more : (holed d b : Bool) → d ≡ b → (holed || d) ≡ (holed || b)
or_more holed d b e = ap (λ (x : Bool). holed || x) e

module _ (g : Geometry) (image : List ℕ) (holed : Bool) where
  survey_more : (left : ℕ) (a : Address) → 0 < left → is_wrong g image a ≡ false
      → surveyed g image holed (addresses_from g left a) ≡ surveyed g image (holed || is_defective g image a) (addresses_from g (left - 1) (stepped g a))
  unfolding surveyed addresses_from
  survey_more zero a l h = absurd (omega arith)
  survey_more (suc n) a l h = simp (unary_clauses, h)

  -- by what one look at the record told
  pub survey_hole : (left : ℕ) (a : Address) → 0 < left → (is_wrong g image a ≡ false) × (is_defective g image a ≡ true)
      → surveyed g image holed (addresses_from g left a) ≡ surveyed g image true (addresses_from g (left - 1) (stepped g a))
  survey_hole left a l h =
      survey_more left a l h.0 ∙ ap (λ (b : Bool). surveyed g image b (addresses_from g (left - 1) (stepped g a))) (or_more holed _ _ h.1 ∙ or-true holed)

  pub survey_good : (left : ℕ) (a : Address) → 0 < left → (is_wrong g image a ≡ false) × (is_defective g image a ≡ false)
      → surveyed g image holed (addresses_from g left a) ≡ surveyed g image holed (addresses_from g (left - 1) (stepped g a))
  survey_good left a l h =
      survey_more left a l h.0 ∙ ap (λ (b : Bool). surveyed g image b (addresses_from g (left - 1) (stepped g a))) (or_more holed _ _ h.1 ∙ or-false holed)

  pub survey_stop : (left : ℕ) (a : Address) → 0 < left → is_wrong g image a ≡ true → surveyed g image holed (addresses_from g left a) ≡ Err (refuse 17 (ordinal g a))
  unfolding surveyed addresses_from
  survey_stop zero a l h = absurd (omega arith)
  survey_stop (suc n) a l h = simp h

  pub survey_end : (left : ℕ) (a : Address) → left ≤ 0 → surveyed g image holed (addresses_from g left a) ≡ Ok (not holed)
  unfolding surveyed addresses_from
  survey_end zero a l = refl
  survey_end (suc n) a l = absurd (omega arith)

-- a record passed over: no test of the rest is touched
wrong_rest : (g : Geometry) (image : List ℕ) (a : Address) (more : List Address) → is_wrong g image a ≡ false → wrong_among g image (a ∷ more) ≡ wrong_among g image more
unfolding wrong_among
wrong_rest g image a more h = simp h

good_head : (g : Geometry) (image : List ℕ) (a : Address) (more : List Address) → is_defective g image a ≡ false → good_among g image (a ∷ more) ≡ (a ∷ good_among g image more)
unfolding good_among
good_head g image a more h = simp h

next : (g : Geometry) (image : List ℕ) (holed : Bool) (a : Address) (more : List Address) → is_wrong g image a ≡ false
    → surveyed g image holed (a ∷ more) ≡ surveyed g image (holed || is_defective g image a) more
unfolding surveyed
next g image holed a more h = simp h

-- what the answer says, a record at a time
pub record Says (g : Geometry) (image : List ℕ) (holed : Bool) (xs : List Address) : Type 0 where
  pub wrong : (r : Refusal) → surveyed g image holed xs ≡ Err r → wrong_among g image xs ≡ Err r
  pub holes : surveyed g image holed xs ≡ Ok false → wrong_among g image xs ≡ Ok tt
  pub whole : surveyed g image holed xs ≡ Ok true → (holed ≡ false) × (wrong_among g image xs ≡ Ok tt) × (good_among g image xs ≡ xs)

-- no answer is another
told_wrong : (b : Bool) (r : Refusal) → ◌≡◌ {A = Result Bool Refusal} (Ok b) (Err r) → ⊥
told_wrong b r e = let z : ◌≡◌ {A = ℕ} 0 1 = cc in omega arith

holed_whole : ◌≡◌ {A = Result Bool Refusal} (Ok false) (Ok true) → ⊥
holed_whole e = let z : ◌≡◌ {A = ℕ} 0 1 = cc in omega arith

same_refusal : (r s : Refusal) → ◌≡◌ {A = Result Bool Refusal} (Err r) (Err s) → r ≡ s
same_refusal r s e = cc

says_none : (g : Geometry) (image : List ℕ) (holed : Bool) → Says g image holed []
unfolding surveyed wrong_among good_among
says_none g image true = record { wrong = λ r e. absurd (told_wrong false r e); holes = λ e. refl; whole = λ e. absurd (holed_whole e) }
says_none g image false = record { wrong = λ r e. absurd (told_wrong true r e); holes = λ e. refl; whole = λ e. (refl, refl, refl) }

stop : (g : Geometry) (image : List ℕ) (holed : Bool) (a : Address) (more : List Address) → is_wrong g image a ≡ true
    → (surveyed g image holed (a ∷ more) ≡ Err (refuse 17 (ordinal g a))) × (wrong_among g image (a ∷ more) ≡ Err (refuse 17 (ordinal g a)))
unfolding surveyed wrong_among
stop g image holed a more h = (simp h, simp h)

says_wrong : (g : Geometry) (image : List ℕ) (holed : Bool) (a : Address) (more : List Address) → is_wrong g image a ≡ true → Says g image holed (a ∷ more)
says_wrong g image holed a more h =
    let s = stop g image holed a more h in
    record {
      wrong = λ r k. s.1 ∙ ap Err (same_refusal _ _ (sym s.0 ∙ k));
      holes = λ k. absurd (told_wrong false _ (sym k ∙ s.0));
      whole = λ k. absurd (told_wrong true _ (sym k ∙ s.0));
    }

says_more : (g : Geometry) (image : List ℕ) (holed : Bool) (a : Address) (more : List Address) → is_wrong g image a ≡ false → Says g image (holed || is_defective g image a) more
    → Says g image holed (a ∷ more)
says_more g image holed a more h s =
    let e = next g image holed a more h in
    let w = wrong_rest g image a more h in
    record {
      wrong = λ r k. w ∙ s.wrong r (sym e ∙ k);
      holes = λ k. w ∙ s.holes (sym e ∙ k);
      whole = λ k.
          let r = s.whole (sym e ∙ k) in
          (or_l holed (is_defective g image a) r.0, w ∙ r.1, good_head g image a more (or_r holed (is_defective g image a) r.0) ∙ ap (λ (t : List Address). a ∷ t) r.2);
    }

pub says : (g : Geometry) (image : List ℕ) (holed : Bool) (xs : List Address) → Says g image holed xs
says g image holed [] = says_none g image holed
says g image holed (a ∷ more) =
    by_test (is_wrong g image a) (says_wrong g image holed a more) (λ h. says_more g image holed a more h (says g image (holed || is_defective g image a) more))
