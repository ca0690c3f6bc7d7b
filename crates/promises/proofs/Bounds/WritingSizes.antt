-- How large the numbers in a write's answer can be: the blocks written are blocks of the extent. Only the place of 26 (a record of the list lent) and of 27
-- (the blocks that the list would need) grow with what is lent.
-- Assumes nothing.
use Rattle.std.specs.Prelude.{ℕ, ◌^◌, ◌<◌, ◌≤◌, ◌≡◌, refl, true, false, List, ltb, Result, Ok, Err}
use Rattle.std.proofs.Common.{sym, subst, arith, ltb-true}
use Rattle.standard.specs.Layout.{label_at}
use Rattle.standard.specs.Refusals.{refuse}
use Rattle.standard.specs.Packed.{most}
use Rattle.standard.specs.Judgement.{judged}
use Rattle.standard.specs.Writing.{needed, write_list, written, image_after}
use Rattle.standard.specs.declared.Geometry.{Geometry}
use Rattle.standard.specs.declared.Refusal.{Refusal}
use Rattle.promises.specs.Ground.Basics.{never, by_test}
use Rattle.promises.specs.Refusals.Refusing.{first_order, volume_stops, write_first, accepted_write}
use Rattle.promises.specs.Refusals.PlacesNamed.{given_exactly, place_26}
use Rattle.promises.proofs.Writing.WritingPromises.{answers, counts}
use Rattle.promises.specs.Bounds.Sizes.{Small, by_order, by_none, labelled, thirteen_small, names_slot, wrong_small, volume_small, count_few}
use Rattle.promises.specs.Bounds.WritingSizes.{capped}

pub most_low : (n : ℕ) → most 32 n < 2 ^ 32
most_low n =
    by_test (ltb n (2 ^ 32)) (λ (e : ltb n (2 ^ 32) ≡ true). rw e (ltb-true n (2 ^ 32) e)) (λ (e : ltb n (2 ^ 32) ≡ false). rw e (omega arith))

-- so given, a refusal that is small is the same, and one with one place is small
small_capped : (r : Refusal) → Small r → Small (capped r)
small_capped r s =
    record { number_low = s.number_low; number_high = s.number_high; first_low = most_low r.first; second_low = s.second_low; third_none = s.third_none }

one_capped : (number place : ℕ) (r : Refusal) → 1 ≤ number → number ≤ 29 → r ≡ refuse number place → Small (capped r)
one_capped number place r l m e =
    subst (λ (q : Refusal). Small (capped q)) (sym e)
    (record { number_low = l; number_high = m; first_low = most_low place; second_low = omega arith; third_none = refl })

module _ (image : List ℕ) (slot : ℕ) (bodies lengths : List ℕ) where
  on_volume : (g : Geometry) → judged image ≡ Ok g → (r : Refusal) → written image slot bodies lengths ≡ Err r → Small (capped r)
  on_volume g j r w =
      by_order _ _ r (first_order (write_list g image slot bodies lengths) r ((write_first image g j slot bodies lengths r).0 w)) (λ e. small_capped r (thirteen_small image g j slot r e))
      (λ at h14. let l = labelled image g j slot at in
      by_order _ _ r h14 (λ e. small_capped r (names_slot image g j slot l 14 (omega arith) (omega arith) _ r e))
      (λ _ h15. by_order _ _ r h15 (λ e. small_capped r (names_slot image g j slot l 15 (omega arith) (omega arith) _ r e))
      (λ _ h16. by_order _ _ r h16 (λ e. small_capped r (names_slot image g j slot l 16 (omega arith) (omega arith) _ r e))
      (λ _ h24. by_order _ _ r h24 (λ e. small_capped r (names_slot image g j slot l 24 (omega arith) (omega arith) _ r e))
      (λ _ h17. by_order _ _ r h17 (λ e. small_capped r (wrong_small image g j slot l r e))
      (λ _ h25. by_order _ _ r h25 (λ e. one_capped 25 0 r (omega arith) (omega arith) ((given_exactly _ _ r).0 e).1)
      (λ _ h26. by_order _ _ r h26 (λ e. one_capped 26 _ r (omega arith) (omega arith) ((place_26 (label_at g image slot) 0 lengths r).0 e).is_so.1)
      (λ _ h27. by_order _ _ r h27 (λ e. one_capped 27 _ r (omega arith) (omega arith) ((given_exactly _ _ r).0 e).1)
      (λ _ none. by_none r none)))))))))

  pub write_small : (r : Refusal) → written image slot bodies lengths ≡ Err r → Small (capped r)
  write_small r w = on (judged image) refl
    where
      on : (v : Result Geometry Refusal) → judged image ≡ v → Small (capped r)
      on (Err q) j =
          let e = (volume_stops image q j).5 slot bodies lengths in
          let same : q ≡ r = cc in
          small_capped r (subst Small same (volume_small image q j))
      on (Ok g) j = on_volume g j r w

  pub write_few : (n : ℕ) → written image slot bodies lengths ≡ Ok n → n ≤ 4992
  write_few n w = on (judged image) refl
    where
      on : (v : Result Geometry Refusal) → judged image ≡ v → n ≤ 4992
      on (Err q) j = let e = (volume_stops image q j).5 slot bodies lengths in never (cc)
      on (Ok g) j =
          let passed = accepted_write image g j slot bodies lengths n w in
          let e = answers image g slot bodies lengths j passed in
          let same : needed (label_at g image slot) bodies lengths ≡ n = cc in
          let c = counts image g slot bodies lengths j passed in
          omega (arith, count_few (image_after image slot bodies lengths) slot (needed (label_at g image slot) bodies lengths) c)
