-- THE SKIP IS THE WALK (request 2026-03): the two comparisons give the cylinder at which a walk that counts good ones stops. First how many good ones there are up
-- to n, in closed form; what is left then is arithmetic.
-- Assumes nothing.
use Prim.Native.Nat.{ℕ, zero, suc, ◌+◌, ◌-◌, ◌<◌, ◌≤◌}
use Rattle.std.specs.Prelude.{◌≡◌, Bool, ◌&&◌}
use Rattle.std.proofs.Math.Path.{refl, ap}
use Rattle.std.proofs.Common.{sym, ◌∙◌, eq-or-lt_of_le, ltb-true, eqb-true, lt-ltb, le-ltb, le-leb, eq-eqb, ne_eqb}
use Rattle.std.proofs.Math.Bool.{true, false, cond, not}
use native.Mathlib.Omega.{arith}
use Rattle.std.proofs.lemmas.Bool.{lt-leb}
use Rattle.standard.specs.Defects.{present, skip_one, physical}
use Rattle.standard.specs.Skips.{is_defect, good_cylinder, good_up_to, StopsAt, walk_on, walked}
use Rattle.standard.specs.declared.Geometry.{Geometry}
use Rattle.promises.specs.Ground.Basics.{either, lt_or_le, by_test, cond_elim, and_l, and_r}
use Rattle.promises.specs.Images.AddressLaws.{taken, taken_none, taken_one, by_place, skip_adds, skips_first, skips_second, physical_low, physical_high}
use Rattle.promises.specs.Refusals.Refusing.{Exactly}
use Rattle.promises.specs.Volumes.SkipWalk.{InOrder}

-- ---- one defective cylinder (`taken`, AddressLaws: how many cylinders up to n it takes away)
-- a step of the walk
taken_next : (d n : ℕ) → taken d (suc n) ≡ taken d n + cond (is_defect d (suc n)) 1 0
taken_next d n =
    by_place d n
    (λ z none. simp (le-ltb 0 d none))
    (λ z above.
    either (eq-or-lt_of_le {n = suc n} {m = d} above)
    (λ (e : suc n ≡ d). simp (lt-ltb 0 d (omega arith), lt-leb d n above, le-leb d (suc n) (omega arith), eq-eqb (suc n) d e))
    (λ (l : suc n < d). simp (lt-ltb 0 d (omega arith), lt-leb d n above, lt-leb d (suc n) l, ne_eqb (suc n) d (λ (e : suc n ≡ d). omega arith))))
    (λ one h below. simp (lt-ltb 0 d h, le-leb d n below, le-leb d (suc n) (omega arith), ne_eqb (suc n) d (λ (e : suc n ≡ d). omega arith)))

-- behind the skip as many are taken as before it
taken_again : (d n : ℕ) → taken d (n + taken d n) ≡ taken d n
taken_again d n =
    by_place d n
    (λ z none. taken_none d _ none ∙ sym z)
    (λ z above. ap (taken d) (omega arith))
    (λ one h below. taken_one d _ h (omega arith) ∙ sym one)

pub not_defect : (d n : ℕ) → (0 < d → n ≡ d → ⊥) → is_defect d n ≡ false
not_defect d n other =
    either (lt_or_le 0 d)
    (λ (h : 0 < d). simp (lt-ltb 0 d h, ne_eqb n d (other h)))
    (λ (none : d ≤ 0). simp (le-ltb 0 d none))

-- ---- the count of good ones rises, so a walk stops at one cylinder only
counts : (g : Geometry) (n : ℕ) → good_cylinder g (suc n) ≡ true → good_up_to g (suc n) ≡ suc (good_up_to g n)
unfolding good_up_to
counts g n e = rw e

rises : (g : Geometry) (n m : ℕ) → n ≤ m → good_up_to g n ≤ good_up_to g m
unfolding good_up_to
rises g n zero l = let e : n ≡ 0 = omega arith in rw e (omega arith)
rises g n (suc m) l =
    either (eq-or-lt_of_le l)
    (λ (e : n ≡ suc m). rw e (omega arith))
    (λ (b : n < suc m).
    let k = rises g n m (omega arith) in
    cond_elim {A = ℕ} (λ x. good_up_to g n ≤ x) (good_cylinder g (suc m)) (λ _. omega arith) (λ _. k))

fewer_before : (g : Geometry) (n m : ℕ) → n < m → good_cylinder g m ≡ true → good_up_to g n < good_up_to g m
fewer_before g n zero l e = absurd (omega arith)
fewer_before g n (suc m) l e = omega (arith, rises g n m (omega arith), counts g m e)

pub stops_once : (g : Geometry) (c n m : ℕ) → StopsAt g c n → StopsAt g c m → n ≡ m
stops_once g c n m s t =
    either (lt_or_le n m)
    (λ (l : n < m). absurd (omega (arith, fewer_before g n m l t.1, s.2, t.2)))
    (λ (r : m ≤ n).
    either (eq-or-lt_of_le r)
    sym
    (λ (l : m < n). absurd (omega (arith, fewer_before g m n l s.1, s.2, t.2))))

-- the walk as a loop: it has stopped, or passes a good cylinder and counts it, or passes one that is not good and counts none
walk_done : (g : Geometry) (most n : ℕ) → walk_on g most n 0 ≡ n
unfolding walk_on
walk_done g zero n = refl
walk_done g (suc most) n = refl

walk_good : (g : Geometry) (most n left : ℕ) → 0 < left → good_cylinder g (suc n) ≡ true → walk_on g (suc most) n left ≡ walk_on g most (suc n) (left - 1)
unfolding walk_on
walk_good g most n left some good = simp (ne_eqb left 0 (λ (z : left ≡ 0). omega arith), good)

walk_bad : (g : Geometry) (most n left : ℕ) → 0 < left → good_cylinder g (suc n) ≡ false → walk_on g (suc most) n left ≡ walk_on g most (suc n) left
unfolding walk_on
walk_bad g most n left some bad = simp (ne_eqb left 0 (λ (z : left ≡ 0). omega arith), bad)

-- so it stops at the first cylinder up to which there are c good ones
walk_stops : (g : Geometry) (c stop : ℕ) → good_up_to g stop ≡ c → ((n : ℕ) → n < stop → good_up_to g n < c)
    → (most n left : ℕ) → good_up_to g n + left ≡ c → n ≤ stop → stop ≤ n + most → walk_on g most n left ≡ stop
unfolding walk_on good_up_to
walk_stops g c stop all fewer zero n left e low high = omega arith
walk_stops g c stop all fewer (suc most) n left e low high =
    either (lt_or_le n stop)
    (λ (l : n < stop).
    let more = fewer n l in
    by_test (good_cylinder g (suc n))
    (λ good. walk_good g most n left (omega arith) good ∙ walk_stops g c stop all fewer most (suc n) (left - 1) (rw good (omega arith)) (omega arith) (omega arith))
    (λ bad. walk_bad g most n left (omega arith) bad ∙ walk_stops g c stop all fewer most (suc n) left (rw bad e) (omega arith) (omega arith)))
    (λ (r : stop ≤ n).
    let here : n ≡ stop = omega arith in
    let none : left ≡ 0 = omega (arith, ap (good_up_to g) here) in
    rw none (walk_done g (suc most) n ∙ here))

-- ---- two, where the second, if there is one, is behind the first
module _ (g : Geometry) (in_order : InOrder g) where
  -- no cylinder is both
  not_both : (n : ℕ) → is_defect g.d1 n ≡ true → is_defect g.d2 n ≡ true → ⊥
  not_both n e f =
      let l = in_order (ltb-true 0 g.d2 (and_l (present g.d2) _ f)) in
      omega (arith, l, eqb-true n g.d1 (and_r (present g.d1) _ e), eqb-true n g.d2 (and_r (present g.d2) _ f))

  -- good up to n are all but those taken away
  pub good_counted : (n : ℕ) → good_up_to g n + taken g.d1 n + taken g.d2 n ≡ n
  unfolding good_up_to good_cylinder
  good_counted zero = omega (arith, none_at_0 g.d1, none_at_0 g.d2)
    where
      none_at_0 : (d : ℕ) → taken d 0 ≡ 0
      none_at_0 d = by_place d 0 (λ z none. z) (λ z above. z) (λ one h l. absurd (omega arith))
  good_counted (suc n) =
      step (is_defect g.d1 (suc n)) (is_defect g.d2 (suc n)) refl refl (good_counted n) (taken_next g.d1 n) (taken_next g.d2 n)
    where
      step : (t u : Bool) → is_defect g.d1 (suc n) ≡ t → is_defect g.d2 (suc n) ≡ u → good_up_to g n + taken g.d1 n + taken g.d2 n ≡ n
          → taken g.d1 (suc n) ≡ taken g.d1 n + cond t 1 0 → taken g.d2 (suc n) ≡ taken g.d2 n + cond u 1 0
          → cond (not t && not u) (suc (good_up_to g n)) (good_up_to g n) + taken g.d1 (suc n) + taken g.d2 (suc n) ≡ suc n
      step true true e f h a b = absurd (not_both (suc n) e f)
      step true false e f h a b = omega arith
      step false true e f h a b = omega arith
      step false false e f h a b = omega arith

  -- the second skip takes away no more of the first
  first_stays : (q : ℕ) → taken g.d1 (q + taken g.d2 q) ≡ taken g.d1 q
  first_stays q =
      by_place g.d2 q
      (λ z none. ap (taken g.d1) (omega arith))
      (λ z above. ap (taken g.d1) (omega arith))
      (λ one h below.
      let l = in_order h in
      either (lt_or_le 0 g.d1)
      (λ (p : 0 < g.d1). taken_one g.d1 _ p (omega arith) ∙ sym (taken_one g.d1 q p (omega arith)))
      (λ (none : g.d1 ≤ 0). taken_none g.d1 _ none ∙ sym (taken_none g.d1 q none)))

  -- so up to where the comparisons lead there are c good ones
  physical_counted : (c : ℕ) → good_up_to g (physical g c) ≡ c
  unfolding physical
  physical_counted c =
      let q = skip_one g.d1 c in
      let n = skip_one g.d2 q in
      let one = skip_adds g.d1 c in
      let two = skip_adds g.d2 q in
      let d1-c : taken g.d1 q ≡ taken g.d1 c = ap (taken g.d1) one ∙ taken_again g.d1 c in
      let d1-q : taken g.d1 n ≡ taken g.d1 q = ap (taken g.d1) two ∙ first_stays q in
      let d2-q : taken g.d2 n ≡ taken g.d2 q = ap (taken g.d2) two ∙ taken_again g.d2 q in
      omega (arith, good_counted n, one, two, d1-c, d1-q, d2-q)

  pub physical_good : (c : ℕ) → good_cylinder g (physical g c) ≡ true
  unfolding good_cylinder
  physical_good c =
      simp (not_defect g.d1 (physical g c) (skips_first g c in_order), not_defect g.d2 (physical g c) (skips_second g c))

  pub skip_stops : (c n : ℕ) → 1 ≤ c → Exactly (n ≡ physical g c) (StopsAt g c n)
  skip_stops c n h =
      let here : StopsAt g c (physical g c) = (omega (arith, physical_low g c), physical_good c, physical_counted c) in
      ((λ e. rw e here), (λ s. stops_once g c n (physical g c) s here))

  pub skip_walks : (c : ℕ) → walked g c ≡ physical g c
  unfolding walked good_up_to
  skip_walks c =
      walk_stops g c (physical g c) (physical_counted c)
      (λ n l. let f = fewer_before g n (physical g c) l (physical_good c) in omega (arith, f, physical_counted c))
      (c + 2) 0 c (omega arith) (omega arith) (omega (arith, physical_high g c))
