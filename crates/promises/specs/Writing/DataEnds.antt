-- The data end that a write sets: it is legal, and it gives the number of blocks back.
-- Assumes nothing.
use Prim.Native.Nat.{ℕ, zero, suc, ◌+◌, ◌*◌, ◌/◌, ◌%◌, ◌<◌, ◌≤◌}
use Rattle.std.specs.Prelude.{◌≡◌, Bool, cond, not, ◌&&◌, ◌||◌, length, get_or, leb}
use Rattle.std.proofs.Math.Path.{refl, subst}
use Rattle.std.proofs.Common.{sym, arith, le_refl, not-suc-le-zero, mul-le-mul_right, le-div_iff_mul-le, mul-div_cancel}
use Rattle.std.proofs.Math.Bool.{true, false}
use mathlib.Core.List.{List, [], ◌∷◌}
use Rattle.std.proofs.Math.Dec.{ltb, eqb}
use Rattle.std.proofs.Math.Nat.{mul-mod_left}
use borrow.Author.Tests.{ltb-true, ltb-false, lt-ltb, le-ltb, le-leb, lt-leb, eq-eqb, ne_eqb, eqb-true, eqb-false}
use Rattle.standard.specs.Addresses.{legal, rank, before, stepped, past_last, first_address}
use Rattle.standard.specs.Files.{count_before}
use Rattle.standard.specs.Writing.{next_data_end}
use Rattle.standard.specs.declared.Geometry.{Geometry}
use Rattle.standard.specs.declared.Address.{Address}
use Rattle.promises.specs.Ground.Basics.{either, lt_or_le, or_right}
use Rattle.promises.specs.Ground.Lists.{every_at}
use Rattle.promises.specs.Images.AddressLaws.{Parts, parts, from_parts, Step, sector_on, side_on, cylinder_on, step_is, step_rank, step_parts}
use Rattle.promises.specs.Extents.ExtentAddresses.{Rising, Between, rising_every}

module _ (g : Geometry) where
  -- an address, or the one past the last
  pub record EndLegal (e : Address) : Type 0 where
    pub either_way : (legal g e || past_last g e) ≡ true
    pub cylinder_most : e.cylinder ≤ g.L + 1
    pub side_most : e.side < g.S
    pub sector_most : e.sector ≤ g.D

  legal_end : (a : Address) → legal g a ≡ true → EndLegal a
  legal_end a h =
      let p = parts g a h in
      record { either_way = rw h; cylinder_most = omega arith; side_most = p.side_low; sector_most = p.sector_high }

  past_last_lem : (a b : Address) → Step g a b → Parts g a → g.L < b.cylinder → EndLegal b
  unfolding past_last
  past_last_lem a b (sector_on l) p k = absurd (omega (arith, p))
  past_last_lem a b (side_on l m) p k = absurd (omega (arith, p))
  past_last_lem a b (cylinder_on l m) p k =
      record {
        either_way = or_right (legal g b) (past_last g b) (rw (eq-eqb (a.cylinder + 1) (g.L + 1) (omega (arith, p))));
        cylinder_most = omega (arith, p);
        side_most = omega (arith, p);
        sector_most = omega (arith, p);
      }

  step_end : (a : Address) → legal g a ≡ true → EndLegal (stepped g a)
  step_end a h =
      let b = stepped g a in
      either (lt_or_le g.L b.cylinder)
      (λ (k : g.L < b.cylinder). past_last_lem a b (step_is g a h) (parts g a h) k)
      (λ (k : b.cylinder ≤ g.L). legal_end b (from_parts g b (step_parts g a b (step_is g a h) (parts g a h) k)))

  -- counting the records before one of them
  rising_at : (lo hi : ℕ) (xs : List Address) → Rising g lo hi xs → (k : ℕ) → k < length xs → (d : Address) → Between g lo hi (get_or xs k d)
  rising_at lo hi xs r k l d = every_at (Between g lo hi) xs (rising_every g lo hi xs r) k l d

  none_before : (e : Address) (lo hi : ℕ) (xs : List Address) → Rising g lo hi xs → rank g e ≤ lo → count_before g e xs ≡ 0
  unfolding before
  none_before e lo hi [] r l = refl
  none_before e lo hi (a ∷ xs) r l =
      rw (le-ltb (rank g a) (rank g e) (omega (arith, r.1)), none_before e (suc (rank g a)) hi xs r.3 (omega (arith, r.1)))

  count_at : (lo hi : ℕ) (xs : List Address) → Rising g lo hi xs → (k : ℕ) → k < length xs → (d : Address) → count_before g (get_or xs k d) xs ≡ k
  unfolding before
  count_at lo hi [] r k l d = absurd (not-suc-le-zero l)
  count_at lo hi (a ∷ xs) r zero l d =
      rw (le-ltb (rank g a) (rank g a) (le_refl (rank g a)), none_before a (suc (rank g a)) hi xs r.3 (omega arith))
  count_at lo hi (a ∷ xs) r (suc k) l d =
      let b = rising_at (suc (rank g a)) hi xs r.3 k (omega arith) d in
      rw (lt-ltb (rank g a) (rank g (get_or xs k d)) b.1, count_at (suc (rank g a)) hi xs r.3 k (omega arith) d) (omega arith)

  pub later_at : (lo hi : ℕ) (xs : List Address) → Rising g lo hi xs → (k : ℕ) → k < length xs → 1 ≤ k → (d : Address) → lo < rank g (get_or xs k d)
  later_at lo hi [] r k l o d = absurd (not-suc-le-zero l)
  later_at lo hi (a ∷ xs) r zero l o d = absurd (not-suc-le-zero o)
  later_at lo hi (a ∷ xs) r (suc k) l o d = omega (arith, r.1, (rising_at (suc (rank g a)) hi xs r.3 k (omega arith) d).1)

  -- THE DATA END OF n BLOCKS
  module _ (start end : Address) (m : ℕ) (good : List Address) (ls : legal g start ≡ true) (le : legal g end ≡ true)
      (o : rank g start ≤ rank g end) (r : Rising g (rank g start) (rank g end) good) (pos : 1 ≤ m) where
    pub record Ending (n : ℕ) (e : Address) : Type 0 where
      pub right : EndLegal e
      pub behind : rank g start ≤ rank g e
      pub count : cond (eqb (rank g e) (rank g start)) 0 (cond (leb (rank g e) (rank g end)) (count_before g e good / m) (length good / m)) ≡ n
      pub whole : (not (eqb (rank g e) (rank g start)) && leb (rank g e) (rank g end) && not (eqb (count_before g e good % m) 0)) ≡ false

    at_start : Ending 0 start
    at_start =
        let q = eq-eqb (rank g start) (rank g start) refl in
        record { right = legal_end start ls; behind = le_refl (rank g start); count = rw q; whole = rw q }

    at_good : (n : ℕ) → 1 ≤ n → n < length good / m → Ending n (get_or good (n * m) first_address)
    at_good n n1 l =
        let d : suc n * m ≤ length good = (le-div_iff_mul-le pos).0 l in
        let k : n * m < length good = omega arith in
        let k1 : 1 ≤ n * m = omega (arith, mul-le-mul_right m n1) in
        let e = get_or good (n * m) first_address in
        let b = rising_at (rank g start) (rank g end) good r (n * m) k first_address in
        let s = later_at (rank g start) (rank g end) good r (n * m) k k1 first_address in
        let c = count_at (rank g start) (rank g end) good r (n * m) k first_address in
        let q1 = ne_eqb (rank g e) (rank g start) (λ (z : rank g e ≡ rank g start). omega arith) in
        let q2 = le-leb (rank g e) (rank g end) b.2 in
        record {
          right = legal_end e b.0;
          behind = b.1;
          count = rw (q1, q2, c) (mul-div_cancel n pos);
          whole = rw (q1, q2, c, mul-mod_left n m);
        }

    at_end : (n : ℕ) → n ≡ length good / m → Ending n (stepped g end)
    at_end n l =
        let s = step_rank g end le in
        let q1 = ne_eqb (rank g (stepped g end)) (rank g start) (λ (z : rank g (stepped g end) ≡ rank g start). omega arith) in
        let q2 = lt-leb (rank g (stepped g end)) (rank g end) (omega arith) in
        record { right = step_end end le; behind = omega arith; count = rw (q1, q2) (sym l); whole = rw (q1, q2) }

    pub ending : (n : ℕ) → n ≤ length good / m → Ending n (next_data_end g start end m good n)
    unfolding next_data_end
    ending n h = go (eqb n 0) (ltb n (length good / m)) refl refl
      where
        go : (t u : Bool) → eqb n 0 ≡ t → ltb n (length good / m) ≡ u → Ending n (cond t start (cond u (get_or good (n * m) first_address) (stepped g end)))
        go true u e f = subst (λ (k : ℕ). Ending k start) (sym (eqb-true n 0 e)) at_start
        go false true e f =
            at_good n (either (lt_or_le 0 n) (λ (k : 0 < n). k) (λ (k : n ≤ 0). absurd (eqb-false n 0 e (omega arith)))) (ltb-true n (length good / m) f)
        go false false e f = at_end n (omega (arith, ltb-false n (length good / m) f))
