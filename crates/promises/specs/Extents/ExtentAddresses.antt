-- The records of an extent: legal addresses, one behind the other; so are the good ones, and parts of these.
-- Assumes nothing.
use Prim.Native.Nat.{ℕ, zero, suc, ◌+◌, ◌-◌, ◌≤◌}
use Rattle.std.specs.Prelude.{◌≡◌, true, false, take, drop}
use Rattle.std.proofs.Math.Path.{subst}
use mathlib.Core.List.{List, [], ◌∷◌}
use native.Mathlib.Omega.{arith}
use Rattle.std.proofs.Math.Nat.{le_refl}
use Rattle.standard.specs.Labels.{start_of, end_of}
use Rattle.standard.specs.Addresses.{legal, rank, address_count, stepped}
use Rattle.standard.specs.Files.{addresses_from, extent_size, extent, is_defective, good_among, good_records}
use Rattle.standard.specs.declared.Geometry.{Geometry}
use Rattle.standard.specs.declared.Address.{Address}
use Rattle.promises.specs.Ground.Basics.{cond_elim}
use Rattle.promises.specs.Ground.Lists.{Every, every_map}
use Rattle.promises.specs.Images.AddressLaws.{Legal, rank_lt, step_rank, step_legal}
use Rattle.promises.specs.Volumes.AcceptedLaws.{InRange}

-- legal addresses in rising order, from one rank to another
module _ (g : Geometry) where
  abbrev pub Rising : ℕ → ℕ → List Address → Type 0
  Rising lo hi [] = Unit {0}
  Rising lo hi (a ∷ xs) = (legal g a ≡ true) × (lo ≤ rank g a) × (rank g a ≤ hi) × Rising (suc (rank g a)) hi xs

  abbrev pub Between : ℕ → ℕ → Address → Type 0
  Between lo hi a = (legal g a ≡ true) × (lo ≤ rank g a) × (rank g a ≤ hi)

  pub rising_lower : (lo lo' hi : ℕ) (xs : List Address) → lo' ≤ lo → Rising lo hi xs → Rising lo' hi xs
  rising_lower lo lo' hi [] l h = tt
  rising_lower lo lo' hi (a ∷ xs) l h = (h.0, omega (arith, h.1), h.2, h.3)

  pub rising_every : (lo hi : ℕ) (xs : List Address) → Rising lo hi xs → Every (Between lo hi) xs
  rising_every lo hi [] h = tt
  rising_every lo hi (a ∷ xs) h =
      ((h.0, h.1, h.2), rising_every lo hi xs (rising_lower (suc (rank g a)) lo hi xs (omega (arith, h.1)) h.3))

  pub rising_legal : (lo hi : ℕ) (xs : List Address) → Rising lo hi xs → Every (Legal g) xs
  rising_legal lo hi xs h = every_map (Between lo hi) (Legal g) (λ a k. k.0) xs (rising_every lo hi xs h)

  pub rising_take : (lo hi n : ℕ) (xs : List Address) → Rising lo hi xs → Rising lo hi (take n xs)
  rising_take lo hi zero xs h = tt
  rising_take lo hi (suc n) [] h = tt
  rising_take lo hi (suc n) (a ∷ xs) h = (h.0, h.1, h.2, rising_take (suc (rank g a)) hi n xs h.3)

  pub rising_drop : (lo hi n : ℕ) (xs : List Address) → Rising lo hi xs → Rising lo hi (drop n xs)
  rising_drop lo hi zero xs h = h
  rising_drop lo hi (suc n) [] h = tt
  rising_drop lo hi (suc n) (a ∷ xs) h = rising_lower (suc (rank g a)) lo hi (drop n xs) (omega (arith, h.1)) (rising_drop (suc (rank g a)) hi n xs h.3)

  rising_good : (image : List ℕ) (lo hi : ℕ) (xs : List Address) → Rising lo hi xs → Rising lo hi (good_among g image xs)
  unfolding good_among
  rising_good image lo hi [] h = tt
  rising_good image lo hi (a ∷ xs) h =
      let k = rising_good image (suc (rank g a)) hi xs h.3 in
      cond_elim (Rising lo hi) (is_defective g image a)
      (λ _. rising_lower (suc (rank g a)) lo hi (good_among g image xs) (omega (arith, h.1)) k) (λ _. (h.0, h.1, h.2, k))

  pub every_good : (image : List ℕ) (C : Address → Type 0) (xs : List Address) → Every C xs → Every C (good_among g image xs)
  unfolding good_among
  every_good image C [] h = tt
  every_good image C (a ∷ xs) h =
      let k = every_good image C xs h.1 in
      cond_elim (Every C) (is_defective g image a) (λ _. k) (λ _. (h.0, k))

  pub good_sound : (image : List ℕ) (xs : List Address) → Every (λ a. is_defective g image a ≡ false) (good_among g image xs)
  unfolding good_among
  good_sound image [] = tt
  good_sound image (a ∷ xs) =
      let k = good_sound image xs in
      cond_elim (Every (λ b. is_defective g image b ≡ false)) (is_defective g image a) (λ _. k) (λ e. (e, k))

  from_rising : (left hi : ℕ) (a : Address) → legal g a ≡ true → rank g a + suc left ≤ address_count g → rank g a + left ≤ hi
      → Rising (rank g a) hi (addresses_from g (suc left) a)
  unfolding addresses_from
  from_rising zero hi a h l m = (h, le_refl (rank g a), omega arith, tt)
  from_rising (suc left) hi a h l m =
      let s = step_rank g a h in (
        h,
        le_refl (rank g a),
        omega arith,
        subst (λ (n : ℕ). Rising n hi (addresses_from g (suc left) (stepped g a))) s
            (from_rising left hi (stepped g a) (step_legal g a h (omega arith)) (omega arith) (omega arith)),
      )

  module _ (h : List ℕ) (r : InRange g h) where
    pub extent_rising : Rising (rank g (start_of h)) (rank g (end_of h)) (extent g h)
    unfolding extent extent_size
    extent_rising =
        let o = r.ordered in
        let l = rank_lt g (end_of h) r.end_legal in
        let e : suc (rank g (end_of h)) - rank g (start_of h) ≡ suc (rank g (end_of h) - rank g (start_of h)) = omega arith in
        rw e (from_rising (rank g (end_of h) - rank g (start_of h)) (rank g (end_of h)) (start_of h) r.start_legal (omega arith) (omega arith))

    pub good_rising : (image : List ℕ) → Rising (rank g (start_of h)) (rank g (end_of h)) (good_records g image h)
    unfolding good_records
    good_rising image = rising_good image (rank g (start_of h)) (rank g (end_of h)) (extent g h) extent_rising

    pub extent_legal : Every (Legal g) (extent g h)
    extent_legal = rising_legal (rank g (start_of h)) (rank g (end_of h)) (extent g h) extent_rising

    pub good_legal : (image : List ℕ) → Every (Legal g) (good_records g image h)
    good_legal image = rising_legal (rank g (start_of h)) (rank g (end_of h)) (good_records g image h) (good_rising image)
