-- Measuring: what a reader meets depends, but for the body, on the length of what it has so far, not on the bytes.
-- Assumes nothing.
use Rattle.std.specs.Prelude.{Result, Ok, Err}
use Prim.Native.Nat.{ℕ, ◌+◌, ◌≤◌}
use mathlib.Core.Path.{◌≡◌, refl, sym, ap, ◌∙◌}
use mathlib.Core.Bool.{Bool, true, false, cond}
use mathlib.Core.List.{List, [], ◌∷◌, ◌++◌}
use lib.ListN.{length, length-append}
use native.Mathlib.Omega.{arith}
use Rattle.standard.specs.Labels.{Params}
use Rattle.standard.specs.Pieces.{whole, first, middle, last, Token, part, bad, lost}
use Rattle.standard.specs.Records.{Mode, within, deliver, carry, breach, over, after_move, first_met, at_lost, plain, salvage}
use Rattle.standard.specs.declared.Place.{Place}
use Rattle.walks.specs.Stands.{length_of, state_with, measured}
use Rattle.walks.specs.declared.Stand.{Stand}
use Rattle.walks.specs.declared.Stand.TheVariants.{Fresh, Marked, Within}
use Rattle.walks.specs.declared.Measured.{Measured}
use Rattle.standard.specs.declared.Refusal.{Refusal}
use Rattle.walks.specs.declared.Measured.TheVariants.{Took, Lost, Ended}

longer : (a a' body : List ℕ) → length a ≡ length a' → length (a ++ body) ≡ length (a' ++ body)
longer a a' body e = length-append a body ∙ (ap (λ (n : ℕ). n + length body) e ∙ sym (length-append a' body))

module _ (m : Mode) (p : Params) where
  within_alike : (ts : List Token) (a a' : List ℕ) (f : ℕ) → length a ≡ length a' → measured (first_met m p ts (within a f)) ≡ measured (first_met m p ts (within a' f))
  unfolding first_met
  within_alike [] a a' f e = refl
  within_alike (bad b o ∷ ts) a a' f e = refl
  within_alike (lost b ∷ ts) a a' f e = refl
  within_alike (part whole body b o n ∷ ts) a a' f e = refl
  within_alike (part first body b o n ∷ ts) a a' f e = refl
  within_alike (part middle body b o n ∷ ts) a a' f e =
      rw (longer a a' body e) (go (over p (length (a' ++ body))) (within_alike ts (a ++ body) (a' ++ body) f (longer a a' body e)))
    where
      go : (t : Bool) → measured (first_met m p ts (within (a ++ body) f)) ≡ measured (first_met m p ts (within (a' ++ body) f))
          → measured (after_move (cond t breach (carry (within (a ++ body) f))) b o n (λ st. first_met m p ts st))
          ≡ measured (after_move (cond t breach (carry (within (a' ++ body) f))) b o n (λ st. first_met m p ts st))
      go true h = refl
      go false h = h
  within_alike (part last body b o n ∷ ts) a a' f e =
      rw (longer a a' body e) (go (over p (length (a' ++ body))) (longer a a' body e))
    where
      go : (t : Bool) → length (a ++ body) ≡ length (a' ++ body)
          → measured (after_move (cond t breach (deliver (a ++ body) f)) b o n (λ st. first_met m p ts st))
          ≡ measured (after_move (cond t breach (deliver (a' ++ body) f)) b o n (λ st. first_met m p ts st))
      go true h = refl
      go false h = ap (λ (k : ℕ). Ok (Took k f (record { block = b; offset = n; mark = false }))) h

  pub alike : (ts : List Token) (s : Stand) (a a' : List ℕ) → length a ≡ length a' → measured (first_met m p ts (state_with a s)) ≡ measured (first_met m p ts (state_with a' s))
  alike ts Fresh a a' e = refl
  alike ts Marked a a' e = refl
  alike ts (Within n f) a a' e = within_alike ts a a' f e

  -- A RECORD THAT COMES IS NO SHORTER THAN WHAT THERE WAS OF IT
  abbrev Longer : List ℕ → Result Measured Refusal → Type 0
  Longer a (Ok (Took n f pl)) = length a ≤ n
  Longer a (Ok (Lost pl)) = Unit {0}
  Longer a (Ok Ended) = Unit {0}
  Longer a (Err r) = Unit {0}

  longer_than : (a body : List ℕ) (x : Result Measured Refusal) → Longer (a ++ body) x → Longer a x
  longer_than a body (Ok (Took n f pl)) h = omega (arith, length-append a body)
  longer_than a body (Ok (Lost pl)) h = tt
  longer_than a body (Ok Ended) h = tt
  longer_than a body (Err r) h = tt

  within_grows : (ts : List Token) (a : List ℕ) (f : ℕ) → Longer a (measured (first_met m p ts (within a f)))
  unfolding first_met
  within_grows [] a f = tt
  within_grows (bad b o ∷ ts) a f = tt
  within_grows (lost b ∷ ts) a f = lostly m
    where
      lostly : (m : Mode) → Longer a (measured (at_lost m b))
      lostly plain = tt
      lostly salvage = tt
  within_grows (part whole body b o n ∷ ts) a f = tt
  within_grows (part first body b o n ∷ ts) a f = tt
  within_grows (part middle body b o n ∷ ts) a f = go (over p (length (a ++ body))) (within_grows ts (a ++ body) f)
    where
      go : (t : Bool) → Longer (a ++ body) (measured (first_met m p ts (within (a ++ body) f)))
          → Longer a (measured (after_move (cond t breach (carry (within (a ++ body) f))) b o n (λ st. first_met m p ts st)))
      go true h = tt
      go false h = longer_than a body (measured (first_met m p ts (within (a ++ body) f))) h
  within_grows (part last body b o n ∷ ts) a f = go (over p (length (a ++ body)))
    where
      go : (t : Bool) → Longer a (measured (after_move (cond t breach (deliver (a ++ body) f)) b o n (λ st. first_met m p ts st)))
      go true = tt
      go false = omega (arith, length-append a body)

  took_longer : (a : List ℕ) (x : Result Measured Refusal) (n f : ℕ) (pl : Place) → x ≡ Ok (Took n f pl) → Longer a x → length a ≤ n
  took_longer a x n f pl e h = rw e at h

  pub grows : (ts : List Token) (s : Stand) (a : List ℕ) (n f : ℕ) (pl : Place) → length a ≡ length_of s
      → measured (first_met m p ts (state_with a s)) ≡ Ok (Took n f pl) → length_of s ≤ n
  grows ts Fresh a n f pl e h = omega arith
  grows ts Marked a n f pl e h = omega arith
  grows ts (Within k g) a n f pl e h = let q = took_longer a _ n f pl h (within_grows ts a g) in omega (arith, q, e)
