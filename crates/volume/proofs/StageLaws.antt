-- "Volume order is 1 to 12": the judgement stops at a stage, or goes on behind it.
-- Assumes nothing.
use Rattle.std.specs.Prelude.{Result, Ok, Err, ⊤}
use Prim.Native.Nat.{ℕ, suc, ◌<◌, ◌≤◌}
use mathlib.Core.Path.{◌≡◌, refl}
use mathlib.Core.Bool.{Bool, true, false, not}
use mathlib.Core.List.{List}
use lib.ListN.{get_or}
use lib.Seq.{drop-cons}
use lib.Dec.{ltb, eqb}
use borrow.Author.Tests.{lt-ltb, le-ltb, eq-eqb, ne_eqb}
use Rattle.standard.specs.Refusals.{refuse, given_when, in_order}
use Rattle.standard.specs.Layout.{index_kind}
use Rattle.standard.specs.Judgement.{judged, volume_of, volume_list, volume_refusal, refusal2}
use Rattle.standard.specs.declared.Geometry.{Geometry}
use Rattle.standard.specs.declared.Refusal.{Refusal}
use Rattle.volume.specs.Stages.{judged_from}

-- "Given when"
pub given : (t : Bool) (r : Refusal) → t ≡ true → given_when t r ≡ Err r
unfolding given_when
given t r e = rw e

pub not_given : (t : Bool) (r : Refusal) → t ≡ false → given_when t r ≡ Ok tt
unfolding given_when
not_given t r e = rw e

-- a number that says a fault
pub fault_given : (n f : ℕ) → 0 < f → given_when (ltb 0 f) (refuse n f) ≡ Err (refuse n f)
fault_given n f h = given (ltb 0 f) (refuse n f) (lt-ltb 0 f h)

pub no_fault : (n f : ℕ) → f ≤ 0 → given_when (ltb 0 f) (refuse n f) ≡ Ok tt
no_fault n f h = not_given (ltb 0 f) (refuse n f) (le-ltb 0 f h)

-- two numbers that must be equal
pub differ_given : (a b : ℕ) (r : Refusal) → (a ≡ b → ⊥) → given_when (not (eqb a b)) r ≡ Err r
differ_given a b r h = given (not (eqb a b)) r (rw (ne_eqb a b h))

pub equal_passed : (a b : ℕ) (r : Refusal) → a ≡ b → given_when (not (eqb a b)) r ≡ Ok tt
equal_passed a b r h = not_given (not (eqb a b)) r (rw (eq-eqb a b h))

-- a stage: stop here, or go on
module _ (image : List ℕ) (g : Geometry) where
  abbrev pub stage : ℕ → Result ⊤ Refusal
  stage n = get_or (volume_list image g) n (Ok tt)

  pub stop_here : (n : ℕ) (r : Refusal) → n < 10 → stage n ≡ Err r → Err r ≡ judged_from n image g
  unfolding judged_from in_order
  stop_here n r l e = rw (drop-cons (volume_list image g) n (Ok tt) l, e)

  pub go_on : (n : ℕ) (j : Result Geometry Refusal) → n < 10 → stage n ≡ Ok tt → j ≡ judged_from (suc n) image g → j ≡ judged_from n image g
  unfolding judged_from in_order
  go_on n j l e h = rw (drop-cons (volume_list image g) n (Ok tt) l, e) h

  pub all_passed : Ok g ≡ judged_from 10 image g
  unfolding judged_from in_order
  all_passed = refl

pub from_first : (image : List ℕ) → judged_from 0 image (volume_of image) ≡ judged image
unfolding judged volume_refusal judged_from
from_first image = refl

-- 2 "sector 05, then 07, kind not 0", sector
module _ (image : List ℕ) where
  pub kind_5 : (index_kind image 5 ≡ 0 → ⊥) → refusal2 image ≡ Err (refuse 2 5)
  unfolding in_order
  kind_5 h = rw (differ_given (index_kind image 5) 0 (refuse 2 5) h)

  pub kind_7 : index_kind image 5 ≡ 0 → (index_kind image 7 ≡ 0 → ⊥) → refusal2 image ≡ Err (refuse 2 7)
  unfolding in_order
  kind_7 e h = rw (equal_passed (index_kind image 5) 0 (refuse 2 5) e, differ_given (index_kind image 7) 0 (refuse 2 7) h)

  pub kinds_0 : index_kind image 5 ≡ 0 → index_kind image 7 ≡ 0 → refusal2 image ≡ Ok tt
  unfolding in_order
  kinds_0 e h = rw (equal_passed (index_kind image 5) 0 (refuse 2 5) e, equal_passed (index_kind image 7) 0 (refuse 2 7) h)
