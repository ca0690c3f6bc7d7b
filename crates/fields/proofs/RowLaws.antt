-- A table's rows in order: at each row the code has the rule's verdict, and gives the position or goes on.
-- Assumes nothing.
use Prim.Native.Nat.{ℕ, ◌<◌}
use mathlib.Core.Path.{◌≡◌, refl, sym, ◌∙◌}
use mathlib.Core.Bool.{Bool, true, false, cond, not}
use mathlib.Core.List.{List, [], ◌∷◌}
use lib.Dec.{eqb}
use native.Mathlib.Omega.{arith}
use borrow.Author.Tests.{eqb-true, eqb-false, not-true, not-false}
use Rattle.standard.specs.Characters.{one_of, a_set}
use Rattle.standard.specs.Rules.{Row, row, lowest_fault}
use Rattle.fields.specs.Numbers.{perhaps, fault_in}
use Rattle.std.specs.declared.option.Option.{Option}
use Rattle.std.specs.declared.option.Option.TheVariants.{Some, None}
use Rattle.fields.proofs.PerhapsLaws.{test_holds, test_fails}

fault_at : (p : ℕ) (h : Bool) (rows : List Row) → eqb p 0 ≡ false → h ≡ false → Some p ≡ fault_in (lowest_fault (row p h ∷ rows))
unfolding lowest_fault fault_in
fault_at p h rows q e = simp (e, q)

fault_past : (n : Option ℕ) (p : ℕ) (h : Bool) (rows : List Row) → h ≡ true → n ≡ fault_in (lowest_fault rows) → n ≡ fault_in (lowest_fault (row p h ∷ rows))
unfolding lowest_fault
fault_past n p h rows t e = simp t e

-- a verdict r
pub fault_here : {r : Bool} (p : ℕ) (h : Bool) (rows : List Row) → eqb p 0 ≡ false → not r ≡ true → r ≡ h → Some p ≡ fault_in (lowest_fault (row p h ∷ rows))
fault_here {r = r} p h rows q t e = fault_at p h rows q (sym e ∙ not-true r t)

pub fault_next : {r : Bool} (n : Option ℕ) (p : ℕ) (h : Bool) (rows : List Row) → not r ≡ false → r ≡ h → n ≡ fault_in (lowest_fault rows) → n ≡ fault_in (lowest_fault (row p h ∷ rows))
fault_next {r = r} n p h rows t q e = fault_past n p h rows (sym q ∙ not-false r t) e

pub verdict_holds : {r : Bool} (h : Bool) → not r ≡ false → r ≡ h → h ≡ true
verdict_holds {r = r} h t e = sym e ∙ not-false r t

-- a number that is there if the rule holds
pub fault_unread : {x : Option ℕ} (m p : ℕ) (h : Bool) (rows : List Row) → eqb p 0 ≡ false → x ≡ None → x ≡ perhaps h m → Some p ≡ fault_in (lowest_fault (row p h ∷ rows))
fault_unread m p h rows q t e = fault_at p h rows q (test_fails h m (sym e ∙ t))

pub fault_read : {x : Option ℕ} {k : ℕ} (m : ℕ) (n : Option ℕ) (p : ℕ) (h : Bool) (rows : List Row) → x ≡ Some k → x ≡ perhaps h m → n ≡ fault_in (lowest_fault rows) → n ≡ fault_in (lowest_fault (row p h ∷ rows))
fault_read {k = k} m n p h rows t q e = fault_past n p h rows (test_holds h m k (sym q ∙ t)) e

pub fault_none : None ≡ fault_in (lowest_fault [])
unfolding lowest_fault fault_in
fault_none = refl

-- what such an answer says of the lowest fault p
module _ (p : ℕ) where
  pub faultless : {x : Option ℕ} → x ≡ None → x ≡ fault_in p → p ≡ 0
  unfolding fault_in
  faultless e q = go (eqb p 0) refl (sym q ∙ e)
    where
      go : (t : Bool) → eqb p 0 ≡ t → cond t None (Some p) ≡ None → p ≡ 0
      go true h k = eqb-true p 0 h
      go false h k = cc

  pub fault_is : {x : Option ℕ} {n : ℕ} → x ≡ Some n → x ≡ fault_in p → n ≡ p
  unfolding fault_in
  fault_is {n = n} e q = go (eqb p 0) (sym q ∙ e)
    where
      go : (t : Bool) → cond t None (Some p) ≡ Some n → n ≡ p
      go true h = cc
      go false h = cc

  pub fault_some : {x : Option ℕ} {n : ℕ} → x ≡ Some n → x ≡ fault_in p → 0 < n
  unfolding fault_in
  fault_some {n = n} e q = go (eqb p 0) refl (sym q ∙ e)
    where
      go : (t : Bool) → eqb p 0 ≡ t → cond t None (Some p) ≡ Some n → 0 < n
      go true h k = absurd cc
      go false h k = let i : p ≡ n = cc in omega (arith, eqb-false p 0 h)

-- a verdict on a character that was read before it
pub one_of_read : {r : Bool} {c : ℕ} (xs : List ℕ) (b : ℕ) → r ≡ one_of xs c → c ≡ b → r ≡ one_of xs b
one_of_read xs b e q = cc

pub a_set_read : {r : Bool} {c : ℕ} (b : ℕ) → r ≡ a_set c → c ≡ b → r ≡ a_set b
a_set_read b e q = cc

-- At a return of such a table `search rows` finds the verdicts: of the rows before, which hold, and of the row whose position it gives. Where some rows read a
-- number, `search (rows, read-rows)`.
pub ruleset rows = (fault_here, fault_next, fault_none, one_of_read, a_set_read, refl)

pub ruleset read-rows = (fault_unread, fault_read)
