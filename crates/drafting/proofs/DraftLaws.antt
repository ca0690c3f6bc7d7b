-- The label from the fields as they are laid, and the proposal's fault from what is asked in turn.
-- Assumes nothing.
use Prim.Native.Nat.{ℕ, ◌<◌, ◌≤◌}
use Rattle.std.specs.Prelude.{min, Option, Some, None, unwrap_or}
use mathlib.Core.Path.{◌≡◌, refl, sym, ap, ◌∙◌}
use mathlib.Core.Bool.{Bool, true, false, cond}
use mathlib.Core.List.{List}
use lib.ListN.{length}
use lib.Dec.{ltb, eqb}
use borrow.Author.Tests.{eq-eqb, ne_eqb, eqb-false, lt-ltb, le-ltb}
use native.Mathlib.Omega.{arith}
use Rattle.promises.specs.Ground.Basics.{either, lt_or_le}
use Rattle.fields.specs.Numbers.{fault_in}
use Rattle.drafting.specs.Added.{added_to}
use Rattle.standard.specs.Addresses.{first_address}
use Rattle.standard.specs.Labels.{known_level, label_fault}
use Rattle.standard.specs.Creating.{blank, proposed, proposal_fault}
use Rattle.standard.specs.declared.Geometry.{Geometry}
use Rattle.standard.specs.declared.Address.{Address}
use Rattle.promises.specs.Making.Drafts.{given_laid, extent_laid, proposed_laid}
use Rattle.promises.specs.Making.AddedRows.{added, right_length}

-- the fields given and the extent, over spaces
pub draft_is : (w : List ℕ) (start end : Address) (given label : List ℕ) → length w ≡ 29 → given ≡ given_laid w (blank 128)
    → label ≡ extent_laid start end given → label ≡ proposed w start end
draft_is w start end given label l e f = f ∙ ap (extent_laid start end) e ∙ proposed_laid w l start end

-- a condition added to a fault, and to the position of the lowest
low_is : (q p : ℕ) → min p q ≡ cond (ltb q p) q p
low_is q p =
    either (lt_or_le q p) (λ (h : q < p). rw (lt-ltb q p h) (omega arith)) (λ (h : p ≤ q). rw (le-ltb q p h) (omega arith))

added_in : (q p : ℕ) (t : Bool) → 0 < q → added_to q t (fault_in p) ≡ fault_in (added q t p)
unfolding fault_in
added_in q p true l = refl
added_in q p false l = go (eqb p 0) refl
  where
    go : (z : Bool) → eqb p 0 ≡ z
        → Some (min (unwrap_or (cond z None (Some p)) q) q) ≡ cond (eqb (cond z q (cond (ltb q p) q p)) 0) None (Some (cond z q (cond (ltb q p) q p)))
    go true e = simp (ne_eqb q 0 (λ (z : q ≡ 0). omega arith)) (ap Some (omega arith))
    go false e =
        let k : cond (ltb q p) q p ≡ min p q = sym (low_is q p) in
        rw k (simp (ne_eqb (min p q) 0 (λ (z : min p q ≡ 0). omega (arith, eqb-false p 0 e))))

-- of 29 bytes: the draft's fault, then the level, then n
pub fault_is : (g : Geometry) (w : List ℕ) (n : ℕ) (first : Address) (label : List ℕ) (known : Bool) (fault level r : Option ℕ) → length w ≡ 29 → first ≡ first_address
    → label ≡ proposed w first first → fault ≡ fault_in (label_fault g label) → known ≡ known_level label → level ≡ added_to 44 known fault
    → r ≡ added_to 35 (ltb 0 n) level → r ≡ fault_in (proposal_fault g w n)
fault_is g w n first label known fault level r l a d f k e4 e3 =
    let p = label_fault g (proposed w first_address first_address) in
    let t = known_level (proposed w first_address first_address) in
    rw (e3, e4, k, f, d, a)
    (ap (added_to 35 (ltb 0 n)) (added_in 44 p t (omega arith)) ∙ added_in 35 (added 44 t p) (ltb 0 n) (omega arith)
    ∙ ap fault_in (sym (right_length g w n (eq-eqb (length w) 29 l))))
