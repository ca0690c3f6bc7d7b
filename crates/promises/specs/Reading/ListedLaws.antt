-- So many readings give so much of the declared list.
-- Assumes nothing.
use Prim.Native.Nat.{ℕ, zero, suc, ◌<◌, ◌≤◌}
use Rattle.std.specs.Prelude.{◌≡◌, List, [], ◌∷◌, length, take}
use Rattle.std.proofs.Math.Path.{refl}
use Rattle.std.proofs.Common.{sym, ap, subst, ◌∙◌, take_all, not-suc-le-zero, le_of_suc-le-suc}
use Rattle.std.proofs.Math.Seq.{take-nil}
use native.Mathlib.Omega.{arith}
use Rattle.standard.specs.Pieces.{Token, part, bad, lost, in_blocks}
use Rattle.standard.specs.Records.{Mode, plain, salvage, File, Met, took, gapped, ended, refused as refusedBy, State, fresh, marked, within, Move, deliver, carry, breach, meet, step}
use Rattle.standard.specs.Listed.{Item, rec, gap, end, no, follow, read_on, enough, read_all, join_move, join_end, join_lost, join, listed, state_after_gap}
use Rattle.standard.specs.Places.{start}
use Rattle.standard.specs.Labels.{Params}
use Rattle.standard.specs.declared.Place.{Place}
use Rattle.promises.specs.Ground.Basics.{either, lt_or_le}
use Rattle.promises.specs.Reading.ReadingLaws.{read_all_listed}

-- fewer readings give the beginning of what more give
module _ (m : Mode) (f : File) where
  take_on : (n k : ℕ) → ((pl : Place) → read_on n m f pl ≡ take n (read_on k m f pl)) → (s : Met)
      → follow s (λ pl. read_on n m f pl) ≡ take (suc n) (follow s (λ pl. read_on k m f pl))
  take_on n k ih (took r pl) = ap (λ (l : List Item). rec r ∷ l) (ih pl)
  take_on n k ih (gapped b pl) = ap (λ (l : List Item). gap b ∷ l) (ih pl)
  take_on n k ih ended = rw (take-nil {A = Item} n)
  take_on n k ih (refusedBy x) = rw (take-nil {A = Item} n)

  pub fewer : (n k : ℕ) → n ≤ k → (pl : Place) → read_on n m f pl ≡ take n (read_on k m f pl)
  unfolding read_on
  fewer zero k h pl = refl
  fewer (suc n) zero h pl = absurd (not-suc-le-zero h)
  fewer (suc n) (suc k) h pl = take_on n k (λ pl'. fewer n k (le_of_suc-le-suc h) pl') (step m f pl)

  length_on : (n : ℕ) → ((pl : Place) → length (read_on n m f pl) ≤ n) → (s : Met) → length (follow s (λ pl. read_on n m f pl)) ≤ suc n
  length_on n ih (took r pl) = omega (arith, ih pl)
  length_on n ih (gapped b pl) = omega (arith, ih pl)
  length_on n ih ended = omega arith
  length_on n ih (refusedBy x) = omega arith

  pub length_read : (n : ℕ) (pl : Place) → length (read_on n m f pl) ≤ n
  unfolding read_on
  length_read zero pl = omega arith
  length_read (suc n) pl = length_on n (λ pl'. length_read n pl') (step m f pl)

-- a list that ends in End or in a refusal, the only one: no reading can be added to it
abbrev pub Closed : List Item → Type 0
Closed [] = ⊥
Closed (rec r ∷ is) = Closed is
Closed (gap b ∷ is) = Closed is
Closed (end ∷ is) = is ≡ []
Closed (no x ∷ is) = is ≡ []

module _ (m : Mode) (f : File) where
  closed_on : (n k : ℕ) → ((pl : Place) → Closed (read_on n m f pl) → read_on k m f pl ≡ read_on n m f pl) → (s : Met)
      → Closed (follow s (λ pl. read_on n m f pl)) → follow s (λ pl. read_on k m f pl) ≡ follow s (λ pl. read_on n m f pl)
  closed_on n k ih (took r pl) c = ap (λ (l : List Item). rec r ∷ l) (ih pl c)
  closed_on n k ih (gapped b pl) c = ap (λ (l : List Item). gap b ∷ l) (ih pl c)
  closed_on n k ih ended c = refl
  closed_on n k ih (refusedBy x) c = refl

  pub more : (n k : ℕ) → n ≤ k → (pl : Place) → Closed (read_on n m f pl) → read_on k m f pl ≡ read_on n m f pl
  unfolding read_on
  more zero k h pl c = absurd c
  more (suc n) zero h pl c = absurd (not-suc-le-zero h)
  more (suc n) (suc k) h pl c = closed_on n k (λ pl' c'. more n k (le_of_suc-le-suc h) pl' c') (step m f pl) c

move_closed : (mv : Move) (b o : ℕ) (ms : State → List Item) → ((st : State) → Closed (ms st)) → Closed (join_move mv b o ms)
move_closed (deliver body f) b o ms h = h fresh
move_closed (carry st) b o ms h = h st
move_closed breach b o ms h = refl

end_closed : (st : State) → Closed (join_end st ∷ [])
end_closed fresh = refl
end_closed marked = refl
end_closed (within body f) = refl

lost_closed : (m : Mode) (b : ℕ) (is : List Item) → Closed is → Closed (join_lost m b is)
lost_closed plain b is h = refl
lost_closed salvage b is h = h

pub join_closed : (m : Mode) (p : Params) (ts : List Token) (st : State) → Closed (join m p ts st)
unfolding join
join_closed m p [] st = end_closed st
join_closed m p (part k body b o n ∷ ts) st = move_closed (meet p st k body b) b o (λ st'. join m p ts st') (λ st'. join_closed m p ts st')
join_closed m p (bad b o ∷ ts) st = refl
join_closed m p (lost b ∷ ts) st = lost_closed m b _ (join_closed m p ts (state_after_gap p.format))

pub listed_closed : (m : Mode) (f : File) → Closed (listed m f)
unfolding listed
listed_closed m f = join_closed m f.params (in_blocks f.params 0 f.blocks) fresh

-- N READINGS GIVE THE FIRST N OF THE DECLARED LIST
pub read_on_listed : (n : ℕ) (m : Mode) (f : File) → read_on n m f start ≡ take n (listed m f)
unfolding read_all
read_on_listed n m f =
    let k : ℕ = enough f.blocks in
    let e : read_on k m f start ≡ listed m f = read_all_listed m f in
    either (lt_or_le n k)
    (λ (l : n < k). fewer m f n k (omega arith) start ∙ ap (take n) e)
    (λ (l : k ≤ n).
    let same : read_on n m f start ≡ listed m f = more m f k n l start (subst Closed (sym e) (listed_closed m f)) ∙ e in
    let short : length (listed m f) ≤ n = rw same at (length_read m f n start) in
    same ∙ sym (take_all n (listed m f) short))
