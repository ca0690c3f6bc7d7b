-- What is put where there is room for all of it is laid over the bytes there.
-- Assumes nothing.
use Prim.Native.Nat.{ℕ, zero, suc, ◌+◌, ◌-◌, ◌<◌, ◌≤◌}
use mathlib.Core.Path.{◌≡◌, refl, sym, ap, ◌∙◌}
use mathlib.Core.List.{List, [], ◌∷◌, ◌++◌, append-nil}
use lib.ListN.{length, get_or, take, drop, set, drop_of_length-le}
use lib.Seq.{take_all, drop-drop}
use native.Mathlib.Omega.{arith}
use native.Mathlib.Nat.{not-suc-le-zero, le_of_suc-le-suc}
use native.Mathlib.Numerals.{add-one}
use borrow.Author.Tests.{eq-eqb, ne_eqb}
use Rattle.standard.specs.Characters.{bytes, padded}
use Rattle.standard.specs.Layout.{k_at, kind_offset, slot_ordinal, label_offset}
use Rattle.standard.specs.Addresses.{five_bytes}
use Rattle.standard.specs.Writing.{splice, unused_field, set_label}
use Rattle.standard.specs.Creating.{store_slot}
use Rattle.standard.specs.declared.Geometry.{Geometry}
use Rattle.standard.specs.declared.Address.{Address}
use Rattle.promises.specs.Ground.Digits.{padded_length}
use Rattle.text.specs.Laid.{laid, Puts}
use Rattle.text.proofs.LaidLaws.{laid_byte}

here : (out text : List ℕ) → length text ≤ length out → laid out 0 text ≡ text ++ drop (length text) out
unfolding laid
here [] [] h = refl
here [] (c ∷ text) h = absurd (not-suc-le-zero h)
here (x ∷ out) [] h = refl
here (x ∷ out) (c ∷ text) h = ap (λ (t : List ℕ). c ∷ t) (here out text (omega arith))

pub laid_splice : (out : List ℕ) (at : ℕ) (text : List ℕ) → at + length text ≤ length out → laid out at text ≡ splice at text out
unfolding splice laid
laid_splice out zero text h = here out text (omega arith) ∙ ap (λ (k : ℕ). text ++ drop k out) (plus_zero (length text))
  where
    plus_zero : (n : ℕ) → n ≡ 0 + n
    plus_zero n = omega arith
laid_splice [] (suc at) text h = absurd (omega arith)
laid_splice (x ∷ out) (suc at) text h =
    ap (λ (t : List ℕ). x ∷ t) (laid_splice out at text (omega arith))
    ∙ ap (λ (k : ℕ). x ∷ (take at out ++ (text ++ drop k (x ∷ out)))) (suc_plus at (length text))
  where
    suc_plus : (m n : ℕ) → suc (m + n) ≡ suc m + n
    suc_plus m n = omega arith

put_splice : {out out' : List ℕ} {at r : ℕ} {text : List ℕ} → Puts out out' at r text → at + length text ≤ length out → out' ≡ splice at text out
put_splice {out = out} {at = at} {text = text} p h = p.stands ∙ laid_splice out at text h

pub put_five : {out out' : List ℕ} {at r : ℕ} (n : ℕ) → Puts out out' at r (padded 5 n) → at + 5 ≤ length out → out' ≡ splice at (padded 5 n) out
put_five n p h = put_splice p (rw (padded_length 5 n) h)

-- "U (spaces for 0)"
pub put_none : {out out' : List ℕ} {at r : ℕ} (U : ℕ) → Puts out out' at r (bytes "     ") → U ≡ 0 → at + 5 ≤ length out → out' ≡ splice at (unused_field U) out
put_none {out = out} {at = at} U p e h =
    let none : unused_field U ≡ bytes "     " = rw (eq-eqb U 0 e) in
    put_splice p h ∙ ap (λ (t : List ℕ). splice at t out) (sym none)

pub put_some : {out out' : List ℕ} {at r : ℕ} (U : ℕ) → Puts out out' at r (padded 5 U) → (U ≡ 0 → ⊥) → at + 5 ≤ length out → out' ≡ splice at (unused_field U) out
put_some {out = out} {at = at} U p e h =
    let some : unused_field U ≡ padded 5 U = rw (ne_eqb U 0 e) in
    put_five U p h ∙ ap (λ (t : List ℕ). splice at t out) (sym some)

-- one field and then the other, from the label's first byte on
pub set_both : (g : Geometry) (slot U o : ℕ) (end : Address) (image once twice : List ℕ) → o ≡ label_offset g slot → once ≡ splice (o + 57) (unused_field U) image
    → twice ≡ splice (o + 74) (five_bytes end) once → twice ≡ set_label g slot U end image
unfolding set_label
set_both g slot U o end image once twice at p q =
    q ∙ ap (splice (o + 74) (five_bytes end)) p
    ∙ ap (λ (n : ℕ). splice (n + 74) (five_bytes end) (splice (n + 57) (unused_field U) image)) at

-- bytes over as many others: the first of them, and the rest of the others
abbrev pub over : List ℕ → List ℕ → ℕ → List ℕ
over new old i = take i new ++ drop i old

over_next : (new old : List ℕ) (i : ℕ) → length old ≡ length new → i < length new → set (over new old i) i (get_or new i 0) ≡ over new old (suc i)
over_next [] old i e h = absurd (not-suc-le-zero h)
over_next (x ∷ new) [] i e h = absurd (omega arith)
over_next (x ∷ new) (y ∷ old) zero e h = refl
over_next (x ∷ new) (y ∷ old) (suc i) e h = ap (λ (t : List ℕ). x ∷ t) (over_next new old i (omega arith) (le_of_suc-le-suc h))

pub over_more : (new old : List ℕ) (i : ℕ) → length old ≡ length new → i < length new → set (over new old i) i (get_or new i 0) ≡ over new old (i + 1)
over_more new old i e h = rw add-one (over_next new old i e h)

pub over_all : (new old : List ℕ) (i : ℕ) → length old ≡ length new → length new ≤ i → over new old i ≡ new
over_all new old i e h =
    let n : length old ≤ i = omega arith in
    rw (take_all, drop_of_length-le old n) (append-nil new)

-- a part that was lent, with other bytes in it
pub lent_over : (at : ℕ) (new image part : List ℕ) → part ≡ new → take at image ++ (part ++ drop (at + length new - at) (drop at image)) ≡ splice at new image
unfolding splice
lent_over at new image part e =
    let n : at + (at + length new - at) ≡ at + length new = omega arith in
    rw (e, drop-drop, n)

-- a kind, and then bytes
pub store_both : (g : Geometry) (slot mark k o m : ℕ) (new image stored : List ℕ) → k ≡ kind_offset g (slot_ordinal slot) → m ≡ mark + k_at g (slot_ordinal slot)
    → o ≡ label_offset g slot → k < length image → stored ≡ splice o new (set image k m) → stored ≡ store_slot g slot mark new image
unfolding store_slot
store_both g slot mark k o m new image stored at kind from h e =
    e ∙ ap (splice o new) (laid_byte image k m h ∙ laid_splice image k (m ∷ []) (omega arith)) ∙ rw (at, kind, from)
