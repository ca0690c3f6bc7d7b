-- What is laid into a buffer, one text after another.
-- Assumes nothing.
use Prim.Native.Nat.{ℕ, zero, suc, ◌+◌, ◌≤◌, ◌<◌}
use mathlib.Core.Path.{◌≡◌, refl, sym, ap, subst, ◌∙◌}
use mathlib.Core.List.{List, [], ◌∷◌, ◌++◌}
use lib.ListN.{length, get_or, drop, set, length-append}
use lib.Seq.{drop-cons}
use native.Mathlib.Omega.{arith}
use native.Mathlib.Nat.{not-suc-le-zero, le_of_suc-le-suc, zero-add, suc-add}
use native.Mathlib.Numerals.{add-one}
use Rattle.text.specs.declared.Text.{Text}
use Rattle.text.specs.Laid.{laid, Puts, Writes}

pub laid_length : (out : List ℕ) (at : ℕ) (text : List ℕ) → length (laid out at text) ≡ length out
unfolding laid
laid_length [] at text = refl
laid_length (x ∷ out) zero [] = refl
laid_length (x ∷ out) zero (c ∷ text) = ap suc (laid_length out zero text)
laid_length (x ∷ out) (suc at) text = ap suc (laid_length out at text)

pub laid_nothing : (out : List ℕ) (at : ℕ) → laid out at [] ≡ out
unfolding laid
laid_nothing [] at = refl
laid_nothing (x ∷ out) zero = refl
laid_nothing (x ∷ out) (suc at) = ap (λ (t : List ℕ). x ∷ t) (laid_nothing out at)

pub laid_outside : (out : List ℕ) (at : ℕ) (text : List ℕ) → length out ≤ at → laid out at text ≡ out
unfolding laid
laid_outside [] at text h = refl
laid_outside (x ∷ out) zero text h = absurd (not-suc-le-zero h)
laid_outside (x ∷ out) (suc at) text h = ap (λ (t : List ℕ). x ∷ t) (laid_outside out at text (le_of_suc-le-suc h))

pub laid_byte : (out : List ℕ) (at c : ℕ) → at < length out → set out at c ≡ laid out at (c ∷ [])
unfolding laid
laid_byte [] at c h = absurd (not-suc-le-zero h)
laid_byte (x ∷ out) zero c h = ap (λ (t : List ℕ). c ∷ t) (sym (laid_nothing out zero))
laid_byte (x ∷ out) (suc at) c h = ap (λ (t : List ℕ). x ∷ t) (laid_byte out at c (le_of_suc-le-suc h))

-- a text, and another right behind it
more_here : (out s t : List ℕ) → laid (laid out 0 s) (length s) t ≡ laid out 0 (s ++ t)
unfolding laid
more_here [] s t = refl
more_here (x ∷ out) [] t = refl
more_here (x ∷ out) (c ∷ s) t = ap (λ (u : List ℕ). c ∷ u) (more_here out s t)

pub laid_more : (out : List ℕ) (at : ℕ) (s t : List ℕ) → laid (laid out at s) (at + length s) t ≡ laid out at (s ++ t)
unfolding laid
laid_more [] at s t = refl
laid_more (x ∷ out) zero s t = ap (λ (n : ℕ). laid (laid (x ∷ out) 0 s) n t) (zero-add (length s)) ∙ more_here (x ∷ out) s t
laid_more (x ∷ out) (suc at) s t = ap (λ (n : ℕ). laid (laid (x ∷ out) (suc at) s) n t) (suc-add at (length s)) ∙ ap (λ (u : List ℕ). x ∷ u) (laid_more out at s t)

-- the same text, otherwise written
pub puts_as : {out out' : List ℕ} {at r : ℕ} {s t : List ℕ} → s ≡ t → Puts out out' at r s → Puts out out' at r t
puts_as {out = out} {out' = out'} {at = at} {r = r} e p = subst (λ (u : List ℕ). Puts out out' at r u) e p

-- What puts one text and then another puts both.
pub puts_more : {out out' out'' : List ℕ} {at r r' : ℕ} {s t : List ℕ} → Puts out out' at r s → Puts out' out'' r r' t → Puts out out'' at r' (s ++ t)
puts_more {out = out} {out' = out'} {at = at} {s = s} {t = t} h k =
    record {
      next = omega (arith, h.next, k.next, length-append s t);
      stands = k.stands ∙ ap (λ (n : ℕ). laid out' n t) h.next ∙ ap (λ (u : List ℕ). laid u (at + length s) t) h.stands ∙ laid_more out at s t;
    }

-- what was put has the buffer's length
pub puts_length : {out out' : List ℕ} {at r : ℕ} {text : List ℕ} → Puts out out' at r text → length out' ≡ length out
puts_length {out = out} {at = at} {text = text} h = ap length h.stands ∙ laid_length out at text

pub puts_none : (out : List ℕ) (at : ℕ) → Puts out out at at []
puts_none out at = record { next = omega arith; stands = sym (laid_nothing out at) }

-- What writes one text and then another writes both.
pub writes_more : {a b c : Text} {m n : ℕ} {s t : List ℕ} → Writes a b m s → Writes b c n t → Writes a c (m + n) (s ++ t)
writes_more h k = record { same = k.same ∙ h.same; puts = puts_more h.puts k.puts; within = omega (arith, h.within, k.within) }

-- the same text, otherwise written, within another bound
pub writes_as : {a b : Text} {m n : ℕ} {s t : List ℕ} → m ≤ n → s ≡ t → Writes a b m s → Writes a b n t
writes_as l e h = record { same = h.same; puts = puts_as e h.puts; within = omega (arith, l, h.within) }

pub writes_none : (a : Text) → Writes a a 0 []
writes_none a = record { same = refl; puts = puts_none a.out.now a.at; within = omega arith }

pub writes_from : {a a' b : Text} {most : ℕ} {text : List ℕ} → a ≡ a' → Writes a b most text → Writes a' b most text
writes_from {b = b} {most = most} {text = text} e h = subst (λ (t : Text). Writes t b most text) e h

-- what was put behind the index that the text began at
pub puts_from : {out : List ℕ} {at most : ℕ} {a b : Text} {text : List ℕ} → (a.out.now ≡ out) × (a.at ≡ at) → Writes a b most text
    → Puts out b.out.now at b.at text
puts_from {at = at} {a = a} {b = b} {text = text} e h =
    subst (λ (o : List ℕ). Puts o b.out.now at b.at text) e.0 (subst (λ (i : ℕ). Puts a.out.now b.out.now i b.at text) e.1 h.puts)

-- A loop that puts a text piece by piece keeps this: what puts the rest from here puts the whole. (The bound says nothing: the loop has its own.)
abbrev pub Rest : Text → List ℕ → Text → List ℕ → Type 0
Rest first text now rest = (after : Text) → Writes now after after.at rest → Writes first after after.at text

pub rest_more : {first a b : Text} {most : ℕ} {text piece more rest : List ℕ} → Rest first text a rest → rest ≡ piece ++ more → Writes a b most piece
    → Rest first text b more
rest_more h e p after k = h after (record { same = k.same ∙ p.same; puts = puts_as (sym e) (puts_more p.puts k.puts); within = omega arith })

-- the byte at an index, and the rest behind it
pub rest_byte : {first a b : Text} {most : ℕ} {text : List ℕ} (s : List ℕ) (i : ℕ) → Rest first text a (drop i s) → i < length s
    → Writes a b most (get_or s i 0 ∷ []) → Rest first text b (drop (i + 1) s)
rest_byte s i h l p = rest_more h (rw (add-one, drop-cons s i 0)) p

pub rest_end : {first a : Text} {most : ℕ} {text rest : List ℕ} → Rest first text a rest → rest ≡ [] → a.at ≤ first.at + most → Writes first a most text
rest_end {a = a} h e l =
    let w = h a (writes_as (omega arith) (sym e) (writes_none a)) in
    record { same = w.same; puts = w.puts; within = l }
