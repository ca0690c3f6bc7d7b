-- One length more: what the loops over a list of lengths keep.
-- Assumes nothing.
use Rattle.std.specs.Prelude.{Result, Ok, Err, ⊤}
use Prim.Native.Nat.{ℕ, ◌+◌, ◌-◌, ◌<◌, ◌≤◌}
use mathlib.Core.Path.{◌≡◌, refl, sym, ap, ◌∙◌}
use mathlib.Core.Bool.{Bool, true, false, cond}
use mathlib.Core.List.{List, [], ◌∷◌}
use lib.ListN.{length, get_or, drop, drop_of_length-le}
use lib.Seq.{drop-cons}
use lib.Dec.{eqb}
use native.Mathlib.Omega.{arith}
use native.Mathlib.Numerals.{add-one}
use borrow.Author.Tests.{eq-eqb, ne_eqb}
use Rattle.standard.specs.Refusals.{refuse}
use Rattle.standard.specs.Labels.{Format, format_of, block_length, record_length}
use Rattle.standard.specs.Writing.{total, wrong_in, wrong_length, lengths_from}
use Rattle.promises.specs.Ground.Basics.{either, eq_or_not}
use Rattle.promises.specs.Ground.Lists.{every_at}
use Rattle.promises.specs.Writing.StoreLaws.{total_drop}
use Rattle.promises.specs.Writing.NeededLaws.{Level as LevelOf, level_of, least_for, placed, level_from, FitsIn, EachFits}
use Rattle.promises.proofs.Writing.NeededLaws.{level_next, least_most, six_left}
use Rattle.sizing.specs.Lists.{wrong_from, Stands}
use Rattle.standard.specs.declared.Refusal.{Refusal}
use Rattle.sizing.specs.declared.Level.{Level}

-- ---- the sum
total_none : (lengths : List ℕ) (i : ℕ) → length lengths ≤ i → total (drop i lengths) ≡ 0
unfolding total
total_none lengths i h = ap total (drop_of_length-le lengths h)

pub sum_over : (lengths : List ℕ) (i left size n : ℕ) → i < length lengths → n ≡ get_or lengths i 0 → total lengths + left ≡ size + total (drop i lengths) → left < n
    → false ≡ eqb (total lengths) size
sum_over lengths i left size n h g e l = sym (ne_eqb (total lengths) size (λ (q : total lengths ≡ size). omega (arith, total_drop lengths i h)))

pub sum_end : (lengths : List ℕ) (i left size : ℕ) → length lengths ≤ i → total lengths + left ≡ size + total (drop i lengths) → eqb left 0 ≡ eqb (total lengths) size
sum_end lengths i left size h e =
    let z = total_none lengths i h in
    either (eq_or_not left 0)
    (λ (q : left ≡ 0). eq-eqb left 0 q ∙ sym (eq-eqb (total lengths) size (omega arith)))
    (λ (q : left ≡ 0 → ⊥). ne_eqb left 0 q ∙ sym (ne_eqb (total lengths) size (λ (k : total lengths ≡ size). q (omega arith))))

-- ---- the first wrong length: refusal 26 looks at the format, B and R alone
pub wrong_is : (h : List ℕ) (i : ℕ) (lengths : List ℕ) → lengths_from h i lengths ≡ wrong_from (format_of h) (block_length h) (record_length h) i lengths
unfolding lengths_from wrong_from wrong_length
wrong_is h i [] = refl
wrong_is h i (n ∷ lengths) = ap (λ (c : Result ⊤ Refusal). cond (wrong_length h n) (Err (refuse 26 i)) c) (wrong_is h (i + 1) lengths)

pub wrong_next : (f : Format) (B R : ℕ) (lengths : List ℕ) (i : ℕ) → i < length lengths → wrong_in f B R (get_or lengths i 0) ≡ false
    → wrong_from f B R i (drop i lengths) ≡ wrong_from f B R (i + 1) (drop (i + 1) lengths)
unfolding wrong_from
wrong_next f B R lengths i h e = rw (drop-cons lengths i 0, add-one) (simp e)

pub wrong_stop : (f : Format) (B R : ℕ) (lengths : List ℕ) (i : ℕ) → i < length lengths → wrong_in f B R (get_or lengths i 0) ≡ true
    → wrong_from f B R i (drop i lengths) ≡ Err (refuse 26 i)
unfolding wrong_from
wrong_stop f B R lengths i h e = rw (drop-cons lengths i 0) (simp e)

pub wrong_none : (f : Format) (B R : ℕ) (lengths : List ℕ) (i : ℕ) → length lengths ≤ i → wrong_from f B R i (drop i lengths) ≡ Ok tt
unfolding wrong_from
wrong_none f B R lengths i h = ap (wrong_from f B R i) (drop_of_length-le lengths h)

-- ---- where a writer stands
pub level_none : (f : Format) (bl : Bool) (B room blocks : ℕ) (lengths : List ℕ) (i : ℕ) → length lengths ≤ i → level_from f bl B room blocks (drop i lengths) ≡ level_of room blocks
unfolding level_from
level_none f bl B room blocks lengths i h = ap (level_from f bl B room blocks) (drop_of_length-le lengths h)

pub fits_at : (f : Format) (B : ℕ) (lengths : List ℕ) (i : ℕ) → i < length lengths → EachFits f B lengths → FitsIn f B (get_or lengths i 0)
fits_at f B lengths i h e = every_at (FitsIn f B) lengths e i h 0

-- ---- one record of S
-- where a segment does not end, it takes a byte at least; the next block has room for one
pub takes_one : (B room n : ℕ) → room < 5 + n → least_for n ≤ room → least_for n ≤ B → (6 ≤ room) × (least_for (n - (room - 5)) ≤ B)
takes_one B room n l h hb =
    let on = six_left n room B l h hb in
    let more = least_most (n - (room - 5)) in
    (on.0, omega arith)

-- the code's level stands where another does that is the same
pub stands_as : (l : Level) {j k : LevelOf} → j ≡ k → Stands l k → Stands l j
stands_as l e s = (s.0 ∙ sym (ap (λ (m : LevelOf). m.room) e), s.1 ∙ sym (ap (λ (m : LevelOf). m.blocks) e))

pub level_to : (f : Format) (bl : Bool) (B room blocks : ℕ) (lengths : List ℕ) (i : ℕ) (l : Level) (n : ℕ) → i < length lengths → n ≡ get_or lengths i 0
    → Stands l (placed f bl B room blocks n) → level_from f bl B room blocks (drop i lengths) ≡ level_from f bl B l.room l.blocks (drop (i + 1) lengths)
level_to f bl B room blocks lengths i l n h e s =
    let k : LevelOf = placed f bl B room blocks n in
    level_next f bl B room blocks lengths i h
    ∙ ap (λ (m : ℕ). level_from f bl B (placed f bl B room blocks m).room (placed f bl B room blocks m).blocks (drop (i + 1) lengths)) (sym e)
    ∙ ap (λ (m : ℕ). level_from f bl B m k.blocks (drop (i + 1) lengths)) (sym s.0)
    ∙ ap (λ (m : ℕ). level_from f bl B l.room m (drop (i + 1) lengths)) (sym s.1)
