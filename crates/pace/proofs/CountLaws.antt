-- Counting answers: one more, none more, and the bound.
-- Assumes nothing.
use Prim.Native.Nat.{ℕ, suc, ◌+◌, ◌-◌, ◌<◌, ◌≤◌}
use mathlib.Core.Path.{◌≡◌, sym, ap, ◌∙◌}
use mathlib.Core.List.{List}
use native.Mathlib.Omega.{arith}
use Rattle.std.specs.Prelude.{Option, Some, None, Result}
use Rattle.standard.specs.Records.{Mode}
use Rattle.standard.specs.Reading.{reply}
use Rattle.standard.specs.Places.{start}
use Rattle.standard.specs.declared.Place.{Place}
use Rattle.standard.specs.declared.Answer.{Answer}
use Rattle.standard.specs.declared.Refusal.{Refusal}
use Rattle.pace.specs.Answers.{led_by, count_on, answers_from}

-- nothing is counted at first
pub answers_start : (m : Mode) (image : List ℕ) (slot room most : ℕ) (pl : Place) → pl ≡ start → answers_from m image slot room most start ≡ 0 + answers_from m image slot room most pl
answers_start m image slot room most pl h = omega (arith, ap (λ (p : Place). answers_from m image slot room most p) h)

-- with something left of the bound, the answer at the place says what is counted
one : (m : Mode) (image : List ℕ) (slot room left k : ℕ) (pl : Place) (l : Option Place) → left ≡ suc k → led_by (reply m image slot pl room).answer ≡ l
    → answers_from m image slot room left pl ≡ count_on l (λ next. answers_from m image slot room k next)
unfolding answers_from
one m image slot room left k pl l e h = rw (e, h)

pub answers_stop : (m : Mode) (image : List ℕ) (slot room most n : ℕ) (pl : Place) → n < most → led_by (reply m image slot pl room).answer ≡ None
    → n + answers_from m image slot room (most - n) pl ≡ n
answers_stop m image slot room most n pl h e = omega (arith, one m image slot room (most - n) (most - (n + 1)) pl None (omega arith) e)

pub answers_on : (m : Mode) (image : List ℕ) (slot room most n : ℕ) (pl next : Place) → n < most → led_by (reply m image slot pl room).answer ≡ Some next
    → n + answers_from m image slot room (most - n) pl ≡ (n + 1) + answers_from m image slot room (most - (n + 1)) next
answers_on m image slot room most n pl next h e = omega (arith, one m image slot room (most - n) (most - (n + 1)) pl (Some next) (omega arith) e)

none : (m : Mode) (image : List ℕ) (slot room left : ℕ) (pl : Place) → left ≡ 0 → answers_from m image slot room left pl ≡ 0
unfolding answers_from
none m image slot room left pl e = rw e

pub answers_end : (m : Mode) (image : List ℕ) (slot room most n : ℕ) (pl : Place) → most ≤ n → n + answers_from m image slot room (most - n) pl ≡ n
answers_end m image slot room most n pl h = omega (arith, none m image slot room (most - n) pl (omega arith))

-- the answer that was read, of the file in the same slot and to an output as long as at first, is where it leads from this place
module _ (m : Mode) (image : List ℕ) (slot own room now : ℕ) (pl : Place) (a : Result Answer Refusal) (l : Option Place) (same : own ≡ slot) (as_long : now ≡ room)
    (e : a ≡ (reply m image own pl now).answer) (d : l ≡ led_by a) where
  here : (k : Option Place) → l ≡ k → led_by (reply m image slot pl room).answer ≡ k
  here k t =
      ap (λ (s : ℕ). led_by (reply m image s pl room).answer) (sym same)
      ∙ (ap (λ (r : ℕ). led_by (reply m image own pl r).answer) (sym as_long) ∙ (ap led_by (sym e) ∙ (sym d ∙ t)))

  pub read_stop : (most n all : ℕ) → l ≡ None → n < most → all ≡ n + answers_from m image slot room (most - n) pl → n ≡ all
  read_stop most n all t h i = sym (i ∙ answers_stop m image slot room most n pl h (here None t))

  pub read_on : (most n all : ℕ) (next : Place) → l ≡ Some next → n < most → all ≡ n + answers_from m image slot room (most - n) pl
      → all ≡ (n + 1) + answers_from m image slot room (most - (n + 1)) next
  read_on most n all next t h i = i ∙ answers_on m image slot room most n pl next h (here (Some next) t)
