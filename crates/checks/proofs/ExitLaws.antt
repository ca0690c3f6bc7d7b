-- The exits of the functions that read a field: what was met there makes the rule true or false.
-- Assumes nothing.
use Prim.Native.Nat.{ℕ}
use mathlib.Core.Path.{◌≡◌, refl, sym, ap, ◌∙◌}
use mathlib.Core.Bool.{Bool, true, false, cond, not, ◌&&◌, ◌||◌, and-true, and-false}
use mathlib.Core.List.{List, [], ◌∷◌, ◌++◌}
use lib.Dec.{ltb, eqb}
use lib.ListN.{take, drop}
use lib.Seq.{take-add, drop-drop}
use borrow.Author.Tests.{eqb-true}
use Rattle.standard.specs.Characters.{between, field, every, a_set, in_a_set, is_space, spaces, digits, number}
use Rattle.standard.specs.Addresses.{rank, before, is_address, is_data_end}
use Rattle.standard.specs.Labels.{level, level_space, level_one, name_of, start_of, end_of, data_end_of, block_length, record_length, unused_count, rule6, rule29, rule35, rule75, spaces_or_date}
use Rattle.standard.specs.declared.Geometry.{Geometry}
use Rattle.fields.specs.Numbers.{perhaps}
use Rattle.std.specs.declared.option.Option.{Option}
use Rattle.std.specs.declared.option.Option.TheVariants.{Some, None}
use Rattle.fields.proofs.PerhapsLaws.{test_holds, number_is, test_fails}
use Rattle.promises.specs.Ground.Basics.{and_l, and_r}
use Rattle.checks.specs.Parts.{blank_or}

-- tests joined
pub either : (a b p q : Bool) → a ≡ p → b ≡ q → (a || b) ≡ (p || q)
either a b p q h k = rw (h, k)

-- the name: 6-22 are 6-13 and 14-22, and a space is in the a-set
every_both : (test : ℕ → Bool) (a b : List ℕ) → every test (a ++ b) ≡ (every test a && every test b)
unfolding every
every_both test [] b = refl
every_both test (x ∷ a) b = rw (every_both test a b) (go (test x))
  where
    go : (t : Bool) → (t && (every test a && every test b)) ≡ ((t && every test a) && every test b)
    go true = refl
    go false = refl

space_in : (x : ℕ) → is_space x ≡ true → a_set x ≡ true
unfolding a_set
space_in x h = rw (eqb-true x 32 h)

charted : (f : List ℕ) → spaces f ≡ true → in_a_set f ≡ true
unfolding every
charted [] h = refl
charted (x ∷ f) h = rw (space_in x (and_l (is_space x) _ h), charted f (and_r (is_space x) _ h))

module _ (h : List ℕ) where
  name_both : in_a_set (field h 6 22) ≡ (in_a_set (field h 6 13) && in_a_set (field h 14 22))
  name_both =
      ap in_a_set (take-add 8 9 (drop 5 h) ∙ ap (λ (l : List ℕ). take 8 (drop 5 h) ++ take 9 l) (drop-drop 8 5 h))
      ∙ every_both a_set (field h 6 13) (field h 14 22)

  pub name_unspaced : spaces (field h 14 22) ≡ false → false ≡ (in_a_set (name_of h) && spaces (field h 14 22))
  name_unspaced n = rw n (sym (and-false (in_a_set (name_of h))))

  pub name_spaced : spaces (field h 14 22) ≡ true → in_a_set (field h 6 13) ≡ (in_a_set (name_of h) && spaces (field h 14 22))
  name_spaced n = rw (n, name_both, charted (field h 14 22) n) (sym (and-true (in_a_set (field h 6 13) && true) ∙ and-true (in_a_set (field h 6 13))))

  pub short_level : (c : ℕ) (t : Bool) → c ≡ level h → (eqb c 32 || eqb c 49) ≡ t → (level_space h || level_one h) ≡ t
  short_level c t e k = sym (ap (λ (n : ℕ). eqb n 32 || eqb n 49) e) ∙ k

  pub name_short : (level_space h || level_one h) ≡ true → (in_a_set (name_of h) && spaces (field h 14 22)) ≡ rule6 h
  unfolding rule6
  name_short t = rw t

  pub name_long : (level_space h || level_one h) ≡ false → in_a_set (name_of h) ≡ rule6 h
  unfolding rule6
  name_long t = rw t (sym (and-true (in_a_set (name_of h))))

-- the end and the data end, where the start is right
module _ (g : Geometry) (h : List ℕ) where
  pub end_no : is_address g (field h 35 39) ≡ false → false ≡ rule35 g h
  unfolding rule35
  end_no n = rw n

  pub end_is : (e s : ℕ) → is_address g (field h 35 39) ≡ true → e ≡ rank g (end_of h) → rule29 g h ≡ true → s ≡ rank g (start_of h) → not (ltb e s) ≡ rule35 g h
  unfolding rule35 before
  end_is e s t u r29 v = rw (t, r29, u, v)

  pub data_end_no : is_data_end g (field h 75 79) ≡ false → false ≡ rule75 g h
  unfolding rule75
  data_end_no n = rw n

  pub data_end_is : (e s : ℕ) → is_data_end g (field h 75 79) ≡ true → e ≡ rank g (data_end_of h) → rule29 g h ≡ true → s ≡ rank g (start_of h) → not (ltb e s) ≡ rule75 g h
  unfolding rule75 before
  data_end_is e s t u r29 v = rw (t, r29, u, v)

-- a field that may be blank
module _ (blank : ℕ) (f : List ℕ) where
  pub blank_no : {x : Option ℕ} → x ≡ None → x ≡ blank_or blank f → (spaces f || digits f) ≡ false
  unfolding blank_or
  blank_no e q = go (spaces f) (sym q ∙ e)
    where
      go : (t : Bool) → cond t (Some blank) (perhaps (digits f) (number f)) ≡ None → (t || digits f) ≡ false
      go true e = cc
      go false e = test_fails (digits f) (number f) e

  pub blank_yes : {x : Option ℕ} {m : ℕ} → x ≡ Some m → x ≡ blank_or blank f → (spaces f || digits f) ≡ true
  unfolding blank_or
  blank_yes {m = m} e q = go (spaces f) (sym q ∙ e)
    where
      go : (t : Bool) → cond t (Some blank) (perhaps (digits f) (number f)) ≡ Some m → (t || digits f) ≡ true
      go true e = refl
      go false e = test_holds (digits f) (number f) m e

  blank_is : {x : Option ℕ} {m : ℕ} → x ≡ Some m → x ≡ blank_or blank f → m ≡ cond (spaces f) blank (number f)
  unfolding blank_or
  blank_is {m = m} e q = go (spaces f) (sym q ∙ e)
    where
      go : (t : Bool) → cond t (Some blank) (perhaps (digits f) (number f)) ≡ Some m → m ≡ cond t blank (number f)
      go true e = cc
      go false e = number_is (digits f) (number f) m e

pub record_blank : {x : Option ℕ} {m : ℕ} (h : List ℕ) (B : ℕ) → x ≡ Some m → x ≡ blank_or B (field h 54 57) → B ≡ block_length h → m ≡ record_length h
unfolding record_length
record_blank h B e q k = blank_is B (field h 54 57) e q ∙ ap (λ (n : ℕ). cond (spaces (field h 54 57)) n (number (field h 54 57))) k

pub unused_blank : {x : Option ℕ} {m : ℕ} (h : List ℕ) → x ≡ Some m → x ≡ blank_or 0 (field h 58 62) → m ≡ unused_count h
unfolding unused_count
unused_blank h e q = blank_is 0 (field h 58 62) e q

-- dates
module _ (f : List ℕ) where
  pub date_is : (r p q : Bool) (m d : ℕ) → spaces f ≡ false → r ≡ digits f → m ≡ number (field f 3 4) → d ≡ number (field f 5 6)
      → p ≡ between 1 12 m → q ≡ between 1 31 d → (r && p && q) ≡ spaces_or_date f
  unfolding spaces_or_date
  date_is r p q m d t u e k hp hq = rw (hp, hq, t, u, e, k)
