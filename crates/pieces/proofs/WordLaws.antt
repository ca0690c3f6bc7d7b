-- The exits of the code: fill alone, or a control word.
-- Assumes nothing.
use Prim.Native.Nat.{ℕ, suc, ◌+◌, ◌-◌, ◌*◌, ◌<◌, ◌≤◌}
use mathlib.Core.Path.{◌≡◌, refl, sym, ap, ◌∙◌}
use mathlib.Core.Bool.{Bool, true, false, cond, not, ◌&&◌, ◌||◌}
use mathlib.Core.Option.{Option as MathOption, none, some}
use mathlib.Core.List.{List, [], ◌∷◌}
use lib.ListN.{length, get_or, take, drop}
use lib.Seq.{get_or-drop, get_or-take, length-take-le}
use lib.Dec.{eqb, ltb, leb}
use native.Mathlib.Omega.{arith}
use borrow.Author.Tests.{eq-eqb, ne_eqb, lt-ltb, le-ltb, lt-leb, le-leb}
use Rattle.standard.specs.Characters.{is_digit, digit_value}
use Rattle.standard.specs.Pieces.{Role as RoleOf, whole, blank, broken, piece, number4, four, role_of, is_fill, must_fill, sized_v, sized_s, look_f, look_v, look_s, only_fill_v, only_fill_s}
use Rattle.promises.specs.Ground.Basics.{or_right}
use Rattle.blocks.specs.Streams.{five_of}
use Rattle.std.specs.Prelude.{Option, Some, None}
use Rattle.blocks.specs.Roles.{role_in, perhaps_role}
use Rattle.blocks.specs.declared.Role.{Role}
use Rattle.blocks.specs.declared.Role.TheVariants.{Whole}
use Rattle.pieces.specs.Looks.{seen_of, perhaps_in, four_read, part_f, part_of, part_v, part_read, part_s}
use Rattle.pieces.specs.declared.Seen.TheVariants.{Blank, Broken, Part}

-- four digits
abbrev all_four : ℕ → ℕ → ℕ → ℕ → Bool
all_four a b c d = is_digit a && is_digit b && is_digit c && is_digit d

module _ (a b c d : ℕ) where
  pub digits_no : (t : Bool) → t ≡ all_four a b c d → t ≡ false → None ≡ four_read a b c d
  unfolding four_read number4
  digits_no t e h =
      sym (ap (λ (u : Bool). perhaps_in (cond u (some (digit_value a * 1000 + digit_value b * 100 + digit_value c * 10 + digit_value d)) none)) (sym e ∙ h))

  pub digits_are : (t : Bool) (w x y z : ℕ) → t ≡ all_four a b c d → t ≡ true → w ≡ digit_value a → x ≡ digit_value b → y ≡ digit_value c → z ≡ digit_value d
      → Some (w * 1000 + x * 100 + y * 10 + z) ≡ four_read a b c d
  unfolding four_read number4
  digits_are t w x y z e h p q r s =
      rw (p, q, r, s)
      (sym (ap (λ (u : Bool). perhaps_in (cond u (some (digit_value a * 1000 + digit_value b * 100 + digit_value c * 10 + digit_value d)) none)) (sym e ∙ h)))

and_all : (a b c d : Bool) → (((a && b) && c) && d) ≡ (a && b && c && d)
and_all true true true d = refl
and_all true true false d = refl
and_all true false c d = refl
and_all false b c d = refl

pub and_4 : (a b c d p q r s : Bool) → a ≡ p → b ≡ q → c ≡ r → d ≡ s → (((a && b) && c) && d) ≡ (p && q && r && s)
and_4 a b c d p q r s e f g h = rw (e, f, g, h) (and_all p q r s)

-- fill
pub fill_yes : (t : Bool) (rest : List ℕ) → t ≡ is_fill rest → t ≡ true → Blank ≡ seen_of (must_fill rest)
fill_yes t rest e h = sym (ap (λ (u : Bool). seen_of (cond u blank broken)) (sym e ∙ h))

pub fill_no : (t : Bool) (rest : List ℕ) → t ≡ is_fill rest → t ≡ false → Broken ≡ seen_of (must_fill rest)
fill_no t rest e h = sym (ap (λ (u : Bool). seen_of (cond u blank broken)) (sym e ∙ h))

-- F
from_f : (R : ℕ) (rest : List ℕ) → part_f R (length rest) ≡ seen_of (look_f R rest)
unfolding part_f look_f
from_f R [] = refl
from_f R (x ∷ xs) = rw (ne_eqb (suc (length xs)) 0 (λ (e : suc (length xs) ≡ 0). omega arith)) (go (leb 1 R && leb R (suc (length xs))))
  where
    go : (t : Bool) → cond t (Part Whole R) Broken ≡ seen_of (cond t (piece whole (take R (x ∷ xs)) R) broken)
    go true = refl
    go false = refl

pub look_fixed : (R n : ℕ) (s : List ℕ) → n ≤ length s → part_f R n ≡ seen_of (look_f R (take n s))
look_fixed R n s l = ap (part_f R) (sym (length-take-le n s l)) ∙ from_f R (take n s)

-- V and S by a number
from_v : (R : ℕ) (rest : List ℕ) (size : MathOption ℕ) → part_v R (length rest) (perhaps_in size) ≡ seen_of (sized_v R rest size)
unfolding part_of
from_v R rest none = refl
from_v R rest (some z) = go (leb 4 z && leb z R && leb z (length rest))
  where
    go : (t : Bool) → cond t (Part Whole z) Broken ≡ seen_of (cond t (piece whole (take (z - 4) (drop 4 rest)) z) broken)
    go true = refl
    go false = refl

and_twice : (a b : Bool) → (a && b && b) ≡ (a && b)
and_twice true true = refl
and_twice true false = refl
and_twice false b = refl

from_s : (r : MathOption RoleOf) (rest : List ℕ) (size : MathOption ℕ) → part_read (length rest) (perhaps_role r) (perhaps_in size) ≡ seen_of (sized_s rest r size)
unfolding part_of
from_s none rest size = refl
from_s (some k) rest none = refl
from_s (some k) rest (some z) = rw (and_twice (leb 5 z) (leb z (length rest))) (go (leb 5 z && leb z (length rest)))
  where
    go : (t : Bool) → cond t (Part (role_in k) z) Broken ≡ seen_of (cond t (piece k (take (z - 5) (drop 5 rest)) z) broken)
    go true = refl
    go false = refl

-- one of three tests holds, or none
or_second : (a b c : Bool) → b ≡ true → (a || b || c) ≡ true
or_second true b c h = refl
or_second false b c h = rw h

or_third : (a b c : Bool) → c ≡ true → (a || b || c) ≡ true
or_third true b c h = refl
or_third false true c h = refl
or_third false false c h = h

pub four_same : (a b c d a' b' c' d' : ℕ) → a ≡ a' → b ≡ b' → c ≡ c' → d ≡ d' → four_read a b c d ≡ four_read a' b' c' d'
four_same a b c d a' b' c' d' p q r t = rw (p, q, r, t) refl

-- the bytes of the content that are left, n of what is ahead
module _ (n : ℕ) (s : List ℕ) (l : n ≤ length s) where
  whole_length : length (take n s) ≡ n
  whole_length = length-take-le n s l

  four_first : 4 ≤ n → (w : List ℕ) → w ≡ five_of s → four_read (get_or w 0 0) (get_or w 1 0) (get_or w 2 0) (get_or w 3 0) ≡ perhaps_in (four (take n s))
  unfolding four_read five_of
  four_first h w e =
      rw (e, get_or-take n s 0 0 (omega arith), get_or-take n s 1 0 (omega arith), get_or-take n s 2 0 (omega arith), get_or-take n s 3 0 (omega arith))

  four_second : 5 ≤ n → (w : List ℕ) → w ≡ five_of s → four_read (get_or w 1 0) (get_or w 2 0) (get_or w 3 0) (get_or w 4 0) ≡ perhaps_in (four (drop 1 (take n s)))
  unfolding four_read five_of
  four_second h w e =
      rw (
        e,
        get_or-drop 1 (take n s) 0 0,
        get_or-drop 1 (take n s) 1 0,
        get_or-drop 1 (take n s) 2 0,
        get_or-drop 1 (take n s) 3 0,
        get_or-take n s 1 0 (omega arith),
        get_or-take n s 2 0 (omega arith),
        get_or-take n s 3 0 (omega arith),
        get_or-take n s 4 0 (omega arith),
      )

  byte_first : 1 ≤ n → (w : List ℕ) → w ≡ five_of s → get_or w 0 0 ≡ get_or (take n s) 0 0
  unfolding five_of
  byte_first h w e = rw (e, get_or-take n s 0 0 (omega arith))

  -- V
  module _ (R : ℕ) (blocked : Bool) (o : ℕ) where
    v_fill : only_fill_v blocked o (take n s) ≡ true → seen_of (must_fill (take n s)) ≡ seen_of (look_v R blocked o (take n s))
    unfolding look_v
    v_fill h = sym (ap (λ (t : Bool). seen_of (cond t (must_fill (take n s)) (sized_v R (take n s) (four (take n s))))) h)

    pub v_short : n < 4 → seen_of (must_fill (take n s)) ≡ seen_of (look_v R blocked o (take n s))
    v_short h = v_fill (rw (lt-ltb (length (take n s)) 4 (rw whole_length h)))

    pub v_behind : (not blocked && ltb 0 o) ≡ true → seen_of (must_fill (take n s)) ≡ seen_of (look_v R blocked o (take n s))
    v_behind h = v_fill (or_third (ltb (length (take n s)) 4) (eqb (get_or (take n s) 0 0) 0) _ h)

    pub v_zero : 4 ≤ n → (w : List ℕ) → w ≡ five_of s → get_or w 0 0 ≡ 0 → seen_of (must_fill (take n s)) ≡ seen_of (look_v R blocked o (take n s))
    v_zero h w e z =
        v_fill (or_second (ltb (length (take n s)) 4) (eqb (get_or (take n s) 0 0) 0) _ (eq-eqb (get_or (take n s) 0 0) 0 (sym (byte_first (omega arith) w e) ∙ z)))

    pub v_word : 4 ≤ n → (not blocked && ltb 0 o) ≡ false → (w : List ℕ) → w ≡ five_of s → (get_or w 0 0 ≡ 0 → ⊥)
        → part_v R n (four_read (get_or w 0 0) (get_or w 1 0) (get_or w 2 0) (get_or w 3 0)) ≡ seen_of (look_v R blocked o (take n s))
    unfolding look_v
    v_word h k w e z =
        let rest = take n s in
        let f = byte_first (omega arith) w e in
        let t : only_fill_v blocked o rest ≡ false =
        rw (le-ltb (length rest) 4 (rw whole_length h), ne_eqb (get_or rest 0 0) 0 (λ (q : get_or rest 0 0 ≡ 0). z (f ∙ q)), k) in
        ap (part_v R n) (four_first h w e)
        ∙ (ap (λ (m : ℕ). part_v R m (perhaps_in (four rest))) (sym whole_length)
        ∙ (from_v R rest (four rest) ∙ sym (ap (λ (u : Bool). seen_of (cond u (must_fill rest) (sized_v R rest (four rest)))) t)))

  -- S
  s_fill : only_fill_s (take n s) ≡ true → seen_of (must_fill (take n s)) ≡ seen_of (look_s (take n s))
  unfolding look_s
  s_fill h = sym (ap (λ (t : Bool). seen_of (cond t (must_fill (take n s)) (sized_s (take n s) (role_of (get_or (take n s) 0 0)) (four (drop 1 (take n s)))))) h)

  pub s_short : n < 5 → seen_of (must_fill (take n s)) ≡ seen_of (look_s (take n s))
  s_short h = s_fill (rw (lt-ltb (length (take n s)) 5 (rw whole_length h)))

  pub s_zero : 5 ≤ n → (w : List ℕ) → w ≡ five_of s → get_or w 0 0 ≡ 0 → seen_of (must_fill (take n s)) ≡ seen_of (look_s (take n s))
  s_zero h w e z =
      s_fill (or_right (ltb (length (take n s)) 5) (eqb (get_or (take n s) 0 0) 0) (eq-eqb (get_or (take n s) 0 0) 0 (sym (byte_first (omega arith) w e) ∙ z)))

  s_word : 5 ≤ n → (w : List ℕ) → w ≡ five_of s → (get_or w 0 0 ≡ 0 → ⊥) → part_s n (get_or w 0 0) (four_read (get_or w 1 0) (get_or w 2 0) (get_or w 3 0) (get_or w 4 0)) ≡ seen_of (look_s (take n s))
  unfolding look_s
  s_word h w e z =
      let rest = take n s in
      let size = four (drop 1 rest) in
      let f = byte_first (omega arith) w e in
      let t : only_fill_s rest ≡ false =
      rw (le-ltb (length rest) 5 (rw whole_length h), ne_eqb (get_or rest 0 0) 0 (λ (q : get_or rest 0 0 ≡ 0). z (f ∙ q))) in
      ap (part_s n (get_or w 0 0)) (four_second h w e)
      ∙ (ap (λ (a : ℕ). part_s n a (perhaps_in size)) f
      ∙ (ap (λ (m : ℕ). part_s m (get_or rest 0 0) (perhaps_in size)) (sym whole_length)
      ∙ (from_s (role_of (get_or rest 0 0)) rest size ∙ sym (ap (λ (u : Bool). seen_of (cond u (must_fill rest) (sized_s rest (role_of (get_or rest 0 0)) size))) t))))

  -- by what its first byte reads as
  module _ (h : 5 ≤ n) (w : List ℕ) (e : w ≡ five_of s) (z : get_or w 0 0 ≡ 0 → ⊥) (role : Option Role) (is : role ≡ perhaps_role (role_of (get_or w 0 0))) where
    pub s_not : role ≡ None → Broken ≡ seen_of (look_s (take n s))
    s_not o =
        ap (λ (r : Option Role). part_read n r (four_read (get_or w 1 0) (get_or w 2 0) (get_or w 3 0) (get_or w 4 0))) (sym o ∙ is) ∙ s_word h w e z

    pub s_is : (k : Role) (size : Option ℕ) → role ≡ Some k → size ≡ four_read (get_or w 1 0) (get_or w 2 0) (get_or w 3 0) (get_or w 4 0)
        → part_of 5 n n k size ≡ seen_of (look_s (take n s))
    s_is k size o f = ap (λ (r : Option Role). part_read n r size) (sym o ∙ is) ∙ (ap (part_s n (get_or w 0 0)) f ∙ s_word h w e z)

-- the exits of `look_f`
module _ (R n : ℕ) where
  pub f_none : n ≡ 0 → Blank ≡ part_f R n
  unfolding part_f
  f_none h = simp (eq-eqb n 0 h)

  pub f_small : (n ≡ 0 → ⊥) → R < 1 → Broken ≡ part_f R n
  unfolding part_f
  f_small h k = simp (ne_eqb n 0 h, lt-leb 1 R k)

  pub f_large : (n ≡ 0 → ⊥) → 1 ≤ R → n < R → Broken ≡ part_f R n
  unfolding part_f
  f_large h k m = simp (ne_eqb n 0 h, le-leb 1 R k, lt-leb R n m)

  pub f_right : (n ≡ 0 → ⊥) → 1 ≤ R → R ≤ n → Part Whole R ≡ part_f R n
  unfolding part_f
  f_right h k m = simp (ne_eqb n 0 h, le-leb 1 R k, le-leb R n m)

-- the exits of `sized`
module _ (low high n : ℕ) (k : Role) where
  pub part_none : (size : Option ℕ) → size ≡ None → Broken ≡ part_of low high n k size
  unfolding part_of
  part_none size e = rw e

  module _ (size : Option ℕ) (z : ℕ) (is : size ≡ Some z) where
    pub part_small : z < low → Broken ≡ part_of low high n k size
    unfolding part_of
    part_small h = rw is (simp (lt-leb low z h))

    pub part_over : low ≤ z → high < z → Broken ≡ part_of low high n k size
    unfolding part_of
    part_over h o = rw is (simp (le-leb low z h, lt-leb z high o))

    pub part_large : low ≤ z → z ≤ high → n < z → Broken ≡ part_of low high n k size
    unfolding part_of
    part_large h o m = rw is (simp (le-leb low z h, le-leb z high o, lt-leb z n m))

    pub part_right : low ≤ z → z ≤ high → z ≤ n → Part k z ≡ part_of low high n k size
    unfolding part_of
    part_right h o m = rw is (simp (le-leb low z h, le-leb z high o, le-leb z n m))
