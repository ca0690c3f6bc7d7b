-- From what is seen to what stands there.
-- Assumes nothing.
use Prim.Native.Nat.{ℕ, suc, ◌-◌, ◌≤◌}
use mathlib.Core.Path.{◌≡◌, refl, sym, ap, ◌∙◌}
use mathlib.Core.Bool.{Bool, true, false, cond, ◌&&◌}
use mathlib.Core.Option.{Option, none, some}
use mathlib.Core.List.{List, [], ◌∷◌}
use lib.ListN.{length, get_or, take, drop}
use lib.Dec.{leb}
use native.Mathlib.Omega.{arith}
use borrow.Author.Tests.{leb-true}
use Rattle.standard.specs.Pieces.{Role as RoleOf, whole, Piece, blank, broken, piece, four, role_of, is_fill, must_fill, only_fill_v, only_fill_s, sized_v, sized_s, look_f, look_v, look_s, look_in}
use Rattle.promises.specs.Ground.Basics.{and_l, and_r, never}
use Rattle.labels.specs.Forms.{format_for}
use Rattle.labels.specs.declared.Form.{Form}
use Rattle.labels.specs.declared.Form.TheVariants.{Fixed, Variable, Spanned}
use Rattle.blocks.specs.Roles.{role_in, role_for, role_back}
use Rattle.blocks.specs.declared.Role.{Role}
use Rattle.blocks.specs.declared.Role.TheVariants.{Whole}
use Rattle.pieces.specs.Looks.{head_of, seen_of}
use Rattle.pieces.specs.declared.Seen.{Seen}
use Rattle.pieces.specs.declared.Seen.TheVariants.{Blank, Broken, Part}

-- no answer is another
blank_broken : {A : Type 0} → Blank ≡ Broken → A
blank_broken e = never (cc)

blank_part : {A : Type 0} (k : Role) (z : ℕ) → Blank ≡ Part k z → A
blank_part k z e = never (cc)

broken_part : {A : Type 0} (k : Role) (z : ℕ) → Broken ≡ Part k z → A
broken_part k z e = never (cc)

pub seen_blank : (q : Piece) → Blank ≡ seen_of q → q ≡ blank
seen_blank blank e = refl
seen_blank broken e = blank_broken e
seen_blank (piece k body size) e = blank_part (role_in k) size e

pub seen_broken : (q : Piece) → Broken ≡ seen_of q → q ≡ broken
seen_broken blank e = blank_broken (sym e)
seen_broken broken e = refl
seen_broken (piece k body size) e = broken_part (role_in k) size e

-- the role and the size that are seen
abbrev role_seen : Seen → Role
role_seen Blank = Whole
role_seen Broken = Whole
role_seen (Part k z) = k

abbrev size_in : Seen → ℕ
size_in Blank = 0
size_in Broken = 0
size_in (Part k z) = z

-- a piece seen is the piece that stands there, under its test
record Stands (t : Bool) (r : RoleOf) (m : ℕ) (k : Role) (z : ℕ) : Type 0 where
  holds : t ≡ true
  role : k ≡ role_in r
  size : z ≡ m

stands : (t : Bool) (r : RoleOf) (body : List ℕ) (m : ℕ) (k : Role) (z : ℕ) → Part k z ≡ seen_of (cond t (piece r body m) broken) → Stands t r m k z
stands true r body m k z e = record { holds = refl; role = ap role_seen e; size = ap size_in e }
stands false r body m k z e = broken_part k z (sym e)

-- what a control word's bytes leave of the rest
abbrev PieceAt : Piece → ℕ → List ℕ → Role → ℕ → Type 0
PieceAt q head rest k z =
    (q ≡ piece (role_for k) (take (z - head) (drop head rest)) z) × (head ≤ z) × (1 ≤ z) × (z ≤ length rest)

by_role : (r : RoleOf) (head : ℕ) (rest : List ℕ) (m : ℕ) (k : Role) (z : ℕ) → k ≡ role_in r → z ≡ m
    → piece r (take (m - head) (drop head rest)) m ≡ piece (role_for k) (take (z - head) (drop head rest)) z
by_role r head rest m k z d e = rw (d, e, role_back r)

no_fill : (rest : List ℕ) (k : Role) (z : ℕ) → Part k z ≡ seen_of (must_fill rest) → ⊥
no_fill rest k z e = go (is_fill rest) e
  where
    go : (t : Bool) → Part k z ≡ seen_of (cond t blank broken) → ⊥
    go true e = blank_part k z (sym e)
    go false e = broken_part k z (sym e)

-- F
f_part : (R : ℕ) (rest : List ℕ) (k : Role) (z : ℕ) → Part k z ≡ seen_of (look_f R rest) → PieceAt (look_f R rest) 0 rest k z × (k ≡ Whole)
unfolding look_f
f_part R [] k z e = blank_part k z (sym e)
f_part R (x ∷ xs) k z e =
    let s = stands (leb 1 R && leb R (suc (length xs))) whole (take R (x ∷ xs)) R k z e in
    let low = leb-true 1 R (and_l (leb 1 R) _ s.holds) in
    let high = leb-true R (suc (length xs)) (and_r (leb 1 R) _ s.holds) in
    let n : R - 0 ≡ R = omega arith in
    let q = ap (λ (m : ℕ). piece whole (take m (x ∷ xs)) R) (sym n) ∙ by_role whole 0 (x ∷ xs) R k z s.role s.size in
    ((ap (λ (t : Bool). cond t (piece whole (take R (x ∷ xs)) R) broken) s.holds ∙ q, omega arith, omega (arith, low, s.size), omega (arith, high, s.size)), s.role)

-- V
v_sized : (R : ℕ) (rest : List ℕ) (size : Option ℕ) (k : Role) (z : ℕ) → Part k z ≡ seen_of (sized_v R rest size) → PieceAt (sized_v R rest size) 4 rest k z × (k ≡ Whole)
v_sized R rest none k z e = broken_part k z (sym e)
v_sized R rest (some m) k z e =
    let t = leb 4 m && leb m R && leb m (length rest) in
    let s = stands t whole (take (m - 4) (drop 4 rest)) m k z e in
    let b = ends (leb 4 m) (leb m R) (leb m (length rest)) s.holds in
    let low = leb-true 4 m b.0 in
    let high = leb-true m (length rest) b.1 in
    ((ap (λ (t : Bool). cond t (piece whole (take (m - 4) (drop 4 rest)) m) broken) s.holds ∙ by_role whole 4 rest m k z s.role s.size, omega (arith, low, s.size), omega (arith, low, s.size), omega (arith, high, s.size)), s.role)
  where
    ends : (a b c : Bool) → (a && b && c) ≡ true → (a ≡ true) × (c ≡ true)
    ends true true c h = (refl, h)
    ends true false c h = never (cc)
    ends false b c h = never (cc)

v_part : (R : ℕ) (blocked : Bool) (o : ℕ) (rest : List ℕ) (k : Role) (z : ℕ) → Part k z ≡ seen_of (look_v R blocked o rest) → PieceAt (look_v R blocked o rest) 4 rest k z × (k ≡ Whole)
unfolding look_v
v_part R blocked o rest k z e = go (only_fill_v blocked o rest) e
  where
    go : (t : Bool) → Part k z ≡ seen_of (cond t (must_fill rest) (sized_v R rest (four rest))) → PieceAt (cond t (must_fill rest) (sized_v R rest (four rest))) 4 rest k z × (k ≡ Whole)
    go true e = absurd (no_fill rest k z e)
    go false e = v_sized R rest (four rest) k z e

-- S
s_sized : (rest : List ℕ) (r : Option RoleOf) (size : Option ℕ) (k : Role) (z : ℕ) → Part k z ≡ seen_of (sized_s rest r size) → PieceAt (sized_s rest r size) 5 rest k z
s_sized rest none size k z e = broken_part k z (sym e)
s_sized rest (some r) none k z e = broken_part k z (sym e)
s_sized rest (some r) (some m) k z e =
    let s = stands (leb 5 m && leb m (length rest)) r (take (m - 5) (drop 5 rest)) m k z e in
    let low = leb-true 5 m (and_l (leb 5 m) _ s.holds) in
    let high = leb-true m (length rest) (and_r (leb 5 m) _ s.holds) in
    (ap (λ (t : Bool). cond t (piece r (take (m - 5) (drop 5 rest)) m) broken) s.holds ∙ by_role r 5 rest m k z s.role s.size, omega (arith, low, s.size), omega (arith, low, s.size), omega (arith, high, s.size))

s_part : (rest : List ℕ) (k : Role) (z : ℕ) → Part k z ≡ seen_of (look_s rest) → PieceAt (look_s rest) 5 rest k z
unfolding look_s
s_part rest k z e = go (only_fill_s rest) e
  where
    go : (t : Bool) → Part k z ≡ seen_of (cond t (must_fill rest) (sized_s rest (role_of (get_or rest 0 0)) (four (drop 1 rest))))
        → PieceAt (cond t (must_fill rest) (sized_s rest (role_of (get_or rest 0 0)) (four (drop 1 rest)))) 5 rest k z
    go true e = absurd (no_fill rest k z e)
    go false e = s_sized rest (role_of (get_or rest 0 0)) (four (drop 1 rest)) k z e

-- A PART SEEN IS THE PIECE THAT STANDS THERE
pub seen_part : (form : Form) (R : ℕ) (blocked : Bool) (o : ℕ) (rest : List ℕ) (k : Role) (z : ℕ) → Part k z ≡ seen_of (look_in (format_for form) R blocked o rest)
    → (look_in (format_for form) R blocked o rest ≡ piece (role_for k) (take (z - head_of form) (drop (head_of form) rest)) z)
    × (head_of form ≤ z) × (1 ≤ z) × (z ≤ length rest) × ((form ≡ Spanned → ⊥) → k ≡ Whole)
seen_part Fixed R blocked o rest k z e = let (w, n) = f_part R rest k z e in (w.0, w.1, w.2, w.3, λ _. n)
seen_part Variable R blocked o rest k z e = let (w, n) = v_part R blocked o rest k z e in (w.0, w.1, w.2, w.3, λ _. n)
seen_part Spanned R blocked o rest k z e = let w = s_part rest k z e in (w.0, w.1, w.2, w.3, λ f. absurd (f refl))
