-- The exits of `Address::step` and `Address::read`, and the digits between, as the code meets them.
-- Assumes nothing.
use Rattle.std.specs.Prelude.{Some, None}
use Prim.Native.Nat.{ℕ, ◌+◌, ◌*◌, ◌<◌, ◌≤◌}
use mathlib.Core.Path.{◌≡◌, sym, ap, ◌∙◌}
use mathlib.Core.Bool.{Bool, true, false, not, ◌&&◌, and-false}
use mathlib.Core.List.{List}
use lib.Dec.{ltb}
use lib.ListN.{length, get_or, get_or-eq_default}
use native.Mathlib.Omega.{arith}
use mir.Syntax.{w64}
use mir.Val.{Fits}
use borrow.Author.Tests.{ltb-true, lt-ltb, le-ltb, le-leb, lt-leb, not-true, not-false}
use Rattle.standard.specs.Characters.{is_digit, digit_value}
use Rattle.standard.specs.Addresses.{stepped, five_digits, two_digits, address_in, five_read}
use Rattle.standard.specs.declared.Geometry.{Geometry}
use Rattle.standard.specs.declared.Address.{Address}

-- The exits of `Address::step`. The code compares with numbers l, s, d that are the volume's cylinders, sides and sectors, and asks whether a side follows.
pub side_fits : (n s : ℕ) (more : Bool) → s < 256 → more ≡ ltb (n + 1) s → more ≡ true → Fits w64 (n + 1)
side_fits n s more small m t = omega (arith, small, ltb-true (n + 1) s (sym m ∙ t))

side_asked : (n s sides : ℕ) (more b : Bool) → s ≡ sides → more ≡ ltb (n + 1) s → more ≡ b → ltb (n + 1) sides ≡ b
side_asked n s sides more b e m t = sym (ap (ltb (n + 1)) e) ∙ sym m ∙ t

pub to_sector : (g : Geometry) (a : Address) (d : ℕ) → d ≡ g.D → a.sector < d
    → record { cylinder = a.cylinder; side = a.side; sector = a.sector + 1 } ≡ stepped g a
unfolding stepped
to_sector g a d e h = simp (lt-ltb a.sector g.D (omega (arith, e, h)))

pub to_side : (g : Geometry) (a : Address) (s d : ℕ) (more : Bool) → s ≡ g.S → d ≡ g.D → d ≤ a.sector → more ≡ ltb (a.side + 1) s → more ≡ true
    → record { cylinder = a.cylinder; side = a.side + 1; sector = 1 } ≡ stepped g a
unfolding stepped
to_side g a s d more es ed h m t = simp (le-ltb a.sector g.D (omega (arith, ed, h)), side_asked a.side s g.S more true es m t)

pub to_cylinder : (g : Geometry) (a : Address) (l s d : ℕ) (more : Bool) → l ≡ g.L → s ≡ g.S → d ≡ g.D → d ≤ a.sector → more ≡ ltb (a.side + 1) s
    → more ≡ false → a.cylinder ≤ l → record { cylinder = a.cylinder + 1; side = 0; sector = 1 } ≡ stepped g a
unfolding stepped
to_cylinder g a l s d more el es ed h m t c = simp (le-ltb a.sector g.D (omega (arith, ed, h)), side_asked a.side s g.S more false es m t, le-leb a.cylinder g.L (omega (arith, el, c)))

pub to_none : (g : Geometry) (a : Address) (l s d : ℕ) (more : Bool) → l ≡ g.L → s ≡ g.S → d ≡ g.D → d ≤ a.sector → more ≡ ltb (a.side + 1) s
    → more ≡ false → l < a.cylinder → a ≡ stepped g a
unfolding stepped
to_none g a l s d more el es ed h m t c = simp (le-ltb a.sector g.D (omega (arith, ed, h)), side_asked a.side s g.S more false es m t, lt-leb a.cylinder g.L (omega (arith, el, c)))

-- What the digits of a field spell, from the value of each.
pub two_spelled : (f : List ℕ) (i v w : ℕ) → v ≡ digit_value (get_or f i 0) → w ≡ digit_value (get_or f (i + 1) 0) → v * 10 + w ≡ two_digits f i
two_spelled f i v w hv hw = rw (hv, hw)

pub two_small : (v w : ℕ) → v < 256 → w < 256 → v * 10 + w < 3000
two_small v w hv hw = omega arith

pub five_tested : (f : List ℕ) (a b c d e : Bool) → a ≡ is_digit (get_or f 0 0) → b ≡ is_digit (get_or f 1 0) → c ≡ is_digit (get_or f 2 0) → d ≡ is_digit (get_or f 3 0)
    → e ≡ is_digit (get_or f 4 0) → (a && b && c && d && e) ≡ five_digits f
unfolding five_digits
five_tested f a b c d e ha hb hc hd he = rw (ha, hb, hc, hd, he)

pub address_spelled : (f : List ℕ) (c s n : ℕ) → c ≡ two_digits f 0 → s ≡ digit_value (get_or f 2 0) → n ≡ two_digits f 3
    → record { cylinder = c; side = s; sector = n } ≡ address_in f
unfolding address_in
address_spelled f c s n hc hs hn = rw (hc, hs, hn)

-- the exits of `Address::read`
pub read_short : (f : List ℕ) → length f < 5 → None ≡ five_read f
unfolding five_read five_digits is_digit
read_short f h = rw (get_or-eq_default f 0 {n = 4} (omega arith)) (simp (and-false (is_digit (get_or f 0 0) && is_digit (get_or f 1 0) && is_digit (get_or f 2 0) && is_digit (get_or f 3 0))))

pub read_no : (f : List ℕ) → not (five_digits f) ≡ true → None ≡ five_read f
unfolding five_read
read_no f h = simp (not-true (five_digits f) h)

pub read_yes : (f : List ℕ) (x : Address) → not (five_digits f) ≡ false → x ≡ address_in f → Some x ≡ five_read f
unfolding five_read
read_yes f x h e = simp (e, not-false (five_digits f) h)
