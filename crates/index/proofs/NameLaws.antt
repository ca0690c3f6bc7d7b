-- Refusal 12: names with different numbers differ, and only labels of known level have one.
-- Assumes nothing.
use Rattle.std.proofs.Common.{◌≡◌, ℕ, ◌+◌, ◌%◌, ◌^◌, ◌-◌, ◌<◌, ◌≤◌, Bool, true, false, ◌&&◌, List, length, get_or, drop, set, sym, refl, ap, ◌∙◌, arith, get_or-drop, get_or-take}
use Rattle.standard.specs.Layout.{label_at}
use Rattle.standard.specs.Characters.{same}
use Rattle.standard.specs.Labels.{known_level, name_of}
use Rattle.standard.specs.Slots.{is_label}
use Rattle.standard.specs.Judgement.{same_name, namesake, clashes_below}
use Rattle.standard.specs.declared.Geometry.{Geometry}
use Rattle.promises.specs.Ground.Basics.{by_test, and_r}
use Rattle.promises.specs.Volumes.FindingLaws.{same_equal}
use Rattle.index.specs.Names.{two_from, four_from, eight_from, key_of, key_in, Keyed}
use Rattle.index.proofs.ClashLaws.{below_none}
use Rattle.index.proofs.ExtentLaws.{row_more}

-- the number of a name, read from its label
byte_at : (h : List ℕ) (n m : ℕ) → n < 17 → 5 + n ≡ m → get_or (name_of h) n 0 ≡ get_or h m 0
byte_at h n m l e = get_or-take 17 (drop 5 h) n 0 l ∙ get_or-drop 5 h n 0 ∙ ap (λ (x : ℕ). get_or h x 0) e

two_in : (h : List ℕ) (n m : ℕ) → n < 16 → 5 + n ≡ m → two_from (name_of h) n ≡ two_from h m
two_in h n m l e = omega (arith, byte_at h n m (omega arith) e, byte_at h (n + 1) (m + 1) (omega arith) (omega arith))

four_in : (h : List ℕ) (n m : ℕ) → n < 14 → 5 + n ≡ m → four_from (name_of h) n ≡ four_from h m
four_in h n m l e = omega (arith, two_in h n m (omega arith) e, two_in h (n + 2) (m + 2) (omega arith) (omega arith))

eight_in : (h : List ℕ) (n m : ℕ) → n < 10 → 5 + n ≡ m → eight_from (name_of h) n ≡ eight_from h m
eight_in h n m l e = omega (arith, four_in h n m (omega arith) e, four_in h (n + 4) (m + 4) (omega arith) (omega arith))

pub key_is : (h : List ℕ) (a b r : ℕ) → a ≡ eight_from h 5 → b ≡ eight_from h 14 → r ≡ (a + b) % 2 ^ 64 → r ≡ key_of (name_of h)
unfolding key_of
key_is h a b r p q e = e ∙ ap (λ (n : ℕ). n % 2 ^ 64) (omega (arith, p, q, eight_in h 0 5 (omega arith) (omega arith), eight_in h 9 14 (omega arith) (omega arith)))

-- two labels, two levels, and whether the names are the same
regroup : (a b c d e : Bool) → ((a && c) && (b && d) && e) ≡ (a && b && (c && d && e))
regroup true true true d e = refl
regroup true true false d e = refl
regroup true false true d e = refl
regroup true false false d e = refl
regroup false b c d e = refl

module _ (g : Geometry) (image : List ℕ) where
  abbrev pub known_in : ℕ → Bool
  known_in slot = is_label g image slot && known_level (label_at g image slot)

  abbrev same_in : ℕ → ℕ → Bool
  same_in slot lower = same (name_of (label_at g image slot)) (name_of (label_at g image lower))

  namesake_is : (slot lower : ℕ) → (known_in slot && known_in lower && same_in slot lower) ≡ namesake g image slot lower
  unfolding namesake same_name
  namesake_is slot lower =
      regroup (is_label g image slot) (is_label g image lower) (known_level (label_at g image slot)) (known_level (label_at g image lower)) (same_in slot lower)

  pub unknown_below : (slot n : ℕ) → known_in slot ≡ false → clashes_below (namesake g image) slot n ≡ false
  unknown_below slot n k =
      below_none (namesake g image) slot (λ lower. sym (namesake_is slot lower) ∙ ap (λ (b : Bool). b && known_in lower && same_in slot lower) k) n

  module _ (slot lower : ℕ) where
    pub keys_differ : (key_in g image slot ≡ key_in g image lower → ⊥) → false ≡ namesake g image slot lower
    keys_differ h =
        by_test (namesake g image slot lower)
        (λ t. absurd (h (ap key_of (same_equal _ _ (and_r (known_in slot && known_in lower) (same_in slot lower) (namesake_is slot lower ∙ t))))))
        (λ t. sym t)

    pub lower_unknown : known_in slot ≡ true → known_in lower ≡ false → false ≡ namesake g image slot lower
    lower_unknown k l = rw (k, l) at (namesake_is slot lower)

    pub both_known : (r : Bool) (a b : List ℕ) → known_in slot ≡ true → known_in lower ≡ true → r ≡ same (name_of a) (name_of b) → a ≡ label_at g image slot → b ≡ label_at g image lower
        → r ≡ namesake g image slot lower
    both_known r a b k l e p q = e ∙ ap (λ (x : List ℕ). same (name_of x) (name_of b)) p ∙ ap (λ (x : List ℕ). same (name_of (label_at g image slot)) (name_of x)) q ∙ (rw (k, l) at (namesake_is slot lower))

  -- the row of numbers, with that of a slot more
  pub keyed_next : (keys : List ℕ) (slot key : ℕ) → 1 ≤ slot → slot ≤ length keys → Keyed g image keys (slot - 1) → key ≡ key_in g image slot
      → Keyed g image (set keys (slot - 1) key) (slot + 1 - 1)
  keyed_next keys slot key h l k e j m =
      let back : slot ≡ slot - 1 + 1 = omega arith in
      row_more (key_in g image) keys (slot - 1) key 0 (omega arith) k (e ∙ ap (key_in g image) back) j (omega arith)
