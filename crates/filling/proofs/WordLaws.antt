-- The control words: "four digits".
-- Assumes nothing.
use Prim.Native.Nat.{ℕ, ◌+◌, ◌-◌, ◌/◌, ◌<◌, ◌≤◌}
use mathlib.Core.Path.{◌≡◌, sym, ap, ◌∙◌}
use mathlib.Core.List.{List, [], ◌∷◌, ◌++◌}
use lib.ListN.{length, get_or, drop, set, length-drop, drop_of_length-le}
use lib.Seq.{drop-cons}
use native.Mathlib.Omega.{arith}
use Rattle.standard.specs.Characters.{digit_of, padded}
use Rattle.standard.specs.Writing.{splice}
use Rattle.promises.specs.Writing.StoreLaws.{splice_join}
use Rattle.filling.specs.Poured.{word_s}
use Rattle.filling.proofs.RunLaws.{set_splice, splice_more}

padded_four : (n : ℕ) → padded 4 n ≡ (digit_of (n / 1000) ∷ digit_of (n / 100) ∷ digit_of (n / 10) ∷ digit_of (n / 1) ∷ [])
unfolding padded
padded_four n =
    let one : n ≡ n / 1 = omega arith in
    let hundred : n / 10 / 10 ≡ n / 100 = omega arith in
    let thousand : n / 10 / 10 / 10 ≡ n / 1000 = omega arith in
    ap (λ (m : ℕ). digit_of m ∷ digit_of (n / 10 / 10) ∷ digit_of (n / 10) ∷ digit_of n ∷ []) thousand
    ∙ ap (λ (m : ℕ). digit_of (n / 1000) ∷ digit_of m ∷ digit_of (n / 10) ∷ digit_of n ∷ []) hundred
    ∙ ap (λ (m : ℕ). digit_of (n / 1000) ∷ digit_of (n / 100) ∷ digit_of (n / 10) ∷ digit_of m ∷ []) one

pub word_is : (k n a b c d : ℕ) → a ≡ digit_of (n / 1000) → b ≡ digit_of (n / 100) → c ≡ digit_of (n / 10) → d ≡ digit_of (n / 1)
    → ((48 + k) ∷ a ∷ b ∷ c ∷ d ∷ []) ≡ word_s k n
word_is k n a b c d ea eb ec ed = rw (ea, eb, ec, ed) (ap (λ (t : List ℕ). (48 + k) ∷ t) (sym (padded_four n)))

-- one byte stored behind others
store_behind : (o : ℕ) (x : List ℕ) (y : ℕ) (s t : List ℕ) → o + length x < length s → t ≡ splice o x s → set t (o + length x) y ≡ splice o (x ++ (y ∷ [])) s
store_behind o x y s t h e =
    ap (λ (u : List ℕ). set u (o + length x) y) e ∙ splice_more o x y s h

-- the last bytes of the word, stored in turn, or put as data
module _ (w : List ℕ) (five : length w ≡ 5) where
  last_four : drop 1 w ≡ (get_or w 1 0 ∷ get_or w 2 0 ∷ get_or w 3 0 ∷ get_or w 4 0 ∷ [])
  last_four =
      rw (drop-cons w 1 0 (omega arith), drop-cons w 2 0 (omega arith), drop-cons w 3 0 (omega arith), drop-cons w 4 0 (omega arith), drop_of_length-le w {i = 5} (omega arith))

  pub four_laid : (o : ℕ) (s : List ℕ) → o + 4 ≤ length s
      → set (set (set (set s o (get_or w 1 0)) (o + 1) (get_or w 2 0)) (o + 2) (get_or w 3 0)) (o + 3) (get_or w 4 0) ≡ splice o (drop 1 w) s
  four_laid o s h =
      let a = get_or w 1 0 in
      let b = get_or w 2 0 in
      let c = get_or w 3 0 in
      store_behind o (a ∷ b ∷ c ∷ []) (get_or w 4 0) s _ (omega arith)
      (store_behind o (a ∷ b ∷ []) c s _ (omega arith) (store_behind o (a ∷ []) b s _ (omega arith) (set_splice o a s (omega arith))))
      ∙ ap (λ (t : List ℕ). splice o t s) (sym last_four)

  -- the first byte stored, and four behind it: where all five are asked
  pub word_laid : (n o : ℕ) (s t : List ℕ) → n ≡ 5 → o + 5 ≤ length s → t ≡ splice (o + 1) (drop 1 w) (set s o (get_or w 0 0)) → t ≡ splice o (drop (5 - n) w) s
  word_laid n o s t z h e =
      e
      ∙ ap (splice (o + 1) (drop 1 w)) (set_splice o (get_or w 0 0) s (omega arith))
      ∙ splice_join o (get_or w 0 0 ∷ []) (drop 1 w) s (omega arith)
      ∙ ap (λ (x : List ℕ). splice o x s) (sym (drop-cons w 0 0 (omega arith)))
      ∙ ap (λ (k : ℕ). splice o (drop (5 - k) w) s) (sym z)

  pub last_length : (n : ℕ) → n ≤ 5 → length (drop (5 - n) w) ≡ n
  last_length n h = length-drop (5 - n) w ∙ omega arith
