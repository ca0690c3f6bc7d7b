-- A property of every element of a list, and how long a front of one is.
-- Assumes nothing.
use Rattle.std.specs.Prelude.{ℕ, zero, suc, ◌<◌, ◌≤◌, ◌≡◌, length, get_or, take, drop}
use Rattle.std.proofs.Common.{sym, subst, length-take, arith, not-suc-le-zero}
use mathlib.Core.List.Memᴰ
use mathlib.Core.List.{List, [], ◌∷◌, ◌++◌, Memᴰ}
use Rattle.promises.specs.Ground.Basics.{either}

abbrev pub Every : {A : Type 0} → (A → Type 0) → List A → Type 0
Every C [] = Unit {0}
Every C (a ∷ xs) = C a × Every C xs

pub take_short : {A : Type 0} (n : ℕ) (xs : List A) → length (take n xs) ≤ n
take_short n xs = simp length-take (omega arith)

module _ {A : Type 0} (C : A → Type 0) where
  pub every_member : (xs : List A) (a : A) → Every C xs → Memᴰ a xs → C a
  every_member [] a h m = absurd (Memᴰ.not-nil m)
  every_member (x ∷ xs) a h m =
      either (Memᴰ.cases_cons m) (λ (e : a ≡ x). subst C (sym e) h.0) (λ (t : Memᴰ a xs). every_member xs a h.1 t)

  pub every_at : (xs : List A) → Every C xs → (i : ℕ) → i < length xs → (d : A) → C (get_or xs i d)
  every_at [] h i l d = absurd (not-suc-le-zero l)
  every_at (a ∷ xs) h zero l d = h.0
  every_at (a ∷ xs) h (suc i) l d = every_at xs h.1 i (omega arith) d

  pub every_each : ((a : A) → C a) → (xs : List A) → Every C xs
  every_each h [] = tt
  every_each h (a ∷ xs) = (h a, every_each h xs)

  pub every_take : (n : ℕ) (xs : List A) → Every C xs → Every C (take n xs)
  every_take zero xs h = tt
  every_take (suc n) [] h = tt
  every_take (suc n) (a ∷ xs) h = (h.0, every_take n xs h.1)

  pub every_drop : (n : ℕ) (xs : List A) → Every C xs → Every C (drop n xs)
  every_drop zero xs h = h
  every_drop (suc n) [] h = tt
  every_drop (suc n) (a ∷ xs) h = every_drop n xs h.1

  pub every_append : (xs ys : List A) → Every C xs → Every C ys → Every C (xs ++ ys)
  every_append [] ys h k = k
  every_append (a ∷ xs) ys h k = (h.0, every_append xs ys h.1 k)

  pub every_left : (xs ys : List A) → Every C (xs ++ ys) → Every C xs
  every_left [] ys h = tt
  every_left (a ∷ xs) ys h = (h.0, every_left xs ys h.1)

  pub every_right : (xs ys : List A) → Every C (xs ++ ys) → Every C ys
  every_right [] ys h = h
  every_right (a ∷ xs) ys h = every_right xs ys h.1

  pub every_map : (D : A → Type 0) → ((a : A) → C a → D a) → (xs : List A) → Every C xs → Every D xs
  every_map D f [] h = tt
  every_map D f (a ∷ xs) h = (f a h.0, every_map D f xs h.1)

  pub every_both : (D : A → Type 0) (xs : List A) → Every C xs → Every D xs → Every (λ a. C a × D a) xs
  every_both D [] h k = tt
  every_both D (a ∷ xs) h k = ((h.0, k.0), every_both D xs h.1 k.1)
