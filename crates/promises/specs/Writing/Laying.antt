-- RECORDS THAT STAND WHOLE IN A BLOCK, F and V blocked, laid one by one from some point of a block on. What is laid from the start of block 0 on is what the
-- definitions pack, so that what is shown of the one holds of the other.
-- Assumes nothing.
use Rattle.std.specs.Prelude.{ℕ, zero, suc, ◌+◌, ◌-◌, ◌*◌, ◌/◌, ◌≤◌, ◌≡◌, refl, Bool, true, false, length, take, drop, leb}
use Rattle.std.proofs.Common.{sym, ap, ◌∙◌, length-append, length-drop, arith, leb-true, leb-false, le-leb}
use mathlib.Core.List.{List, [], ◌∷◌, ◌++◌, map, flatten, append_assoc, append-nil}
use Rattle.std.proofs.lemmas.List.{length-replicate}
use Rattle.std.proofs.Math.Seq.{take-nil, drop-nil}
use Rattle.std.proofs.lemmas.Bool.{lt-leb}
use Rattle.standard.specs.Labels.{Format, fixed, variable, spanned}
use Rattle.standard.specs.Packing.{unused_in, packing_of, fill, lay_f, record_v, lay_one, into_if, lay_v, Laid, then_here, then_next, packing_laid, pack_in}
use Rattle.promises.specs.Ground.Lists.{Every, every_map}

-- "into the current block if it fits, else the next". `room` is what is left of the current block
abbrev pub place_if : Bool → ℕ → ℕ → List ℕ → (ℕ → Laid) → Laid
place_if true B room bytes more = then_here bytes (more (room - length bytes))
place_if false B room bytes more = then_next (fill room) (then_here bytes (more (B - length bytes)))

unfoldable pub lay : ℕ → ℕ → List (List ℕ) → Laid
lay B room [] = record { here = []; later = []; unused = room }
lay B room (x ∷ xs) = place_if (leb (length x) room) B room x (λ room'. lay B room' xs)

-- ---- the sizes of the blocks

-- blocks from one of which `room` bytes are left: all are full, but the last lacks u
abbrev pub Sizes : ℕ → ℕ → List ℕ → List (List ℕ) → ℕ → Type 0
Sizes B room here [] u = length here + u ≡ room
Sizes B room here (c ∷ cs) u = (length here ≡ room) × Sizes B B c cs u

abbrev pub SizesOf : ℕ → ℕ → Laid → Type 0
SizesOf B room l = Sizes B room l.here l.later l.unused

sizes_append : (B room : ℕ) (e here : List ℕ) (cs : List (List ℕ)) (u : ℕ) → length e ≤ room → Sizes B (room - length e) here cs u
    → Sizes B room (e ++ here) cs u
sizes_append B room e here [] u h k = omega (arith, length-append e here)
sizes_append B room e here (c ∷ cs) u h k = (omega (arith, length-append e here, k.0), k.1)

pub sizes_then : (B room n : ℕ) (e : List ℕ) (l : Laid) → length e ≡ n → n ≤ room → SizesOf B (room - n) l → SizesOf B room (then_here e l)
sizes_then B room n e l q h k = sizes_append B room e l.here l.later l.unused (omega arith) (rw q k)

pub lay_size : (B : ℕ) (es : List (List ℕ)) → Every (λ e. length e ≤ B) es → (room : ℕ) → SizesOf B room (lay B room es)
unfolding lay
lay_size B [] v room = omega arith
lay_size B (e ∷ es) v room = go (leb (length e) room) refl (λ r. lay_size B es v.1 r)
  where
    go : (t : Bool) → leb (length e) room ≡ t → ((r : ℕ) → SizesOf B r (lay B r es)) → SizesOf B room (lay B room (e ∷ es))
    go true q k = rw q (sizes_then B room (length e) e (lay B (room - length e) es) refl (leb-true (length e) room q) (k (room - length e)))
    go false q k = rw q (length-replicate room 0, sizes_then B B (length e) e (lay B (B - length e) es) refl v.0 (k (B - length e)))

-- "B-U in the last"
unused_is : (B : ℕ) (c : List ℕ) (cs : List (List ℕ)) (u : ℕ) → Sizes B B c cs u → unused_in B (c ∷ cs) ≡ u
unfolding unused_in
unused_is B c [] u h = omega arith
unused_is B c (d ∷ cs) u h = unused_is B d cs u h.1

packed_as : (B : ℕ) (l : Laid) (cs : List (List ℕ)) → SizesOf B B l → cs ≡ l.here ∷ l.later → packing_of B cs ≡ packing_laid l
packed_as B l cs h e = rw (e, unused_is B l.here l.later l.unused h)

-- ---- no record, no block; and a record needs one
begins : (B : ℕ) (es : List (List ℕ)) (block : List ℕ) → 1 ≤ length (lay_v B block es)
unfolding lay_v
begins B [] block = omega arith
begins B (e ∷ es) block = go (leb (length block + length e) B) (λ c. begins B es c)
  where
    go : (t : Bool) → ((c : List ℕ) → 1 ≤ length (lay_v B c es)) → 1 ≤ length (into_if t B block e (λ c. lay_v B c es))
    go true k = k (block ++ e)
    go false k = omega arith

pub pack_some : (f : Format) (R : ℕ) (bl : Bool) (B : ℕ) (x : List ℕ) (xs : List (List ℕ)) → 1 ≤ length (pack_in f R bl B (x ∷ xs)).contents
unfolding lay_f lay_one
pack_some fixed R bl B x xs = omega arith
pack_some variable R true B x xs = begins B (map record_v xs) (record_v x)
pack_some variable R false B x xs = omega arith
pack_some spanned R bl B x xs = omega arith

pub pack_none : (f : Format) (R : ℕ) (bl : Bool) (B : ℕ) → (pack_in f R bl B []).contents ≡ []
unfolding lay_f lay_one
pack_none fixed R bl B = refl
pack_none variable R true B = refl
pack_none variable R false B = refl
pack_none spanned R bl B = refl

-- ---- V: the current block, and what is laid behind it
behind : (B : ℕ) (es : List (List ℕ)) → Every (λ e. length e ≤ B) es → (block : List ℕ) (room : ℕ) → length block + room ≡ B
    → lay_v B block es ≡ (block ++ (lay B room es).here) ∷ (lay B room es).later
unfolding lay_v lay
behind B [] v block room h = ap (λ (c : List ℕ). c ∷ []) (sym (append-nil block))
behind B (e ∷ es) v block room h = go (leb (length e) room) refl (λ c r k. behind B es v.1 c r k)
  where
    go : (t : Bool) → leb (length e) room ≡ t
        → ((c : List ℕ) (r : ℕ) → length c + r ≡ B → lay_v B c es ≡ (c ++ (lay B r es).here) ∷ (lay B r es).later)
        → lay_v B block (e ∷ es) ≡ (block ++ (lay B room (e ∷ es)).here) ∷ (lay B room (e ∷ es)).later
    go true q k =
        let fits = leb-true (length e) room q in
        let l : Laid = lay B (room - length e) es in
        rw (q, le-leb (length block + length e) B (omega arith))
        (k (block ++ e) (room - length e) (omega (arith, length-append block e)) ∙ ap (λ (c : List ℕ). c ∷ l.later) (append_assoc block e l.here))
    go false q k =
        let over_room = leb-false (length e) room q in
        let left : B - length block ≡ room = omega arith in
        rw (q, lt-leb (length block + length e) B (omega arith), left)
        (ap (λ (cs : List (List ℕ)). (block ++ fill room) ∷ cs) (k e (B - length e) (omega (arith, v.0))))

pub laid_v : (R B : ℕ) (x : List ℕ) (xs : List (List ℕ)) → Every (λ e. length e ≤ B) (map record_v (x ∷ xs))
    → pack_in variable R true B (x ∷ xs) ≡ packing_laid (lay B B (map record_v (x ∷ xs)))
unfolding lay
laid_v R B x xs v =
    let e : List ℕ = record_v x in
    packed_as B (lay B B (e ∷ map record_v xs)) _ (lay_size B (e ∷ map record_v xs) v B)
    (rw (le-leb (length e) B v.0) (behind B (map record_v xs) v.1 e (B - length e) (omega (arith, v.0))))

-- ---- F: where room for j records is left, the next j go there, and the others into blocks of their own
abbrev Grouped : ℕ → ℕ → ℕ → List (List ℕ) → Laid → Type 0
Grouped k n j xs l = (l.here ≡ flatten (take j xs)) × (l.later ≡ lay_f k n (drop j xs))

group_none : (k n : ℕ) → lay_f k n [] ≡ []
unfolding lay_f
group_none zero n = refl
group_none (suc k) n = refl

grouped : (R m B : ℕ) → 1 ≤ R → B ≡ suc m * R → (xs : List (List ℕ)) → Every (λ x. length x ≡ R) xs → (k j room : ℕ) → length (drop j xs) ≤ k → room ≡ j * R
    → Grouped k (suc m) j xs (lay B room xs)
unfolding lay lay_f flatten
grouped R m B r e [] v k j room h z = (ap flatten (sym (take-nil j)), sym (ap (lay_f k (suc m)) (drop-nil j) ∙ group_none k (suc m)))
grouped R m B r e (x ∷ xs) v zero zero room h z = absurd (omega arith)
grouped R m B r e (x ∷ xs) v (suc k) zero room h z =
    let lx = v.0 in
    let none : room ≡ 0 = omega (arith, z) in
    let ih = grouped R m B r e xs v.1 k m (B - length x) (omega (arith, length-drop m xs)) (omega arith) in
    let l : Laid = lay B (B - length x) xs in
    rw (none, lt-leb (length x) 0 (omega arith))
    (refl, ap (λ (c : List ℕ). (x ++ c) ∷ l.later) ih.0 ∙ ap (λ (cs : List (List ℕ)). (x ++ flatten (take m xs)) ∷ cs) ih.1)
grouped R m B r e (x ∷ xs) v k (suc j) room h z =
    let lx = v.0 in
    let there : room ≡ R + j * R = omega (arith, z) in
    let ih = grouped R m B r e xs v.1 k j (room - length x) h (omega arith) in
    rw (le-leb (length x) room (omega arith)) (ap (λ (c : List ℕ). x ++ c) ih.0, ih.1)

grouped_all : (R n B : ℕ) → 1 ≤ R → R ≤ B → B ≡ n * R → (x : List ℕ) (xs : List (List ℕ)) → Every (λ y. length y ≡ R) (x ∷ xs)
    → lay_f (suc (length xs)) n (x ∷ xs) ≡ (lay B B (x ∷ xs)).here ∷ (lay B B (x ∷ xs)).later
unfolding lay_f
grouped_all R zero B r rb e x xs v = absurd (omega arith)
grouped_all R (suc m) B r rb e x xs v =
    let k = grouped R m B r e (x ∷ xs) v (length xs) (suc m) B (omega (arith, length-drop m xs)) e in
    sym (ap (λ (c : List ℕ). c ∷ (lay B B (x ∷ xs)).later) k.0 ∙ ap (λ (cs : List (List ℕ)). flatten (take (suc m) (x ∷ xs)) ∷ cs) k.1)

pub within_f : (R B : ℕ) → R ≤ B → (xs : List (List ℕ)) → Every (λ x. length x ≡ R) xs → Every (λ x. length x ≤ B) xs
within_f R B h = every_map (λ x. length x ≡ R) (λ x. length x ≤ B) (λ x e. omega arith)

pub laid_f : (R : ℕ) (bl : Bool) (B : ℕ) → 1 ≤ R → R ≤ B → B ≡ B / R * R → (x : List ℕ) (xs : List (List ℕ)) → Every (λ y. length y ≡ R) (x ∷ xs)
    → pack_in fixed R bl B (x ∷ xs) ≡ packing_laid (lay B B (x ∷ xs))
laid_f R bl B r rb e x xs v =
    packed_as B (lay B B (x ∷ xs)) _ (lay_size B (x ∷ xs) (within_f R B rb (x ∷ xs) v) B) (grouped_all R (B / R) B r rb e x xs v)
