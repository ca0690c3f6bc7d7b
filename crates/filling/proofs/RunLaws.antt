-- Runs of bytes laid over others: one byte more, and a run laid inside a part that was handed out.
-- Assumes nothing.
use Prim.Native.Nat.{ℕ, min, ◌+◌, ◌-◌, ◌<◌, ◌≤◌}
use mathlib.Core.Path.{◌≡◌, sym, ap, ◌∙◌}
use mathlib.Core.List.{List, [], ◌∷◌, ◌++◌, append_assoc}
use lib.ListN.{length, take, drop, set, replicate, length-drop, length-append, length-replicate, take-append-drop, replicate-append-replicate}
use lib.Seq.{paste, set_split, length-take-le, take-take, take-add, drop-drop, drop-append-le, take-append-add, drop-append-add}
use native.Mathlib.Omega.{arith}
use native.Mathlib.Numerals.{add-one}
use Rattle.standard.specs.Packing.{fill}
use Rattle.standard.specs.Writing.{splice}
use Rattle.promises.specs.Ground.Basics.{either, lt_or_le}
use Rattle.promises.specs.Ground.Splices.{splice_length}
use Rattle.promises.specs.Writing.StoreLaws.{splice_join}
use Rattle.filling.specs.Poured.{packed}

pub splice_none : (o : ℕ) (s : List ℕ) → splice o [] s ≡ s
unfolding splice
splice_none o s =
    let z : o + 0 ≡ o = omega arith in
    ap (λ (n : ℕ). take o s ++ drop n s) z ∙ take-append-drop o s

-- one byte
pub set_splice : (o y : ℕ) (s : List ℕ) → o < length s → set s o y ≡ splice o (y ∷ []) s
unfolding splice
set_splice o y s h = set_split s o y h ∙ ap (λ (n : ℕ). take o s ++ (y ∷ drop n s)) (sym (add-one o))

-- one byte more
pub splice_more : (o : ℕ) (x : List ℕ) (y : ℕ) (s : List ℕ) → o + length x < length s → set (splice o x s) (o + length x) y ≡ splice o (x ++ (y ∷ [])) s
splice_more o x y s h =
    let l = splice_length o x s (omega arith) in
    set_splice (o + length x) y (splice o x s) (omega arith) ∙ splice_join o x (y ∷ []) s (omega arith)

-- a part that was lent, with 00 in it
pub filled : (i n : ℕ) (s part : List ℕ) → i + n ≤ length s → part ≡ replicate (length (take (i + n - i) (drop i s))) 0
    → take i s ++ (part ++ drop (i + n - i) (drop i s)) ≡ splice i (fill n) s
unfolding splice
filled i n s part h e =
    let k : i + n - i ≡ n = omega arith in
    let d = length-drop i s in
    let l : length (take n (drop i s)) ≡ n = length-take-le n (drop i s) (omega arith) in
    let m : i + length (fill n) ≡ i + n = omega (arith, length-replicate {A = ℕ} n 0) in
    rw (e, k, l, drop-drop, m)

-- data and fill
pub packed_length : (bytes : List ℕ) (from n zeros : ℕ) → from + n ≤ length bytes → length (packed bytes from n zeros) ≡ n + zeros
packed_length bytes from n zeros h =
    let ld = length-drop from bytes in
    length-append (take n (drop from bytes)) (fill zeros) ∙ omega (arith, length-take-le n (drop from bytes) (omega arith), length-replicate {A = ℕ} zeros 0)

copied : (i n : ℕ) (x s : List ℕ) → n ≤ length x → paste s i x n ≡ splice i (take n x) s
unfolding splice
copied i n x s h =
    append_assoc (take i s) (take n x) (drop (i + n) s)
    ∙ ap (λ (m : ℕ). take i s ++ (take n x ++ drop (i + m) s)) (sym (length-take-le n x h))

pub pack_is : (bytes : List ℕ) (from n zeros i : ℕ) (s t u : List ℕ) → from + n ≤ length bytes → i ≤ length s → t ≡ paste s i (drop from bytes) n → u ≡ splice (i + n) (fill zeros) t
    → u ≡ splice i (packed bytes from n zeros) s
pack_is bytes from n zeros i s t u h l e f =
    let x = take n (drop from bytes) in
    let ld = length-drop from bytes in
    let lx = length-take-le n (drop from bytes) (omega arith) in
    f
    ∙ ap (λ (m : ℕ). splice (i + m) (fill zeros) t) (sym lx)
    ∙ ap (splice (i + length x) (fill zeros)) (e ∙ copied i n (drop from bytes) s (omega arith))
    ∙ splice_join i x (fill zeros) s l

-- a part is handed out, bytes are laid into it, and it comes back
pub in_part : (a i k : ℕ) (x s : List ℕ) → i + length x ≤ k → a + k ≤ length s
    → take a s ++ (splice i x (take k (drop a s)) ++ drop k (drop a s)) ≡ splice (a + i) x s
unfolding splice
in_part a i k x s h l =
    let d = drop a s in
    let ld = length-drop a s in
    let u = take k d in
    let v = drop k d in
    let lu = length-take-le k d (omega arith) in
    let j = i + length x in
    let far : a + j ≡ a + i + length x = omega arith in
    let back : drop j u ++ v ≡ drop (a + i + length x) s =
    sym (drop-append-le j u v (omega arith)) ∙ ap (drop j) (take-append-drop k d) ∙ drop-drop j a s ∙ ap (λ (n : ℕ). drop n s) far in
    let inner : (take i u ++ (x ++ drop j u)) ++ v ≡ take i d ++ (x ++ drop (a + i + length x) s) =
    append_assoc (take i u) (x ++ drop j u) v
    ∙ ap (λ (t : List ℕ). take i u ++ t) (append_assoc x (drop j u) v ∙ ap (λ (t : List ℕ). x ++ t) back)
    ∙ ap (λ (t : List ℕ). t ++ (x ++ drop (a + i + length x) s)) (take-take i k d (omega arith)) in
    ap (λ (t : List ℕ). take a s ++ t) inner
    ∙ sym (append_assoc (take a s) (take i d) (x ++ drop (a + i + length x) s))
    ∙ ap (λ (t : List ℕ). t ++ (x ++ drop (a + i + length x) s)) (sym (take-add a i s))

-- the first k of x and what is behind it, where x is not longer
pub take_over : (k : ℕ) (x more : List ℕ) → length x ≤ k → take k (x ++ more) ≡ x ++ take (k - length x) more
take_over k x more h =
    let e : k ≡ length x + (k - length x) = omega arith in
    ap (λ (n : ℕ). take n (x ++ more)) e ∙ take-append-add x more (k - length x)

pub drop_over : (k : ℕ) (x more : List ℕ) → length x ≤ k → drop k (x ++ more) ≡ drop (k - length x) more
drop_over k x more h =
    let e : k ≡ length x + (k - length x) = omega arith in
    ap (λ (n : ℕ). drop n (x ++ more)) e ∙ drop-append-add x more (k - length x)

-- data and fill, as much as has room, and the rest behind it
pub packed_split : (bytes : List ℕ) (from n k zeros d : ℕ) → d ≡ min n k → k < n + zeros
    → packed bytes from n zeros ≡ packed bytes from d (k - d) ++ packed bytes (from + d) (n - d) (zeros - (k - d))
packed_split bytes from n k zeros d e h =
    either (lt_or_le k n) (λ l. part_data l (omega arith)) (λ l. all_data l (omega arith))
  where
    all_data : n ≤ k → d ≡ n → packed bytes from n zeros ≡ packed bytes from d (k - d) ++ packed bytes (from + d) (n - d) (zeros - (k - d))
    all_data l f =
        let x = take n (drop from bytes) in
        let z : n - n ≡ 0 = omega arith in
        let w : k - n + (zeros - (k - n)) ≡ zeros = omega arith in
        sym (ap (λ (m : ℕ). packed bytes from m (k - m) ++ packed bytes (from + m) (n - m) (zeros - (k - m))) f
        ∙ ap (λ (m : ℕ). packed bytes from n (k - n) ++ packed bytes (from + n) m (zeros - (k - n))) z
        ∙ append_assoc x (fill (k - n)) (fill (zeros - (k - n)))
        ∙ ap (λ (t : List ℕ). x ++ t) (replicate-append-replicate {A = ℕ} (k - n) (zeros - (k - n)) 0 ∙ ap fill w))

    part_data : k < n → d ≡ k → packed bytes from n zeros ≡ packed bytes from d (k - d) ++ packed bytes (from + d) (n - d) (zeros - (k - d))
    part_data l f =
        let y = drop from bytes in
        let z : k - k ≡ 0 = omega arith in
        let w : zeros - 0 ≡ zeros = omega arith in
        let m : n ≡ k + (n - k) = omega arith in
        ap (λ (i : ℕ). take i y ++ fill zeros) m
        ∙ ap (λ (t : List ℕ). t ++ fill zeros) (take-add k (n - k) y)
        ∙ append_assoc (take k y) (take (n - k) (drop k y)) (fill zeros)
        ∙ ap (λ (t : List ℕ). take k y ++ (take (n - k) t ++ fill zeros)) (drop-drop k from bytes)
        ∙ sym (ap (λ (i : ℕ). packed bytes from i (k - i) ++ packed bytes (from + i) (n - i) (zeros - (k - i))) f
        ∙ ap (λ (i : ℕ). packed bytes from k i ++ packed bytes (from + k) (n - k) (zeros - i)) z
        ∙ ap (λ (i : ℕ). packed bytes from k 0 ++ packed bytes (from + k) (n - k) i) w
        ∙ append_assoc (take k y) [] (packed bytes (from + k) (n - k) zeros))
