-- Laws of the write loop: blocks, records and lengths taken one by one, a part after another, or one more.
-- Assumes nothing.
use Rattle.std.specs.Prelude.{ℕ, zero, suc, ◌+◌, ◌-◌, ◌*◌, ◌<◌, ◌≤◌, ◌≡◌, refl, List, [], ◌∷◌, ◌++◌, length, get_or, take, drop}
use Rattle.std.proofs.Common.{sym, ap, ◌∙◌, append_assoc, length-append, length-take-le, take_at, drop-drop, drop-cons, arith, add-one}
use Rattle.std.proofs.Math.Seq.{drop-append-add}
use Rattle.standard.specs.Layout.{k_at, kind_offset, body_offset}
use Rattle.standard.specs.Addresses.{ordinal}
use Rattle.standard.specs.Packing.{fill}
use Rattle.standard.specs.Writing.{total, parted, splice, filled_to, store_record, store_block, store_blocks}
use Rattle.standard.specs.declared.Geometry.{Geometry}
use Rattle.standard.specs.declared.Address.{Address}
use Rattle.promises.specs.Ground.Splices.{splice_at}

-- ---- SPLICES

-- bytes laid behind bytes laid just before are laid as one
pub splice_join : (o : ℕ) (x y s : List ℕ) → o ≤ length s → splice (o + length x) y (splice o x s) ≡ splice o (x ++ y) s
unfolding splice
splice_join o x y s h =
    let l = length-take-le o s h in
    let p : List ℕ = take o s ++ x in
    let q : List ℕ = drop (o + length x) s in
    let lp : length p ≡ o + length x = length-append (take o s) x ∙ ap (λ (n : ℕ). n + length x) l in
    let whole : take o s ++ (x ++ q) ≡ p ++ q = sym (append_assoc (take o s) x q) in
    let front : take (o + length x) (p ++ q) ≡ p = take_at p q (o + length x) lp in
    let back : drop (o + length x + length y) (p ++ q) ≡ drop (length y) q =
    ap (λ (n : ℕ). drop (n + length y) (p ++ q)) (sym lp) ∙ drop-append-add p q (length y) in
    let rest : drop (length y) q ≡ drop (o + length (x ++ y)) s =
    (let e : o + length x + length y ≡ o + length (x ++ y) = simp length-append (omega arith) in drop-drop (length y) (o + length x) s ∙ ap (λ (n : ℕ). drop n s) e) in
    rw (whole, front, back, rest, append_assoc (take o s) x (y ++ drop (o + length (x ++ y)) s), append_assoc x y (drop (o + length (x ++ y)) s))

-- what stands among the bytes laid
pub splice_in : (a : ℕ) (new s : List ℕ) → a + length new ≤ length s → (i : ℕ) → a ≤ i → i < a + length new → get_or (splice a new s) i 0 ≡ get_or new (i - a) 0
splice_in a new s h i lo hi =
    let e : i ≡ a + (i - a) = omega arith in
    ap (λ (k : ℕ). get_or (splice a new s) k 0) e ∙ splice_at a new s h (i - a) (omega arith)

-- ---- ONE PHYSICAL RECORD: its kind byte and its body are one run of P+1 bytes
pub store_splice : (g : Geometry) (n : ℕ) (c s : List ℕ) → kind_offset g n ≤ length s
    → store_record g n c s ≡ splice (kind_offset g n) (k_at g n ∷ filled_to g.P c) s
unfolding store_record body_offset
store_splice g n c s h = splice_join (kind_offset g n) (k_at g n ∷ []) (filled_to g.P c) s h

-- "Content left, and physical records' ends, are filled with 00": a byte of a filled body is the content's, or 00
pub filled_byte : (size : ℕ) (c : List ℕ) (i : ℕ) → get_or (filled_to size c) i 0 ≡ get_or c i 0
unfolding filled_to
filled_byte size [] i = fill_byte (size - 0) i
  where
    fill_byte : (n i : ℕ) → get_or (fill n) i 0 ≡ 0
    fill_byte zero i = refl
    fill_byte (suc n) zero = refl
    fill_byte (suc n) (suc i) = fill_byte n i
filled_byte size (x ∷ c) zero = refl
filled_byte size (x ∷ c) (suc i) =
    let e : size - suc (length c) ≡ size - 1 - length c = omega arith in
    ap (λ (n : ℕ). get_or (c ++ fill n) i 0) e ∙ filled_byte (size - 1) c i

-- ---- ONE BLOCK over its records: P bytes of the content to each
pub block_append : (g : Geometry) (xs ys : List Address) (c s : List ℕ)
    → store_block g (xs ++ ys) c s ≡ store_block g ys (drop (length xs * g.P) c) (store_block g xs c s)
unfolding store_block
block_append g [] ys c s =
    let z : 0 * g.P ≡ 0 = omega arith in
    rw z
block_append g (a ∷ xs) ys c s =
    let e : g.P + length xs * g.P ≡ suc (length xs) * g.P = omega arith in
    block_append g xs ys (drop g.P c) (store_record g (ordinal g a) (take g.P c) s)
    ∙ ap (λ (t : List ℕ). store_block g ys t (store_block g (a ∷ xs) c s)) (drop-drop (length xs * g.P) g.P c ∙ ap (λ (n : ℕ). drop n c) e)

-- ---- BLOCKS: "blocks take m good records in turn"
pub blocks_append : (g : Geometry) (m : ℕ) (xs ys : List (List ℕ)) (good : List Address) (s : List ℕ)
    → store_blocks g m (xs ++ ys) good s ≡ store_blocks g m ys (drop (length xs * m) good) (store_blocks g m xs good s)
unfolding store_blocks
blocks_append g m [] ys good s =
    let z : 0 * m ≡ 0 = omega arith in
    rw z
blocks_append g m (x ∷ xs) ys good s =
    let e : m + length xs * m ≡ suc (length xs) * m = omega arith in
    blocks_append g m xs ys (drop m good) (store_block g (take m good) x s)
    ∙ ap (λ (t : List Address). store_blocks g m ys t (store_blocks g m (x ∷ xs) good s)) (drop-drop (length xs * m) m good ∙ ap (λ (n : ℕ). drop n good) e)

-- the blocks from number i on, from those behind it
pub blocks_drop : (g : Geometry) (m : ℕ) (cs : List (List ℕ)) (i : ℕ) (good : List Address) (s : List ℕ) → i < length cs
    → store_blocks g m (drop i cs) (drop (i * m) good) s ≡ store_blocks g m (drop (i + 1) cs) (drop ((i + 1) * m) good) (store_block g (take m (drop (i * m) good)) (get_or cs i []) s)
unfolding store_blocks
blocks_drop g m cs i good s h =
    let e : i * m + m ≡ (i + 1) * m = omega arith in
    let t : List ℕ = store_block g (take m (drop (i * m) good)) (get_or cs i []) s in
    ap (λ (x : List (List ℕ)). store_blocks g m x (drop (i * m) good) s) (drop-cons cs i [] h)
    ∙ ap (λ (n : ℕ). store_blocks g m (drop n cs) (drop m (drop (i * m) good)) t) (sym (add-one i))
    ∙ ap (λ (x : List Address). store_blocks g m (drop (i + 1) cs) x t) (drop-drop m (i * m) good ∙ ap (λ (n : ℕ). drop n good) e)

-- ---- LENGTHS AND BODIES: "Writing takes all record bodies joined, and their lengths."
pub total_append : (xs ys : List ℕ) → total (xs ++ ys) ≡ total xs + total ys
unfolding total
total_append [] ys = omega arith
total_append (n ∷ xs) ys = omega (arith, total_append xs ys)

pub total_drop : (lengths : List ℕ) (i : ℕ) → i < length lengths → total (drop i lengths) ≡ get_or lengths i 0 + total (drop (i + 1) lengths)
unfolding total
total_drop lengths i h = ap total (drop-cons lengths i 0 h) ∙ ap (λ (n : ℕ). get_or lengths i 0 + total (drop n lengths)) (sym (add-one i))

pub parted_append : (xs ys bodies : List ℕ) → parted bodies (xs ++ ys) ≡ parted bodies xs ++ parted (drop (total xs) bodies) ys
unfolding parted total
parted_append [] ys bodies = refl
parted_append (n ∷ xs) ys bodies =
    ap (λ (t : List (List ℕ)). take n bodies ∷ t)
    (parted_append xs ys (drop n bodies)
    ∙ ap (λ (t : List ℕ). parted (drop n bodies) xs ++ parted t ys) (drop-drop (total xs) n bodies))
