-- From the file's blocks to the bytes ahead of a cursor.
-- Assumes nothing.
use Prim.Native.Nat.{ℕ, suc, zero, ◌+◌, ◌-◌, ◌*◌, ◌≤◌}
use mathlib.Core.Path.{◌≡◌, sym, ap, ◌∙◌}
use mathlib.Core.List.{List, [], ◌∷◌, ◌++◌}
use lib.ListN.{length, take, drop}
use lib.Seq.{drop-drop, take-nil, take-take, take-append-add}
use native.Mathlib.Omega.{arith}
use native.Mathlib.Nat.{zero-mul}
use native.Mathlib.Numerals.{unary_clauses}
use Rattle.standard.specs.Layout.{image_length, body_at}
use Rattle.standard.specs.Addresses.{ordinal}
use Rattle.standard.specs.Files.{records_to_block, content_size, bytes_of, block_of, blocks_from}
use Rattle.standard.specs.declared.Geometry.{Geometry}
use Rattle.standard.specs.declared.Address.{Address}
use Rattle.promises.specs.Ground.Lists.{Every}
use Rattle.promises.specs.Images.AddressLaws.{Legal}
use Rattle.promises.specs.Extents.FullBlocks.{body_full}

-- the blocks behind b blocks
pub blocks_drop : (g : Geometry) (image h : List ℕ) (b left : ℕ) (more : List Address) → b ≤ left
    → drop b (blocks_from g image h left more) ≡ blocks_from g image h (left - b) (drop (b * records_to_block g h) more)
unfolding blocks_from
blocks_drop g image h zero left more l = simp (unary_clauses, zero-mul (records_to_block g h))
blocks_drop g image h (suc b) zero more l = absurd (omega arith)
blocks_drop g image h (suc b) (suc left) more l =
    let m = records_to_block g h in
    let e : suc left - suc b ≡ left - b = omega arith in
    let f : m + b * m ≡ suc b * m = omega arith in
    blocks_drop g image h b left (drop m more) (omega arith)
    ∙ (ap (blocks_from g image h (left - b)) (drop-drop (b * m) m more ∙ ap (λ (k : ℕ). drop k more) f)
    ∙ ap (λ (k : ℕ). blocks_from g image h k (drop (suc b * m) more)) (sym e))

-- the block with a number
pub block_at : (g : Geometry) (image h : List ℕ) (b left n : ℕ) (more : List Address) → left ≡ b + suc n
    → drop b (blocks_from g image h left more)
    ≡ block_of g image (content_size h n) (take (records_to_block g h) (drop (b * records_to_block g h) more))
    ∷ blocks_from g image h n (drop (records_to_block g h) (drop (b * records_to_block g h) more))
unfolding blocks_from
block_at g image h b left n more e =
    let q : left - b ≡ suc n = omega arith in
    blocks_drop g image h b left more (omega arith) ∙ rw q

-- the bytes of the next m records
pub bytes_take : (g : Geometry) (image : List ℕ) → length image ≡ image_length g → (m : ℕ) (xs : List Address) → Every (Legal g) xs
    → bytes_of g image (take m xs) ≡ take (m * g.P) (bytes_of g image xs)
unfolding bytes_of
bytes_take g image e zero xs h = rw (zero-mul g.P)
bytes_take g image e (suc m) [] h = sym (take-nil (suc m * g.P))
bytes_take g image e (suc m) (a ∷ xs) h =
    let b = body_at g image (ordinal g a) in
    let l : suc m * g.P ≡ length b + m * g.P = omega (arith, body_full g image a e h.0) in
    ap (λ (s : List ℕ). b ++ s) (bytes_take g image e m xs h.1)
    ∙ (sym (take-append-add b (bytes_of g image xs) (m * g.P)) ∙ ap (λ (k : ℕ). take k (b ++ bytes_of g image xs)) (sym l))

pub drop_take : (o n : ℕ) (s : List ℕ) → drop o (take n s) ≡ take (n - o) (drop o s)
drop_take zero n s = simp unary_clauses
drop_take (suc o) zero s = let z : 0 - suc o ≡ 0 = omega arith in rw z
drop_take (suc o) (suc n) [] = sym (take-nil (suc n - suc o))
drop_take (suc o) (suc n) (x ∷ s) = let z : suc n - suc o ≡ n - o = omega arith in rw z (drop_take o n s)

-- THE REST OF A BLOCK'S CONTENT is a part of what is ahead of a cursor
pub rest_is : (g : Geometry) (image : List ℕ) → length image ≡ image_length g → (m size o : ℕ) (xs : List Address) → Every (Legal g) xs → size ≤ m * g.P
    → drop o (take size (bytes_of g image (take m xs))) ≡ take (size - o) (drop o (bytes_of g image xs))
rest_is g image e m size o xs h l =
    ap (λ (s : List ℕ). drop o (take size s)) (bytes_take g image e m xs h)
    ∙ (ap (drop o) (take-take size (m * g.P) (bytes_of g image xs) l) ∙ drop_take o size (bytes_of g image xs))
