-- Blocks as they stand over their records, laid as one list of bytes, are the blocks stored.
-- Assumes nothing.
use Prim.Native.Nat.{ℕ, zero, suc, ◌+◌, ◌-◌, ◌*◌, ◌≤◌}
use mathlib.Core.Path.{◌≡◌, refl, sym, ap, ◌∙◌}
use mathlib.Core.Bool.{true}
use mathlib.Core.List.{List, [], ◌∷◌, ◌++◌, append_assoc}
use lib.ListN.{length, take, drop, length-take, length-drop, length-append, take-append-drop, replicate-append-replicate, drop_of_length-le}
use lib.Seq.{take_at, drop_at, take_all, length-take-le}
use native.Mathlib.Omega.{arith}
use Rattle.standard.specs.Layout.{k_at, kind_offset, body_offset}
use Rattle.standard.specs.Addresses.{legal, ordinal}
use Rattle.standard.specs.Packing.{fill}
use Rattle.standard.specs.Writing.{splice, filled_to, store_record, store_block, store_blocks}
use Rattle.standard.specs.declared.Geometry.{Geometry}
use Rattle.standard.specs.declared.Address.{Address}
use Rattle.promises.specs.Ground.Basics.{either, lt_or_le}
use Rattle.promises.specs.Ground.Lists.{Every, every_take, every_drop}
use Rattle.promises.specs.Ground.Splices.{filled_length}
use Rattle.promises.specs.Writing.StoreLaws.{store_splice}
use Rattle.promises.proofs.Writing.Storing.{store_length, block_length_lem}
use Rattle.promises.specs.Images.Tiling.{address_room}
use Rattle.layout.specs.Room.{Sized}
use Rattle.filling.specs.Poured.{poured, flat}
use Rattle.filling.proofs.PenLaws.{poured_nothing, poured_nowhere, poured_first}

-- "Content left, and physical records' ends, are filled with 00": a filled block is its first record filled, and the rest filled
filled_split : (k rest : ℕ) (c : List ℕ) → length c ≤ k + rest → filled_to (k + rest) c ≡ filled_to k (take k c) ++ filled_to rest (drop k c)
unfolding filled_to
filled_split k rest c h = either (lt_or_le (length c) k)
    (λ l.
    let e : take k c ≡ c = take_all k c (omega arith) in
    let d : drop k c ≡ [] = drop_of_length-le c {i = k} (omega arith) in
    let n : k - length c + rest ≡ k + rest - length c = omega arith in
    let z : rest - 0 ≡ rest = omega arith in
    sym (ap (λ (t : List ℕ). (t ++ fill (k - length t)) ++ (drop k c ++ fill (rest - length (drop k c)))) e
    ∙ ap (λ (t : List ℕ). (c ++ fill (k - length c)) ++ (t ++ fill (rest - length t))) d
    ∙ ap (λ (m : ℕ). (c ++ fill (k - length c)) ++ fill m) z
    ∙ append_assoc c (fill (k - length c)) (fill rest)
    ∙ ap (λ (t : List ℕ). c ++ t) (replicate-append-replicate {A = ℕ} (k - length c) rest 0 ∙ ap fill n)))
    (λ l.
    let lt = length-take-le k c l in
    let ld = length-drop k c in
    let z : k - length (take k c) ≡ 0 = omega arith in
    let n : rest - length (drop k c) ≡ k + rest - length c = omega arith in
    sym (ap (λ (m : ℕ). (take k c ++ fill m) ++ (drop k c ++ fill (rest - length (drop k c)))) z
    ∙ ap (λ (m : ℕ). (take k c ++ []) ++ (drop k c ++ fill m)) n
    ∙ append_assoc (take k c) [] (drop k c ++ fill (k + rest - length c))
    ∙ sym (append_assoc (take k c) (drop k c) (fill (k + rest - length c)))
    ∙ ap (λ (t : List ℕ). t ++ fill (k + rest - length c)) (take-append-drop k c)))

filled_none : (c : List ℕ) → length c ≤ 0 → filled_to 0 c ≡ []
unfolding filled_to
filled_none [] h = refl
filled_none (x ∷ c) h = absurd (omega arith)

store_nowhere : (g : Geometry) (c s : List ℕ) → store_block g [] c s ≡ s
unfolding store_block
store_nowhere g c s = refl

store_first : (g : Geometry) (a : Address) (more : List Address) (c s : List ℕ) → store_block g (a ∷ more) c s ≡ store_block g more (drop g.P c) (store_record g (ordinal g a) (take g.P c) s)
unfolding store_block
store_first g a more c s = refl

-- one record
record_stored : (g : Geometry) (a : Address) (more : List Address) (c rest s : List ℕ) → Sized g s → legal g a ≡ true → length c ≤ g.P
    → poured g (a ∷ more) (filled_to g.P c ++ rest) s ≡ poured g more rest (store_record g (ordinal g a) c s)
unfolding body_offset
record_stored g a more c rest s z la h =
    let n = ordinal g a in
    let x = filled_to g.P c in
    let lx = filled_length g.P c h in
    let some : 1 ≤ length (x ++ rest) = omega (arith, length-append x rest, z.1) in
    let room : kind_offset g n ≤ length s = omega (arith, address_room g a la, z.0) in
    poured_first g a more (x ++ rest) s (omega arith)
    ∙ ap (λ (t : List ℕ). poured g more t (splice (kind_offset g n) (k_at g n ∷ take g.P (x ++ rest)) s)) (drop_at x rest g.P lx)
    ∙ ap (λ (t : List ℕ). poured g more rest (splice (kind_offset g n) (k_at g n ∷ t) s)) (take_at x rest g.P lx)
    ∙ ap (poured g more rest) (sym (store_splice g n c s room))

-- one block over its j records, or over as many as there are
block_stored : (g : Geometry) (j : ℕ) (more : List Address) (c rest s : List ℕ) → Sized g s → Every (λ a. legal g a ≡ true) more → length c ≤ j * g.P
    → poured g more (filled_to (j * g.P) c ++ rest) s ≡ poured g (drop j more) rest (store_block g (take j more) c s)
block_stored g zero more c rest s z la h =
    let e : 0 * g.P ≡ 0 = omega arith in
    ap (λ (n : ℕ). poured g more (filled_to n c ++ rest) s) e
    ∙ ap (λ (t : List ℕ). poured g more (t ++ rest) s) (filled_none c (omega arith))
    ∙ ap (poured g more rest) (sym (store_nowhere g c s))
block_stored g (suc j) [] c rest s z la h =
    poured_nowhere g (filled_to (suc j * g.P) c ++ rest) s ∙ sym (poured_nowhere g rest (store_block g [] c s) ∙ store_nowhere g c s)
block_stored g (suc j) (a ∷ more) c rest s z la h =
    let e : suc j * g.P ≡ g.P + j * g.P = omega arith in
    let P = g.P in
    let front = take P c in
    let lf : length front ≤ P = omega (arith, length-take P c) in
    let ld = length-drop P c in
    let t = store_record g (ordinal g a) front s in
    let zt : Sized g t = (store_length g a front s la.0 lf z.0 ∙ z.0, z.1) in
    ap (λ (n : ℕ). poured g (a ∷ more) (filled_to n c ++ rest) s) e
    ∙ ap (λ (u : List ℕ). poured g (a ∷ more) (u ++ rest) s) (filled_split P (j * P) c (omega arith))
    ∙ ap (λ (u : List ℕ). poured g (a ∷ more) u s) (append_assoc (filled_to P front) (filled_to (j * P) (drop P c)) rest)
    ∙ record_stored g a more front (filled_to (j * P) (drop P c) ++ rest) s z la.0 lf
    ∙ block_stored g j more (drop P c) rest t zt la.1 (omega arith)
    ∙ ap (poured g (drop j more) rest) (sym (store_first g a (take j more) c s))

-- BLOCKS LAID AS BYTES ARE THE BLOCKS STORED
pub pour_blocks : (g : Geometry) (m : ℕ) (cs : List (List ℕ)) (more : List Address) (s : List ℕ) → Sized g s → Every (λ a. legal g a ≡ true) more → 1 ≤ m
    → Every (λ c. length c ≤ m * g.P) cs → poured g more (flat (m * g.P) cs) s ≡ store_blocks g m cs more s
unfolding flat store_blocks
pour_blocks g m [] more s z la lm lc = poured_nothing g more s
pour_blocks g m (c ∷ cs) more s z la lm lc =
    let t = store_block g (take m more) c s in
    let zt : Sized g t = (block_length_lem g s z.0 (take m more) c (every_take (λ a. legal g a ≡ true) m more la), z.1) in
    block_stored g m more c (flat (m * g.P) cs) s z la lc.0
    ∙ pour_blocks g m cs (drop m more) t zt (every_drop (λ a. legal g a ≡ true) m more la) lm lc.1
