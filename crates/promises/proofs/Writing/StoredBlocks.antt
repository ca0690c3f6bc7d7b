-- Stored blocks are held: what was stored in a block's records is the block's content.
-- Assumes nothing.
use Prim.Native.Nat.{ℕ, zero, suc, ◌+◌, ◌-◌, ◌*◌, ◌<◌, ◌≤◌}
use Rattle.std.specs.Prelude.{◌≡◌, true, false, take, drop}
use Rattle.std.proofs.Math.Path.{refl, sym}
use Rattle.std.proofs.Common.{ap, ◌∙◌, take-append-drop, take_all, not-suc-le-zero}
use mathlib.Core.List.{List, [], ◌∷◌, ◌++◌, map, append_assoc, append-nil}
use Rattle.std.proofs.Math.ListN.{length, length-drop}
use Rattle.std.proofs.Math.Seq.{take-append_seam, take-append-add, length-take-le}
use native.Mathlib.Omega.{arith}
use Rattle.standard.specs.Layout.{body_at, check_failed}
use Rattle.standard.specs.Addresses.{legal, rank, ordinal}
use Rattle.standard.specs.Labels.{block_length, unused_count}
use Rattle.standard.specs.Pieces.{Block, held}
use Rattle.standard.specs.Files.{records_to_block, any_failed, bytes_of, block_of, blocks_from}
use Rattle.standard.specs.Packing.{fill}
use Rattle.standard.specs.Writing.{filled_to, store_record, store_block, store_blocks}
use Rattle.standard.specs.declared.Geometry.{Geometry}
use Rattle.standard.specs.declared.Address.{Address}
use Rattle.promises.specs.Ground.Basics.{either, lt_or_le}
use Rattle.promises.specs.Ground.Lists.{Every, take_short, every_take, every_drop, every_map}
use Rattle.promises.specs.Images.Tiling.{addresses_apart}
use Rattle.promises.specs.Images.SectorLaws.{same_body, same_failed}
use Rattle.promises.specs.Extents.ExtentAddresses.{Rising, Between, rising_every, rising_legal, rising_take, rising_drop}
use Rattle.promises.proofs.Extents.ExtentReads.{SameSector, same_block}
use Rattle.promises.specs.Writing.Laying.{Sizes}
use Rattle.promises.proofs.Writing.Storing.{WholeImage, store_length, store_body, store_sound, block_length_lem, NotOf, block_other, blocks_other}

filled_full : (n : ℕ) (c : List ℕ) → length c ≡ n → filled_to n c ≡ c
unfolding filled_to
filled_full n c e = let z : n - length c ≡ 0 = omega arith in rw z (append-nil c)

-- the first P bytes in one record, the rest behind it
in_two : (P : ℕ) (c X : List ℕ) → take (length (drop P c)) X ≡ drop P c → take (length c) (filled_to P (take P c) ++ X) ≡ c
unfolding filled_to
in_two P c X h =
    either (lt_or_le P (length c))
    (λ (l : P < length c).
    let lt = length-take-le P c (omega arith) in
    let ld = length-drop P c in
    let e : length c ≡ length (take P c) + length (drop P c) = omega arith in
    ap (λ (A : List ℕ). take (length c) (A ++ X)) (filled_full P (take P c) lt)
    ∙ (ap (λ (n : ℕ). take n (take P c ++ X)) e
    ∙ (take-append-add (take P c) X (length (drop P c)) ∙ (ap (λ (Y : List ℕ). take P c ++ Y) h ∙ take-append-drop P c))))
    (λ (l : length c ≤ P).
    ap (λ (A : List ℕ). take (length c) ((A ++ fill (P - length A)) ++ X)) (take_all P c l)
    ∙ (ap (take (length c)) (append_assoc c (fill (P - length c)) X) ∙ take-append_seam c (fill (P - length c) ++ X)))

module _ (g : Geometry) where
  -- addresses behind one
  behind : (a : Address) → legal g a ≡ true → (lo hi : ℕ) → rank g a < lo → (xs : List Address) → Rising g lo hi xs → Every (NotOf g (ordinal g a)) xs
  behind a la lo hi l xs r =
      every_map (Between g lo hi) (NotOf g (ordinal g a)) (λ b k. (k.0, addresses_apart g a la b k.0 (omega (arith, k.1)))) xs (rising_every g lo hi xs r)

  pub front_back : (m lo hi : ℕ) (xs : List Address) → Rising g lo hi xs → Every (λ a. Every (NotOf g (ordinal g a)) (drop m xs)) (take m xs)
  front_back zero lo hi xs r = tt
  front_back (suc m) lo hi [] r = tt
  front_back (suc m) lo hi (a ∷ xs) r = (
    behind a r.0 (suc (rank g a)) hi (omega arith) (drop m xs) (rising_drop g (suc (rank g a)) hi m xs r.3),
    front_back m (suc (rank g a)) hi xs r.3,
  )

  -- one block
  module _ (a : Address) (xs : List Address) (lo hi : ℕ) (c s : List ℕ) (r : Rising g lo hi (a ∷ xs)) (l : WholeImage g s) where
    abbrev pub one : List ℕ
    one = store_record g (ordinal g a) (take g.P c) s

    pub small : length (take g.P c) ≤ g.P
    small = take_short g.P c

    pub one_whole : WholeImage g one
    one_whole = store_length g a (take g.P c) s r.0 small l ∙ l

    pub rest_same : SameSector g one (store_block g xs (drop g.P c) one) a
    rest_same = block_other g one one_whole (ordinal g a) xs (drop g.P c) (behind a r.0 (suc (rank g a)) hi (omega arith) xs r.3)

    head_body : body_at g (store_block g xs (drop g.P c) one) (ordinal g a) ≡ filled_to g.P (take g.P c)
    head_body = sym (same_body g one (store_block g xs (drop g.P c) one) (ordinal g a) rest_same) ∙ store_body g a (take g.P c) s r.0 small l

    head_sound : check_failed g (store_block g xs (drop g.P c) one) (ordinal g a) ≡ false
    head_sound = sym (same_failed g one (store_block g xs (drop g.P c) one) (ordinal g a) rest_same) ∙ store_sound g a (take g.P c) s r.0 small l

  nothing : (c X : List ℕ) → length c ≤ 0 → take (length c) X ≡ c
  nothing [] X h = refl
  nothing (x ∷ c) X h = absurd (not-suc-le-zero h)

  block_bytes : (xs : List Address) (lo hi : ℕ) (c s : List ℕ) → Rising g lo hi xs → WholeImage g s → length c ≤ length xs * g.P
      → take (length c) (bytes_of g (store_block g xs c s) xs) ≡ c
  unfolding bytes_of store_block
  block_bytes [] lo hi c s r l h = nothing c [] (omega arith)
  block_bytes (a ∷ xs) lo hi c s r l h =
      let ih = block_bytes xs (suc (rank g a)) hi (drop g.P c) (one a xs lo hi c s r l) r.3 (one_whole a xs lo hi c s r l)
      (omega (arith, length-drop g.P c)) in
      rw (head_body a xs lo hi c s r l) (in_two g.P c _ ih)

  block_sound : (xs : List Address) (lo hi : ℕ) (c s : List ℕ) → Rising g lo hi xs → WholeImage g s → any_failed g (store_block g xs c s) xs ≡ false
  unfolding any_failed store_block
  block_sound [] lo hi c s r l = refl
  block_sound (a ∷ xs) lo hi c s r l =
      rw (head_sound a xs lo hi c s r l)
      (block_sound xs (suc (rank g a)) hi (drop g.P c) (one a xs lo hi c s r l) r.3 (one_whole a xs lo hi c s r l))

  block_held : (xs : List Address) (lo hi : ℕ) (c s : List ℕ) → Rising g lo hi xs → WholeImage g s → length c ≤ length xs * g.P
      → block_of g (store_block g xs c s) (length c) xs ≡ held c
  unfolding block_of
  block_held xs lo hi c s r l h = rw (block_sound xs lo hi c s r l) (ap held (block_bytes xs lo hi c s r l h))

  -- ALL BLOCKS
  abbrev pub Holds : ℕ → List ℕ → List (List ℕ) → List Address → Type 0
  Holds m t [] more = Unit {0}
  Holds m t (c ∷ cs) more = (block_of g t (length c) (take m more) ≡ held c) × Holds m t cs (drop m more)

  pub holds_same : (m : ℕ) (s t : List ℕ) (cs : List (List ℕ)) (more : List Address) → Every (SameSector g s t) more → Holds m s cs more → Holds m t cs more
  holds_same m s t [] more h k = tt
  holds_same m s t (c ∷ cs) more h k = (
    sym (same_block g s t (length c) (take m more) (every_take (SameSector g s t) m more h)) ∙ k.0,
    holds_same m s t cs (drop m more) (every_drop (SameSector g s t) m more h) k.1,
  )

  pub stored_holds : (m lo hi : ℕ) (cs : List (List ℕ)) (more : List Address) (s : List ℕ) → Rising g lo hi more → length cs * m ≤ length more
      → Every (λ c. length c ≤ m * g.P) cs → WholeImage g s → Holds m (store_blocks g m cs more s) cs more
  unfolding store_blocks
  stored_holds m lo hi [] more s r h f l = tt
  stored_holds m lo hi (c ∷ cs) more s r h f l =
      let e : suc (length cs) * m ≡ m + length cs * m = omega arith in
      let lm = length-take-le m more (omega arith) in
      let rt = rising_take g lo hi m more r in
      let w1 = block_length_lem g s l (take m more) c (rising_legal g lo hi (take m more) rt) in
      let s1 = store_block g (take m more) c s in
      let t = store_blocks g m cs (drop m more) s1 in
      let rd = rising_drop g lo hi m more r in (
        sym (same_block g s1 t (length c) (take m more)
            (every_map (λ a. Every (NotOf g (ordinal g a)) (drop m more)) (SameSector g s1 t)
            (λ a k. blocks_other g s1 w1 (ordinal g a) m cs (drop m more) (every_take (NotOf g (ordinal g a)) (length cs * m) (drop m more) k))
            (take m more) (front_back m lo hi more r)))
            ∙ block_held (take m more) lo hi c s rt l (rw lm f.0),
        stored_holds m lo hi cs (drop m more) s1 rd (omega (arith, length-drop m more)) f.1 w1,
      )

-- sizes as the label gives them
pub sizes_fitting : (B U : ℕ) (c : List ℕ) (cs : List (List ℕ)) (n : ℕ) → Sizes B B c cs U → B ≤ n → Every (λ x. length x ≤ n) (c ∷ cs)
sizes_fitting B U c [] n z h = (omega arith, tt)
sizes_fitting B U c (d ∷ cs) n z h = (omega (arith, z.0), sizes_fitting B U d cs n z.1 h)

pub file_blocks : (g : Geometry) (k t : List ℕ) (m B U : ℕ) → records_to_block g k ≡ m → block_length k ≡ B → unused_count k ≡ U
    → (c : List ℕ) (cs : List (List ℕ)) (more : List Address) → Sizes B B c cs U → Holds g m t (c ∷ cs) more
    → blocks_from g t k (suc (length cs)) more ≡ map held (c ∷ cs)
unfolding blocks_from
file_blocks g k t m B U em eB eU c [] more z h =
    let s : B - U ≡ length c = omega arith in
    rw (em, eB, eU, s, h.0)
file_blocks g k t m B U em eB eU c (d ∷ cs) more z h =
    rw (em, eB, sym z.0, h.0) (ap (λ (bs : List Block). held c ∷ bs) (rw em at (file_blocks g k t m B U em eB eU d cs (drop m more) z.1 h.1)))
