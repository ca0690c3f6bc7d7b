-- What a write leaves, in document 01's words: "Then U (spaces for 0) and the data end are set: start for 0 blocks; the first good record of the next block
-- if a whole one is left; else the step past the extent's end"; "Content left, and physical records' ends, are filled with 00. Written records get the
-- valid mark".
-- Assumes nothing.
use Prim.Native.Nat.{ℕ, zero, suc, ◌+◌, ◌*◌, ◌/◌, ◌<◌, ◌≤◌}
use Rattle.std.specs.Prelude.{◌≡◌, true, get_or, take, drop, Ok}
use Rattle.std.proofs.Math.Path.{refl, sym, ap}
use Rattle.std.proofs.Common.{subst, ◌∙◌, length-drop, drop-cons, drop-drop, get_or-drop, get_or-take, length-take-le, add-one, not-suc-le-zero, mul-le-mul_right, le-div_iff_mul-le}
use mathlib.Core.List.{List, [], ◌∷◌}
use Rattle.std.proofs.Math.ListN.{length}
use native.Mathlib.Omega.{arith}
use borrow.Author.Tests.{lt-ltb, le-ltb, ne_eqb}
use Rattle.standard.specs.Layout.{k_at, body_size, kind_offset, body_offset, kind_at, body_at, label_at}
use Rattle.standard.specs.Addresses.{legal, rank, stepped, first_address, ordinal}
use Rattle.standard.specs.Labels.{start_of, end_of}
use Rattle.standard.specs.Judgement.{judged}
use Rattle.standard.specs.Files.{good_records, records_to_block, blocks_held}
use Rattle.standard.specs.Writing.{needed, packing, write_refusal, filled_to, store_record, store_block, store_blocks, next_data_end, data_end_after, image_after}
use Rattle.standard.specs.declared.Geometry.{Geometry}
use Rattle.standard.specs.declared.Address.{Address}
use Rattle.promises.specs.Ground.Basics.{either, lt_or_le}
use Rattle.promises.specs.Ground.Lists.{Every, every_take, every_drop, every_map}
use Rattle.promises.specs.Images.AddressLaws.{Legal, step_rank}
use Rattle.promises.specs.Images.Tiling.{address_room}
use Rattle.promises.specs.Images.Sectors.{sector_at}
use Rattle.promises.specs.Volumes.AcceptedLaws.{image_length_lem, InRange}
use Rattle.promises.specs.Extents.ExtentAddresses.{Rising, rising_take, rising_drop, rising_legal, good_rising, good_legal}
use Rattle.promises.proofs.Extents.ExtentReads.{SameSector}
use Rattle.promises.proofs.Writing.Storing.{WholeImage, store_length, store_kind, store_body, block_length_lem, NotOf, blocks_other}
use Rattle.promises.specs.Writing.DataEnds.{later_at}
use Rattle.promises.proofs.Writing.AcceptedWrite.{stored, label_range, after_is}
use Rattle.promises.proofs.Writing.WrittenImage.{result}
use Rattle.promises.proofs.Writing.StoredBlocks.{front_back, one, small, one_whole, rest_same}
use Rattle.promises.proofs.Writing.ReadBack.{set_same, enough_records}

-- ---- THE DATA END: one of three
module _ (g : Geometry) (image h : List ℕ) where
  pub end_of_none : data_end_after g image h 0 ≡ start_of h
  unfolding data_end_after next_data_end
  end_of_none = refl

  pub end_of_some : (n : ℕ) → 0 < n → n < blocks_held g image h → data_end_after g image h n ≡ get_or (good_records g image h) (n * records_to_block g h) first_address
  unfolding data_end_after next_data_end blocks_held
  end_of_some n p l =
      rw (ne_eqb n 0 (λ (e : n ≡ 0). omega arith), lt-ltb n (length (good_records g image h) / records_to_block g h) l)

  pub end_of_all : (n : ℕ) → 0 < n → blocks_held g image h ≤ n → data_end_after g image h n ≡ stepped g (end_of h)
  unfolding data_end_after next_data_end blocks_held
  end_of_all n p l =
      rw (ne_eqb n 0 (λ (e : n ≡ 0). omega arith), le-ltb n (length (good_records g image h) / records_to_block g h) l)

  -- the record that it names is there
  pub record_there : (n : ℕ) → 1 ≤ records_to_block g h → n < blocks_held g image h → n * records_to_block g h < length (good_records g image h)
  unfolding blocks_held
  record_there n m l =
      let d : suc n * records_to_block g h ≤ length (good_records g image h) = (le-div_iff_mul-le m).0 l in
      omega arith

  -- NEVER THE START, where there are blocks
  pub end_behind : InRange g h → 1 ≤ records_to_block g h → (n : ℕ) → 0 < n → rank g (start_of h) < rank g (data_end_after g image h n)
  end_behind r m n p =
      either (lt_or_le n (blocks_held g image h))
      (λ (l : n < blocks_held g image h).
      subst (λ (e : Address). rank g (start_of h) < rank g e) (sym (end_of_some n p l))
      (later_at g (rank g (start_of h)) (rank g (end_of h)) (good_records g image h) (good_rising g h r image) (n * records_to_block g h) (record_there n m l)
      (omega (arith, m, mul-le-mul_right (records_to_block g h) p)) first_address))
      (λ (l : blocks_held g image h ≤ n).
      subst (λ (e : Address). rank g (start_of h) < rank g e) (sym (end_of_all n p l))
      (omega (arith, r.ordered, step_rank g (end_of h) r.end_legal)))

-- ---- WHAT STANDS IN A WRITTEN SECTOR
cut_first : (k o : ℕ) (s : List ℕ) → o < length s → take (suc k) (drop o s) ≡ get_or s o 0 ∷ take k (drop (o + 1) s)
cut_first k o s l = rw (drop-cons s o 0 l, add-one o)

-- "Each is one byte of kind, then a body."
pub sector_parts : (g : Geometry) (s : List ℕ) (n : ℕ) → kind_offset g n < length s → sector_at g s n ≡ kind_at g s n ∷ body_at g s n
unfolding sector_at kind_at body_at body_offset
sector_parts g s n l = cut_first (body_size g n) (kind_offset g n) s l

module _ (g : Geometry) where
  -- the valid mark, then so many bytes of the content and 00 behind them
  abbrev pub record_of : Address → List ℕ → List ℕ
  record_of a c = k_at g (ordinal g a) ∷ filled_to g.P (take g.P c)

  pub store_sector : (a : Address) (c s : List ℕ) → legal g a ≡ true → length c ≤ g.P → WholeImage g s
      → sector_at g (store_record g (ordinal g a) c s) (ordinal g a) ≡ k_at g (ordinal g a) ∷ filled_to g.P c
  unfolding body_offset
  store_sector a c s la lc ls =
      let n = ordinal g a in
      let t = store_record g n c s in
      let l : kind_offset g n < length t = omega (arith, address_room g a la, store_length g a c s la lc ls, ls) in
      sector_parts g t n l
      ∙ ap (λ (x : ℕ). x ∷ body_at g t n) (store_kind g a c s la lc ls)
      ∙ ap (λ (xs : List ℕ). k_at g n ∷ xs) (store_body g a c s la lc ls)

  -- one block's content over its records, P bytes to each
  abbrev pub Stands : List ℕ → List ℕ → List Address → Type 0
  Stands t c [] = Unit {0}
  Stands t c (a ∷ xs) = (sector_at g t (ordinal g a) ≡ record_of a c) × Stands t (drop g.P c) xs

  stands_same : (s t : List ℕ) (c : List ℕ) (xs : List Address) → Every (SameSector g s t) xs → Stands s c xs → Stands t c xs
  stands_same s t c [] h k = tt
  stands_same s t c (a ∷ xs) h k = (sym h.0 ∙ k.0, stands_same s t (drop g.P c) xs h.1 k.1)

  block_stands : (xs : List Address) (lo hi : ℕ) (c s : List ℕ) → Rising g lo hi xs → WholeImage g s → Stands (store_block g xs c s) c xs
  unfolding store_block
  block_stands [] lo hi c s r l = tt
  block_stands (a ∷ xs) lo hi c s r l = (
    sym (rest_same g a xs lo hi c s r l) ∙ store_sector a (take g.P c) s r.0 (small g a xs lo hi c s r l) l,
    block_stands xs (suc (rank g a)) hi (drop g.P c) (one g a xs lo hi c s r l) r.3 (one_whole g a xs lo hi c s r l),
  )

  -- all blocks
  abbrev pub AllStand : ℕ → List ℕ → List (List ℕ) → List Address → Type 0
  AllStand m t [] more = Unit {0}
  AllStand m t (c ∷ cs) more = Stands t c (take m more) × AllStand m t cs (drop m more)

  all_same : (m : ℕ) (s t : List ℕ) (cs : List (List ℕ)) (more : List Address) → Every (SameSector g s t) more → AllStand m s cs more → AllStand m t cs more
  all_same m s t [] more h k = tt
  all_same m s t (c ∷ cs) more h k = (
    stands_same s t c (take m more) (every_take (SameSector g s t) m more h) k.0,
    all_same m s t cs (drop m more) (every_drop (SameSector g s t) m more h) k.1,
  )

  all_stand : (m lo hi : ℕ) (cs : List (List ℕ)) (more : List Address) (s : List ℕ) → Rising g lo hi more → WholeImage g s → AllStand m (store_blocks g m cs more s) cs more
  unfolding store_blocks
  all_stand m lo hi [] more s r l = tt
  all_stand m lo hi (c ∷ cs) more s r l =
      let rt = rising_take g lo hi m more r in
      let w1 = block_length_lem g s l (take m more) c (rising_legal g lo hi (take m more) rt) in
      let s1 = store_block g (take m more) c s in
      let t = store_blocks g m cs (drop m more) s1 in (
        stands_same s1 t c (take m more)
            (every_map (λ a. Every (NotOf g (ordinal g a)) (drop m more)) (SameSector g s1 t)
            (λ a k. blocks_other g s1 w1 (ordinal g a) m cs (drop m more) (every_take (NotOf g (ordinal g a)) (length cs * m) (drop m more) k))
            (take m more) (front_back g m lo hi more r))
            (block_stands (take m more) lo hi c s rt l),
        all_stand m lo hi cs (drop m more) s1 (rising_drop g lo hi m more r) w1,
      )

  -- the i-th record of a block; of block b
  stands_at : (t c : List ℕ) (xs : List Address) (d : Address) (i : ℕ) → Stands t c xs → i < length xs
      → sector_at g t (ordinal g (get_or xs i d)) ≡ record_of (get_or xs i d) (drop (i * g.P) c)
  stands_at t c [] d i k l = absurd (not-suc-le-zero l)
  stands_at t c (a ∷ xs) d zero k l = let z : 0 * g.P ≡ 0 = omega arith in rw z k.0
  stands_at t c (a ∷ xs) d (suc i) k l =
      let e : g.P + i * g.P ≡ suc i * g.P = omega arith in
      stands_at t (drop g.P c) xs d i k.1 (omega arith)
      ∙ ap (record_of (get_or xs i d)) (drop-drop (i * g.P) g.P c ∙ ap (λ (n : ℕ). drop n c) e)

  all_at : (m : ℕ) (t : List ℕ) (cs : List (List ℕ)) (more : List Address) (d : Address) (b i : ℕ) → AllStand m t cs more → b < length cs → i < m
      → length cs * m ≤ length more
      → sector_at g t (ordinal g (get_or more (b * m + i) d)) ≡ record_of (get_or more (b * m + i) d) (drop (i * g.P) (get_or cs b []))
  all_at m t [] more d b i k l u w = absurd (not-suc-le-zero l)
  all_at m t (c ∷ cs) more d zero i k l u w =
      let n : length (take m more) ≡ m = length-take-le m more (omega arith) in
      let z : 0 * m + i ≡ i = omega arith in
      let e : get_or (take m more) i d ≡ get_or more (0 * m + i) d = get_or-take m more i d u ∙ ap (λ (x : ℕ). get_or more x d) (sym z) in
      subst (λ (a : Address). sector_at g t (ordinal g a) ≡ record_of a (drop (i * g.P) c)) e (stands_at t c (take m more) d i k.0 (omega arith))
  all_at m t (c ∷ cs) more d (suc b) i k l u w =
      let z : m + (b * m + i) ≡ suc b * m + i = omega arith in
      let e : get_or (drop m more) (b * m + i) d ≡ get_or more (suc b * m + i) d = get_or-drop m more (b * m + i) d ∙ ap (λ (x : ℕ). get_or more x d) z in
      subst (λ (a : Address). sector_at g t (ordinal g a) ≡ record_of a (drop (i * g.P) (get_or cs b []))) e
      (all_at m t cs (drop m more) d b i k.1 (omega arith) u (omega (arith, length-drop m more)))

-- ---- OF AN ACCEPTED WRITE
module _ (image : List ℕ) (g : Geometry) (slot : ℕ) (bodies lengths : List ℕ) (j : judged image ≡ Ok g)
    (w : write_refusal g image slot bodies lengths ≡ Ok tt) where
  abbrev the_label : List ℕ
  the_label = label_at g image slot

  abbrev after : List ℕ
  after = image_after image slot bodies lengths

  abbrev blocks : ℕ
  blocks = needed the_label bodies lengths

  -- WHAT STANDS IN THE i-TH RECORD OF BLOCK b: the valid mark, its P bytes of the content, and 00
  pub written_sector : (b i : ℕ) → b < blocks → i < records_to_block g the_label
      → let a = get_or (good_records g image the_label) (b * records_to_block g the_label + i) first_address in
      sector_at g after (ordinal g a)
      ≡ k_at g (ordinal g a) ∷ filled_to g.P (take g.P (drop (i * g.P) (get_or (packing the_label bodies lengths).contents b [])))
  written_sector b i l u =
      let m = records_to_block g the_label in
      let cs = (packing the_label bodies lengths).contents in
      let good = good_records g image the_label in
      let a = get_or good (b * m + i) first_address in
      let st = stored image g slot bodies lengths j w in
      let t = result image g slot bodies lengths j w in
      let r = label_range image g slot bodies lengths j w in
      let k : AllStand g m st cs good = all_stand g m (rank g (start_of the_label)) (rank g (end_of the_label)) cs good image (good_rising g the_label r image) (image_length_lem image g j) in
      let k' : AllStand g m t cs good =
      all_same g m st t cs good (every_map (Legal g) (SameSector g st t) (set_same image g slot bodies lengths j w) good (good_legal g the_label r image)) k in
      ap (λ (s : List ℕ). sector_at g s (ordinal g a)) (after_is image g slot bodies lengths j w)
      ∙ all_at g m t cs good first_address b i k' l u (enough_records image g slot bodies lengths j w)
