-- THE IMAGE AFTER AN ACCEPTED WRITE AS A LIST OF WRITES CARRIED OUT: one for each physical record that the blocks fill, in order, and one for the label.
-- Assumes nothing.
use Prim.Native.Nat.{ℕ, suc, ◌+◌, ◌-◌, ◌*◌, ◌<◌, ◌≤◌}
use Rattle.std.specs.Prelude.{◌≡◌, true, ◌⊎◌, get_or, drop, Ok}
use Rattle.std.proofs.Math.Path.{refl, sym, ap}
use Rattle.std.proofs.Common.{◌∙◌, inl, length-append, get_or-take, get_or-drop, take_at, ext_get_or}
use Rattle.std.proofs.Math.Logic.{inr}
use mathlib.Core.List.{List, [], ◌∷◌, ◌++◌}
use Rattle.std.proofs.Math.ListN.{length, take, length-take, length-drop}
use Rattle.std.proofs.Math.Seq.{length-take-le, take-add}
use native.Mathlib.Omega.{arith}
use Rattle.standard.specs.Layout.{k_at, kind_offset, index_sectors, image_length, slot_ordinal, label_offset, label_at, body_offset}
use Rattle.standard.specs.Addresses.{legal, rank, ordinal, five_bytes, address_number}
use Rattle.standard.specs.Labels.{start_of, end_of}
use Rattle.standard.specs.Judgement.{judged}
use Rattle.standard.specs.Files.{good_records, records_to_block}
use Rattle.standard.specs.Packing.{Packing}
use Rattle.standard.specs.Writing.{needed, packing, write_refusal, splice, filled_to, store_record, store_block, store_blocks, unused_field, data_end_after, set_label, image_with, image_after}
use Rattle.standard.specs.declared.Geometry.{Geometry}
use Rattle.standard.specs.declared.Address.{Address}
use Rattle.promises.specs.Ground.Basics.{either, lt_or_le}
use Rattle.promises.specs.Images.Tiling.{offset_data, sectors_apart, addresses_apart, address_size, address_room, size_index}
use Rattle.promises.specs.Images.AddressLaws.{ordinal_ge}
use Rattle.promises.specs.Images.SectorLaws.{slot_body, same_body}
use Rattle.promises.specs.Ground.Splices.{Outside, splice_length, splice_part, splice_drop, splice_outside, filled_length}
use Rattle.promises.specs.Ground.Lists.{Every, every_left, every_right}
use Rattle.promises.specs.Extents.ExtentAddresses.{Rising, Between, rising_every, rising_take, good_rising}
use Rattle.promises.proofs.Writing.Storing.{store_length, block_length_lem, WholeImage}
use Rattle.promises.specs.Volumes.AcceptedLaws.{image_length_lem}
use Rattle.promises.specs.Volumes.VolumeNumbers.{label_room, numbers_of_lem, slot_in_index}
use Rattle.promises.specs.Ground.Digits.{padded_length, unused_length}
use Rattle.promises.proofs.Writing.AcceptedWrite.{taken_by, stored, label_range, slot_inside, taken_legal, stored_whole, after_is}
use Rattle.promises.proofs.Writing.ReadBack.{enough_records}
use Rattle.promises.specs.Writing.StoreLaws.{splice_in, store_splice}
use Rattle.promises.proofs.Writing.WrittenImage.{stored_slot}

-- bytes to be laid over the image from an offset on
pub record Write : Type 0 where
  pub offset : ℕ
  pub bytes : List ℕ

unfoldable pub carried_out : List Write → List ℕ → List ℕ
carried_out [] image = image
carried_out (w ∷ writes) image = carried_out writes (splice w.offset w.bytes image)

-- "Written records get the valid mark"; "physical records' ends, are filled with 00": the P+1 bytes of a sector
abbrev pub record_write : Geometry → Address → List ℕ → Write
record_write g a content = record { offset = kind_offset g (ordinal g a); bytes = k_at g (ordinal g a) ∷ filled_to g.P content }

-- one block over its m good records: P bytes of the content to each
unfoldable pub block_writes : Geometry → List Address → List ℕ → List Write
block_writes g [] content = []
block_writes g (a ∷ more) content = record_write g a (take g.P content) ∷ block_writes g more (drop g.P content)

-- "blocks take m good records in turn"
unfoldable pub blocks_writes : Geometry → ℕ → List (List ℕ) → List Address → List Write
blocks_writes g m [] more = []
blocks_writes g m (content ∷ contents) more = block_writes g (take m more) content ++ blocks_writes g m contents (drop m more)

-- "Then U (spaces for 0) and the data end are set": the 128 bytes of the label, with positions 58-62 and 75-79 new
abbrev pub new_label : List ℕ → ℕ → Address → List ℕ
new_label h U data_end = splice 74 (five_bytes data_end) (splice 57 (unused_field U) h)

unfoldable pub writes_of : Geometry → List ℕ → ℕ → Packing → List Write
writes_of g image slot p =
    let h = label_at g image slot in
    blocks_writes g (records_to_block g h) p.contents (good_records g image h)
    ++ (record { offset = label_offset g slot; bytes = new_label h p.U (data_end_after g image h (length p.contents)) } ∷ [])

pub carried_append : (us ws : List Write) (s : List ℕ) → carried_out (us ++ ws) s ≡ carried_out ws (carried_out us s)
unfolding carried_out
carried_append [] ws s = refl
carried_append (u ∷ us) ws s = carried_append us ws (splice u.offset u.bytes s)

-- ---- the blocks
module _ (g : Geometry) where
  carried_block : (xs : List Address) (c s : List ℕ) → Every (λ a. legal g a ≡ true) xs → WholeImage g s → carried_out (block_writes g xs c) s ≡ store_block g xs c s
  unfolding carried_out block_writes store_block body_offset
  carried_block [] c s h l = refl
  carried_block (a ∷ xs) c s h l =
      let t : List ℕ = store_record g (ordinal g a) (take g.P c) s in
      let short : length (take g.P c) ≤ g.P = omega (arith, length-take g.P c) in
      ap (carried_out (block_writes g xs (drop g.P c))) (sym (store_splice g (ordinal g a) (take g.P c) s (omega (arith, address_room g a h.0))))
      ∙ carried_block xs (drop g.P c) t h.1 (store_length g a (take g.P c) s h.0 short l ∙ l)

  pub carried_blocks : (m : ℕ) (cs : List (List ℕ)) (more : List Address) (s : List ℕ) → Every (λ a. legal g a ≡ true) (take (length cs * m) more) → WholeImage g s
      → carried_out (blocks_writes g m cs more) s ≡ store_blocks g m cs more s
  unfolding carried_out blocks_writes store_blocks
  carried_blocks m [] more s h l = refl
  carried_blocks m (c ∷ cs) more s h l =
      let e : suc (length cs) * m ≡ m + length cs * m = omega arith in
      let k : Every (λ a. legal g a ≡ true) (take m more ++ take (length cs * m) (drop m more)) = rw (e, take-add m (length cs * m) more) at h in
      let here = every_left (λ a. legal g a ≡ true) (take m more) _ k in
      carried_append (block_writes g (take m more) c) (blocks_writes g m cs (drop m more)) s
      ∙ ap (carried_out (blocks_writes g m cs (drop m more))) (carried_block (take m more) c s here l)
      ∙ carried_blocks m cs (drop m more) (store_block g (take m more) c s) (every_right (λ a. legal g a ≡ true) (take m more) _ k) (block_length_lem g s l (take m more) c here)

-- ---- the label: two fields laid over the image are the label with two fields laid over it

-- bytes laid where bytes of the same number were laid before
splice_over : (a : ℕ) (x y s : List ℕ) → length x ≡ length y → a + length x ≤ length s → splice a y (splice a x s) ≡ splice a y s
unfolding splice
splice_over a x y s e h =
    let l = length-take-le a s (omega arith) in
    let d : drop (a + length y) (splice a x s) ≡ drop (a + length y) s =
    ap (λ (n : ℕ). drop (a + n) (splice a x s)) (sym e) ∙ splice_drop a x s h ∙ ap (λ (n : ℕ). drop (a + n) s) e in
    ap (λ (p : List ℕ). p ++ (y ++ drop (a + length y) (splice a x s))) (take_at (take a s) (x ++ drop (a + length x) s) a l)
    ∙ ap (λ (q : List ℕ). take a s ++ (y ++ q)) d

-- bytes laid inside a part are laid over the part, and the part over the whole
splice_within : (o n a : ℕ) (x s : List ℕ) → a + length x ≤ n → o + n ≤ length s → splice (o + a) x s ≡ splice o (splice a x (take n (drop o s))) s
splice_within o n a x s h k =
    let p : List ℕ = take n (drop o s) in
    let lp : length p ≡ n = length-take-le n (drop o s) (omega (arith, length-drop o s)) in
    let lx = splice_length a x p (omega arith) in
    let room : o + length (splice a x p) ≤ length s = omega arith in
    let ll = splice_length (o + a) x s (omega arith) in
    ext_get_or 0 (splice (o + a) x s) (splice o (splice a x p) s) (ll ∙ sym (splice_length o (splice a x p) s room)) (λ i _. go lp lx room i)
  where
    go : length (take n (drop o s)) ≡ n → length (splice a x (take n (drop o s))) ≡ length (take n (drop o s)) → o + length (splice a x (take n (drop o s))) ≤ length s
        → (i : ℕ) → get_or (splice (o + a) x s) i 0 ≡ get_or (splice o (splice a x (take n (drop o s))) s) i 0
    go lp lx room i =
        either (lt_or_le i o)
        (λ (l : i < o). splice_outside (o + a) x s (omega arith) i (inl (omega arith)) ∙ sym (splice_outside o (splice a x (take n (drop o s))) s room i (inl l)))
        (λ (r : o ≤ i).
        either (lt_or_le i (o + n))
        (λ (l : i < o + n).
        either (lt_or_le i (o + a))
        (λ (b : i < o + a). kept r l (inl (omega arith)) (inl b))
        (λ (b : o + a ≤ i).
        either (lt_or_le i (o + a + length x))
        (λ (b' : i < o + a + length x).
        let e : i - (o + a) ≡ i - o - a = omega arith in
        splice_in (o + a) x s (omega arith) i b b' ∙ ap (λ (q : ℕ). get_or x q 0) e
        ∙ sym (splice_in o (splice a x (take n (drop o s))) s room i r (omega arith)
        ∙ splice_in a x (take n (drop o s)) (omega arith) (i - o) (omega arith) (omega arith)))
        (λ (b' : o + a + length x ≤ i). kept r l (inr (omega arith)) (inr b'))))
        (λ (l : o + n ≤ i).
        splice_outside (o + a) x s (omega arith) i (inr (omega arith)) ∙ sym (splice_outside o (splice a x (take n (drop o s))) s room i (inr (omega arith)))))
      where
        kept : o ≤ i → i < o + n → Outside (i - o) a (length x) → Outside i (o + a) (length x)
            → get_or (splice (o + a) x s) i 0 ≡ get_or (splice o (splice a x (take n (drop o s))) s) i 0
        kept r l q q' =
            let e : o + (i - o) ≡ i = omega arith in
            splice_outside (o + a) x s (omega arith) i q'
            ∙ sym (splice_in o (splice a x (take n (drop o s))) s room i r (omega arith)
            ∙ (splice_outside a x (take n (drop o s)) (omega arith) (i - o) q
            ∙ (get_or-take n (drop o s) (i - o) 0 (omega arith) ∙ (get_or-drop o s (i - o) 0 ∙ ap (λ (z : ℕ). get_or s z 0) e))))

pub set_as_one : (g : Geometry) (slot U : ℕ) (e : Address) (s : List ℕ) → label_offset g slot + 128 ≤ length s
    → set_label g slot U e s ≡ splice (label_offset g slot) (new_label (label_at g s slot) U e) s
unfolding set_label label_at
set_as_one g slot U e s k =
    let o = label_offset g slot in
    let h : List ℕ = take 128 (drop o s) in
    let x = unused_field U in
    let y = five_bytes e in
    let lx : length x ≡ 5 = unused_length U in
    let ly : length y ≡ 5 = padded_length 5 (address_number e) in
    let lh : length h ≡ 128 = length-take-le 128 (drop o s) (omega (arith, length-drop o s)) in
    let l₁ = splice_length 57 x h (omega arith) in
    let l₂ = splice_length 74 y (splice 57 x h) (omega arith) in
    let once : splice (o + 57) x s ≡ splice o (splice 57 x h) s = splice_within o 128 57 x s (omega arith) k in
    let lo = splice_length o (splice 57 x h) s (omega arith) in
    let part : take 128 (drop o (splice o (splice 57 x h) s)) ≡ splice 57 x h =
    ap (λ (n : ℕ). take n (drop o (splice o (splice 57 x h) s))) (sym (l₁ ∙ lh)) ∙ splice_part o (splice 57 x h) s (omega arith) in
    ap (splice (o + 74) y) once
    ∙ splice_within o 128 74 y (splice o (splice 57 x h) s) (omega arith) (omega arith)
    ∙ ap (λ (p : List ℕ). splice o (splice 74 y p) (splice o (splice 57 x h) s)) part
    ∙ splice_over o (splice 57 x h) (splice 74 y (splice 57 x h)) s (sym l₂) (omega arith)

module _ (image : List ℕ) (g : Geometry) (slot : ℕ) (bodies lengths : List ℕ) (j : judged image ≡ Ok g)
    (w : write_refusal g image slot bodies lengths ≡ Ok tt) where
  abbrev label : List ℕ
  label = label_at g image slot

  abbrev st : List ℕ
  st = stored image g slot bodies lengths j w

  stored_label_is : label_at g st slot ≡ label
  stored_label_is =
      let inside = slot_in_index g slot (numbers_of_lem image g j) (slot_inside image g slot bodies lengths j w) in
      sym (slot_body g st slot inside)
      ∙ sym (same_body g image st (slot_ordinal slot) (stored_slot image g slot bodies lengths j w))
      ∙ slot_body g image slot inside

  label_inside : label_offset g slot + 128 ≤ length st
  unfolding image_length
  label_inside =
      omega (arith, label_room g slot (numbers_of_lem image g j) (slot_inside image g slot bodies lengths j w), stored_whole image g slot bodies lengths j w)

  -- THE IMAGE AFTERWARDS IS THESE WRITES CARRIED OUT
  pub write_carried : image_after image slot bodies lengths ≡ carried_out (writes_of g image slot (packing label bodies lengths)) image
  unfolding image_with writes_of carried_out
  write_carried =
      let p = packing label bodies lengths in
      let e : Address = data_end_after g image label (needed label bodies lengths) in
      let data-writes = blocks_writes g (records_to_block g label) p.contents (good_records g image label) in
      let new : Write = record { offset = label_offset g slot; bytes = new_label label p.U e } in
      after_is image g slot bodies lengths j w
      ∙ set_as_one g slot p.U e st label_inside
      ∙ ap (λ (h : List ℕ). splice (label_offset g slot) (new_label h p.U e) st) stored_label_is
      ∙ ap (splice (label_offset g slot) (new_label label p.U e))
      (sym (carried_blocks g (records_to_block g label) p.contents (good_records g image label) image (taken_legal image g slot bodies lengths j w) (image_length_lem image g j)))
      ∙ sym (carried_append data-writes (new ∷ []) image)

-- ---- WHAT WRITES THESE ARE: one for each physical record taken, in order, of P+1 bytes at its sector; each inside the image, and no two meet
abbrev pub EachWrite : (Write → Type 0) → List Write → Type 0
EachWrite C writes = Every C writes

abbrev pub Follows : Geometry → List Address → List Write → Type 0
Follows g [] [] = Unit {0}
Follows g [] (w ∷ writes) = ⊥
Follows g (a ∷ more) [] = ⊥
Follows g (a ∷ more) (w ∷ writes) = (w.offset ≡ kind_offset g (ordinal g a)) × (length w.bytes ≡ g.P + 1) × Follows g more writes

-- the bytes of two writes do not meet
abbrev pub Clear : Write → Write → Type 0
Clear u w = (u.offset + length u.bytes ≤ w.offset) ⊎ (w.offset + length w.bytes ≤ u.offset)

abbrev pub Apart : List Write → Type 0
Apart [] = Unit {0}
Apart (w ∷ writes) = EachWrite (Clear w) writes × Apart writes

follows_append : (g : Geometry) (xs ys : List Address) (us ws : List Write) → Follows g xs us → Follows g ys ws → Follows g (xs ++ ys) (us ++ ws)
follows_append g [] ys [] ws h k = k
follows_append g [] ys (u ∷ us) ws h k = absurd h
follows_append g (a ∷ xs) ys [] ws h k = absurd h
follows_append g (a ∷ xs) ys (u ∷ us) ws h k = (h.0, h.1, follows_append g xs ys us ws h.2 k)

follows_block : (g : Geometry) (xs : List Address) (c : List ℕ) → Follows g xs (block_writes g xs c)
unfolding block_writes
follows_block g [] c = tt
follows_block g (a ∷ xs) c =
    let l = filled_length g.P (take g.P c) (omega (arith, length-take g.P c)) in
    (refl, omega arith, follows_block g xs (drop g.P c))

follows_blocks : (g : Geometry) (m : ℕ) (cs : List (List ℕ)) (more : List Address) → Follows g (take (length cs * m) more) (blocks_writes g m cs more)
unfolding blocks_writes
follows_blocks g m [] more = let z : 0 * m ≡ 0 = omega arith in rw z tt
follows_blocks g m (c ∷ cs) more =
    let e : suc (length cs) * m ≡ m + length cs * m = omega arith in
    rw (e, take-add m (length cs * m) more)
    (follows_append g (take m more) (take (length cs * m) (drop m more)) (block_writes g (take m more) c) (blocks_writes g m cs (drop m more)) (follows_block g (take m more) c)
    (follows_blocks g m cs (drop m more)))

follows_count : (g : Geometry) (xs : List Address) (ws : List Write) → Follows g xs ws → length ws ≡ length xs
follows_count g [] [] h = refl
follows_count g [] (w ∷ ws) h = absurd h
follows_count g (a ∷ xs) [] h = absurd h
follows_count g (a ∷ xs) (w ∷ ws) h = ap suc (follows_count g xs ws h.2)

-- what holds of every sector of P+1 bytes of these addresses holds of every write
follows_each : (g : Geometry) (C : Write → Type 0) (D : Address → Type 0)
    → ((a : Address) (w : Write) → D a → w.offset ≡ kind_offset g (ordinal g a) → length w.bytes ≡ g.P + 1 → C w)
    → (xs : List Address) (ws : List Write) → Every D xs → Follows g xs ws → EachWrite C ws
follows_each g C D f [] [] d h = tt
follows_each g C D f [] (w ∷ ws) d h = absurd h
follows_each g C D f (a ∷ xs) [] d h = absurd h
follows_each g C D f (a ∷ xs) (w ∷ ws) d h = (f a w d.0 h.0 h.1, follows_each g C D f xs ws d.1 h.2)

follows_apart : (g : Geometry) (lo hi : ℕ) (xs : List Address) (ws : List Write) → Rising g lo hi xs → Follows g xs ws → Apart ws
follows_apart g lo hi [] [] r h = tt
follows_apart g lo hi [] (w ∷ ws) r h = absurd h
follows_apart g lo hi (a ∷ xs) [] r h = absurd h
follows_apart g lo hi (a ∷ xs) (w ∷ ws) r h = (
  follows_each g (Clear w) (Between g (suc (rank g a)) hi) (λ b v d o l. clear b v d o l) xs ws (rising_every g (suc (rank g a)) hi xs r.3) h.2,
  follows_apart g (suc (rank g a)) hi xs ws r.3 h.2,
)
  where
    clear : (b : Address) (v : Write) → Between g (suc (rank g a)) hi b → v.offset ≡ kind_offset g (ordinal g b) → length v.bytes ≡ g.P + 1 → Clear w v
    clear b v d o l =
        let sa = address_size g a r.0 in
        let sb = address_size g b d.0 in
        either (lt_or_le (ordinal g a) (ordinal g b))
        (λ (k : ordinal g a < ordinal g b). inl (omega (arith, h.0, h.1, sectors_apart g (ordinal g a) (ordinal g b) k)))
        (λ (k : ordinal g b ≤ ordinal g a).
        either (lt_or_le (ordinal g b) (ordinal g a))
        (λ (k' : ordinal g b < ordinal g a). inr (omega (arith, h.0, h.1, sectors_apart g (ordinal g b) (ordinal g a) k')))
        (λ (k' : ordinal g a ≤ ordinal g b). absurd (addresses_apart g a r.0 b d.0 d.1 (omega arith))))

each_append : (C : Write → Type 0) (us ws : List Write) → EachWrite C us → EachWrite C ws → EachWrite C (us ++ ws)
each_append C [] ws h k = k
each_append C (u ∷ us) ws h k = (h.0, each_append C us ws h.1 k)

apart_more : (us : List Write) (v : Write) → Apart us → EachWrite (λ u. Clear u v) us → Apart (us ++ (v ∷ []))
apart_more [] v a h = (tt, tt)
apart_more (u ∷ us) v a h = (each_append (Clear u) us (v ∷ []) a.0 (h.0, tt), apart_more us v a.1 h.1)

module _ (image : List ℕ) (g : Geometry) (slot : ℕ) (bodies lengths : List ℕ) (j : judged image ≡ Ok g)
    (w : write_refusal g image slot bodies lengths ≡ Ok tt) where
  abbrev the_label : List ℕ
  the_label = label_at g image slot

  abbrev blocks : ℕ
  blocks = needed the_label bodies lengths

  abbrev record_writes : List Write
  record_writes = blocks_writes g (records_to_block g the_label) (packing the_label bodies lengths).contents (good_records g image the_label)

  abbrev label_write : Write
  label_write = record { offset = label_offset g slot; bytes = new_label the_label (packing the_label bodies lengths).U (data_end_after g image the_label blocks) }

  -- one for each good record that the blocks take, in order, and then the label's
  pub writes_are : writes_of g image slot (packing the_label bodies lengths) ≡ record_writes ++ (label_write ∷ [])
  unfolding writes_of
  writes_are = refl

  pub writes_follow : Follows g (taken_by g image the_label blocks) record_writes
  writes_follow = follows_blocks g (records_to_block g the_label) (packing the_label bodies lengths).contents (good_records g image the_label)

  pub writes_count : length (writes_of g image slot (packing the_label bodies lengths)) ≡ blocks * records_to_block g the_label + 1
  writes_count =
      let n = length-take-le (blocks * records_to_block g the_label) (good_records g image the_label) (enough_records image g slot bodies lengths j w) in
      let c = follows_count g (taken_by g image the_label blocks) record_writes writes_follow in
      ap length writes_are ∙ length-append record_writes (label_write ∷ []) ∙ omega arith

  label_in_index : label_offset g slot + 128 ≤ index_sectors g * 129
  unfolding label_offset body_offset
  label_in_index =
      let i = slot_in_index g slot (numbers_of_lem image g j) (slot_inside image g slot bodies lengths j w) in
      let z : (index_sectors g - index_sectors g) * (g.P + 1) ≡ 0 = (let e : index_sectors g - index_sectors g ≡ 0 = omega arith in rw e (omega arith)) in
      omega (arith, sectors_apart g (slot_ordinal slot) (index_sectors g) i, size_index g (slot_ordinal slot) i, offset_data g (index_sectors g) (omega arith))

  label_fits : (length label_write.bytes ≡ 128) × (label_offset g slot + 128 ≤ index_sectors g * 129)
  unfolding label_at image_length
  label_fits =
      let U = (packing the_label bodies lengths).U in
      let e = data_end_after g image the_label blocks in
      let room = label_in_index in
      let o = label_offset g slot in
      let lh : length (take 128 (drop o image)) ≡ 128 = length-take-le 128 (drop o image) (omega (arith, length-drop o image, image_length_lem image g j)) in
      let x = unused_length U in
      let y : length (five_bytes e) ≡ 5 = padded_length 5 (address_number e) in
      let l₁ = splice_length 57 (unused_field U) (take 128 (drop o image)) (omega arith) in
      let l₂ = splice_length 74 (five_bytes e) (splice 57 (unused_field U) (take 128 (drop o image))) (omega arith) in
      (l₂ ∙ l₁ ∙ lh, room)

  pub writes_inside : EachWrite (λ u. u.offset + length u.bytes ≤ length image) (writes_of g image slot (packing the_label bodies lengths))
  unfolding writes_of image_length body_offset
  writes_inside =
      let l = image_length_lem image g j in
      let f = label_fits in
      each_append (λ u. u.offset + length u.bytes ≤ length image) record_writes (label_write ∷ [])
      (follows_each g (λ u. u.offset + length u.bytes ≤ length image) (λ a. legal g a ≡ true)
      (λ a u h o n. omega (arith, address_room g a h)) (taken_by g image the_label blocks) record_writes (taken_legal image g slot bodies lengths j w) writes_follow)
      (omega (arith, f.0, f.1), tt)

  pub writes_apart : Apart (writes_of g image slot (packing the_label bodies lengths))
  unfolding writes_of
  writes_apart =
      let lo = rank g (start_of the_label) in
      let hi = rank g (end_of the_label) in
      let r = rising_take g lo hi (blocks * records_to_block g the_label) (good_records g image the_label) (good_rising g the_label (label_range image g slot bodies lengths j w) image) in
      let f = label_fits in
      apart_more record_writes label_write
      (follows_apart g lo hi (taken_by g image the_label blocks) record_writes r writes_follow)
      (follows_each g (λ u. Clear u label_write) (λ a. legal g a ≡ true)
      (λ a u h o n. inr (omega (arith, f.0, f.1, offset_data g (ordinal g a) (ordinal_ge g a h)))) (taken_by g image the_label blocks) record_writes
      (taken_legal image g slot bodies lengths j w) writes_follow)
