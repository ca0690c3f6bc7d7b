-- What changes an image keeps two images equal but for the bodies of check-failed sectors, and for positions that are not judged: a write, a create, a delete. A
-- body that is not trusted is written over whole or stays where it is; sectors 01 to 07 stay.
-- Assumes nothing.
use Prim.Native.Nat.{ℕ, suc, ◌+◌, ◌-◌, ◌*◌, ◌<◌, ◌≤◌}
use Rattle.std.specs.Prelude.{◌≡◌, true, get_or, drop, ltb, Ok}
use Rattle.std.proofs.Math.Path.{sym}
use Rattle.std.proofs.Common.{ap, subst, ◌∙◌, eqb-true, lt-ltb}
use Rattle.std.proofs.Math.Logic.{inl, inr}
use mathlib.Core.List.{List, [], ◌∷◌, ◌++◌}
use Rattle.std.proofs.Math.ListN.{length, take, length-take, length-drop, get_or-eq_default}
use Rattle.std.proofs.Math.Seq.{take-add, get_or-take, get_or-drop}
use native.Mathlib.Omega.{arith}
use Rattle.standard.specs.Layout.{k_at, sector_count, index_sectors, body_size, kind_offset, kind_at, check_failed, index_kind, index_body, slot_count, slot_ordinal, label_offset, body_offset}
use Rattle.standard.specs.Addresses.{ordinal, five_bytes, address_number}
use Rattle.standard.specs.Judgement.{volume_of, judged}
use Rattle.standard.specs.Writing.{splice, store_record, store_block, store_blocks, unused_field, set_label}
use Rattle.standard.specs.Creating.{store_slot}
use Rattle.standard.specs.declared.Geometry.{Geometry}
use Rattle.standard.specs.declared.Address.{Address}
use Rattle.promises.specs.Ground.Basics.{either, lt_or_le, eq_or_not, cond_elim}
use Rattle.promises.specs.Ground.Lists.{Every, every_left, every_right}
use Rattle.promises.specs.Ground.Digits.{padded_length, unused_length}
use Rattle.promises.specs.Ground.Splices.{splice_length, splice_before, splice_outside}
use Rattle.promises.specs.Images.AddressLaws.{Legal, ordinal_ge}
use Rattle.promises.specs.Images.Tiling.{sector_in_image, sector_outside}
use Rattle.promises.specs.Images.Sectors.{sector_at}
use Rattle.promises.specs.Images.SectorLaws.{same_kind, same_body, sector_from_bytes, index_kind_lem, index_body_lem}
use Rattle.promises.specs.Images.Unjudged.{SameBut}
use Rattle.promises.proofs.Images.Alike.{Loose, Only, SameOrLoose, FrontAlike, SectorsKnown, EqualBut, alike_through}
use Rattle.promises.proofs.Images.ByteSectors.{same_byte}
use Rattle.promises.specs.Volumes.Judging.{accepted}
use Rattle.promises.specs.Volumes.VolumeNumbers.{Numbers, index_sectors_lem, slot_in_index, label_room}
use Rattle.promises.proofs.Writing.Storing.{WholeImage, store_length, store_other}
use Rattle.promises.specs.Writing.StoreLaws.{splice_in}
use Rattle.promises.proofs.Writing.SettingLabel.{set_length, set_other}
use Rattle.promises.proofs.Writing.WriteEnds.{store_sector}
use Rattle.promises.proofs.Making.SlotSplices.{laid_length, laid_edit}
use Rattle.promises.proofs.Unseen.JudgedAlike.{known_numbers, known_whole}
use Rattle.promises.proofs.Unseen.AnswersAlike.{AlikeOn}

-- a check-failed sector of the index cylinder has kind 32
failed_kind : (g : Geometry) (s : List ℕ) (sector : ℕ) → sector - 1 < index_sectors g → check_failed g s (sector - 1) ≡ true → index_kind s sector ≡ 32
unfolding check_failed k_at
failed_kind g s sector l f =
    let e : kind_at g s (sector - 1) ≡ 32 + 0 = rw (lt-ltb (sector - 1) (index_sectors g) l) at (eqb-true (kind_at g s (sector - 1)) (32 + k_at g (sector - 1)) f) in
    sym (index_kind_lem g s sector l) ∙ e

-- sector 08 and those behind it lie behind the first seven
slots_behind : (g : Geometry) → Numbers g → (n : ℕ) → 7 ≤ n → 903 ≤ kind_offset g n
unfolding kind_offset
slots_behind g ns n behind =
    let i = index_sectors_lem g ns in
    cond_elim (λ k. 903 ≤ k) (ltb n (index_sectors g)) (λ _. omega arith) (λ _. omega arith)

-- sectors 01 to 07, which lie in the index cylinder
module _ (g : Geometry) (sector : ℕ) (l : sector - 1 < index_sectors g) where
  front_kind : (s t : List ℕ) → sector_at g s (sector - 1) ≡ sector_at g t (sector - 1) → index_kind s sector ≡ index_kind t sector
  front_kind s t e = sym (index_kind_lem g s sector l) ∙ same_kind g s t (sector - 1) e ∙ index_kind_lem g t sector l

  front_body : (s t : List ℕ) → sector_at g s (sector - 1) ≡ sector_at g t (sector - 1) → index_body s sector ≡ index_body t sector
  front_body s t e = sym (index_body_lem g s sector l) ∙ same_body g s t (sector - 1) e ∙ index_body_lem g t sector l

  -- the same or check-failed, with or without loose positions
  front_from : (loose : Loose) (s t : List ℕ) → SameOrLoose loose g s t (sector - 1) → FrontAlike loose s t sector
  front_from loose s t (inl e) = inl (front_kind s t e, record { same_length = ap length (front_body s t e); same_at = λ i _. ap (λ (b : List ℕ). get_or b i 0) (front_body s t e) })
  front_from loose s t (inr f) = inr (failed_kind g s sector l f.0, failed_kind g t sector l f.1, f.2)

  -- of images in which they are as in two that are alike
  front_through : (loose : Loose) (s s' t t' : List ℕ) → sector_at g s (sector - 1) ≡ sector_at g t (sector - 1)
      → sector_at g s' (sector - 1) ≡ sector_at g t' (sector - 1) → FrontAlike loose s s' sector → FrontAlike loose t t' sector
  front_through loose s s' t t' e e' a = rw (front_kind s t e, front_kind s' t' e', front_body s t e, front_body s' t' e') at a

equal_known : (loose : Loose) (image image' : List ℕ) → AlikeOn loose (volume_of image) image image' → EqualBut loose image image'
equal_known loose image image' a = record { same_length = a.same_length; front = a.front; sectors = λ _ n behind _. a.sectors n behind }

pub equal_from : (loose : Loose) (image image' : List ℕ) (g : Geometry) → judged image ≡ Ok g → AlikeOn loose g image image' → EqualBut loose image image'
equal_from loose image image' g j a =
    equal_known loose image image' (subst (λ (x : Geometry). AlikeOn loose x image image') (sym (accepted image g j).numbers) a)

-- SUCH IMAGES: any bytes are laid over the body of a check-failed sector
module _ (g : Geometry) (ns : Numbers g) (image : List ℕ) (l : WholeImage g image) (n : ℕ) (inside : n < sector_count g) (f : check_failed g image n ≡ true)
    (new : List ℕ) (size : length new ≡ body_size g n) (loose : Loose) (any : loose.bodies) where
  abbrev laid : List ℕ
  laid = splice (body_offset g n) new image

  room : body_offset g n + length new ≤ length image
  room = omega (arith, sector_in_image g n inside)

  still_failed : check_failed g laid n ≡ true
  unfolding check_failed kind_at body_offset
  still_failed = rw (splice_before (kind_offset g n + 1) new image room (kind_offset g n) (omega arith)) f

  laid_other : (k : ℕ) → (k ≡ n → ⊥) → sector_at g image k ≡ sector_at g laid k
  unfolding body_offset
  laid_other k ne =
      sector_from_bytes g image laid k (sym (splice_length (kind_offset g n + 1) new image room))
      (λ i lo hi.
      sym (splice_outside (kind_offset g n + 1) new image room i
      (either (sector_outside g k n i ne lo hi)
      (λ (b : i < kind_offset g n). inl (omega arith))
      (λ (b : kind_offset g n + (body_size g n + 1) ≤ i). inr (omega arith)))))

  laid_alike : (k : ℕ) → SameOrLoose loose g image laid k
  laid_alike k =
      either (eq_or_not k n)
      (λ (q : k ≡ n). subst (SameOrLoose loose g image laid) (sym q) (inr (f, still_failed, any)))
      (λ (ne : k ≡ n → ⊥). inl (laid_other k ne))

  body_alike : AlikeOn loose g image laid
  body_alike =
      record {
        same_length = sym (splice_length (body_offset g n) new image room);
        front = λ sector low high. front_from g sector (omega (arith, index_sectors_lem g ns)) loose image laid (laid_alike (sector - 1));
        sectors = λ k _. laid_alike k;
      }

pub failed_body_any : (loose : Loose) → loose.bodies → (image : List ℕ) (n : ℕ) (new : List ℕ) → SectorsKnown image → n < sector_count (volume_of image)
    → check_failed (volume_of image) image n ≡ true → length new ≡ body_size (volume_of image) n → EqualBut loose image (splice (body_offset (volume_of image) n) new image)
failed_body_any loose any image n new known inside f size =
    equal_known loose image _ (body_alike (volume_of image) (known_numbers image known) image (known_whole image known) n inside f new size loose any)

-- SUCH IMAGES: any byte stands at a position of sector 01 to 07. It alone is loose
module _ (image : List ℕ) (sector p x : ℕ) (low : 1 ≤ sector) (high : sector ≤ 7) (first : 1 ≤ p) (last : p ≤ 128)
    (inside : (sector - 1) * 129 + p < length image) where
  abbrev there : ℕ
  there = (sector - 1) * 129 + p

  abbrev put : List ℕ
  put = splice there (x ∷ []) image

  put_length : length put ≡ length image
  put_length = splice_length there (x ∷ []) image (omega arith)

  put_elsewhere : (i : ℕ) → (i ≡ there → ⊥) → get_or image i 0 ≡ get_or put i 0
  put_elsewhere i ne =
      sym (splice_outside there (x ∷ []) image (omega arith) i
      (either (lt_or_le i there) (λ (l : i < there). inl l) (λ (l : there ≤ i). inr (omega (arith, ne)))))

  -- a byte of another sector, or at another position
  body_elsewhere : (s i : ℕ) → 1 ≤ s → ((Only sector p).positions s (i + 1) → ⊥) → i < 128 → get_or (index_body image s) i 0 ≡ get_or (index_body put s) i 0
  unfolding index_body
  body_elsewhere s i ls ne l =
      let o = (s - 1) * 129 + 1 in
      get_or-take 128 (drop o image) i 0 l ∙ get_or-drop o image i 0
      ∙ put_elsewhere (o + i) (λ (q : o + i ≡ there). ne (omega (arith, q), omega (arith, q)))
      ∙ sym (get_or-take 128 (drop o put) i 0 l ∙ get_or-drop o put i 0)

  body_but : (s : ℕ) → 1 ≤ s → SameBut ((Only sector p).positions s) (index_body image s) (index_body put s)
  unfolding index_body
  body_but s ls =
      let o = (s - 1) * 129 + 1 in
      let short : (t : List ℕ) → length (take 128 (drop o t)) ≤ 128 = λ t. omega (arith, length-take 128 (drop o t)) in
      record {
        same_length = simp (length-take, length-drop, put_length);
        same_at = λ i ne.
            either (lt_or_le i 128)
            (λ (l : i < 128). body_elsewhere s i ls ne l)
            (λ (l : 128 ≤ i).
            get_or-eq_default (take 128 (drop o image)) 0 (omega (arith, short image))
            ∙ sym (get_or-eq_default (take 128 (drop o put)) 0 (omega (arith, short put))));
      }

  pub unjudged_any : EqualBut (Only sector p) image put
  unfolding index_kind
  unjudged_any =
      record {
        same_length = sym put_length;
        front = λ s ls hs. inl (put_elsewhere ((s - 1) * 129) (λ (q : (s - 1) * 129 ≡ there). omega (arith, q)), body_but s ls);
        sectors = λ known n behind _.
            inl (sector_from_bytes (volume_of image) image put n (sym put_length)
            (λ i lo _. put_elsewhere i (λ (q : i ≡ there). omega (arith, q, slots_behind (volume_of image) (known_numbers image known) n behind))));
      }

module _ (loose : Loose) (g : Geometry) (ns : Numbers g) where
  -- the same bytes laid over sectors that are the same leave them the same
  splice_sector : (a : ℕ) (new s s' : List ℕ) (n : ℕ) → n < sector_count g → length s ≡ length s' → a + length new ≤ length s
      → sector_at g s n ≡ sector_at g s' n → sector_at g (splice a new s) n ≡ sector_at g (splice a new s') n
  splice_sector a new s s' n inside ls room e =
      let room' : a + length new ≤ length s' = omega arith in
      sector_from_bytes g (splice a new s) (splice a new s') n (splice_length a new s room ∙ ls ∙ sym (splice_length a new s' room'))
      (λ i lo hi.
      let old = same_byte g s s' i n (record { sector = inside; from = lo; to = hi }) e in
      either (lt_or_le i a)
      (λ (l : i < a). splice_outside a new s room i (inl l) ∙ old ∙ sym (splice_outside a new s' room' i (inl l)))
      (λ (l : a ≤ i).
      either (lt_or_le i (a + length new))
      (λ (m : i < a + length new). splice_in a new s room i l m ∙ sym (splice_in a new s' room' i l m))
      (λ (m : a + length new ≤ i). splice_outside a new s room i (inr m) ∙ old ∙ sym (splice_outside a new s' room' i (inr m)))))

  -- what leaves sectors 01 to 07 as they are leaves them alike
  front_stays : (s s' t t' : List ℕ) → ((n : ℕ) → n < 7 → sector_at g s n ≡ sector_at g t n) → ((n : ℕ) → n < 7 → sector_at g s' n ≡ sector_at g t' n)
      → AlikeOn loose g s s' → (sector : ℕ) → 1 ≤ sector → sector ≤ 7 → FrontAlike loose t t' sector
  front_stays s s' t t' e e' a sector low high =
      front_through g sector (omega (arith, index_sectors_lem g ns)) loose s s' t t' (e (sector - 1) (omega arith)) (e' (sector - 1) (omega arith))
      (a.front sector low high)

  whole_too : (s s' : List ℕ) → WholeImage g s → AlikeOn loose g s s' → WholeImage g s'
  whole_too s s' l a = sym a.same_length ∙ l

  -- ---- A PHYSICAL RECORD is written over whole: kind and body. It lies behind the index cylinder
  not_record : (a : Address) → Legal g a → (n : ℕ) → n < 7 → n ≡ ordinal g a → ⊥
  not_record a la n l q = omega (arith, q, ordinal_ge g a la, index_sectors_lem g ns)

  store_alike : (a : Address) (c s s' : List ℕ) → Legal g a → length c ≤ g.P → WholeImage g s → AlikeOn loose g s s'
      → AlikeOn loose g (store_record g (ordinal g a) c s) (store_record g (ordinal g a) c s')
  store_alike a c s s' la lc ls alike =
      let ls' = whole_too s s' ls alike in
      record {
        same_length = store_length g a c s la lc ls ∙ alike.same_length ∙ sym (store_length g a c s' la lc ls');
        front = front_stays s s' _ _ (λ n l. store_other g a c s la lc ls n (not_record a la n l)) (λ n l. store_other g a c s' la lc ls' n (not_record a la n l)) alike;
        sectors = λ n behind.
            either (eq_or_not n (ordinal g a))
            (λ (q : n ≡ ordinal g a).
            subst (SameOrLoose loose g (store_record g (ordinal g a) c s) (store_record g (ordinal g a) c s')) (sym q)
            (inl (store_sector g a c s la lc ls ∙ sym (store_sector g a c s' la lc ls'))))
            (λ (ne : n ≡ ordinal g a → ⊥).
            alike_through loose g s s' _ _ n (store_other g a c s la lc ls n ne) (store_other g a c s' la lc ls' n ne) (alike.sectors n behind));
      }

  block_alike : (xs : List Address) (c s s' : List ℕ) → Every (Legal g) xs → WholeImage g s → AlikeOn loose g s s'
      → WholeImage g (store_block g xs c s) × AlikeOn loose g (store_block g xs c s) (store_block g xs c s')
  unfolding store_block
  block_alike [] c s s' h l alike = (l, alike)
  block_alike (a ∷ xs) c s s' h l alike =
      let short : length (take g.P c) ≤ g.P = omega (arith, length-take g.P c) in
      block_alike xs (drop g.P c) _ _ h.1 (store_length g a (take g.P c) s h.0 short l ∙ l) (store_alike a (take g.P c) s s' h.0 short l alike)

  pub blocks_alike : (m : ℕ) (cs : List (List ℕ)) (more : List Address) (s s' : List ℕ) → Every (Legal g) (take (length cs * m) more) → WholeImage g s
      → AlikeOn loose g s s' → WholeImage g (store_blocks g m cs more s) × AlikeOn loose g (store_blocks g m cs more s) (store_blocks g m cs more s')
  unfolding store_blocks
  blocks_alike m [] more s s' h l alike = (l, alike)
  blocks_alike m (c ∷ cs) more s s' h l alike =
      let q : suc (length cs) * m ≡ m + length cs * m = omega arith in
      let k : Every (Legal g) (take m more ++ take (length cs * m) (drop m more)) = rw (q, take-add m (length cs * m) more) at h in
      let b = block_alike (take m more) c s s' (every_left (Legal g) (take m more) _ k) l alike in
      blocks_alike m cs (drop m more) _ _ (every_right (Legal g) (take m more) _ k) b.0 b.1

  -- ---- A SLOT'S SECTOR that is the same
  module _ (slot : ℕ) (low : 1 ≤ slot) (inside : slot ≤ slot_count g) (s s' : List ℕ) (l : WholeImage g s) (alike : AlikeOn loose g s s')
      (same : sector_at g s (slot_ordinal slot) ≡ sector_at g s' (slot_ordinal slot)) where
    l' : WholeImage g s'
    l' = whole_too s s' l alike

    here : slot_ordinal slot < sector_count g
    unfolding sector_count
    here = omega (arith, slot_in_index g slot ns inside)

    not_slot : (n : ℕ) → n < 7 → n ≡ slot_ordinal slot → ⊥
    unfolding slot_ordinal
    not_slot n l q = omega (arith, q)

    -- of every other sector nothing changes
    others_alike : (t t' : List ℕ) → ((n : ℕ) → (n ≡ slot_ordinal slot → ⊥) → sector_at g s n ≡ sector_at g t n)
        → ((n : ℕ) → (n ≡ slot_ordinal slot → ⊥) → sector_at g s' n ≡ sector_at g t' n) → sector_at g t (slot_ordinal slot) ≡ sector_at g t' (slot_ordinal slot)
        → (n : ℕ) → 7 ≤ n → SameOrLoose loose g t t' n
    others_alike t t' e e' q n behind =
        either (eq_or_not n (slot_ordinal slot))
        (λ (x : n ≡ slot_ordinal slot). subst (SameOrLoose loose g t t') (sym x) (inl q))
        (λ (ne : n ≡ slot_ordinal slot → ⊥). alike_through loose g s s' t t' n (e n ne) (e' n ne) (alike.sectors n behind))

    -- two fields set
    fields_same : (U : ℕ) (end : Address)
        → sector_at g (set_label g slot U end s) (slot_ordinal slot) ≡ sector_at g (set_label g slot U end s') (slot_ordinal slot)
    unfolding set_label
    fields_same U end =
        let o = label_offset g slot in
        let x = unused_length U in
        let y = padded_length 5 (address_number end) in
        let room = label_room g slot ns inside in
        let first : o + 57 + length (unused_field U) ≤ length s = omega arith in
        let k = splice_length (o + 57) (unused_field U) s first in
        let k' = splice_length (o + 57) (unused_field U) s' (omega (arith, alike.same_length)) in
        splice_sector (o + 74) (five_bytes end) _ _ (slot_ordinal slot) here (k ∙ alike.same_length ∙ sym k') (omega arith)
        (splice_sector (o + 57) (unused_field U) s s' (slot_ordinal slot) here alike.same_length first same)

    pub set_alike : (U : ℕ) (end : Address) → AlikeOn loose g (set_label g slot U end s) (set_label g slot U end s')
    set_alike U end =
        record {
          same_length = set_length g ns slot inside U end s l ∙ alike.same_length ∙ sym (set_length g ns slot inside U end s' l');
          front = front_stays s s' _ _ (λ n f. set_other g ns slot inside U end s l n (not_slot n f)) (λ n f. set_other g ns slot inside U end s' l' n (not_slot n f)) alike;
          sectors = others_alike _ _ (set_other g ns slot inside U end s l) (set_other g ns slot inside U end s' l') (fields_same U end);
        }

    -- a mark and bytes stored
    stored_same : (mark : ℕ) (new : List ℕ) → length new ≤ 128
        → sector_at g (store_slot g slot mark new s) (slot_ordinal slot) ≡ sector_at g (store_slot g slot mark new s') (slot_ordinal slot)
    unfolding store_slot label_offset body_offset
    stored_same mark new short =
        let o = kind_offset g (slot_ordinal slot) in
        let kind = mark + k_at g (slot_ordinal slot) in
        let room = label_room g slot ns inside in
        let first : o + 1 ≤ length s = omega arith in
        let k = splice_length o (kind ∷ []) s first in
        let k' = splice_length o (kind ∷ []) s' (omega (arith, alike.same_length)) in
        splice_sector (o + 1) new _ _ (slot_ordinal slot) here (k ∙ alike.same_length ∙ sym k') (omega arith)
        (splice_sector o (kind ∷ []) s s' (slot_ordinal slot) here alike.same_length first same)

    pub slot_stored_alike : (mark : ℕ) (new : List ℕ) → length new ≤ 128 → AlikeOn loose g (store_slot g slot mark new s) (store_slot g slot mark new s')
    unfolding store_slot
    slot_stored_alike mark new short =
        let kind = mark + k_at g (slot_ordinal slot) in
        record {
          same_length = laid_length g ns slot low inside kind new short s l ∙ alike.same_length ∙ sym (laid_length g ns slot low inside kind new short s' l');
          front = front_stays s s' _ _ (λ n f. (laid_edit g ns slot low inside kind new short s l).others n (not_slot n f))
              (λ n f. (laid_edit g ns slot low inside kind new short s' l').others n (not_slot n f)) alike;
          sectors = others_alike _ _ (laid_edit g ns slot low inside kind new short s l).others (laid_edit g ns slot low inside kind new short s' l').others
              (stored_same mark new short);
        }
