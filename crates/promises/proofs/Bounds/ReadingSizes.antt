-- How large the numbers in a reading's answer can be: a record is no longer than the bytes of its file, a place no further than its blocks reach.
-- Assumes nothing.
use Prim.Native.Nat.{ℕ, zero, suc, ◌+◌, ◌-◌, ◌*◌, ◌^◌, ◌<◌, ◌≤◌}
use Rattle.std.specs.Prelude.{◌≡◌, refl, Bool, false, cond, ◌&&◌, take, leb, ltb, Result, Ok, Err, ⊤}
use Rattle.std.proofs.Common.{sym, ◌∙◌, length-append}
use Rattle.std.proofs.Math.Path.{ap, subst}
use Rattle.std.proofs.Math.Bool.{true}
use Rattle.std.proofs.Math.Option.{Option, none, some}
use mathlib.Core.List.{List, [], ◌∷◌, ◌++◌}
use Rattle.std.proofs.Math.ListN.{length, get_or, drop, length-drop}
use Rattle.std.proofs.Math.Seq.{get_or-drop}
use Rattle.std.proofs.Math.Dec.{eqb}
use native.Mathlib.Omega.{arith}
use Rattle.std.proofs.Math.Nat.{mul-le-mul_right, mul-le-mul_left}
use borrow.Author.Tests.{leb-true, ltb-true, eqb-true}
use Rattle.standard.specs.Refusals.{refuse, refuse_at}
use Rattle.standard.specs.Layout.{label_at}
use Rattle.standard.specs.Labels.{Format, fixed, variable, spanned, Params, block_length, end_of}
use Rattle.standard.specs.Slots.{has_label}
use Rattle.standard.specs.Judgement.{judged}
use Rattle.standard.specs.Files.{extent, extent_size, good_among, good_records, records_to_block, block_count, open_refusal, content_size, any_failed, bytes_of, block_of, blocks_from, file_in}
use Rattle.standard.specs.Pieces.{Block, lost_block, held, size_of, Role, whole, first, middle, last, Piece, blank, broken, piece, is_fill, must_fill, four, role_of, sized_v, sized_s, look_f, only_fill_v, look_v, only_fill_s, look_s, look_in, look, Token, part, bad, lost, after_part, tokens_at, walk, pieces, in_block, in_blocks, from_tail, ahead}
use Rattle.standard.specs.Places.{mark_at}
use Rattle.standard.specs.Records.{Mode, plain, salvage, File, Met, took, gapped, ended, refused, State, fresh, marked, within, Move, deliver, carry, breach, over, meet, at_lost, after_move, first_met, entering, step, aligned, in_file}
use Rattle.standard.specs.Reading.{unanswered, replied, reply_in, opened, reply, read_answer}
use Rattle.standard.specs.declared.Geometry.{Geometry}
use Rattle.standard.specs.declared.Address.{Address}
use Rattle.standard.specs.declared.Place.{Place}
use Rattle.standard.specs.declared.Answer.{Answer}
use Rattle.standard.specs.declared.Answer.TheVariants.{Record as RecordOf, Gap, End}
use Rattle.promises.specs.Ground.Basics.{cond_elim, by_test, and_l, and_r}
use Rattle.promises.specs.Ground.Lists.{Every, take_short, every_append, every_drop}
use Rattle.promises.specs.Reading.PiecesLaws.{Sound, look_sound}
use Rattle.promises.specs.Refusals.Refusing.{reply_on}
use Rattle.promises.specs.Images.AddressLaws.{rank_lt}
use Rattle.promises.specs.Volumes.AcceptedLaws.{label_in_range}
use Rattle.promises.specs.Volumes.VolumeNumbers.{Numbers, numbers_of_lem}
use Rattle.promises.specs.Extents.FullBlocks.{count_held, content_fits, open_label, open_rules, block_low, sound_file}
use Rattle.promises.proofs.Salvage.SalvageImage.{file_count}
use Rattle.promises.specs.Extents.ExtentWhole.{extent_length}
use Rattle.standard.specs.declared.Refusal.{Refusal}
use Rattle.promises.specs.Bounds.Sizes.{Small, small_one, volume_small, open_small, blocks_few, addresses_few, good_few}

-- a piece's body is no longer than the piece
abbrev Bodied : Piece → Type 0
Bodied blank = Unit {0}
Bodied broken = Unit {0}
Bodied (piece k body s) = length body ≤ s

fill_bodied : (rest : List ℕ) → Bodied (must_fill rest)
fill_bodied rest = cond_elim Bodied (is_fill rest) (λ _. tt) (λ _. tt)

sized_v_bodied : (R : ℕ) (rest : List ℕ) (n : Option ℕ) → Bodied (sized_v R rest n)
sized_v_bodied R rest none = tt
sized_v_bodied R rest (some n) =
    cond_elim Bodied (leb 4 n && leb n R && leb n (length rest)) (λ _. omega (arith, take_short (n - 4) (drop 4 rest))) (λ _. tt)

sized_s_bodied : (rest : List ℕ) (k : Option Role) (n : Option ℕ) → Bodied (sized_s rest k n)
sized_s_bodied rest none n = tt
sized_s_bodied rest (some k) none = tt
sized_s_bodied rest (some k) (some n) = cond_elim Bodied (leb 5 n && leb n (length rest)) (λ _. omega (arith, take_short (n - 5) (drop 5 rest))) (λ _. tt)

look_f_bodied : (R : ℕ) (rest : List ℕ) → Bodied (look_f R rest)
unfolding look_f
look_f_bodied R [] = tt
look_f_bodied R (x ∷ xs) = cond_elim Bodied (leb 1 R && leb R (suc (length xs))) (λ _. take_short R (x ∷ xs)) (λ _. tt)

look_in_bodied : (f : Format) (R : ℕ) (bl : Bool) (o : ℕ) (rest : List ℕ) → Bodied (look_in f R bl o rest)
unfolding look_v look_s
look_in_bodied fixed R bl o rest = look_f_bodied R rest
look_in_bodied variable R bl o rest = cond_elim Bodied (only_fill_v bl o rest) (λ _. fill_bodied rest) (λ _. sized_v_bodied R rest (four rest))
look_in_bodied spanned R bl o rest =
    cond_elim Bodied (only_fill_s rest) (λ _. fill_bodied rest) (λ _. sized_s_bodied rest (role_of (get_or rest 0 0)) (four (drop 1 rest)))

look_bodied : (p : Params) (o : ℕ) (rest : List ℕ) → Bodied (look p o rest)
unfolding look
look_bodied p o rest = look_in_bodied p.format p.R p.blocked o rest

-- ---- the tokens of a file: their blocks, offsets and bytes
bytes_in : List Token → ℕ
bytes_in [] = 0
bytes_in (part k body b o n ∷ ts) = length body + bytes_in ts
bytes_in (bad b o ∷ ts) = bytes_in ts
bytes_in (lost b ∷ ts) = bytes_in ts

in_append : (xs ys : List Token) → bytes_in (xs ++ ys) ≡ bytes_in xs + bytes_in ys
unfolding bytes_in
in_append [] ys = omega arith
in_append (part k body b o n ∷ xs) ys = omega (arith, in_append xs ys)
in_append (bad b o ∷ xs) ys = in_append xs ys
in_append (lost b ∷ xs) ys = in_append xs ys

-- the bytes of so many blocks
abbrev bytes_of_all : List Block → ℕ
bytes_of_all [] = 0
bytes_of_all (x ∷ xs) = size_of x + bytes_of_all xs

drop_bytes : (b : ℕ) (xs : List Block) → bytes_of_all (drop b xs) ≤ bytes_of_all xs
drop_bytes zero xs = omega arith
drop_bytes (suc b) [] = omega arith
drop_bytes (suc b) (x ∷ xs) = omega (arith, drop_bytes b xs)

-- what a reader has of a record
abbrev held_so_far : State → ℕ
held_so_far fresh = 0
held_so_far marked = 0
held_so_far (within body f) = length body

-- of one of N blocks, at an offset of at most O
module _ (N O : ℕ) where
  abbrev Near : Token → Type 0
  Near (part k body b o n) = (b < N) × (o ≤ O) × (n ≤ O)
  Near (bad b o) = (b < N) × (o ≤ O)
  Near (lost b) = b < N

  abbrev Few : ℕ → List Token → Type 0
  Few bytes ts = Every Near ts × (bytes_in ts ≤ bytes)

  few_after : (k : Role) (b o : ℕ) (rest : List ℕ) (more : List Token) (bytes : ℕ) → b < N → o ≤ O → Few bytes more → Few bytes (after_part k b o rest more)
  unfolding bytes_in
  few_after whole b o rest more bytes l m h = h
  few_after first b o rest more bytes l m h = cond_elim (Few bytes) (is_fill rest) (λ _. (tt, omega arith)) (λ _. (((l, m), tt), omega arith))
  few_after middle b o rest more bytes l m h = cond_elim (Few bytes) (is_fill rest) (λ _. (tt, omega arith)) (λ _. (((l, m), tt), omega arith))
  few_after last b o rest more bytes l m h = h

  few_walk : (n : ℕ) (p : Params) (b o : ℕ) (rest : List ℕ) → b < N → o + length rest ≤ O → Few (length rest) (walk n p b o rest)
  unfolding walk bytes_in
  few_walk zero p b o rest l h = (tt, omega arith)
  few_walk (suc n) p b o rest l h = go (look p o rest) (look_sound p o rest) (look_bodied p o rest) (λ o' r m. few_walk n p b o' r l m)
    where
      go : (q : Piece) → Sound (length rest) q → Bodied q → ((o' : ℕ) (r : List ℕ) → o' + length r ≤ O → Few (length r) (walk n p b o' r))
          → Few (length rest) (tokens_at b o rest (λ o' r. walk n p b o' r) q)
      go blank s y ih = (tt, omega arith)
      go broken s y ih = (((l, omega arith), tt), omega arith)
      go (piece k body size) s y ih =
          let left : length (drop size rest) ≡ length rest - size = length-drop size rest in
          let more = ih (o + size) (drop size rest) (omega (arith, s.1)) in
          let f = few_after k b (o + size) (drop size rest) (walk n p b (o + size) (drop size rest)) (length rest - size) l (omega (arith, s.1)) (more.0, omega (arith, more.1)) in
          (((l, omega arith, omega (arith, s.1)), f.0), omega (arith, f.1, s.1))

  few_join : (xs ys : List Token) (a b : ℕ) → Few a xs → Few b ys → Few (a + b) (xs ++ ys)
  few_join xs ys a b h k = (every_append Near xs ys h.0 k.0, omega (arith, in_append xs ys, h.1, k.1))

  few_block : (p : Params) (b o : ℕ) (x : Block) → b < N → o ≤ size_of x → size_of x ≤ O → Few (size_of x) (in_block p b o x)
  unfolding in_block pieces bytes_in
  few_block p b o (lost_block sz) l m h = ((l, tt), omega arith)
  few_block p b o (held c) l m h =
      let left : length (drop o c) ≡ length c - o = length-drop o c in
      let f = few_walk (length (drop o c)) p b o (drop o c) l (omega arith) in
      (f.0, omega (arith, f.1))

  few_blocks : (p : Params) (b : ℕ) (xs : List Block) → b + length xs ≤ N → Every (λ x. size_of x ≤ O) xs → Few (bytes_of_all xs) (in_blocks p b xs)
  unfolding in_blocks bytes_in
  few_blocks p b [] l h = (tt, omega arith)
  few_blocks p b (x ∷ xs) l h =
      few_join (in_block p b 0 x) (in_blocks p (suc b) xs) (size_of x) (bytes_of_all xs)
      (few_block p b 0 x (omega arith) (omega arith) h.0) (few_blocks p (suc b) xs (omega arith) h.1)

  few_tail : (p : Params) (b o : ℕ) (xs : List Block) → b + length xs ≤ N → Every (λ x. size_of x ≤ O) xs → o ≤ size_of (get_or xs 0 (held []))
      → Few (bytes_of_all xs) (from_tail p b o xs)
  unfolding bytes_in
  few_tail p b o [] l h m = (tt, omega arith)
  few_tail p b o (x ∷ xs) l h m =
      few_join (in_block p b o x) (in_blocks p (suc b) xs) (size_of x) (bytes_of_all xs)
      (few_block p b o x (omega arith) m h.0) (few_blocks p (suc b) xs (omega arith) h.1)

  -- ---- what a reading meets
  module _ (W : ℕ) (n-low : N < 2 ^ 16) (o-low : O < 2 ^ 15) where
    abbrev MetFits : Met → Type 0
    MetFits (took r pl) = (length r.body ≤ W) × (pl.block < N) × (pl.offset ≤ O)
    MetFits (gapped b pl) = (pl.block ≤ N) × (pl.offset ≤ O)
    MetFits ended = Unit {0}
    MetFits (refused r) = Small r

    abbrev MoveFits : ℕ → Move → Type 0
    MoveFits bytes (deliver body f) = length body ≤ bytes
    MoveFits bytes (carry st) = held_so_far st ≤ bytes
    MoveFits bytes breach = Unit {0}

    meet_fits : (p : Params) (st : State) (k : Role) (body : List ℕ) (b : ℕ) → MoveFits (held_so_far st + length body) (meet p st k body b)
    meet_fits p fresh whole body b = cond_elim (MoveFits (0 + length body)) (over p (length body)) (λ _. tt) (λ _. omega arith)
    meet_fits p fresh first body b = cond_elim (MoveFits (0 + length body)) (over p (length body)) (λ _. tt) (λ _. omega arith)
    meet_fits p fresh middle body b = tt
    meet_fits p fresh last body b = tt
    meet_fits p marked whole body b = cond_elim (MoveFits (0 + length body)) (over p (length body)) (λ _. tt) (λ _. omega arith)
    meet_fits p marked first body b = cond_elim (MoveFits (0 + length body)) (over p (length body)) (λ _. tt) (λ _. omega arith)
    meet_fits p marked middle body b = omega arith
    meet_fits p marked last body b = omega arith
    meet_fits p (within acc f) whole body b = tt
    meet_fits p (within acc f) first body b = tt
    meet_fits p (within acc f) middle body b =
        cond_elim (MoveFits (length acc + length body)) (over p (length (acc ++ body))) (λ _. tt) (λ _. omega (arith, length-append acc body))
    meet_fits p (within acc f) last body b =
        cond_elim (MoveFits (length acc + length body)) (over p (length (acc ++ body))) (λ _. tt) (λ _. omega (arith, length-append acc body))

    small_two : (b o : ℕ) → b < N → o ≤ O → Small (refuse_at 21 b o)
    small_two b o l m = record { number_low = omega arith; number_high = omega arith; first_low = omega arith; second_low = omega arith; third_none = refl }

    move_fits : (mv : Move) (b o n bytes : ℕ) (more : State → Met) → MoveFits bytes mv → bytes ≤ W → (b < N) × (o ≤ O) × (n ≤ O)
        → ((st : State) → held_so_far st ≤ bytes → MetFits (more st)) → MetFits (after_move mv b o n more)
    move_fits (deliver body f) b o n bytes more h l near k = (omega arith, near.0, near.2)
    move_fits (carry st) b o n bytes more h l near k = k st h
    move_fits breach b o n bytes more h l near k = small_two b o near.0 near.1

    lost_fits : (m : Mode) (b : ℕ) → b < N → MetFits (at_lost m b)
    lost_fits plain b l = small_one 20 b (omega arith) (omega arith) (omega arith)
    lost_fits salvage b l = (omega arith, omega arith)

    answer_fits : (m : Mode) (p : Params) (ts : List Token) (st : State) → Every Near ts → held_so_far st + bytes_in ts ≤ W → MetFits (first_met m p ts st)
    unfolding first_met bytes_in
    answer_fits m p [] fresh v h = tt
    answer_fits m p [] marked v h = tt
    answer_fits m p [] (within body f) v h = small_one 22 0 (omega arith) (omega arith) (omega arith)
    answer_fits m p (part k body b o n ∷ ts) st v h =
        move_fits (meet p st k body b) b o n (held_so_far st + length body) (λ st'. first_met m p ts st') (meet_fits p st k body b) (omega arith) v.0
        (λ st' l. answer_fits m p ts st' v.1 (omega arith))
    answer_fits m p (bad b o ∷ ts) st v h = small_two b o v.0.0 v.0.1
    answer_fits m p (lost b ∷ ts) st v h = lost_fits m b v.0

-- an answer that has room: a place too, and a record's length
abbrev pub PlaceSmall : Place → Type 0
PlaceSmall pl = (pl.block < 2 ^ 16) × (pl.offset < 2 ^ 15)

abbrev pub AnswerSmall : Result Answer Refusal → Type 0
AnswerSmall (Err r) = Small r
AnswerSmall (Ok (RecordOf n pl)) = (n < 2 ^ 24) × PlaceSmall pl
AnswerSmall (Ok (Gap pl)) = PlaceSmall pl
AnswerSmall (Ok (End pl)) = PlaceSmall pl

-- ---- a file of N blocks, of at most O bytes each and W in all
enters_empty : (m : Mode) (f : Format) (o : ℕ) (mark : Bool) → held_so_far (entering m f o mark) ≡ 0
enters_empty plain f o mark = refl
enters_empty salvage fixed o mark = refl
enters_empty salvage variable o mark = refl
enters_empty salvage spanned o mark = go (mark_at o mark)
  where
    go : (t : Bool) → held_so_far (cond t marked fresh) ≡ 0
    go true = refl
    go false = refl

module _ (f : File) (O W : ℕ) (n-low : length f.blocks < 2 ^ 16) (o-low : O < 2 ^ 15) (sizes : Every (λ x. size_of x ≤ O) f.blocks)
    (all : bytes_of_all f.blocks ≤ W) where
  abbrev N : ℕ
  N = length f.blocks

  -- a place in the file is in a block of it, or behind the last
  abbrev Inside : Place → Type 0
  Inside pl = (pl.block ≤ N) × (pl.offset ≤ size_of (get_or f.blocks pl.block (held [])))

  in_file_lem : (pl : Place) → in_file f pl ≡ true → Inside pl
  unfolding in_file
  in_file_lem pl h = by_test (ltb pl.block N)
      (λ e.
      let k : (leb pl.offset (size_of (get_or f.blocks pl.block (held []))) && aligned f.params.format f.params.R pl.offset) ≡ true = rw e at h in
      (omega (arith, ltb-true pl.block N e), leb-true pl.offset (size_of (get_or f.blocks pl.block (held []))) (and_l _ _ k)))
      (λ e.
      let k : (eqb pl.block N && eqb pl.offset 0) ≡ true = rw e at h in
      (omega (arith, eqb-true pl.block N (and_l _ _ k)), omega (arith, eqb-true pl.offset 0 (and_r (eqb pl.block N) _ k))))

  step_fits : (m : Mode) (pl : Place) → in_file f pl ≡ true → MetFits N O W n-low o-low (step m f pl)
  unfolding step ahead
  step_fits m pl h =
      let i = in_file_lem pl h in
      let b = pl.block in
      let rest = drop b f.blocks in
      let left : length rest ≡ N - b = length-drop b f.blocks in
      let here : get_or rest 0 (held []) ≡ get_or f.blocks b (held []) = get_or-drop b f.blocks 0 (held []) ∙ ap (λ (n : ℕ). get_or f.blocks n (held [])) (omega arith) in
      let o : pl.offset ≤ size_of (get_or rest 0 (held [])) = subst (λ (x : Block). pl.offset ≤ size_of x) (sym here) i.1 in
      let few = few_tail N O f.params b pl.offset rest (omega (arith, i.0)) (every_drop (λ (x : Block). size_of x ≤ O) b f.blocks sizes) o in
      let empty = enters_empty m f.params.format pl.offset pl.mark in
      answer_fits N O W n-low o-low m f.params (from_tail f.params b pl.offset rest) _ few.0 (omega (arith, few.1, drop_bytes b f.blocks))

  -- ---- the answer
  module _ (w-low : W < 2 ^ 24) where
    replied_fits : (room : ℕ) (x : Met) → MetFits N O W n-low o-low x → AnswerSmall (replied f room x).answer
    replied_fits room (took r pl) h = go (ltb room (length r.body))
      where
        go : (t : Bool)
            → AnswerSmall (cond t (unanswered (refuse 23 (length r.body))) (record { answer = Ok (RecordOf (length r.body) pl); body = r.body })).answer
        go true = small_one 23 (length r.body) (omega arith) (omega arith) (omega (arith, h.0))
        go false = (omega (arith, h.0), (omega (arith, h.1), omega (arith, h.2)))
    replied_fits room (gapped b pl) h = (omega (arith, h.0), omega (arith, h.1))
    replied_fits room ended h = (n-low, omega arith)
    replied_fits room (refused r) h = h

    pub file_fits : (m : Mode) (pl : Place) (room : ℕ) → AnswerSmall (reply_in m f pl room).answer
    unfolding reply_in
    file_fits m pl room = by_test (in_file f pl)
        (λ e. rw e (replied_fits room (step m f pl) (step_fits m pl e)))
        (λ e. rw e (small_one 19 0 (omega arith) (omega arith) (omega arith)))

-- ---- the blocks of a file in an image
module _ (g : Geometry) (image h : List ℕ) where
  block_small : (size : ℕ) (more : List Address) → size_of (block_of g image size more) ≤ size
  unfolding block_of
  block_small size more = by_test (any_failed g image more)
      (λ e. rw e (omega arith))
      (λ e. rw e (take_short size (bytes_of g image more)))

  blocks_small : (n : ℕ) (xs : List Address)
      → Every (λ x. size_of x ≤ block_length h) (blocks_from g image h n xs) × (bytes_of_all (blocks_from g image h n xs) ≤ n * block_length h)
  unfolding blocks_from
  blocks_small zero xs = (tt, omega arith)
  blocks_small (suc n) xs =
      let m = records_to_block g h in
      let more = blocks_small n (drop m xs) in
      let one : size_of (block_of g image (content_size h n) (take m xs)) ≤ block_length h = omega (arith, block_small (content_size h n) (take m xs), content_fits h n) in
      ((one, more.0), omega (arith, more.1))

module _ (image : List ℕ) (g : Geometry) (j : judged image ≡ Ok g) (slot : ℕ) (opens : open_refusal g image slot ≡ Ok tt) where
  abbrev h : List ℕ
  h = label_at g image slot

  ns : Numbers g
  ns = numbers_of_lem image g j

  labels : has_label g image slot ≡ true
  labels = open_label g image slot opens

  length_low : block_length h ≤ 26624
  length_low = block_low g h ns (open_rules image g slot j opens)

  -- all blocks together are no more than the good records
  bytes_low : block_count g image h * block_length h ≤ 5111808
  unfolding good_records extent_size
  bytes_low =
      let n = block_count g image h in
      let m = records_to_block g h in
      let r = label_in_range image g slot j labels in
      let good : length (good_among g image (extent g h)) ≤ 4992 =
      omega (arith, good_few g image (extent g h), extent_length g h, rank_lt g (end_of h) r.end_legal, addresses_few g ns) in
      let a = mul-le-mul_left n (sound_file image g slot j opens).fits in
      let b = mul-le-mul_right g.P (count_held g image h) in
      let c = mul-le-mul_right g.P good in
      omega (arith, ns.size_high)

  in_image : (m : Mode) (pl : Place) (room : ℕ) → AnswerSmall (reply_in m (file_in g image h) pl room).answer
  unfolding file_in
  in_image m pl room =
      let few = blocks_few image g j slot labels in
      let all = blocks_small g image h (block_count g image h) (good_records g image h) in
      file_fits (file_in g image h) (block_length h) 5111808 (omega (arith, file_count g image h)) (omega (arith, length_low)) all.0 (omega (arith, all.1, bytes_low))
      (omega arith) m pl room

-- READING'S ANSWER HAS ROOM in its bits, of any image, slot, place and output
pub reading_small : (m : Mode) (image : List ℕ) (slot : ℕ) (pl : Place) (out : List ℕ) → AnswerSmall (read_answer m image slot pl out)
unfolding reply
reading_small m image slot pl out = on (judged image) refl
  where
    opened_fits : (g : Geometry) → judged image ≡ Ok g → (c : Result ⊤ Refusal) → open_refusal g image slot ≡ c
        → AnswerSmall (opened c (reply_in m (file_in g image (label_at g image slot)) pl (length out))).answer
    opened_fits g j (Ok _) e = in_image image g j slot e m pl (length out)
    opened_fits g j (Err r) e = open_small image g j slot r e

    on : (v : Result Geometry Refusal) → judged image ≡ v → AnswerSmall (reply_on v m image slot pl (length out)).answer
    on (Err r) j = volume_small image r j
    on (Ok g) j = opened_fits g j (open_refusal g image slot) refl
