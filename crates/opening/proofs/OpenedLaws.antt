-- What the numbers of an opened file are, and what they say of its blocks and places.
-- Assumes nothing.
use Rattle.std.specs.Prelude.{Result, Ok, Err, ⊤}
use Prim.Native.Nat.{ℕ, zero, suc, ◌+◌, ◌-◌, ◌*◌, ◌^◌, ◌<◌, ◌≤◌}
use mathlib.Core.Path.{◌≡◌, refl, sym, ap, subst, ◌∙◌}
use mathlib.Core.Bool.{Bool, true, false, cond, ◌&&◌, ◌||◌}
use mathlib.Core.List.{List, [], ◌∷◌}
use lib.ListN.{length, get_or, drop, length-drop}
use lib.Dec.{leb, ltb, eqb}
use native.Mathlib.Omega.{arith}
use native.Mathlib.Nat.{mul-le-mul_right, mul-le-mul_left, one-le-pow, pow-succ'}
use borrow.Author.Tests.{ltb-true, eqb-true, eqb-false}
use Rattle.standard.specs.Characters.{field, every, spaces, is_digit, digits, digit_value, number_from}
use Rattle.standard.specs.Layout.{label_at, image_length}
use Rattle.standard.specs.Labels.{Format, format_of, is_blocked, block_length, record_length, unused_count, start_of, end_of, rule54}
use Rattle.standard.specs.Slots.{has_label}
use Rattle.standard.specs.Pieces.{held, size_of}
use Rattle.standard.specs.Files.{addresses_from, extent_size, extent, good_records, records_to_block, block_count, content_size, blocks_from, file_in, open_refusal}
use Rattle.standard.specs.Records.{aligned, in_file}
use Rattle.standard.specs.Judgement.{judged}
use Rattle.standard.specs.declared.Geometry.{Geometry}
use Rattle.standard.specs.declared.Address.{Address}
use Rattle.standard.specs.declared.Place.{Place}
use Rattle.standard.specs.declared.Refusal.{Refusal}
use Rattle.promises.specs.Ground.Basics.{either, lt_or_le, by_test, and_l, and_r, never}
use Rattle.promises.specs.Ground.Lists.{Every, every_drop, take_short}
use Rattle.promises.specs.Images.AddressLaws.{Legal, rank_lt}
use Rattle.promises.specs.Volumes.AcceptedLaws.{image_length_lem, label_in_range}
use Rattle.promises.specs.Volumes.LabelRules.{Rules, Shape, is_f, is_v, is_s, shape, unused_below, fixed_low}
use Rattle.promises.specs.Volumes.VolumeNumbers.{numbers_of_lem}
use Rattle.promises.specs.Extents.ExtentAddresses.{good_legal}
use Rattle.promises.specs.Extents.FullBlocks.{count_held, open_label, open_rules, block_low, records_one, records_few, content_fits, SoundFile, sound_file, block_size}
use Rattle.promises.proofs.Salvage.SalvageImage.{file_count}
use Rattle.promises.specs.Bounds.Sizes.{addresses_few, blocks_few}
use Rattle.fields.proofs.LoopLaws.{digit_most}
use Rattle.labels.specs.Forms.{form_in, format_for, format_back}
use Rattle.labels.specs.declared.Form.TheVariants.{Fixed}
use Rattle.extents.specs.Cursors.{legal_at, good_from}
use Rattle.extents.specs.Surveys.{surveyed}
use Rattle.extents.proofs.SurveyLaws.{says}
use Rattle.files.proofs.Blocks.{extent_on}
use Rattle.opening.specs.Opened.{is_whole, file_numbers, open_or, opening_in, label_in, file_of, Opened, size_at, inside_by, Seated, opening_on, opening_of, Staged}
use Rattle.opening.specs.declared.FileNumbers.{FileNumbers}
use Rattle.opening.specs.declared.Seat.{Seat}
use Rattle.opening.specs.declared.Stage.{Stage}

-- a number of at most k digits
number_small : (n k : ℕ) (f : List ℕ) → digits f ≡ true → length f ≤ k → number_from n f < (n + 1) * 10 ^ k
unfolding number_from every
number_small n k [] h l = omega (arith, mul-le-mul_left (n + 1) (one-le-pow k 10 (omega arith)))
number_small n zero (c ∷ f) h l = absurd (omega arith)
number_small n (suc k) (c ∷ f) h l =
    let v = n * 10 + digit_value c in
    let more = number_small v k f (and_r (is_digit c) _ h) (omega arith) in
    let most : v + 1 ≤ (n + 1) * 10 = omega (arith, digit_most c (and_l (is_digit c) _ h)) in
    rw (pow-succ' 10 k) (omega (arith, more, mul-le-mul_right (10 ^ k) most))

-- "54-57 record length R; spaces mean R = B."
record_small : (g : Geometry) (h : List ℕ) → Rules g h → block_length h ≤ 26624 → record_length h < 10000000
unfolding rule54 record_length
record_small g h r b =
    let q = r.r54 in
    let e : (spaces (field h 54 57) || digits (field h 54 57)) ≡ true = search (and_l, and_r) depth 9 in
    by_test (spaces (field h 54 57))
    (λ s. rw s (omega arith))
    (λ s.
    let d : digits (field h 54 57) ≡ true = rw s at e in
    rw s (omega (arith, number_small 0 4 (field h 54 57) d (take_short 4 (drop 53 h)))))

pub whole_only : (k : Result Bool Refusal) → is_whole k ≡ true → k ≡ Ok true
whole_only (Err r) e = never (cc)
whole_only (Ok w) e = ap Ok e

fixed_label : (g : Geometry) (h : List ℕ) → Rules g h → form_in (format_of h) ≡ Fixed → 1 ≤ record_length h
fixed_label g h r e = go (shape h r.r40)
  where
    go : Shape h → 1 ≤ record_length h
    go (is_f k t) = fixed_low g h r t
    go (is_v k t) = never (cc)
    go (is_s k t) = never (cc)

-- WHAT THE NUMBERS ARE
pub record Facts (image : List ℕ) (f : FileNumbers) : Type 0 where
  pub long : length image ≡ image_length f.g
  pub P-low : 1 ≤ f.g.P
  pub P-high : f.g.P ≤ 1024
  pub m_low : 1 ≤ f.m
  pub m_high : f.m ≤ 9999999
  pub fits : f.B ≤ f.m * f.g.P
  pub B-low : f.B < 65536
  pub U-low : f.U ≤ f.B
  pub count_few : f.count ≤ 4992
  pub R-low : f.R < 10000000
  pub fixed_some : f.form ≡ Fixed → 1 ≤ f.R
  pub format : format_for f.form ≡ format_of (label_in image f)
  pub m_is : f.m ≡ records_to_block f.g (label_in image f)
  pub B-is : f.B ≡ block_length (label_in image f)
  pub R-is : f.R ≡ record_length (label_in image f)
  pub U-is : f.U ≡ unused_count (label_in image f)
  pub count_is : f.count ≡ block_count f.g image (label_in image f)
  pub blocked_is : f.blocked ≡ is_blocked (label_in image f)
  pub first_is : good_from f.g image f.first.left f.first.at ≡ good_records f.g image (label_in image f)
  pub first_legal : legal_at f.g f.first ≡ true
  pub first_few : f.first.left ≤ 4992
  pub whole_good : f.whole ≡ true → good_from f.g image f.first.left f.first.at ≡ addresses_from f.g f.first.left f.first.at
  pub held : f.count * f.m ≤ length (good_records f.g image (label_in image f))
  pub sound : SoundFile f.g image (label_in image f)

module _ (image : List ℕ) (g : Geometry) (slot : ℕ) (j : judged image ≡ Ok g) (ok : open_refusal g image slot ≡ Ok tt) where
  abbrev the_label : List ℕ
  the_label = label_at g image slot

  there : has_label g image slot ≡ true
  there = open_label g image slot ok

  the_rules : Rules g the_label
  the_rules = open_rules image g slot j ok

  low : block_length the_label ≤ 26624
  low = block_low g the_label (numbers_of_lem image g j) the_rules

  extent_few : extent_size g the_label ≤ 4992
  unfolding extent_size
  extent_few = omega (arith, rank_lt g (end_of the_label) (label_in_range image g slot j there).end_legal, addresses_few g (numbers_of_lem image g j))

  good_is : good_from g image (extent_size g the_label) (start_of the_label) ≡ good_records g image the_label
  unfolding good_records extent
  good_is = refl

  whole_all : is_whole (surveyed g image false (extent g the_label)) ≡ true
      → good_from g image (extent_size g the_label) (start_of the_label) ≡ addresses_from g (extent_size g the_label) (start_of the_label)
  unfolding extent
  whole_all e = ((says g image false (addresses_from g (extent_size g the_label) (start_of the_label))).whole (whole_only _ e)).2

  facts_of : Facts image (file_numbers g image slot)
  unfolding file_numbers
  facts_of =
      let n = numbers_of_lem image g j in
      let s = sound_file image g slot j ok in
      record {
        long = image_length_lem image g j;
        P-low = n.size_low;
        P-high = n.size_high;
        m_low = records_one g the_label n.size_low;
        m_high = omega (arith, records_few g the_label low);
        fits = s.fits;
        B-low = omega (arith, low);
        U-low = omega (arith, unused_below g the_label the_rules);
        count_few = blocks_few image g j slot there;
        R-low = record_small g the_label the_rules low;
        fixed_some = fixed_label g the_label the_rules;
        format = format_back (format_of the_label);
        m_is = refl;
        B-is = refl;
        R-is = refl;
        U-is = refl;
        count_is = refl;
        blocked_is = refl;
        first_is = good_is;
        first_legal = extent_on g the_label (label_in_range image g slot j there);
        first_few = extent_few;
        whole_good = whole_all;
        held = count_held g image the_label;
        sound = s;
      }

pub facts : (image : List ℕ) (f : FileNumbers) → Opened image f → Facts image f
facts image f o = subst (Facts image) (sym o.2) (facts_of image f.g f.slot o.0 o.1)

-- THE SIZES OF THE BLOCKS
module _ (g : Geometry) (image h : List ℕ) (s : SoundFile g image h) where
  blocks_sizes : (n : ℕ) (xs : List Address) (b : ℕ) → b < n → Every (Legal g) xs → n * records_to_block g h ≤ length xs
      → size_of (get_or (blocks_from g image h n xs) b (held [])) ≡ content_size h (n - suc b)
  unfolding blocks_from
  blocks_sizes zero xs b l k e = absurd (omega arith)
  blocks_sizes (suc n) xs zero l k e =
      let z : suc n - 1 ≡ n = omega arith in
      rw z (block_size g image h s (content_size h n) (content_fits h n) xs k (omega (arith, e)))
  blocks_sizes (suc n) xs (suc b) l k e =
      let m = records_to_block g h in
      let z : suc n - suc (suc b) ≡ n - suc b = omega arith in
      rw z (blocks_sizes n (drop m xs) b (omega arith) (every_drop (Legal g) m xs k) (omega (arith, e, length-drop m xs)))

  size_in : (b : ℕ) → b < block_count g image h → size_of (get_or (file_in g image h).blocks b (held [])) ≡ content_size h (block_count g image h - suc b)
  unfolding file_in
  size_in b l =
      blocks_sizes (block_count g image h) (good_records g image h) b l (good_legal g h s.in_range image) (count_held g image h)

content_last : (h : List ℕ) (n : ℕ) → n ≡ 0 → content_size h n ≡ block_length h - unused_count h
content_last h n z = rw z

content_inner : (h : List ℕ) (n : ℕ) → 0 < n → content_size h n ≡ block_length h
content_inner h zero l = absurd (omega arith)
content_inner h (suc n) l = refl

pub size_is : (image : List ℕ) (f : FileNumbers) → Opened image f → (b : ℕ) → b < f.count → size_at f b ≡ content_size (label_in image f) (f.count - suc b)
unfolding size_at
size_is image f o b l =
    let k = facts image f o in
    let h = label_in image f in
    by_test (eqb (b + 1) f.count)
    (λ t. rw (t, k.B-is, k.U-is) (sym (content_last h (f.count - suc b) (omega (arith, eqb-true (b + 1) f.count t)))))
    (λ t.
    let n = eqb-false (b + 1) f.count t in
    let p : 0 < f.count - suc b =
    either (lt_or_le (suc b) f.count) (λ (q : suc b < f.count). omega arith) (λ (q : f.count ≤ suc b). absurd (n (omega arith))) in
    rw (t, k.B-is) (sym (content_inner h (f.count - suc b) p)))

-- THE PLACES IN THE FILE, by a count of blocks and the size of the one that is asked
abbrev placed : ℕ → ℕ → Format → ℕ → Place → Bool
placed count size format R pl =
    cond (ltb pl.block count) (leb pl.offset size && aligned format R pl.offset) (eqb pl.block count && eqb pl.offset 0)

placed_beyond : (count size size' : ℕ) (format : Format) (R : ℕ) (pl : Place) → ltb pl.block count ≡ false
    → placed count size format R pl ≡ placed count size' format R pl
placed_beyond count size size' format R pl t = rw t

params_in : (g : Geometry) (image h : List ℕ) → ((file_in g image h).params.format ≡ format_of h) × ((file_in g image h).params.R ≡ record_length h)
unfolding file_in
params_in g image h = (refl, refl)

placed_in : (g : Geometry) (image h : List ℕ) (pl : Place)
    → in_file (file_in g image h) pl ≡ placed (block_count g image h) (size_of (get_or (file_in g image h).blocks pl.block (held []))) (format_of h) (record_length h) pl
unfolding in_file
placed_in g image h pl = rw (file_count g image h, (params_in g image h).0, (params_in g image h).1)

placed_by : (f : FileNumbers) (pl : Place) → inside_by f pl ≡ placed f.count (size_at f pl.block) (format_for f.form) f.R pl
unfolding inside_by
placed_by f pl = refl

pub inside_is : (image : List ℕ) (f : FileNumbers) → Opened image f → (pl : Place) → inside_by f pl ≡ in_file (file_of image f) pl
inside_is image f o pl =
    let k = facts image f o in
    let h = label_in image f in
    let n = block_count f.g image h in
    let size = size_of (get_or (file_in f.g image h).blocks pl.block (held [])) in
    let mine : inside_by f pl ≡ placed n (size_at f pl.block) (format_of h) (record_length h) pl = placed_by f pl ∙ rw (k.count_is, k.format, k.R-is) in
    let same : placed n (size_at f pl.block) (format_of h) (record_length h) pl ≡ placed n size (format_of h) (record_length h) pl =
    by_test (ltb pl.block n)
    (λ t.
    let l : pl.block < f.count = omega (arith, k.count_is, ltb-true pl.block n t) in
    let e : size_at f pl.block ≡ content_size h (n - suc pl.block) = size_is image f o pl.block l ∙ ap (λ (c : ℕ). content_size h (c - suc pl.block)) k.count_is in
    ap (λ (z : ℕ). placed n z (format_of h) (record_length h) pl) (e ∙ sym (size_in f.g image h k.sound pl.block (ltb-true pl.block n t))))
    (placed_beyond n (size_at f pl.block) size (format_of h) (record_length h) pl) in
    mine ∙ same ∙ sym (placed_in f.g image h pl)

-- WHAT AN OPENING GIVES
abbrev numbers_in : Result FileNumbers Refusal → FileNumbers → FileNumbers
numbers_in (Err r) f = f
numbers_in (Ok f) e = f

abbrev refusal_in : Result FileNumbers Refusal → Refusal → Refusal
refusal_in (Err r) s = r
refusal_in (Ok f) s = s

numbers_opened : (image : List ℕ) (g : Geometry) (slot : ℕ) → judged image ≡ Ok g → open_refusal g image slot ≡ Ok tt → Opened image (file_numbers g image slot)
unfolding file_numbers
numbers_opened image g slot j ok = (j, ok, refl)

pub open_is : (image : List ℕ) (g : Geometry) (slot : ℕ) (f : FileNumbers) → opening_in g image slot ≡ Ok f
    → (open_refusal g image slot ≡ Ok tt) × (f ≡ file_numbers g image slot)
unfolding opening_in
open_is image g slot f e = go (open_refusal g image slot) refl e
  where
    go : (c : Result ⊤ Refusal) → open_refusal g image slot ≡ c → open_or c (file_numbers g image slot) ≡ Ok f → (open_refusal g image slot ≡ Ok tt) × (f ≡ file_numbers g image slot)
    go (Ok _) k e = (k, ap (λ (x : Result FileNumbers Refusal). numbers_in x f) (sym e))
    go (Err r) k e = never (cc)

pub opened_of : (image : List ℕ) (g : Geometry) (slot : ℕ) (f : FileNumbers) → judged image ≡ Ok g → opening_in g image slot ≡ Ok f → Opened image f
opened_of image g slot f j e =
    let o = open_is image g slot f e in
    subst (Opened image) (sym o.1) (numbers_opened image g slot j o.0)

pub shut_of : (image : List ℕ) (g : Geometry) (slot : ℕ) (r : Refusal) → opening_in g image slot ≡ Err r → open_refusal g image slot ≡ Err r
unfolding opening_in
shut_of image g slot r e = go (open_refusal g image slot) refl e
  where
    go : (c : Result ⊤ Refusal) → open_refusal g image slot ≡ c → open_or c (file_numbers g image slot) ≡ Err r → open_refusal g image slot ≡ Err r
    go (Ok _) k e = never (cc)
    go (Err s) k e = k ∙ ap Err (ap (λ (x : Result FileNumbers Refusal). refusal_in x r) e)

-- WHAT JUDGING AND OPENING GIVE
module _ (image : List ℕ) (slot : ℕ) where
  pub staged_refused : (r x : Refusal) → judged image ≡ Err x → r ≡ x → Staged image slot (Err r)
  staged_refused r x j e = rw (j, e)

  module _ (g : Geometry) (j : judged image ≡ Ok g) where
    pub staged_shut : (r : Refusal) → opening_in g image slot ≡ Err r → Staged image slot (Err r)
    staged_shut r e = rw j e

    pub staged_open : (f : FileNumbers) (s : Seat) → opening_in g image slot ≡ Ok f → Seated image f s.block s.at → Staged image slot (Ok (record { file = f; seat = s }))
    staged_open f s e h = (rw j e, h)

  -- and what a stage says of them
  pub staged_closed : (s : Result Stage Refusal) (r : Refusal) → Staged image slot s → s ≡ Err r → opening_of image slot ≡ Err r
  staged_closed s r h e = rw e at h

  pub staged_going : (s : Result Stage Refusal) (f : FileNumbers) (t : Seat) → Staged image slot s → s ≡ Ok (record { file = f; seat = t }) → (opening_of image slot ≡ Ok f) × (Seated image f t.block t.at)
  staged_going s f t h e = rw e at h

  pub open_opened : (f : FileNumbers) → opening_of image slot ≡ Ok f → Opened image f
  open_opened f e = on (judged image) refl e
    where
      on : (j : Result Geometry Refusal) → judged image ≡ j → opening_on j image slot ≡ Ok f → Opened image f
      on (Err r) k e = never (cc)
      on (Ok g) k e = opened_of image g slot f k e
