-- The blocks of a file of an accepted volume are full: a block's content has the size that the label gives it.
-- Assumes nothing.
use Rattle.std.specs.Prelude.{ℕ, zero, suc, ◌+◌, ◌*◌, ◌/◌, ◌<◌, ◌≤◌, ◌≡◌, refl, Bool, true, false, cond, not, List, [], ◌∷◌, ltb, length, take, drop, Ok}
use Rattle.std.proofs.Common.{◌∙◌, length-append, length-drop, length-take-le, arith, div-mul-le_self, div-le_self, le-div_iff_mul-le, zero-mul, mul-le-mul_right}
use borrow.Author.Tests.{ltb-true, not-false}
use Rattle.standard.specs.Layout.{body_offset, image_length, body_at, label_at}
use Rattle.standard.specs.Addresses.{ordinal, before}
use Rattle.standard.specs.Labels.{known_level, block_length, data_end_of}
use Rattle.standard.specs.Slots.{has_label}
use Rattle.standard.specs.Pieces.{size_of}
use Rattle.standard.specs.Judgement.{judged}
use Rattle.standard.specs.Files.{good_records, records_to_block, count_before, good_before, data_end_at_start, data_end_in_extent, blocks_held, block_count, content_size, any_failed, bytes_of, block_of, open_refusal}
use Rattle.standard.specs.declared.Geometry.{Geometry}
use Rattle.standard.specs.declared.Address.{Address}
use Rattle.promises.specs.Ground.Basics.{cond_elim}
use Rattle.promises.specs.Ground.Lists.{Every, every_take}
use Rattle.promises.specs.Images.AddressLaws.{Legal}
use Rattle.promises.specs.Images.Tiling.{address_size, address_room}
use Rattle.promises.specs.Volumes.Judging.{order_each, not_given}
use Rattle.promises.specs.Volumes.AcceptedLaws.{image_length_lem, InRange, label_in_range}
use Rattle.promises.specs.Volumes.LabelRules.{Rules, label_rules, block_fits, blocks_most}
use Rattle.promises.specs.Volumes.VolumeNumbers.{Numbers}

-- the body of a legal address has P bytes
pub body_full : (g : Geometry) (image : List ℕ) (a : Address) → length image ≡ image_length g → Legal g a → length (body_at g image (ordinal g a)) ≡ g.P
unfolding body_at
body_full g image a e h =
    let o = body_offset g (ordinal g a) in
    rw (address_size g a h) (length-take-le g.P (drop o image) (rw (length-drop o image) (omega (arith, address_room g a h, e))))

pub bytes_full : (g : Geometry) (image : List ℕ) → length image ≡ image_length g → (xs : List Address) → Every (Legal g) xs → length (bytes_of g image xs) ≡ length xs * g.P
unfolding bytes_of
bytes_full g image e [] h = omega arith
bytes_full g image e (a ∷ xs) h =
    length-append (body_at g image (ordinal g a)) (bytes_of g image xs)
    ∙ rw (body_full g image a e h.0, bytes_full g image e xs h.1) (omega arith)

-- there are records for every block
before_few : (g : Geometry) (d : Address) (xs : List Address) → count_before g d xs ≤ length xs
before_few g d [] = omega arith
before_few g d (a ∷ xs) =
    let k = before_few g d xs in
    cond_elim (λ n. n + count_before g d xs ≤ suc (length xs)) (before g a d) (λ _. omega arith) (λ _. omega arith)

pub count_held : (g : Geometry) (image h : List ℕ) → block_count g image h * records_to_block g h ≤ length (good_records g image h)
unfolding block_count good_before blocks_held
count_held g image h = go (data_end_at_start g h) (data_end_in_extent g h)
  where
    m : ℕ
    m = records_to_block g h

    good : List Address
    good = good_records g image h

    go : (t u : Bool) → cond t 0 (cond u (good_before g image h / m) (length good / m)) * m ≤ length good
    go true u = rw (zero-mul m) (omega arith)
    go false true = omega (arith, div-mul-le_self (good_before g image h) m, before_few g (data_end_of h) good)
    go false false = div-mul-le_self (length good) m

-- the label of a file that may be opened has no fault, and its level is known
module _ (g : Geometry) (image : List ℕ) where
  pub open_label : (slot : ℕ) → open_refusal g image slot ≡ Ok tt → has_label g image slot ≡ true
  unfolding open_refusal
  open_label slot h =
      let (r13, _) = order_each _ h in
      not-false (has_label g image slot) (not_given (not (has_label g image slot)) _ r13)

  pub open_level : (slot : ℕ) → open_refusal g image slot ≡ Ok tt → known_level (label_at g image slot) ≡ true
  unfolding open_refusal
  open_level slot h =
      let (r13, (r14, _)) = order_each _ h in
      not-false (known_level (label_at g image slot)) (not_given (not (known_level (label_at g image slot))) _ r14)

pub open_rules : (image : List ℕ) (g : Geometry) (slot : ℕ) → judged image ≡ Ok g → open_refusal g image slot ≡ Ok tt → Rules g (label_at g image slot)
open_rules image g slot j ok = label_rules image g slot j (open_label g image slot ok) (open_level g image slot ok)

-- B is 26 records of 1024 bytes at most, and a block takes one record at least, and no more than it has bytes
pub block_low : (g : Geometry) (h : List ℕ) → Numbers g → Rules g h → block_length h ≤ 26624
block_low g h n r = omega (arith, blocks_most g h r, mul-le-mul_right g.P n.sectors, n.size_high)

pub records_one : (g : Geometry) (h : List ℕ) → 0 < g.P → 1 ≤ records_to_block g h
unfolding records_to_block
records_one g h p = cond_elim (λ n. 1 ≤ n) (ltb g.P (block_length h))
    (λ e. (le-div_iff_mul-le p).1 (omega (arith, ltb-true g.P (block_length h) e)))
    (λ _. omega arith)

pub records_few : (g : Geometry) (h : List ℕ) → block_length h ≤ 26624 → records_to_block g h ≤ 26624
unfolding records_to_block
records_few g h b = cond_elim (λ n. n ≤ 26624) (ltb g.P (block_length h)) (λ _. omega (arith, div-le_self (block_length h) g.P)) (λ _. omega arith)

pub content_fits : (h : List ℕ) (left : ℕ) → content_size h left ≤ block_length h
content_fits h zero = omega arith
content_fits h (suc left) = omega arith

-- A FULL BLOCK HAS ITS SIZE
pub record SoundFile (g : Geometry) (image h : List ℕ) : Type 0 where
  pub long : length image ≡ image_length g
  pub in_range : InRange g h
  pub fits : block_length h ≤ records_to_block g h * g.P

pub sound_file : (image : List ℕ) (g : Geometry) (slot : ℕ) → judged image ≡ Ok g → open_refusal g image slot ≡ Ok tt → SoundFile g image (label_at g image slot)
sound_file image g slot j ok =
    record {
      long = image_length_lem image g j;
      in_range = label_in_range image g slot j (open_label g image slot ok);
      fits = block_fits g (label_at g image slot) (open_rules image g slot j ok);
    }

pub block_size : (g : Geometry) (image h : List ℕ) → SoundFile g image h → (size : ℕ) → size ≤ block_length h → (xs : List Address) → Every (Legal g) xs
    → records_to_block g h ≤ length xs → size_of (block_of g image size (take (records_to_block g h) xs)) ≡ size
unfolding block_of
block_size g image h s size l xs k m =
    let t = take (records_to_block g h) xs in
    let n = length-take-le (records_to_block g h) xs m in
    let b = bytes_full g image s.long t (every_take (Legal g) (records_to_block g h) xs k) in
    cond_elim (λ x. size_of x ≡ size) (any_failed g image t) (λ _. refl) (λ _. length-take-le size (bytes_of g image t) (rw (b, n) (omega (arith, s.fits))))
