-- The bytes ahead of a cursor: where they stand in the image, how many there are, and how they go on.
-- Assumes nothing.
use Prim.Native.Nat.{ℕ, suc, zero, ◌+◌, ◌*◌, ◌<◌, ◌≤◌}
use mathlib.Core.Path.{◌≡◌, sym, ap, ◌∙◌}
use mathlib.Core.Bool.{true}
use mathlib.Core.List.{List, [], ◌∷◌, ◌++◌}
use lib.ListN.{length, get_or, take, drop, length-drop}
use lib.Seq.{drop-drop, drop-nil, drop-append-le, take-append-le, drop-append-add, get_or-take, get_or-drop}
use native.Mathlib.Omega.{arith}
use native.Mathlib.Nat.{zero-mul, mul-le-mul_right}
use Rattle.standard.specs.Layout.{body_offset, body_at, image_length}
use Rattle.standard.specs.Addresses.{legal, stepped, ordinal}
use Rattle.standard.specs.Files.{addresses_from, bytes_of}
use Rattle.standard.specs.declared.Geometry.{Geometry}
use Rattle.standard.specs.declared.Address.{Address}
use Rattle.promises.specs.Ground.Basics.{and_l, and_r, either, lt_or_le}
use Rattle.promises.specs.Ground.Lists.{Every}
use Rattle.promises.specs.Images.AddressLaws.{Legal}
use Rattle.promises.specs.Extents.ExtentAddresses.{every_good}
use Rattle.promises.specs.Ground.Splices.{part_part}
use Rattle.promises.specs.Images.Tiling.{address_size, address_room}
use Rattle.promises.specs.Extents.FullBlocks.{body_full, bytes_full}
use Rattle.extents.specs.Cursors.{legal_on, legal_at, good_from, standing_from, standing}
use Rattle.extents.specs.declared.Cursor.{Cursor}
use Rattle.extents.proofs.CursorLaws.{legal_head}
use Rattle.layout.specs.Room.{Sized}
use Rattle.blocks.specs.Streams.{stream, five_of}

-- the records ahead of a cursor are legal
legal_all : (g : Geometry) (left : ℕ) (a : Address) → legal_on g left a ≡ true → Every (Legal g) (addresses_from g left a)
unfolding legal_on addresses_from
legal_all g zero a h = tt
legal_all g (suc n) a h = (and_l (legal g a) _ h, legal_all g n (stepped g a) (and_r (legal g a) _ h))

from_legal : (g : Geometry) (image : List ℕ) (left : ℕ) (a : Address) → legal_on g left a ≡ true → Every (Legal g) (standing_from g image left a)
unfolding legal_on
from_legal g image zero a h = tt
from_legal g image (suc n) a h =
    (and_l (legal g a) _ h, every_good g image (Legal g) (addresses_from g n (stepped g a)) (legal_all g n (stepped g a) (and_r (legal g a) _ h)))

pub standing_legal : (g : Geometry) (image : List ℕ) (c : Cursor) → legal_at g c ≡ true → Every (Legal g) (standing g image c)
unfolding standing
standing_legal g image c h = from_legal g image c.left c.at h

-- the body of a legal address: its part of the image
body_is : (g : Geometry) (image : List ℕ) (a : Address) → Legal g a → body_at g image (ordinal g a) ≡ take g.P (drop (body_offset g (ordinal g a)) image)
unfolding body_at
body_is g image a h = rw (address_size g a h)

-- RECORDS PASSED ARE BYTES PASSED
pub bytes_drop : (g : Geometry) (image : List ℕ) → length image ≡ image_length g → (n : ℕ) (xs : List Address) → Every (Legal g) xs
    → bytes_of g image (drop n xs) ≡ drop (n * g.P) (bytes_of g image xs)
unfolding bytes_of
bytes_drop g image e zero xs h = rw (zero-mul g.P)
bytes_drop g image e (suc n) [] h = sym (drop-nil (suc n * g.P))
bytes_drop g image e (suc n) (a ∷ xs) h =
    let b = body_at g image (ordinal g a) in
    let l : suc n * g.P ≡ length b + n * g.P = omega (arith, body_full g image a e h.0) in
    bytes_drop g image e n xs h.1 ∙ (sym (drop-append-add b (bytes_of g image xs) (n * g.P)) ∙ ap (λ (k : ℕ). drop k (b ++ bytes_of g image xs)) (sym l))

-- so many records have so many bytes
pub stream_long : (g : Geometry) (image : List ℕ) (c : Cursor) (m : ℕ) → m ≤ length (standing g image c) → Sized g image → legal_at g c ≡ true
    → m * g.P ≤ length (bytes_of g image (standing g image c))
stream_long g image c m l f h =
    omega (arith, bytes_full g image f.0 (standing g image c) (standing_legal g image c h), mul-le-mul_right g.P l)

from_run : (g : Geometry) (image : List ℕ) (left : ℕ) (a : Address) (i k : ℕ) → length image ≡ image_length g → 0 < left → legal_on g left a ≡ true → i + k ≤ g.P
    → take k (drop i (bytes_of g image (standing_from g image left a))) ≡ take k (drop (body_offset g (ordinal g a) + i) image)
unfolding bytes_of legal_on
from_run g image zero a i k e p h l = absurd (omega arith)
from_run g image (suc n) a i k e p h l =
    let y = and_l (legal g a) _ h in
    let b = body_at g image (ordinal g a) in
    let more = bytes_of g image (good_from g image n (stepped g a)) in
    let f = body_full g image a e y in
    ap (take k) (drop-append-le i b more (omega (arith, f)))
    ∙ (take-append-le k (drop i b) more (rw (length-drop i b) (omega (arith, f)))
    ∙ (ap (λ (s : List ℕ). take k (drop i s)) (body_is g image a y)
    ∙ part_part image (body_offset g (ordinal g a)) i k g.P l))

-- A RUN INSIDE A RECORD IS A PART OF THE IMAGE
module _ (g : Geometry) (image : List ℕ) (c : Cursor) where
  pub run_is : (i k : ℕ) → length image ≡ image_length g → 0 < c.left → legal_at g c ≡ true → i + k ≤ g.P
      → take k (stream g image c i) ≡ take k (drop (body_offset g (ordinal g c.at) + i) image)
  unfolding stream standing
  run_is i k e p h l = from_run g image c.left c.at i k e p h l

  pub run_inside : (i k : ℕ) → length image ≡ image_length g → 0 < c.left → legal_at g c ≡ true → i + k ≤ g.P
      → body_offset g (ordinal g c.at) + i + k ≤ length image
  run_inside i k e p h l = omega (arith, address_room g c.at (legal_head g c.left c.at p h), e)

  pub stream_none : (i : ℕ) → c.left ≤ 0 → stream g image c i ≡ []
  unfolding stream standing bytes_of
  stream_none i l = let e : c.left ≡ 0 = omega arith in rw e (drop-nil i)

  pub stream_some : (i : ℕ) → 0 < length (stream g image c i) → 0 < c.left
  stream_some i h =
      either (lt_or_le 0 c.left) (λ (l : 0 < c.left). l) (λ (l : c.left ≤ 0). absurd (omega (arith, ap length (stream_none i l))))

-- bytes at the start of equal runs
same_byte : (k j : ℕ) (s t : List ℕ) → j < k → take k s ≡ take k t → get_or s j 0 ≡ get_or t j 0
same_byte k j s t l e = sym (get_or-take k s j 0 l) ∙ (ap (λ (u : List ℕ). get_or u j 0) e ∙ get_or-take k t j 0 l)

pub byte_is : (g : Geometry) (image : List ℕ) (c : Cursor) (i : ℕ) → length image ≡ image_length g → 0 < c.left → legal_at g c ≡ true → i < g.P
    → get_or image (body_offset g (ordinal g c.at) + i) 0 ≡ get_or (stream g image c i) 0 0
byte_is g image c i e p h l =
    let o = body_offset g (ordinal g c.at) + i in
    let z : o + 0 ≡ o = omega arith in
    sym
    (same_byte 1 0 (stream g image c i) (drop o image) (omega arith) (run_is g image c i 1 e p h (omega arith))
    ∙ (get_or-drop o image 0 0 ∙ ap (λ (k : ℕ). get_or image k 0) z))

pub five_same : (s t : List ℕ) → take 5 s ≡ take 5 t → five_of s ≡ five_of t
unfolding five_of
five_same s t e =
    rw (
      same_byte 5 0 s t (omega arith) e,
      same_byte 5 1 s t (omega arith) e,
      same_byte 5 2 s t (omega arith) e,
      same_byte 5 3 s t (omega arith) e,
      same_byte 5 4 s t (omega arith) e,
    )

-- GOING ON BY n RECORDS
pub stream_on : (g : Geometry) (image : List ℕ) (c d : Cursor) (i k n : ℕ) → length image ≡ image_length g → legal_at g c ≡ true
    → standing g image d ≡ drop n (standing g image c) → (j : ℕ) → n * g.P + j ≡ i + k → stream g image d j ≡ drop k (stream g image c i)
unfolding stream
stream_on g image c d i k n e h s j q =
    let xs = standing g image c in
    ap (λ (ys : List Address). drop j (bytes_of g image ys)) s
    ∙ (ap (drop j) (bytes_drop g image e n xs (standing_legal g image c h))
    ∙ (drop-drop j (n * g.P) (bytes_of g image xs)
    ∙ (ap (λ (m : ℕ). drop m (bytes_of g image xs)) q ∙ sym (drop-drop k i (bytes_of g image xs)))))

-- to the end of the record, so to the next one's start
pub stream_next : (g : Geometry) (image : List ℕ) (c d : Cursor) (i k : ℕ) → length image ≡ image_length g → legal_at g c ≡ true
    → standing g image d ≡ drop 1 (standing g image c) → i + k ≡ g.P → stream g image d 0 ≡ drop k (stream g image c i)
stream_next g image c d i k e h s q = stream_on g image c d i k 1 e h s 0 (omega (arith, q))

-- inside the record
pub stream_in : (g : Geometry) (image : List ℕ) (c : Cursor) (i k : ℕ) → stream g image c (i + k) ≡ drop k (stream g image c i)
unfolding stream
stream_in g image c i k = sym (drop-drop k i (bytes_of g image (standing g image c)))

-- five bytes, one by one
abbrev five : ℕ → ℕ → ℕ → ℕ → ℕ → List ℕ
five a b c d e = a ∷ b ∷ c ∷ d ∷ e ∷ []

pub five_by : (s : List ℕ) (a b c d e : ℕ) → a ≡ get_or s 0 0 → b ≡ get_or s 1 0 → c ≡ get_or s 2 0 → d ≡ get_or s 3 0 → e ≡ get_or s 4 0
    → five a b c d e ≡ five_of s
unfolding five_of
five_by s a b c d e p q r t u = rw (p, q, r, t, u)

pub five_drop : (s : List ℕ) (o : ℕ) → five (get_or s o 0) (get_or s (o + 1) 0) (get_or s (o + 2) 0) (get_or s (o + 3) 0) (get_or s (o + 4) 0) ≡ five_of (drop o s)
five_drop s o =
    let z : o + 0 ≡ o = omega arith in
    five_by (drop o s) _ _ _ _ _
    (sym (get_or-drop o s 0 0 ∙ ap (λ (k : ℕ). get_or s k 0) z))
    (sym (get_or-drop o s 1 0))
    (sym (get_or-drop o s 2 0))
    (sym (get_or-drop o s 3 0))
    (sym (get_or-drop o s 4 0))
