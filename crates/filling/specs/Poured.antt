-- Bytes laid over the bodies of good records in turn.
-- Assumes nothing.
use Rattle.std.specs.Prelude.{ℕ, ◌+◌, ◌-◌, ◌<◌, ◌≤◌, ◌≡◌, true, List, [], ◌∷◌, ◌++◌, take, drop}
use Rattle.standard.specs.Layout.{k_at, kind_offset, body_offset}
use Rattle.standard.specs.Addresses.{ordinal}
use Rattle.standard.specs.Packing.{fill}
use Rattle.standard.specs.Characters.{padded}
use Rattle.standard.specs.Writing.{splice, filled_to}
use Rattle.standard.specs.declared.Geometry.{Geometry}
use Rattle.standard.specs.declared.Address.{Address}
use Rattle.layout.specs.Room.{Sized}
use Rattle.extents.specs.Cursors.{legal_at, standing}
use Rattle.extents.specs.declared.Cursor.{Cursor}
use Rattle.filling.specs.declared.Pen.{Pen}

-- Bytes over records that are not begun, P to each: "Written records get the valid mark". A record is begun where a byte comes to it; behind the last record
-- nothing is laid.
unfoldable pub poured : Geometry → List Address → List ℕ → List ℕ → List ℕ
poured g [] bytes image = image
poured g (a ∷ more) [] image = image
poured g (a ∷ more) (b ∷ bytes) image =
    poured g more (drop g.P (b ∷ bytes)) (splice (kind_offset g (ordinal g a)) (k_at g (ordinal g a) ∷ take g.P (b ∷ bytes)) image)

-- The same where the first record is begun, and has i bytes.
unfoldable pub poured_from : Geometry → List Address → ℕ → List ℕ → List ℕ → List ℕ
poured_from g [] i bytes image = image
poured_from g (a ∷ more) i bytes image =
    poured g more (drop (g.P - i) bytes) (splice (body_offset g (ordinal g a) + i) (take (g.P - i) bytes) image)

-- the image, when these bytes are laid from a pen on
unfoldable pub laid_by : Geometry → List ℕ → Pen → List ℕ → List ℕ
laid_by g image p bytes = poured_from g (standing g image p.c) p.i bytes image

-- a pen in an image: on a record of the extent, at byte i of its body, which stands at `at`
abbrev pub Placed : Geometry → List ℕ → Pen → Type 0
Placed g image p =
    Sized g image × (legal_at g p.c ≡ true) × (1 ≤ p.c.left) × (p.i ≤ g.P) × (p.at ≡ body_offset g (ordinal g p.c.at) + p.i)

-- THESE BYTES ARE LAID: whatever comes behind them, the image is as if the pen stood here still and laid them first
abbrev pub Lays : Geometry → List ℕ → Pen → List ℕ → List ℕ → Pen → Type 0
Lays g image p bytes image' p' = ((more : List ℕ) → laid_by g image p (bytes ++ more) ≡ laid_by g image' p' more) × Placed g image' p'

-- "packs data and 00 fill": n bytes of a list from an index on, and so much fill
abbrev pub packed : List ℕ → ℕ → ℕ → ℕ → List ℕ
packed bytes from n zeros = take n (drop from bytes) ++ fill zeros

-- the control word of S: `0`-`3` and four digits. (That of V has the four digits alone.)
abbrev pub word_s : ℕ → ℕ → List ℕ
word_s digit size = (48 + digit) ∷ padded 4 size

-- A record that is begun by a pen at its first byte: "Written records get the valid mark".
pub record Marked (g : Geometry) (image : List ℕ) (c : Cursor) (image' : List ℕ) (p : Pen) : Type 0 where
  pub stored : image' ≡ splice (kind_offset g (ordinal g c.at)) (k_at g (ordinal g c.at) ∷ []) image
  pub placed : Placed g image' p
  pub under : p.c ≡ c
  pub first : p.i ≡ 0

-- A pen that was to go on to the next record: what is laid from it is what was to be laid, where a byte comes; and it stands on a later record, or there is none,
-- and nothing more is laid.
pub record Turned (g : Geometry) (image : List ℕ) (p : Pen) (image' : List ℕ) (p' : Pen) : Type 0 where
  pub lays : (b : ℕ) (bytes : List ℕ) → laid_by g image p (b ∷ bytes) ≡ laid_by g image' p' (b ∷ bytes)
  pub placed : Placed g image' p'
  pub later : (p'.i ≡ g.P → ⊥) → p'.c.left < p.c.left
  pub stays : p'.i ≡ g.P → (bytes : List ℕ) → laid_by g image' p' bytes ≡ image'

-- BLOCKS as they stand over their records: each filled to the end of its m records. "Content left, and physical records' ends, are filled with 00."
unfoldable pub flat : ℕ → List (List ℕ) → List ℕ
flat size [] = []
flat size (content ∷ contents) = filled_to size content ++ flat size contents
