-- What the code asks of an image before it reads or writes there.
-- Assumes nothing.
use Rattle.std.specs.Prelude.{ℕ, ◌+◌, ◌*◌, ◌<◌, ◌≤◌, ◌≡◌, List, length}
use Rattle.standard.specs.Layout.{index_sectors, image_length}
use Rattle.standard.specs.declared.Geometry.{Geometry}

-- a slot in the index cylinder ("08 to I are label slots 1 to I-7": slot 1 is ordinal 7), and the whole index cylinder inside the image
pub record Room (g : Geometry) (image : List ℕ) (slot : ℕ) : Type 0 where
  pub small : slot < 65536
  pub indexed : slot + 6 < index_sectors g
  pub inside : index_sectors g * 129 ≤ length image

-- "Length: S·I·129 + (L+3)·S·D·(P+1) bytes": what of an accepted volume the walks over bodies need, those that read and those that write
abbrev pub Sized : Geometry → List ℕ → Type 0
Sized g image = (length image ≡ image_length g) × (1 ≤ g.P)
