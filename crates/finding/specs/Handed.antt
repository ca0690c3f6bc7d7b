-- What is handed out of a lent image: where the bytes stand, and not their values alone.
-- Assumes nothing.
use Prim.Native.Nat.{ℕ, ◌+◌}
use Rattle.std.specs.Prelude.{◌≡◌, List, [], length, take, drop, Result, Ok, Err}
use Rattle.std.proofs.Math.Path.{sym, ap}
use Rattle.std.proofs.Common.{◌∙◌, arith}
use Rattle.std.specs.Borrow.{Bor}
use Rattle.standard.specs.declared.Found.{Found}
use Rattle.standard.specs.Finding.{label_found}
use Rattle.standard.specs.declared.Refusal.{Refusal}
use Rattle.layout.specs.Parts.{stands_at}

-- r is the n bytes of a lent slice from an offset on, in the slice itself. All that a slice is to the machine is where it begins and how long it is.
pub record PartOf (lent : Bor (List ℕ)) (at n : ℕ) (r : Bor (List ℕ)) : Type 0 where
  pub begins : r.ref_ptr ≡ stands_at lent at
  pub long : length r.now ≡ n
  pub bytes : r.now ≡ take n (drop at lent.now)

-- "A file's label is handed out as the 128 bytes in the image itself, empty if refused (1-13 only)": for what is found in a lent image, the part that begins at
-- the offset that finding gives, "not a copy or an offset"
unfoldable pub HandedOut : Bor (List ℕ) → Result Found Refusal → Bor (List ℕ) → Type 0
HandedOut image (Err refusal) r = r.now ≡ []
HandedOut image (Ok f) r = PartOf image f.offset 128 r

-- WHAT FOLLOWS for a label that is found. Any two slices that may be handed out for it are one to the machine: they begin at one place, with the same bytes. And
-- a slice is handed out for one offset only: equal bytes at another place of the image will not do.
module _ (image r : Bor (List ℕ)) (slot offset : ℕ) (h : HandedOut image (label_found slot offset) r) where
  pub one_place : (s : Bor (List ℕ)) → HandedOut image (label_found slot offset) s → (r.ref_ptr ≡ s.ref_ptr) × (r.now ≡ s.now)
  unfolding HandedOut
  one_place s k = (h.begins ∙ sym k.begins, h.bytes ∙ sym k.bytes)

  pub one_offset : (other elsewhere : ℕ) → HandedOut image (label_found other elsewhere) r → offset ≡ elsewhere
  unfolding HandedOut
  one_offset other elsewhere k =
      let e : image.ref_ptr.1 + offset ≡ image.ref_ptr.1 + elsewhere = ap (λ (x : ℕ × ℕ). x.1) (sym h.begins ∙ k.begins) in
      omega (arith, e)
