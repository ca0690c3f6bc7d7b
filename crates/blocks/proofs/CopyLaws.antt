-- Copying in runs.
-- Assumes nothing.
use Prim.Native.Nat.{ℕ, ◌+◌, ◌<◌, ◌≤◌}
use mathlib.Core.Path.{◌≡◌, sym, ap, ◌∙◌}
use mathlib.Core.Bool.{true}
use mathlib.Core.List.{List, ◌++◌, append_assoc}
use lib.ListN.{length, take, drop}
use lib.Seq.{paste, take-paste, drop-paste, drop-drop, take-add, length-take-le}
use native.Mathlib.Omega.{arith}
use Rattle.standard.specs.Layout.{body_offset, image_length}
use Rattle.standard.specs.Addresses.{ordinal}
use Rattle.standard.specs.Reading.{laid_over}
use Rattle.standard.specs.declared.Geometry.{Geometry}
use Rattle.extents.specs.Cursors.{legal_at}
use Rattle.extents.specs.declared.Cursor.{Cursor}
use Rattle.blocks.specs.Streams.{stream}
use Rattle.blocks.proofs.StreamLaws.{run_is}

-- one run more
pub paste_on : (d : List ℕ) (at : ℕ) (s : List ℕ) (j k : ℕ) → at ≤ length d → j ≤ length s → paste (paste d at s j) (at + j) (drop j s) k ≡ paste d at s (j + k)
paste_on d at s j k hd hs =
    let x = paste d at s j in
    let z : at + j + k ≡ at + (j + k) = omega arith in
    let f : drop (at + j + k) x ≡ drop (at + (j + k)) d =
    sym (drop-drop k (at + j) x) ∙ (ap (drop k) (drop-paste d at s j hd hs) ∙ (drop-drop k (at + j) d ∙ ap (λ (m : ℕ). drop m d) z)) in
    rw (take-paste d at s j hd hs, f, take-add j k s) (ap (λ (y : List ℕ). y ++ drop (at + (j + k)) d) (append_assoc (take at d) (take j s) (take k (drop j s))))

-- a run of the image is a run of what is ahead of the cursor
pub paste_run : (g : Geometry) (image : List ℕ) (c : Cursor) (i k o : ℕ) (d : List ℕ) (at : ℕ) → length image ≡ image_length g → 0 < c.left → legal_at g c ≡ true
    → i + k ≤ g.P → o ≡ body_offset g (ordinal g c.at) + i → paste d at (drop o image) k ≡ paste d at (stream g image c i) k
paste_run g image c i k o d at e p h l q =
    ap (λ (y : List ℕ). take at d ++ y ++ drop (at + k) d) (ap (λ (m : ℕ). take k (drop m image)) q ∙ sym (run_is g image c i k e p h l))

-- one turn: j bytes were copied, k more are
pub paste_turn : (d : List ℕ) (at : ℕ) (s : List ℕ) (j k m : ℕ) (o : List ℕ) (a : ℕ) (t : List ℕ) → at ≤ length d → j ≤ length s → j + k ≡ m
    → o ≡ paste d at s j → a ≡ at + j → t ≡ drop j s → paste o a t k ≡ paste d at s m
paste_turn d at s j k m o a t hd hs e p q r =
    ap (λ (x : List ℕ). paste x a t k) p
    ∙ (ap (λ (x : ℕ). paste (paste d at s j) x t k) q
    ∙ (ap (λ (x : List ℕ). paste (paste d at s j) (at + j) x k) r
    ∙ (paste_on d at s j k hd hs ∙ ap (λ (x : ℕ). paste d at s x) e)))

-- a body laid at the start of the output
pub paste_laid : (d s : List ℕ) (k : ℕ) → k ≤ length s → paste d 0 s k ≡ laid_over (take k s) d
unfolding laid_over
paste_laid d s k l =
    let z : 0 + k ≡ length (take k s) = omega (arith, length-take-le k s l) in
    ap (λ (m : ℕ). take k s ++ drop m d) z
