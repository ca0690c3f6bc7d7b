-- Bytes laid from a pen on: within its record, from record to record, and one run behind another.
-- Assumes nothing.
use Prim.Native.Nat.{ℕ, min, ◌+◌, ◌-◌, ◌<◌, ◌≤◌}
use mathlib.Core.Path.{◌≡◌, refl, sym, ap, subst, ◌∙◌}
use mathlib.Core.Bool.{true, false}
use mathlib.Core.List.{List, [], ◌∷◌, ◌++◌, append_assoc}
use lib.ListN.{length, get_or, take, drop, set, length-set, length-append}
use lib.Seq.{take-nil, drop-nil}
use native.Mathlib.Omega.{arith}
use borrow.Author.Tests.{ne_eqb}
use Rattle.standard.specs.Layout.{k_at, kind_offset, body_offset, incorrect_mark}
use Rattle.standard.specs.Addresses.{legal, ordinal, stepped}
use Rattle.standard.specs.Writing.{splice}
use Rattle.standard.specs.declared.Geometry.{Geometry}
use Rattle.standard.specs.declared.Address.{Address}
use Rattle.promises.specs.Ground.Splices.{splice_length}
use Rattle.promises.specs.Writing.StoreLaws.{splice_join}
use Rattle.promises.specs.Images.Tiling.{address_room}
use Rattle.extents.specs.Cursors.{legal_on, legal_at, good_from, standing}
use Rattle.extents.specs.declared.Cursor.{Cursor}
use Rattle.extents.proofs.CursorLaws.{legal_head, legal_next, defect_none, good_stand, good_none, stand_next, stand_none}
use Rattle.layout.specs.Room.{Sized}
use Rattle.layout.proofs.TrackLaws.{data_k, incorrect_is}
use Rattle.filling.specs.Poured.{poured, poured_from, laid_by, Placed, Lays, packed, Marked, Turned}
use Rattle.filling.specs.declared.Pen.{Pen}
use Rattle.filling.proofs.RunLaws.{splice_none, set_splice, in_part, take_over, drop_over, packed_length, packed_split}
use Rattle.filling.proofs.StandLaws.{record_room, stands_same, stands_first}

-- ---- BYTES OVER RECORDS
pub poured_nothing : (g : Geometry) (more : List Address) (s : List ℕ) → poured g more [] s ≡ s
unfolding poured
poured_nothing g [] s = refl
poured_nothing g (a ∷ more) s = refl

pub poured_nowhere : (g : Geometry) (bytes s : List ℕ) → poured g [] bytes s ≡ s
unfolding poured
poured_nowhere g bytes s = refl

pub poured_first : (g : Geometry) (a : Address) (more : List Address) (bytes s : List ℕ) → 0 < length bytes
    → poured g (a ∷ more) bytes s ≡ poured g more (drop g.P bytes) (splice (kind_offset g (ordinal g a)) (k_at g (ordinal g a) ∷ take g.P bytes) s)
unfolding poured
poured_first g a more [] s h = absurd (omega arith)
poured_first g a more (b ∷ bytes) s h = refl

-- the pen's own record, and those behind it
pub laid_is : (g : Geometry) (s : List ℕ) (p : Pen) (bytes : List ℕ) → 1 ≤ p.c.left
    → laid_by g s p bytes ≡ poured g (drop 1 (standing g s p.c)) (drop (g.P - p.i) bytes) (splice (body_offset g (ordinal g p.c.at) + p.i) (take (g.P - p.i) bytes) s)
unfolding laid_by poured_from
laid_is g s p bytes l = ap (λ (xs : List Address). poured_from g xs p.i bytes s) (stands_first g s p.c l)

-- ---- ONE RUN BEHIND ANOTHER
pub lays_done : (g : Geometry) (s : List ℕ) (p : Pen) → Placed g s p → laid_by g s p [] ≡ s
lays_done g s p h =
    let k = g.P - p.i in
    let o = body_offset g (ordinal g p.c.at) + p.i in
    let xs = drop 1 (standing g s p.c) in
    laid_is g s p [] h.2
    ∙ ap (λ (t : List ℕ). poured g xs t (splice o (take k []) s)) (drop-nil k)
    ∙ poured_nothing g xs (splice o (take k []) s)
    ∙ ap (λ (t : List ℕ). splice o t s) (take-nil k)
    ∙ splice_none o s

pub lays_then : (g : Geometry) (s s' s'' : List ℕ) (p p' p'' : Pen) (xs ys : List ℕ) → Lays g s p xs s' p' → Lays g s' p' ys s'' p'' → Lays g s p (xs ++ ys) s'' p''
lays_then g s s' s'' p p' p'' xs ys h k =
    (λ more. ap (laid_by g s p) (append_assoc xs ys more) ∙ h.0 (ys ++ more) ∙ k.0 more, k.1)

-- ---- WITHIN THE RECORD
run_on : (g : Geometry) (xs : List Address) (o k : ℕ) (x more s : List ℕ) → length x ≤ k → o ≤ length s
    → poured g xs (drop k (x ++ more)) (splice o (take k (x ++ more)) s)
    ≡ poured g xs (drop (k - length x) more) (splice (o + length x) (take (k - length x) more) (splice o x s))
run_on g xs o k x more s h l =
    ap (λ (t : List ℕ). poured g xs t (splice o (take k (x ++ more)) s)) (drop_over k x more h)
    ∙ ap (poured g xs (drop (k - length x) more))
    (ap (λ (t : List ℕ). splice o t s) (take_over k x more h) ∙ sym (splice_join o x (take (k - length x) more) s l))

-- the whole body of the record under a pen is in the image
pub pen_room : (g : Geometry) (s : List ℕ) (p : Pen) → Placed g s p → (p.i ≤ p.at) × (p.at - p.i + g.P ≤ length s)
pen_room g s p h =
    let r = address_room g p.c.at (legal_head g p.c.left p.c.at (omega (arith, h.2)) h.1) in
    (omega (arith, h.4), omega (arith, h.4, h.0.0, r))

module _ (g : Geometry) (s : List ℕ) (p : Pen) (x : List ℕ) (h : Placed g s p) (fits : p.i + length x ≤ g.P) where
  abbrev here : ℕ
  here = ordinal g p.c.at

  low : kind_offset g here ≤ body_offset g here + p.i
  unfolding body_offset
  low = omega arith

  high : body_offset g here + p.i + length x ≤ kind_offset g here + (g.P + 1)
  unfolding body_offset
  high = omega arith

  room : body_offset g here + p.i + length x ≤ length s
  room = record_room g s h.0 p.c.at (legal_head g p.c.left p.c.at (omega (arith, h.2)) h.1) (body_offset g here + p.i) x low high

  within_record : (i' at' : ℕ) → i' ≡ p.i + length x → at' ≡ p.at + length x → Lays g s p x (splice p.at x s) (record { c = p.c; i = i'; at = at' })
  within_record i' at' ei ea =
      let o = body_offset g here + p.i in
      let t = splice o x s in
      let xs = drop 1 (standing g s p.c) in
      let p' : Pen = record { c = p.c; i = i'; at = at' } in
      let e : splice p.at x s ≡ t = ap (λ (m : ℕ). splice m x s) h.4 in
      let lt : length t ≡ length s = splice_length o x s room in
      let k : g.P - i' ≡ g.P - p.i - length x = omega (arith, ei) in
      let at : body_offset g here + i' ≡ o + length x = omega (arith, ei) in
      let same = stands_same g s p.c o x h.0 h.1 h.2 low high in
      subst (λ (u : List ℕ). Lays g s p x u p') (sym e) (
        λ more.
            laid_is g s p (x ++ more) h.2
            ∙ run_on g xs o (g.P - p.i) x more s (omega arith) (omega (arith, room))
            ∙ sym (laid_is g t p' more h.2
            ∙ ap (λ (ys : List Address). poured g (drop 1 ys) (drop (g.P - i') more) (splice (body_offset g here + i') (take (g.P - i') more) t)) same
            ∙ ap (λ (m : ℕ). poured g xs (drop (g.P - i') more) (splice m (take (g.P - i') more) t)) at
            ∙ ap (λ (m : ℕ). poured g xs (drop m more) (splice (o + length x) (take m more) t)) k),
        ((lt ∙ h.0.0, h.0.1), h.1, h.2, omega (arith, ei, fits), omega (arith, ea, h.4, ei)),
      )

  -- the record's body is handed to the filler, and comes back
  part_laid : (size : ℕ) (part : List ℕ) → size ≡ g.P → part ≡ splice p.i x (take (p.at - p.i + size - (p.at - p.i)) (drop (p.at - p.i) s))
      → take (p.at - p.i) s ++ (part ++ drop (p.at - p.i + size - (p.at - p.i)) (drop (p.at - p.i) s)) ≡ splice p.at x s
  part_laid size part e f =
      let a = p.at - p.i in
      let k : a + size - a ≡ g.P = omega (arith, e) in
      let o : a + p.i ≡ p.at = omega (arith, h.4) in
      ap (λ (u : List ℕ). take a s ++ (u ++ drop (a + size - a) (drop a s))) f
      ∙ ap (λ (m : ℕ). take a s ++ (splice p.i x (take m (drop a s)) ++ drop m (drop a s))) k
      ∙ in_part a p.i g.P x s fits (pen_room g s p h).1
      ∙ ap (λ (m : ℕ). splice m x s) o

  -- and the bytes are laid from the pen on
  pub part_lays : (size : ℕ) (part : List ℕ) (i' at' : ℕ) → size ≡ g.P → part ≡ splice p.i x (take (p.at - p.i + size - (p.at - p.i)) (drop (p.at - p.i) s)) → i' ≡ p.i + length x → at' ≡ p.at + length x
      → Lays g s p x (take (p.at - p.i) s ++ (part ++ drop (p.at - p.i + size - (p.at - p.i)) (drop (p.at - p.i) s))) (record { c = p.c; i = i'; at = at' })
  part_lays size part i' at' e f ei ea =
      let p' : Pen = record { c = p.c; i = i'; at = at' } in
      subst (λ (u : List ℕ). Lays g s p x u p') (sym (part_laid size part e f)) (within_record i' at' ei ea)

-- ---- FROM RECORD TO RECORD
module _ (g : Geometry) (s : List ℕ) (sized : Sized g s) (c : Cursor) (lc : legal_at g c ≡ true) (some : 1 ≤ c.left) where
  abbrev begun : ℕ
  begun = ordinal g c.at

  pub mark_room : kind_offset g begun + 1 ≤ length s
  mark_room = record_room g s sized c.at (legal_head g c.left c.at (omega (arith, some)) lc) (kind_offset g begun) (k_at g begun ∷ []) (omega arith) (omega arith)

  pub marked : (at : ℕ) → at ≡ kind_offset g begun → Marked g s c (set s at g.k) (record { c = c; i = 0; at = at + 1 })
  unfolding body_offset
  marked at e =
      let la = legal_head g c.left c.at (omega (arith, some)) lc in
      record {
        stored = ap (λ (o : ℕ). set s o g.k) e ∙ set_splice (kind_offset g begun) g.k s (omega (arith, mark_room)) ∙ ap (λ (y : ℕ). splice (kind_offset g begun) (y ∷ []) s) (sym (data_k g c.at la));
        placed = ((length-set s at g.k ∙ sized.0, sized.1), lc, some, omega arith, omega (arith, e));
        under = refl;
        first = refl;
      }

  pub begins : (s' : List ℕ) (p : Pen) → Marked g s c s' p → (b : ℕ) (bytes : List ℕ) → poured g (standing g s c) (b ∷ bytes) s ≡ laid_by g s' p (b ∷ bytes)
  unfolding body_offset
  begins s' p h b bytes =
      let all = b ∷ bytes in
      let m = k_at g begun ∷ [] in
      let o = kind_offset g begun in
      let xs = drop 1 (standing g s c) in
      let t = splice o m s in
      let q : Pen = record { c = c; i = 0; at = p.at } in
      let z : g.P - 0 ≡ g.P = omega arith in
      let w : body_offset g begun + 0 ≡ o + 1 = omega arith in
      let pq : laid_by g s' p all ≡ laid_by g t q all =
      ap (λ (u : List ℕ). laid_by g u p all) h.stored ∙ ap (λ (d : Cursor). laid_by g t (record { c = d; i = p.i; at = p.at }) all) h.under
      ∙ ap (λ (i : ℕ). laid_by g t (record { c = c; i = i; at = p.at }) all) h.first in
      let same = stands_same g s c o m sized lc some (omega arith) (omega arith) in
      ap (λ (ys : List Address). poured g ys all s) (stands_first g s c some)
      ∙ poured_first g c.at xs all s (omega arith)
      ∙ ap (poured g xs (drop g.P all)) (sym (splice_join o m (take g.P all) s (omega (arith, mark_room))))
      ∙ sym (pq ∙ laid_is g t q all some
      ∙ ap (λ (ys : List Address). poured g (drop 1 ys) (drop (g.P - 0) all) (splice (body_offset g begun + 0) (take (g.P - 0) all) t)) same
      ∙ ap (λ (i : ℕ). poured g xs (drop (g.P - 0) all) (splice i (take (g.P - 0) all) t)) w
      ∙ ap (λ (i : ℕ). poured g xs (drop i all) (splice (o + 1) (take i all) t)) z)

-- a pen at its record's end: everything comes to the records behind
at_end : (g : Geometry) (s : List ℕ) (p : Pen) (bytes : List ℕ) → Placed g s p → p.i ≡ g.P → laid_by g s p bytes ≡ poured g (drop 1 (standing g s p.c)) bytes s
at_end g s p bytes h e =
    let z : g.P - p.i ≡ 0 = omega (arith, e) in
    let o = body_offset g (ordinal g p.c.at) + p.i in
    let xs = drop 1 (standing g s p.c) in
    laid_is g s p bytes h.2
    ∙ ap (λ (m : ℕ). poured g xs (drop m bytes) (splice o (take m bytes) s)) z
    ∙ ap (poured g xs bytes) (splice_none o s)

pub turn_stays : (g : Geometry) (s : List ℕ) (p : Pen) (next : Cursor) → Placed g s p → p.i ≡ g.P → standing g s next ≡ drop 1 (standing g s p.c) → next.left ≤ 0
    → Turned g s p s p
turn_stays g s p next h e f l =
    record {
      lays = λ b bytes. refl;
      placed = h;
      later = λ n. absurd (n e);
      stays = λ _ bytes. at_end g s p bytes h e ∙ ap (λ (xs : List Address). poured g xs bytes s) (sym f ∙ stand_none g s next l) ∙ poured_nowhere g bytes s;
    }

pub turn_goes : (g : Geometry) (s : List ℕ) (p : Pen) (next : Cursor) → Placed g s p → p.i ≡ g.P → standing g s next ≡ drop 1 (standing g s p.c) → legal_at g next ≡ true
    → next.left < p.c.left → 1 ≤ next.left → (s' : List ℕ) (p' : Pen) → Marked g s next s' p' → Turned g s p s' p'
turn_goes g s p next h e f ln less some s' p' m =
    record {
      lays = λ b bytes. at_end g s p (b ∷ bytes) h e ∙ ap (λ (xs : List Address). poured g xs (b ∷ bytes) s) (sym f) ∙ begins g s h.0 next ln some s' p' m b bytes;
      placed = m.placed;
      later = λ _. omega (arith, ap (λ (c : Cursor). c.left) m.under, less);
      stays = λ w bytes. absurd (omega (arith, w, m.first, h.0.1));
    }

-- a record without the incorrect mark
pub not_incorrect : (g : Geometry) (s : List ℕ) (a : Address) → legal g a ≡ true → (o b k : ℕ) → o ≡ kind_offset g (ordinal g a) → b ≡ get_or s o 0 → k ≡ g.k → (b ≡ 16 + k → ⊥)
    → incorrect_mark g s (ordinal g a) ≡ false
not_incorrect g s a la o b k eo eb ek unlike =
    sym (incorrect_is g s a la o eo) ∙ ne_eqb (get_or s o 0) (16 + g.k) (λ e. unlike (eb ∙ e ∙ ap (λ (m : ℕ). 16 + m) (sym ek)))

-- the step to the record behind: there is none, or it is good
module _ (g : Geometry) (s : List ℕ) (p : Pen) (h : Placed g s p) (e : p.i ≡ g.P) where
  pub turn_ends : p.c.left ≤ 1 → Turned g s p s p
  turn_ends l =
      let a = stepped g p.c.at in
      let n = p.c.left - 1 in
      let none : Cursor = record { at = a; left = 0 } in
      let z : n ≤ 0 = omega arith in
      turn_stays g s p none h e (good_none g s n a z ∙ stand_next g s p.c.left p.c.at (omega (arith, h.2))) (omega arith)

  pub next_legal : (next : Address) → next ≡ stepped g p.c.at → 1 < p.c.left → legal_on g (p.c.left - 1) next ≡ true
  next_legal next en l = ap (legal_on g (p.c.left - 1)) en ∙ legal_next g p.c.left p.c.at (omega arith) h.1

  pub next_room : (next : Address) → next ≡ stepped g p.c.at → 1 < p.c.left → (o : ℕ) → o ≡ kind_offset g (ordinal g next) → o < length s
  next_room next en l o eo =
      let c' : Cursor = record { at = next; left = p.c.left - 1 } in
      omega (arith, eo, mark_room g s h.0 c' (next_legal next en l) (omega arith))

  pub turn_next : (next : Address) → next ≡ stepped g p.c.at → 1 < p.c.left → incorrect_mark g s (ordinal g next) ≡ false → (s' : List ℕ) (p' : Pen)
      → Marked g s (record { at = next; left = p.c.left - 1 }) s' p' → Turned g s p s' p'
  turn_next next en l good s' p' m =
      let n = p.c.left - 1 in
      let c' : Cursor = record { at = next; left = n } in
      let some : 0 < n = omega arith in
      let less : n < p.c.left = omega arith in
      turn_goes g s p c' h e
      (good_stand g s n next some (defect_none g s next good) ∙ ap (good_from g s n) en ∙ stand_next g s p.c.left p.c.at (omega arith))
      (next_legal next en l) less (omega arith) s' p' m

turned_lays : (g : Geometry) (s s' : List ℕ) (p p' : Pen) → Turned g s p s' p' → (bytes : List ℕ) → 0 < length bytes → laid_by g s p bytes ≡ laid_by g s' p' bytes
turned_lays g s s' p p' t [] l = absurd (omega arith)
turned_lays g s s' p p' t (b ∷ bytes) l = t.lays b bytes

-- ONE TURN of laying: a part within the record, then onward, where bytes are left
abbrev pub Rest : Geometry → List ℕ → Pen → List ℕ → List ℕ → Pen → List ℕ → Type 0
Rest g s₀ p₀ all s p rest = (more : List ℕ) → laid_by g s₀ p₀ (all ++ more) ≡ laid_by g s p (rest ++ more)

rest_on : (g : Geometry) (s₀ s s₁ s₂ : List ℕ) (p₀ p p₁ p₂ : Pen) (all rest x rest' : List ℕ) → Rest g s₀ p₀ all s p rest → rest ≡ x ++ rest' → 0 < length rest'
    → Lays g s p x s₁ p₁ → Turned g s₁ p₁ s₂ p₂ → Rest g s₀ p₀ all s₂ p₂ rest'
rest_on g s₀ s s₁ s₂ p₀ p p₁ p₂ all rest x rest' h e l k t more =
    h more ∙ ap (λ (u : List ℕ). laid_by g s p (u ++ more)) e ∙ ap (laid_by g s p) (append_assoc x rest' more) ∙ k.0 (rest' ++ more)
    ∙ turned_lays g s₁ s₂ p₁ p₂ t (rest' ++ more) (omega (arith, l, length-append rest' more))

-- the same of data and fill, where the lesser of the data left and the room is laid
pub rest_packed : (g : Geometry) (s₀ s s₁ s₂ : List ℕ) (p₀ p p₁ p₂ : Pen) (all bytes : List ℕ) (from n zeros k d : ℕ) → from + n ≤ length bytes → d ≡ min n k → k < n + zeros
    → Rest g s₀ p₀ all s p (packed bytes from n zeros) → Lays g s p (packed bytes from d (k - d)) s₁ p₁ → Turned g s₁ p₁ s₂ p₂
    → Rest g s₀ p₀ all s₂ p₂ (packed bytes (from + d) (n - d) (zeros - (k - d)))
rest_packed g s₀ s s₁ s₂ p₀ p p₁ p₂ all bytes from n zeros k d lb e over h l t =
    let r = packed_length bytes (from + d) (n - d) (zeros - (k - d)) (omega arith) in
    rest_on g s₀ s s₁ s₂ p₀ p p₁ p₂ all (packed bytes from n zeros) (packed bytes from d (k - d)) (packed bytes (from + d) (n - d) (zeros - (k - d))) h (packed_split bytes from n k zeros d e over) (omega arith) l t

-- behind the last record nothing more is laid
pub rest_lost : (g : Geometry) (s₀ s₁ s₂ : List ℕ) (p₀ p₁ p₂ : Pen) (all rest : List ℕ) → Rest g s₀ p₀ all s₂ p₂ rest → Turned g s₁ p₁ s₂ p₂ → p₂.i ≡ g.P
    → Lays g s₀ p₀ all s₂ p₂
rest_lost g s₀ s₁ s₂ p₀ p₁ p₂ all rest h t e = (λ more. h more ∙ t.stays e (rest ++ more) ∙ sym (t.stays e more), t.placed)
