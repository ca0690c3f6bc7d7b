-- From what the pen laid to what the record is: the laws that the writer's functions cite.
-- Assumes nothing.
use Prim.Native.Nat.{ℕ, min, suc, ◌+◌, ◌-◌, ◌<◌, ◌≤◌}
use mathlib.Core.Path.{◌≡◌, refl, sym, ap, subst, ◌∙◌}
use mathlib.Core.Bool.{Bool, true, false, cond}
use mathlib.Core.List.{List, [], ◌∷◌, ◌++◌, append_assoc, append-nil}
use lib.ListN.{length, length-replicate, get_or, take, drop, length-drop, length-append, drop_of_length-le}
use lib.Seq.{length-take-le, drop-drop, drop-cons, take_all, take-take, take-nil, drop-nil}
use lib.Dec.{leb}
use native.Mathlib.Omega.{arith}
use native.Mathlib.Nat.{not-suc-le-zero}
use native.Mathlib.Numerals.{add-one}
use borrow.Author.Tests.{leb-true}
use Rattle.standard.specs.Characters.{padded}
use Rattle.standard.specs.Labels.{Format, fixed, variable, spanned}
use Rattle.standard.specs.Pieces.{Role}
use Rattle.standard.specs.Packing.{fill, record_v, segment_role, role_byte, segment, Laid, spread, least, start_if, pack_in}
use Rattle.standard.specs.Writing.{total, parted, filled_to}
use Rattle.standard.specs.declared.Geometry.{Geometry}
use Rattle.labels.specs.Forms.{format_for}
use Rattle.labels.specs.declared.Form.{Form}
use Rattle.labels.specs.declared.Form.TheVariants.{Fixed, Variable, Spanned}
use Rattle.promises.specs.Ground.Lists.{Every}
use Rattle.promises.specs.Writing.Laying.{place_if, pack_some, pack_none}
use Rattle.promises.specs.Writing.NeededLaws.{least_for, EachFits, Tiled}
use Rattle.promises.proofs.Writing.NeededLaws.{least_for_lem}
use Rattle.promises.specs.Writing.StoreLaws.{total_drop}
use Rattle.promises.proofs.Writing.WritingPromises.{parted_lengths, parted_joined}
use Rattle.standard.specs.declared.Address.{Address}
use Rattle.extents.specs.Cursors.{standing}
use Rattle.extents.specs.declared.Cursor.{Cursor}
use Rattle.extents.proofs.CursorLaws.{stand_none}
use Rattle.blocks.proofs.BlockLaws.{drop_take}
use Rattle.filling.specs.Poured.{poured, laid_by, Lays, packed, word_s, flat}
use Rattle.filling.proofs.PenLaws.{lays_done, lays_then}
use Rattle.filling.proofs.RunLaws.{take_over, drop_over}
use Rattle.filling.specs.declared.Pen.{Pen}
use Rattle.laying.specs.Ahead.{flat_laid, lay_record, lay_from, fits_as, chunks, Shaped, Ready, HasRoom, Steps}
use Rattle.laying.specs.declared.Shape.{Shape}
use Rattle.laying.specs.declared.Desk.{Desk}
use Rattle.laying.proofs.AheadLaws.{filled_none, filled_by, packed_f, packed_v, packed_s, chunks_next, chunks_none, place_step, start_step, spread_here, spread_on}

-- two lots of bytes, and what follows
module _ (g : Geometry) (i i₁ i₂ : List ℕ) (p p₁ p₂ : Pen) (xs ys : List ℕ) (h : Lays g i p xs i₁ p₁) (k : Lays g i₁ p₁ ys i₂ p₂) where
  both_laid : (all rest tail : List ℕ) → all ≡ xs ++ (ys ++ rest) → laid_by g i p (all ++ tail) ≡ laid_by g i₂ p₂ (rest ++ tail)
  both_laid all rest tail e =
      ap (λ (s : List ℕ). laid_by g i p (s ++ tail)) e
      ∙ (ap (laid_by g i p) (append_assoc xs (ys ++ rest) tail ∙ ap (λ (s : List ℕ). xs ++ s) (append_assoc ys rest tail))
      ∙ (h.0 (ys ++ (rest ++ tail)) ∙ k.0 (rest ++ tail)))

one_laid : (g : Geometry) (i i₁ : List ℕ) (p p₁ : Pen) (xs : List ℕ) → Lays g i p xs i₁ p₁ → (all rest tail : List ℕ) → all ≡ xs ++ rest
    → laid_by g i p (all ++ tail) ≡ laid_by g i₁ p₁ (rest ++ tail)
one_laid g i i₁ p p₁ xs h all rest tail e =
    ap (λ (s : List ℕ). laid_by g i p (s ++ tail)) e ∙ (ap (laid_by g i p) (append_assoc xs rest tail) ∙ h.0 (rest ++ tail))

-- data with no fill behind it
pub lays_plain : (g : Geometry) (i i' : List ℕ) (p p' : Pen) (xs : List ℕ) → Lays g i p (xs ++ fill 0) i' p' → Lays g i p xs i' p'
lays_plain g i i' p p' xs h = subst (λ (ys : List ℕ). Lays g i p ys i' p') (append-nil xs) h

-- ---- F AND V: a record that stands whole in its block
cond_low : (t : Bool) (a b c : ℕ) → (t ≡ true → c ≤ a) → (t ≡ false → c ≤ b) → c ≤ cond t a b
cond_low true a b c h k = h refl
cond_low false a b c h k = k refl

cond_most : (t : Bool) (a b c : ℕ) → a ≤ c → b ≤ c → cond t a b ≤ c
cond_most true a b c h k = h
cond_most false a b c h k = k

cond_both : (t : Bool) (a b c d : ℕ) → a ≤ c → b ≤ d → cond t a b ≤ cond t c d
cond_both true a b c d h k = h
cond_both false a b c d h k = k

pub fits_there : (n room B : ℕ) → n ≤ B → n ≤ cond (leb n room) room B
fits_there n room B h = cond_low (leb n room) room B n (λ q. leb-true n room q) (λ _. h)

abbrev pub desk_of : Pen → ℕ → ℕ → Desk
desk_of p room rest = record { p = p; room = room; rest = rest }

module _ (g : Geometry) (s : Shape) (i i₁ i₂ : List ℕ) (d d₁ : Desk) (p₂ : Pen) (e : List ℕ) (sh : Shaped s) (rd : Ready g i s d) where
  abbrev WholeLaid : ℕ → Type 0
  WholeLaid n =
      n ≤ s.B → HasRoom g s i d n i₁ d₁ → Lays g i₁ d₁.p e i₂ p₂
      → Steps g s i d (λ more. place_if (leb (length e) d.room) s.B d.room e (λ r. more (cond s.joined r 0))) i₂
      (desk_of p₂ (cond s.joined (d₁.room - n) 0) (d₁.rest - n))

  whole_there : WholeLaid (length e)
  whole_there le h k =
      let fitting = leb (length e) d.room in
      let f = fits_there (length e) d.room s.B le in
      let inside = cond_both fitting d.room s.B d.rest s.size rd.1 sh.0 in
      let most = cond_most fitting d.rest s.size s.size rd.2 (omega arith) in
      let low = cond_most fitting d.room s.B s.B rd.3 (omega arith) in
      let after : cond s.joined (d₁.room - length e) 0 ≤ d₁.room - length e = cond_most s.joined _ _ _ (omega arith) (omega arith) in
      let er = h.1 in
      let es = h.2 in (
        λ more tail.
            both_laid g i i₁ i₂ d.p d₁.p p₂ (cond fitting [] (fill d.rest)) e h.0 k
            (flat_laid s.size d.rest (place_if fitting s.B d.room e (λ r. more (cond s.joined r 0))))
            (flat_laid s.size (d₁.rest - length e) (more (cond s.joined (d₁.room - length e) 0))) tail
            (rw (er, es) (place_step fitting s.size s.B d.room d.rest e (λ r. more (cond s.joined r 0)) rd.1)),
        (k.1, omega arith, omega arith, omega arith),
      )

  pub whole_laid : (n room : ℕ) → length e ≡ n → room ≡ cond s.joined (d₁.room - n) 0 → n ≤ s.B → HasRoom g s i d n i₁ d₁ → Lays g i₁ d₁.p e i₂ p₂
      → Steps g s i d (λ more. place_if (leb (length e) d.room) s.B d.room e (λ r. more (cond s.joined r 0))) i₂ (desk_of p₂ room (d₁.rest - n))
  whole_laid n room le er lb h k =
      subst (λ (r : ℕ). Steps g s i d (λ more. place_if (leb (length e) d.room) s.B d.room e (λ r. more (cond s.joined r 0))) i₂ (desk_of p₂ r (d₁.rest - n))) (sym er)
      (subst WholeLaid le whole_there lb h k)

-- part of a record's body: n bytes from an index on
pub part_length : (bodies : List ℕ) (from n : ℕ) → from + n ≤ length bodies → length (take n (drop from bodies)) ≡ n
part_length bodies from n h = length-take-le n (drop from bodies) (omega (arith, length-drop from bodies))

-- ---- S
module _ (g : Geometry) (s : Shape) (i i₁ i₂ : List ℕ) (d d₁ d₂ : Desk) where
  spanned_there : (x : List ℕ) → Ready g i s d → HasRoom g s i d (least x) i₁ d₁ → Steps g s i₁ d₁ (λ more. spread (suc (length x)) s.B false d₁.room x more) i₂ d₂
      → Steps g s i d (λ more. start_if (leb (least x) d.room) s.B d.room (λ r. spread (suc (length x)) s.B false r x more)) i₂ d₂
  spanned_there x rd h k =
      let starting = leb (least x) d.room in (
        λ more tail.
            one_laid g i i₁ d.p d₁.p (cond starting [] (fill d.rest)) h.0
            (flat_laid s.size d.rest (start_if starting s.B d.room (λ r. spread (suc (length x)) s.B false r x more)))
            (flat_laid s.size d₁.rest (spread (suc (length x)) s.B false d₁.room x more)) tail
            (rw (h.1, h.2) (start_step starting s.size s.B d.room d.rest (λ r. spread (suc (length x)) s.B false r x more) rd.1))
            ∙ k.0 more tail,
        k.1,
      )

  pub spanned_laid : (bodies : List ℕ) (from n : ℕ) → from + n ≤ length bodies → Ready g i s d → (need : ℕ) → need ≡ least_for n → HasRoom g s i d need i₁ d₁
      → Steps g s i₁ d₁ (λ more. spread (suc n) s.B false d₁.room (take n (drop from bodies)) more) i₂ d₂
      → Steps g s i d (λ more. lay_record true s.joined s.B d.room (take n (drop from bodies)) more) i₂ d₂
  spanned_laid bodies from n l rd need e h k =
      let x = take n (drop from bodies) in
      let lx : length x ≡ n = part_length bodies from n l in
      let lf : need ≡ least x = e ∙ (ap least_for (sym lx) ∙ sym (least_for_lem x)) in
      spanned_there x rd (subst (λ (m : ℕ). HasRoom g s i d m i₁ d₁) lf h)
      (subst (λ (m : ℕ). Steps g s i₁ d₁ (λ more. spread (suc m) s.B false d₁.room x more) i₂ d₂) (sym lx) k)

pub room_ready : (g : Geometry) (s : Shape) (i i₁ : List ℕ) (d d₁ : Desk) (need : ℕ) → Shaped s → Ready g i s d → need ≤ s.B → HasRoom g s i d need i₁ d₁
    → Ready g i₁ s d₁ × (need ≤ d₁.room)
room_ready g s i i₁ d d₁ need sh rd le h =
    let starting = leb need d.room in
    let f = fits_there need d.room s.B le in
    let inside = cond_both starting d.room s.B d.rest s.size rd.1 sh.0 in
    let most = cond_most starting d.rest s.size s.size rd.2 (omega arith) in
    let low = cond_most starting d.room s.B s.B rd.3 (omega arith) in
    let er = h.1 in
    let es = h.2 in
    ((h.0.1, omega arith, omega arith, omega arith), omega arith)

part_back : (bodies : List ℕ) (from k n : ℕ) → drop k (take n (drop from bodies)) ≡ take (n - k) (drop (from + k) bodies)
part_back bodies from k n =
    drop_take k n (drop from bodies) ∙ ap (take (n - k)) (drop-drop k from bodies)

module _ (g : Geometry) (size B : ℕ) (bodies : List ℕ) where
  -- what is to be laid of a record of S from here on, and what follows
  abbrev pub Left : List ℕ → Pen → ℕ → ℕ → ℕ → ℕ → Bool → (ℕ → Laid) → List ℕ → List ℕ
  Left i p room rest from n begun more tail =
      laid_by g i p (flat_laid size rest (spread (suc n) B begun room (take n (drop from bodies)) more) ++ tail)

  module _ (i i₁ : List ℕ) (p p₁ : Pen) (room rest from n : ℕ) (begun : Bool) where
    pub segment_on : from + n ≤ length bodies → room < 5 + n → least_for n ≤ room → least_for n ≤ B → room ≤ rest
        → Lays g i p (segment (segment_role begun false) (take (room - 5) (drop from bodies)) ++ fill (rest - room)) i₁ p₁
        → (more : ℕ → Laid) (tail : List ℕ) → Left i p room rest from n begun more tail ≡ Left i₁ p₁ B size (from + (room - 5)) (n - (room - 5)) true more tail
    segment_on l o lo hi r h more tail =
        let k = room - 5 in
        let x = take n (drop from bodies) in
        let lx : length x ≡ n = part_length bodies from n l in
        let lf : least x ≡ least_for n = least_for_lem x ∙ ap least_for lx in
        let y = take (n - k) (drop (from + k) bodies) in
        let ly : length y ≡ n - k = part_length bodies (from + k) (n - k) (omega arith) in
        let back : drop k x ≡ y = part_back bodies from k n in
        let front : take k x ≡ take k (drop from bodies) = take-take k n (drop from bodies) (omega arith) in
        let one = spread_on size B room rest begun x more (omega arith) (omega arith) (omega arith) r in
        let two : flat_laid size rest (spread (suc n) B begun room x more)
        ≡ segment (segment_role begun false) (take k (drop from bodies)) ++ (fill (rest - room) ++ flat_laid size size (spread (suc (n - k)) B true B y more)) =
        rw (lx, front, back, ly) at one in
        one_laid g i i₁ p p₁ (segment (segment_role begun false) (take k (drop from bodies)) ++ fill (rest - room)) h
        (flat_laid size rest (spread (suc n) B begun room x more)) (flat_laid size size (spread (suc (n - k)) B true B y more)) tail
        (two ∙ sym (append_assoc (segment (segment_role begun false) (take k (drop from bodies))) (fill (rest - room)) _))

    pub segment_end : from + n ≤ length bodies → 5 + n ≤ room
        → Lays g i p (segment (segment_role begun true) (take n (drop from bodies)) ++ fill 0) i₁ p₁
        → (more : ℕ → Laid) (tail : List ℕ) → Left i p room rest from n begun more tail ≡ laid_by g i₁ p₁ (flat_laid size (rest - (5 + n)) (more (room - (5 + n))) ++ tail)
    segment_end l o h more tail =
        let x = take n (drop from bodies) in
        let lx : length x ≡ n = part_length bodies from n l in
        let one = spread_here n size B room rest begun x more (omega arith) in
        let two : flat_laid size rest (spread (suc n) B begun room x more)
        ≡ segment (segment_role begun true) x ++ flat_laid size (rest - (5 + n)) (more (room - (5 + n))) =
        rw lx at one in
        one_laid g i i₁ p p₁ (segment (segment_role begun true) x ++ fill 0) h
        (flat_laid size rest (spread (suc n) B begun room x more)) (flat_laid size (rest - (5 + n)) (more (room - (5 + n)))) tail
        (two ∙ sym (append_assoc (segment (segment_role begun true) x) (fill 0) _))

-- control words
pub variable_laid : (g : Geometry) (i i₁ i₂ : List ℕ) (p p₁ p₂ : Pen) (x : List ℕ) (n : ℕ) → length x ≡ n → Lays g i p (padded 4 (4 + n)) i₁ p₁ → Lays g i₁ p₁ (x ++ fill 0) i₂ p₂
    → Lays g i p (record_v x) i₂ p₂
unfolding record_v
variable_laid g i i₁ i₂ p p₁ p₂ x n e h k =
    rw e (lays_then g i i₁ i₂ p p₁ p₂ (padded 4 (4 + n)) x h (lays_plain g i₁ i₂ p₁ p₂ x k))

pub segment_laid : (g : Geometry) (i i₁ i₂ : List ℕ) (p p₁ p₂ : Pen) (role : Role) (digit : ℕ) (x : List ℕ) (n zeros : ℕ) → length x ≡ n → 48 + digit ≡ role_byte role
    → Lays g i p (word_s digit (5 + n)) i₁ p₁ → Lays g i₁ p₁ (x ++ fill zeros) i₂ p₂ → Lays g i p (segment role x ++ fill zeros) i₂ p₂
unfolding segment
segment_laid g i i₁ i₂ p p₁ p₂ role digit x n zeros e r h k =
    let w : Lays g i p (word_s digit (5 + n) ++ (x ++ fill zeros)) i₂ p₂ = lays_then g i i₁ i₂ p p₁ p₂ (word_s digit (5 + n)) (x ++ fill zeros) h k in
    let q : word_s digit (5 + n) ++ (x ++ fill zeros) ≡ (role_byte role ∷ (padded 4 (5 + length x) ++ x)) ++ fill zeros =
    rw (e, sym r) (ap (λ (l : List ℕ). (48 + digit) ∷ l) (sym (append_assoc (padded 4 (5 + n)) x (fill zeros)))) in
    subst (λ (l : List ℕ). Lays g i p l i₂ p₂) q w

-- ---- THE LIST, record by record
module _ (g : Geometry) (s : Shape) (bodies lengths : List ℕ) where
  -- what is to be laid from record i on, whose body begins at `from`, and what follows
  abbrev pub Behind : List ℕ → Desk → ℕ → ℕ → List ℕ → List ℕ
  Behind i d k from tail =
      laid_by g i d.p
      (flat_laid s.size d.rest (lay_from s.spanned s.joined s.B d.room (parted (drop from bodies) (drop k lengths))) ++ tail)

  pub record_on : (i i' : List ℕ) (d d' : Desk) (k from n : ℕ) → k < length lengths → n ≡ get_or lengths k 0
      → Steps g s i d (λ more. lay_record s.spanned s.joined s.B d.room (take n (drop from bodies)) more) i' d'
      → (tail : List ℕ) → Behind i d k from tail ≡ Behind i' d' (k + 1) (from + n) tail
  unfolding lay_from parted
  record_on i i' d d' k from n l e h tail =
      let f = s.spanned in
      let first : drop k lengths ≡ n ∷ drop (k + 1) lengths = drop-cons lengths k 0 l ∙ (ap (λ (m : ℕ). m ∷ drop (suc k) lengths) (sym e) ∙ ap (λ (j : ℕ). n ∷ drop j lengths) (sym (add-one k))) in
      let later : drop n (drop from bodies) ≡ drop (from + n) bodies = drop-drop n from bodies in
      ap (λ (xs : List ℕ). laid_by g i d.p (flat_laid s.size d.rest (lay_from f s.joined s.B d.room (parted (drop from bodies) xs)) ++ tail)) first
      ∙ (h.0 (λ r. lay_from f s.joined s.B r (parted (drop n (drop from bodies)) (drop (k + 1) lengths))) tail
      ∙ ap (λ (ys : List ℕ). laid_by g i' d'.p (flat_laid s.size d'.rest (lay_from f s.joined s.B d'.room (parted ys (drop (k + 1) lengths))) ++ tail)) later)

  -- the record's body is there, and fits
  pub record_fits : (k from : ℕ) → k < length lengths → total (drop k lengths) + from ≡ length bodies → Every (fits_as s.spanned s.B) (drop k lengths)
      → (fits_as s.spanned s.B (get_or lengths k 0)) × (from + get_or lengths k 0 ≤ length bodies)
      × (total (drop (k + 1) lengths) + (from + get_or lengths k 0) ≡ length bodies) × Every (fits_as s.spanned s.B) (drop (k + 1) lengths)
  record_fits k from l t f =
      let sum = total_drop lengths k l in
      let q : Every (fits_as s.spanned s.B) (get_or lengths k 0 ∷ drop (suc k) lengths) = subst (Every (fits_as s.spanned s.B)) (drop-cons lengths k 0 l) f in
      let later : Every (fits_as s.spanned s.B) (drop (k + 1) lengths) = rw (add-one k) q.1 in
      (q.0, omega arith, omega arith, later)

  -- behind the last record there is the fill
  pub records_end : (i i' : List ℕ) (d : Desk) (k from : ℕ) (p : Pen) → length lengths ≤ k → Lays g i d.p (fill d.rest) i' p → (tail : List ℕ) → Behind i d k from tail ≡ laid_by g i' p tail
  unfolding lay_from parted flat
  records_end i i' d k from p l h tail =
      let none : drop k lengths ≡ [] = drop_of_length-le lengths l in
      let f = s.spanned in
      ap (λ (xs : List ℕ). laid_by g i d.p (flat_laid s.size d.rest (lay_from f s.joined s.B d.room (parted (drop from bodies) xs)) ++ tail)) none
      ∙ (ap (λ (ys : List ℕ). laid_by g i d.p ((ys ++ flat s.size []) ++ tail)) (filled_none d.rest)
      ∙ (ap (λ (ys : List ℕ). laid_by g i d.p (ys ++ tail)) (append-nil (fill d.rest)) ∙ h.0 tail))

-- ---- FROM THE FIRST RECORD ON
some_bytes : (C : List ℕ → Type 0) (xs : List ℕ) → 1 ≤ length xs → ((b : ℕ) (bytes : List ℕ) → C (b ∷ bytes)) → C xs
some_bytes C [] h k = absurd (not-suc-le-zero h)
some_bytes C (b ∷ bytes) h k = k b bytes

filled_some : (size : ℕ) (c rest : List ℕ) → 1 ≤ size → 1 ≤ length (filled_to size c ++ rest)
unfolding filled_to
filled_some size [] rest h = omega (arith, length-append (fill (size - 0)) rest, length-replicate {A = ℕ} (size - 0) 0)
filled_some size (x ∷ c) rest h = omega arith

flat_some : (size : ℕ) (cs : List (List ℕ)) → 1 ≤ size → 1 ≤ length cs → 1 ≤ length (flat size cs)
unfolding flat
flat_some size [] h n = absurd (not-suc-le-zero n)
flat_some size (c ∷ cs) h n = filled_some size c (flat size cs) h

listed_some : (f : Format) (R : ℕ) (blocked : Bool) (size B : ℕ) (bodies lengths : List ℕ) → 1 ≤ size → (length lengths ≡ 0 → ⊥)
    → 1 ≤ length (flat size (pack_in f R blocked B (parted bodies lengths)).contents)
unfolding parted
listed_some f R blocked size B bodies [] h n = absurd (n refl)
listed_some f R blocked size B bodies (k ∷ lengths) h n = flat_some size _ h (pack_some f R blocked B (take k bodies) (parted (drop k bodies) lengths))

module _ (g : Geometry) (i : List ℕ) (c : Cursor) (f : Format) (R : ℕ) (blocked : Bool) (size B : ℕ) (bodies lengths : List ℕ) where
  abbrev blocks_of : List (List ℕ)
  blocks_of = (pack_in f R blocked B (parted bodies lengths)).contents

  -- no records: nothing is laid
  pub stored_none : length lengths ≡ 0 → i ≡ poured g (standing g i c) (flat size blocks_of) i
  unfolding poured parted flat
  stored_none e = go lengths e
    where
      nothing : (more : List Address) → i ≡ poured g more [] i
      nothing [] = refl
      nothing (a ∷ more) = refl

      go : (l : List ℕ) → length l ≡ 0 → i ≡ poured g (standing g i c) (flat size (pack_in f R blocked B (parted bodies l)).contents) i
      go [] e = rw (pack_none f R blocked B) (nothing (standing g i c))
      go (n ∷ l) e = absurd (omega (arith, e))

  -- no good record: nothing is laid
  pub stored_nowhere : c.left ≡ 0 → i ≡ poured g (standing g i c) (flat size blocks_of) i
  unfolding poured
  stored_nowhere e = rw (stand_none g i c (omega (arith, e)))

  pub stored_all : (i₁ i₂ : List ℕ) (p r : Pen) → 1 ≤ size → (length lengths ≡ 0 → ⊥)
      → ((b : ℕ) (bytes : List ℕ) → poured g (standing g i c) (b ∷ bytes) i ≡ laid_by g i₁ p (b ∷ bytes))
      → Lays g i₁ p (flat size blocks_of) i₂ r → i₂ ≡ poured g (standing g i c) (flat size blocks_of) i
  stored_all i₁ i₂ p r sz some h k =
      let cs = flat size blocks_of in
      let begins : poured g (standing g i c) cs i ≡ laid_by g i₁ p cs =
      some_bytes (λ (xs : List ℕ). poured g (standing g i c) xs i ≡ laid_by g i₁ p xs) cs (listed_some f R blocked size B bodies lengths sz some) h in
      sym (begins ∙ (ap (laid_by g i₁ p) (sym (append-nil cs)) ∙ (k.0 [] ∙ lays_done g i₂ r k.1)))

-- ---- BY THE FORMAT
pub fits_in : (form f : Form) (B : ℕ) (lengths : List ℕ) → form ≡ f → EachFits (format_for form) B lengths → EachFits (format_for f) B lengths
fits_in form f B lengths e fits = subst (λ (k : Form). EachFits (format_for k) B lengths) e fits

module _ (g : Geometry) (i i' : List ℕ) (p p' : Pen) (R : ℕ) (blocked : Bool) (B size : ℕ) (bodies lengths : List ℕ) (sum : total lengths ≡ length bodies) where
  abbrev Listed : Format → Type 0
  Listed f = Lays g i p (flat size (pack_in f R blocked B (parted bodies lengths)).contents) i' p'

  relaid : (f : Format) (xs : List ℕ) → xs ≡ flat size (pack_in f R blocked B (parted bodies lengths)).contents → Lays g i p xs i' p' → Listed f
  relaid f xs e h = subst (λ (ys : List ℕ). Lays g i p ys i' p') e h

  listed_f : Tiled R B lengths → Lays g i p (flat size (chunks B bodies)) i' p' → Listed fixed
  listed_f t h =
      let same = packed_f R blocked B (parted bodies lengths) (subst (Tiled R B) (sym (parted_lengths lengths bodies sum)) t) ∙ ap (chunks B) (parted_joined lengths bodies sum) in
      relaid fixed _ (ap (flat size) (sym same)) h

  listed_v : B ≤ size → Every (fits_as false B) lengths → Lays g i p (flat_laid size 0 (lay_from false blocked B 0 (parted bodies lengths))) i' p' → Listed variable
  listed_v b fits h =
      relaid variable _ (sym (packed_v R blocked size B (parted bodies lengths) b (subst (Every (fits_as false B)) (sym (parted_lengths lengths bodies sum)) fits))) h

  listed_s : Every (fits_as true B) lengths → Lays g i p (flat_laid size 0 (lay_from true true B 0 (parted bodies lengths))) i' p' → Listed spanned
  listed_s fits h =
      relaid spanned _ (sym (packed_s R blocked true size B (parted bodies lengths) (subst (Every (fits_as true B)) (sym (parted_lengths lengths bodies sum)) fits))) h

  -- whichever the form is
  module _ (form : Form) (fits : EachFits (format_for form) B lengths) where
    form_is : (f : Form) → form ≡ f → Listed (format_for f) → Listed (format_for form)
    form_is f e h = subst (λ (k : Form). Listed (format_for k)) (sym e) h

    pub listed_fixed : form ≡ Fixed → (form ≡ Fixed → Tiled R B lengths) → Lays g i p (flat size (chunks B bodies)) i' p' → Listed (format_for form)
    listed_fixed e t h = form_is Fixed e (listed_f (t e) h)

    pub listed_variable : form ≡ Variable → B ≤ size → Lays g i p (flat_laid size 0 (lay_from false blocked B 0 (parted bodies lengths))) i' p' → Listed (format_for form)
    listed_variable e b h = form_is Variable e (listed_v b (fits_in form Variable B lengths e fits) h)

    pub listed_spanned : form ≡ Spanned → Lays g i p (flat_laid size 0 (lay_from true true B 0 (parted bodies lengths))) i' p' → Listed (format_for form)
    listed_spanned e h = form_is Spanned e (listed_s (fits_in form Spanned B lengths e fits) h)

-- ---- F: block by block
-- behind a block of B bytes, or of all that is left, stands the rest
cut_at : (B : ℕ) (x rest : List ℕ) → length x ≡ min B (length x + length rest) → (take B (x ++ rest) ≡ x) × (drop B (x ++ rest) ≡ rest)
cut_at B x rest e = (take_over B x rest (omega arith) ∙ ap (λ (t : List ℕ). x ++ t) (over rest e).0 ∙ append-nil x, drop_over B x rest (omega arith) ∙ (over rest e).1)
  where
    over : (rest : List ℕ) → length x ≡ min B (length x + length rest) → (take (B - length x) rest ≡ []) × (drop (B - length x) rest ≡ rest)
    over [] e = (take-nil (B - length x), drop-nil (B - length x))
    over (y ∷ rest) e =
        let z : B - length x ≡ 0 = omega arith in
        (ap (λ (k : ℕ). take k (y ∷ rest)) z, ap (λ (k : ℕ). drop k (y ∷ rest)) z)

module _ (g : Geometry) (B size : ℕ) where
  abbrev pub BlocksFrom : List ℕ → Pen → List ℕ → List ℕ → List ℕ
  BlocksFrom i p s tail = laid_by g i p (flat size (chunks B s) ++ tail)

  -- a block, and its fill
  pub block_on : (i i' : List ℕ) (p p' : Pen) (s x rest : List ℕ) → 1 ≤ B → s ≡ x ++ rest → length x ≡ min B (length s) → 0 < length s
      → Lays g i p (packed x 0 (length x) (size - length x)) i' p' → (tail : List ℕ) → BlocksFrom i p s tail ≡ BlocksFrom i' p' rest tail
  unfolding flat
  block_on i i' p p' s x rest b e n l h tail =
      let both : length s ≡ length x + length rest = ap length e ∙ length-append x rest in
      let k = cut_at B x rest (omega arith) in
      let next : chunks B s ≡ x ∷ chunks B rest =
      chunks_next B s b l ∙ ap (λ (t : List ℕ). take B t ∷ chunks B (drop B t)) e ∙ ap (λ (t : List ℕ). t ∷ chunks B (drop B (x ++ rest))) k.0 ∙ ap (λ (t : List ℕ). x ∷ chunks B t) k.1 in
      let whole : take (length x) x ≡ x = take_all (length x) x (omega arith) in
      let one : flat size (chunks B s) ≡ packed x 0 (length x) (size - length x) ++ flat size (chunks B rest) =
      ap (flat size) next
      ∙ ap (λ (y : List ℕ). y ++ flat size (chunks B rest)) (filled_by size (length x) x refl ∙ ap (λ (y : List ℕ). y ++ fill (size - length x)) (sym whole)) in
      one_laid g i i' p p' (packed x 0 (length x) (size - length x)) h (flat size (chunks B s)) (flat size (chunks B rest)) tail one

  pub blocks_end : (i : List ℕ) (p : Pen) (s : List ℕ) → length s ≡ 0 → (tail : List ℕ) → BlocksFrom i p s tail ≡ laid_by g i p tail
  unfolding flat
  blocks_end i p [] l tail = ap (λ (cs : List (List ℕ)). laid_by g i p (flat size cs ++ tail)) (chunks_none B)
  blocks_end i p (y ∷ s) l tail = absurd (omega arith)

pub tiled_some : (R B : ℕ) (lengths : List ℕ) → Tiled R B lengths → 1 ≤ B
tiled_some R B lengths t = omega (arith, t.some, t.high)
