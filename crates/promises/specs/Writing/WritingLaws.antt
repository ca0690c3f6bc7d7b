-- THE WRITING THEOREM: records packed into blocks are read back.
-- Assumes nothing.
use Prim.Native.Nat.{ℕ, zero, suc, ◌+◌, ◌-◌, ◌*◌, ◌/◌, ◌%◌, ◌≤◌, ◌<◌}
use Rattle.std.specs.Prelude.{◌≡◌, Bool, not, ◌&&◌, ltb, eqb}
use Rattle.std.proofs.Math.Path.{refl, ap, subst}
use Rattle.std.proofs.Common.{sym, ◌∙◌, length-drop, take-append-drop, take_at, drop_at, length-take-le, arith, not-suc-le-zero, le_refl}
use Rattle.std.proofs.Math.Bool.{true, false, or-true, and-false}
use Rattle.std.proofs.Math.Option.{some}
use mathlib.Core.List.{List, [], ◌∷◌, ◌++◌, map, append_assoc, append-nil}
use Rattle.std.proofs.Math.ListN.{length, take, drop, length-append}
use Rattle.std.proofs.Math.Seq.{drop-append_seam}
use Rattle.std.proofs.Math.Dec.{leb}
use borrow.Author.Tests.{le-leb, lt-leb, leb-true, leb-false, ne_eqb, lt-ltb, ltb-true}
use Rattle.standard.specs.Pieces.{held, Role, whole, first, middle, last, blank, piece, is_fill, number4, four, role_of, look_f, look_v, look_s, look, Token, part, after_part, pieces, in_block, in_blocks}
use Rattle.standard.specs.Records.{plain, State, fresh, within, over, meet}
use Rattle.standard.specs.Listed.{Item, read_all, join_move, join, listed}
use Rattle.standard.specs.Packing.{Packing, fill, lay_f, record_v, lay_one, segment_role, role_byte, segment, Laid, then_here, then_next, spread, least, lay_s, pack, file_of}
use Rattle.standard.specs.Characters.{digit_value, padded}
use Rattle.standard.specs.Labels.{fixed, variable, spanned, Params}
use Rattle.promises.specs.Ground.Lists.{Every}
use Rattle.promises.specs.Reading.PiecesLaws.{look_nil, pieces_eq}
use Rattle.promises.specs.Reading.ReadingLaws.{read_all_listed, Reads, reads_cons}
use Rattle.promises.specs.Ground.Digits.{digit_is}
use Rattle.promises.specs.Writing.Laying.{lay, laid_f, laid_v}

-- ---- four digits, there and back

pub four_digits : (n : ℕ) (more : List ℕ) → n < 10000 → four (padded 4 n ++ more) ≡ some n
unfolding padded number4 digit_value
four_digits n more h = rw (digit_is (n / 10 / 10 / 10), digit_is (n / 10 / 10), digit_is (n / 10), digit_is n) (ap some (omega arith))

-- ---- what `look` finds where something was written

role_of_byte : (k : Role) → role_of (role_byte k) ≡ some k
unfolding role_of
role_of_byte whole = refl
role_of_byte first = refl
role_of_byte middle = refl
role_of_byte last = refl

role_byte_pos : (k : Role) → eqb (role_byte k) 0 ≡ false
role_byte_pos whole = refl
role_byte_pos first = refl
role_byte_pos middle = refl
role_byte_pos last = refl

fill_is : (n : ℕ) → is_fill (fill n) ≡ true
fill_is zero = refl
fill_is (suc n) = fill_is n

-- The control word and the body of a segment, cut out of what begins with it
look_s_segment : (k : Role) (body more : List ℕ) → 5 + length body < 10000 → look_s (segment k body ++ more) ≡ piece k body (5 + length body)
unfolding segment padded look_s
look_s_segment k body more h =
    let n : ℕ = 5 + length body in
    let l : length (body ++ more) ≡ length body + length more = length-append body more in
    rw (
      lt-leb (suc (suc (suc (suc (suc (suc (length (body ++ more)))))))) 5 (omega arith),
      role_byte_pos k,
      role_of_byte k,
      four_digits n (body ++ more) h,
      le-leb 5 n (omega arith),
      le-leb n (suc (suc (suc (suc (suc (length (body ++ more))))))) (omega arith),
      take_at body more (n - 5) (omega arith),
    )

look_s_fill : (n : ℕ) → look_s (fill n) ≡ blank
unfolding look_s
look_s_fill zero = refl
look_s_fill (suc n) = rw (or-true, fill_is n)

-- ---- reading what was laid

laid_tokens : Params → ℕ → ℕ → Laid → List Token
laid_tokens p b o l = pieces p b o l.here ++ in_blocks p (suc b) (map held l.later)

abbrev S : ℕ → Bool → Params
S R bl = record { format = spanned; R = R; blocked = bl }

pub segment_length : (k : Role) (body : List ℕ) → length (segment k body) ≡ 5 + length body
unfolding segment padded
segment_length k body = omega arith

segment_pieces : (R : ℕ) (bl : Bool) (b o : ℕ) (k : Role) (body more : List ℕ) → 5 + length body < 10000
    → pieces (S R bl) b o (segment k body ++ more)
    ≡ part k body b o (o + (5 + length body)) ∷ after_part k b (o + (5 + length body)) more (pieces (S R bl) b (o + (5 + length body)) more)
unfolding look
segment_pieces R bl b o k body more h =
    pieces_eq (S R bl) b o (segment k body ++ more) ∙ rw (look_s_segment k body more h, drop_at (segment k body) more (5 + length body) (segment_length k body))

fill_pieces : (R : ℕ) (bl : Bool) (b o n : ℕ) → pieces (S R bl) b o (fill n) ≡ []
unfolding look
fill_pieces R bl b o n = pieces_eq (S R bl) b o (fill n) ∙ rw (look_s_fill n)

over_mono : (R : ℕ) (bl : Bool) (m n : ℕ) → m ≤ n → over (S R bl) n ≡ false → over (S R bl) m ≡ false
over_mono R bl m n h = go (ltb 0 R) (ltb R m) refl
  where
    go : (x y : Bool) → ltb R m ≡ y → (x && ltb R n) ≡ false → (x && y) ≡ false
    go x false e k = and-false x
    go x true e k = rw (lt-ltb R n (omega (arith, ltb-true R m e))) at k

-- a reader that a writer's piece finds: between records, or inside one of which it has `acc`
data Stands : Bool → State → List ℕ → Type 0 where
  idle : Stands false fresh []
  inside : {acc : List ℕ} {f : ℕ} → Stands true (within acc f) acc

module _ (R : ℕ) (bl : Bool) (b o : ℕ) (more : State → List Item) where
  put_end : (begun : Bool) (st : State) (acc body : List ℕ) (xs : List (List ℕ)) → Stands begun st acc → over (S R bl) (length (acc ++ body)) ≡ false
      → Reads (more fresh) xs → Reads (join_move (meet (S R bl) st (segment_role begun true) body b) b o more) ((acc ++ body) ∷ xs)
  put_end begun st acc body xs idle e h = rw e (reads_cons (record { body = body; first_block = b; last_block = b }) h)
  put_end begun st acc body xs (inside {acc = a} {f = f}) e h = rw e (reads_cons (record { body = a ++ body; first_block = f; last_block = b }) h)

  put_part : (begun : Bool) (st : State) (acc body : List ℕ) (ys : List (List ℕ)) → Stands begun st acc → over (S R bl) (length (acc ++ body)) ≡ false
      → ((st₁ : State) → Stands true st₁ (acc ++ body) → Reads (more st₁) ys) → Reads (join_move (meet (S R bl) st (segment_role begun false) body b) b o more) ys
  put_part begun st acc body xs idle e h = rw e (h (within body b) inside)
  put_part begun st acc body xs (inside {acc = a} {f = f}) e h = rw e (h (within (a ++ body) f) inside)

cut_alone : (R : ℕ) (bl : Bool) (b o : ℕ) (k : Role) (body : List ℕ) → 5 + length body < 10000
    → pieces (S R bl) b o (segment k body) ≡ part k body b o (o + (5 + length body)) ∷ after_part k b (o + (5 + length body)) [] (pieces (S R bl) b (o + (5 + length body)) [])
cut_alone R bl b o k body h = ap (pieces (S R bl) b o) (sym (append-nil (segment k body))) ∙ segment_pieces R bl b o k body [] h

ReadsFrom : ℕ → Bool → ℕ → ℕ → Laid → State → List (List ℕ) → Type 0
ReadsFrom R bl b o l st xs = Reads (join plain (S R bl) (laid_tokens (S R bl) b o l) st) xs

module _ (R : ℕ) (bl : Bool) (b o : ℕ) (l : Laid) where
  -- what is read behind a segment of this body
  abbrev onward : List ℕ → State → List Item
  onward body st = join plain (S R bl) (laid_tokens (S R bl) b (o + (5 + length body)) l) st

  end_reads : (begun : Bool) (body : List ℕ) (xs : List (List ℕ)) (st : State) (acc : List ℕ) → Stands begun st acc → 5 + length body < 10000
      → over (S R bl) (length (acc ++ body)) ≡ false → ((o' : ℕ) → ReadsFrom R bl b o' l fresh xs)
      → ReadsFrom R bl b o (then_here (segment (segment_role begun true) body) l) st ((acc ++ body) ∷ xs)
  unfolding ReadsFrom laid_tokens join
  end_reads begun body xs st acc idle h v k =
      rw (segment_pieces R bl b o whole body l.here h) (put_end R bl b o (onward body) false fresh [] body xs idle v (k (o + (5 + length body))))
  end_reads begun body xs st acc (inside {acc = a} {f = f}) h v k =
      rw (segment_pieces R bl b o last body l.here h) (put_end R bl b o (onward body) true (within a f) a body xs inside v (k (o + (5 + length body))))

  part_reads : (begun : Bool) (body : List ℕ) (ys : List (List ℕ)) (st : State) (acc : List ℕ) → Stands begun st acc → 5 + length body < 10000
      → over (S R bl) (length (acc ++ body)) ≡ false → ((st₁ : State) → Stands true st₁ (acc ++ body) → ReadsFrom R bl (suc b) 0 l st₁ ys)
      → ReadsFrom R bl b o (then_next (segment (segment_role begun false) body) l) st ys
  unfolding ReadsFrom laid_tokens join in_blocks in_block
  part_reads begun body ys st acc idle h v k = rw (cut_alone R bl b o first body h) (put_part R bl b o _ false fresh [] body ys idle v k)
  part_reads begun body ys st acc (inside {acc = a} {f = f}) h v k =
      rw (cut_alone R bl b o middle body h) (put_part R bl b o _ true (within a f) a body ys inside v k)

pub least_of : (body : List ℕ) → 0 < length body → least body ≡ 6
least_of [] h = absurd (not-suc-le-zero h)
least_of (x ∷ xs) h = refl

pub least_five : (body : List ℕ) → 5 ≤ least body
least_five [] = omega arith
least_five (x ∷ xs) = omega arith

-- A SEGMENT THAT GOES ON: it "starts where 6 bytes are left", so it takes a byte or more; and a byte or more is left for the next block
pub record GoesOn (room : ℕ) (body : List ℕ) : Type 0 where
  pub over_room : room < 5 + length body
  pub room_low : 6 ≤ room
  pub here : least body ≡ 6
  pub front : length (take (room - 5) body) ≡ room - 5
  pub rest : length (drop (room - 5) body) ≡ length body - (room - 5)
  pub next : least (drop (room - 5) body) ≡ 6

pub goes_on_lem : (room : ℕ) (body : List ℕ) → room < 5 + length body → least body ≤ room → GoesOn room body
goes_on_lem room body over_room h =
    let five = least_five body in
    let six = least_of body (omega arith) in
    let lr = length-drop (room - 5) body in
    record {
      over_room = over_room;
      room_low = omega arith;
      here = six;
      front = length-take-le (room - 5) body (omega arith);
      rest = lr;
      next = least_of (drop (room - 5) body) (omega arith);
    }

module _ (R : ℕ) (bl : Bool) (B : ℕ) (small : B < 10000) (more : ℕ → Laid) (xs : List (List ℕ))
    (k : (b o room : ℕ) → room ≤ B → ReadsFrom R bl b o (more room) fresh xs) where
  Spreads : ℕ → Type 0
  Spreads n = (begun : Bool) (room : ℕ) (body : List ℕ) → length body < n → least body ≤ room → room ≤ B
      → (b o : ℕ) (st : State) (acc : List ℕ) → Stands begun st acc → over (S R bl) (length (acc ++ body)) ≡ false
      → ReadsFrom R bl b o (spread n B begun room body more) st ((acc ++ body) ∷ xs)

  spread_case : (n : ℕ) → Spreads n → (t : Bool) (begun : Bool) (room : ℕ) (body : List ℕ) → leb (5 + length body) room ≡ t
      → length body < suc n → least body ≤ room → room ≤ B
      → (b o : ℕ) (st : State) (acc : List ℕ) → Stands begun st acc → over (S R bl) (length (acc ++ body)) ≡ false
      → ReadsFrom R bl b o (spread (suc n) B begun room body more) st ((acc ++ body) ∷ xs)
  unfolding Spreads spread
  spread_case n ih true begun room body e hn hl hr b o st acc s v =
      let fits : 5 + length body ≤ room = leb-true (5 + length body) room e in
      rw e (end_reads R bl b o (more (room - (5 + length body))) begun body xs st acc s (omega arith) v
      (λ o'. k b o' (room - (5 + length body)) (omega arith)))
  spread_case n ih false begun room body e hn hl hr b o st acc s v =
      let on = goes_on_lem room body (leb-false (5 + length body) room e) hl in
      let chunk : List ℕ = take (room - 5) body in
      let rest : List ℕ = drop (room - 5) body in
      let la : length (acc ++ chunk) ≡ length acc + length chunk = length-append acc chunk in
      let lb : length (acc ++ body) ≡ length acc + length body = length-append acc body in
      let whole_is : (acc ++ chunk) ++ rest ≡ acc ++ body = append_assoc acc chunk rest ∙ ap (λ (l : List ℕ). acc ++ l) (take-append-drop (room - 5) body) in
      rw e (part_reads R bl b o (spread n B true B rest more) begun chunk ((acc ++ body) ∷ xs) st acc s (omega arith)
      (over_mono R bl (length (acc ++ chunk)) (length (acc ++ body)) (omega arith) v)
      (λ st₁ s₁. subst (λ (l : List ℕ). ReadsFrom R bl (suc b) 0 (spread n B true B rest more) st₁ (l ∷ xs)) whole_is
      (ih true B rest (omega arith) (omega arith) (le_refl B) (suc b) 0 st₁ (acc ++ chunk) s₁ (rw whole_is v))))

  spread_reads : (n : ℕ) → Spreads n
  unfolding Spreads
  spread_reads zero begun room body hn hl hr b o st acc s v = absurd (not-suc-le-zero hn)
  spread_reads (suc n) begun room body hn hl hr b o st acc s v =
      spread_case n (spread_reads n) (leb (5 + length body) room) begun room body refl hn hl hr b o st acc s v

-- ---- S

-- "S length over R (R not 0000), or not 0 with B = 5"
abbrev pub FitS : ℕ → Bool → ℕ → List (List ℕ) → Type 0
FitS R bl B xs = Every (λ x. (over (S R bl) (length x) ≡ false) × (least x ≤ B)) xs

none_left : (p : Params) (b o room : ℕ) → Reads (join plain p (laid_tokens p b o (record { here = []; later = []; unused = room })) fresh) []
unfolding laid_tokens in_blocks join
none_left p b o room = rw (pieces_eq, look_nil) (record { rs = []; same = refl; clean = refl })

next_reads : (R : ℕ) (bl : Bool) (b o room : ℕ) (l : Laid) (ys : List (List ℕ)) → ReadsFrom R bl (suc b) 0 l fresh ys → ReadsFrom R bl b o (then_next (fill room) l) fresh ys
unfolding ReadsFrom laid_tokens in_blocks in_block
next_reads R bl b o room l ys h = rw (fill_pieces R bl b o room) h

lay_s_reads : (R : ℕ) (bl : Bool) (B : ℕ) → B < 10000 → (xs : List (List ℕ)) → FitS R bl B xs → (b o room : ℕ) → room ≤ B → ReadsFrom R bl b o (lay_s B room xs) fresh xs
unfolding lay_s Spreads
lay_s_reads R bl B small [] v b o room h = unfold ReadsFrom in none_left (S R bl) b o room
lay_s_reads R bl B small (x ∷ xs) v b o room h = go (leb (least x) room) refl (λ b' o' room' h'. lay_s_reads R bl B small xs v.1 b' o' room' h')
  where
    go : (t : Bool) → leb (least x) room ≡ t → ((b' o' room' : ℕ) → room' ≤ B → ReadsFrom R bl b' o' (lay_s B room' xs) fresh xs)
        → ReadsFrom R bl b o (lay_s B room (x ∷ xs)) fresh (x ∷ xs)
    go true e k =
        rw e (spread_reads R bl B small (λ r. lay_s B r xs) xs k (suc (length x)) false room x (le_refl (suc (length x)))
        (leb-true (least x) room e) h b o fresh [] idle v.0.0)
    go false e k =
        rw e (next_reads R bl b o room _ (x ∷ xs) (spread_reads R bl B small (λ r. lay_s B r xs) xs k (suc (length x)) false B x (le_refl (suc (length x)))
        v.0.1 (le_refl B) (suc b) 0 fresh [] idle v.0.0))

read_laid : (p : Params) (l : Laid) (xs : List (List ℕ)) → Reads (join plain p (laid_tokens p 0 0 l) fresh) xs → Reads (read_all plain (file_of p (l.here ∷ l.later))) xs
unfolding file_of listed laid_tokens in_blocks in_block
read_laid p l xs h = rw read_all_listed h

read_none : (p : Params) → Reads (read_all plain (file_of p [])) []
unfolding file_of listed in_blocks join
read_none p = rw read_all_listed (record { rs = []; same = refl; clean = refl })

pub write_read_s : (R : ℕ) (bl : Bool) (B : ℕ) → B < 10000 → (xs : List (List ℕ)) → FitS R bl B xs
    → Reads (read_all plain (file_of (S R bl) (pack (S R bl) B xs).contents)) xs
unfolding pack ReadsFrom
write_read_s R bl B small [] v = read_none (S R bl)
write_read_s R bl B small (x ∷ xs) v = read_laid (S R bl) (lay_s B B (x ∷ xs)) (x ∷ xs) (lay_s_reads R bl B small (x ∷ xs) v 0 0 B (le_refl B))

-- ---- F, and V blocked: records that lie whole in a block

-- what the layer asks of a format: where a record's bytes stand the record is found, and what is left of a block where a record does not fit reads as nothing
module _ (p : Params) (B : ℕ) (free : (n : ℕ) → over p n ≡ false) (Room : ℕ → Type 0) where
  abbrev pub Laying : List (List ℕ) → List (List ℕ) → Type 0
  Laying [] [] = Unit {0}
  Laying [] (x ∷ xs) = ⊥
  Laying (e ∷ es) [] = ⊥
  Laying (e ∷ es) (x ∷ xs) =
      ((o : ℕ) (more : List ℕ) → look p o (e ++ more) ≡ piece whole x (length e))
      × ((o room : ℕ) → Room room → room < length e → look p o (fill room) ≡ blank)
      × ((room : ℕ) → Room room → length e ≤ room → Room (room - length e))
      × (length e ≤ B)
      × Laying es xs

  place_reads : (b o : ℕ) (e x : List ℕ) (l : Laid) (xs : List (List ℕ)) → ((o' : ℕ) (more : List ℕ) → look p o' (e ++ more) ≡ piece whole x (length e))
      → ((o' : ℕ) → Reads (join plain p (laid_tokens p b o' l) fresh) xs) → Reads (join plain p (laid_tokens p b o (then_here e l)) fresh) (x ∷ xs)
  unfolding laid_tokens join
  place_reads b o e x l xs h k =
      rw (pieces_eq p b o (e ++ l.here), h o l.here, free (length x), drop-append_seam e l.here) (reads_cons (record { body = x; first_block = b; last_block = b }) (k (o + length e)))

  over_reads : (b o room : ℕ) (l : Laid) (xs : List (List ℕ)) → look p o (fill room) ≡ blank
      → Reads (join plain p (laid_tokens p (suc b) 0 l) fresh) xs → Reads (join plain p (laid_tokens p b o (then_next (fill room) l)) fresh) xs
  unfolding laid_tokens in_blocks in_block
  over_reads b o room l xs e h = rw (pieces_eq p b o (fill room), e) h

  lay_reads : Room B → (es xs : List (List ℕ)) → Laying es xs → (b o room : ℕ) → Room room → Reads (join plain p (laid_tokens p b o (lay B room es)) fresh) xs
  unfolding lay
  lay_reads rb [] [] v b o room h = none_left p b o room
  lay_reads rb [] (x ∷ xs) v b o room h = absurd v
  lay_reads rb (e ∷ es) [] v b o room h = absurd v
  lay_reads rb (e ∷ es) (x ∷ xs) v b o room h =
      go (leb (length e) room) refl (λ b' o' room' h'. lay_reads rb es xs v.4 b' o' room' h')
    where
      go : (t : Bool) → leb (length e) room ≡ t → ((b' o' room' : ℕ) → Room room' → Reads (join plain p (laid_tokens p b' o' (lay B room' es)) fresh) xs)
          → Reads (join plain p (laid_tokens p b o (lay B room (e ∷ es))) fresh) (x ∷ xs)
      go true q k =
          rw q (place_reads b o e x (lay B (room - length e) es) xs v.0 (λ o'. k b o' (room - length e) (v.2 room h (leb-true (length e) room q))))
      go false q k =
          rw q (over_reads b o room (then_here e (lay B (B - length e) es)) (x ∷ xs) (v.1 o room h (leb-false (length e) room q))
          (place_reads (suc b) 0 e x (lay B (B - length e) es) xs v.0 (λ o'. k (suc b) o' (B - length e) (v.2 B rb v.3))))

-- ---- V

abbrev VP : ℕ → Bool → Params
VP R bl = record { format = variable; R = R; blocked = bl }

pub record_v_length : (body : List ℕ) → length (record_v body) ≡ 4 + length body
unfolding record_v padded
record_v_length body = omega arith

look_v_record : (R : ℕ) (bl : Bool) (o : ℕ) (body more : List ℕ) → (not bl && ltb 0 o) ≡ false → 4 + length body ≤ R → R < 10000
    → look_v R bl o (record_v body ++ more) ≡ piece whole body (length (record_v body))
unfolding record_v padded look_v
look_v_record R bl o body more u h small =
    let n : ℕ = 4 + length body in
    let l : length (body ++ more) ≡ length body + length more = length-append body more in
    rw (
      lt-leb (suc (suc (suc (suc (suc (length (body ++ more))))))) 4 (omega arith),
      ne_eqb (48 + n / 10 / 10 / 10 % 10) 0 (λ (z : 48 + n / 10 / 10 / 10 % 10 ≡ 0). omega arith),
      u,
      four_digits n (body ++ more) (omega arith),
      le-leb 4 n (omega arith),
      le-leb n R h,
      le-leb n (suc (suc (suc (suc (length (body ++ more)))))) (omega arith),
      take_at body more (n - 4) (omega arith),
    )
    (let z : 4 + length body ≡ suc (suc (suc (suc (length body)))) = omega arith in ap (λ (k : ℕ). piece whole body k) z)

look_v_fill : (R : ℕ) (bl : Bool) (o n : ℕ) → look_v R bl o (fill n) ≡ blank
unfolding look_v
look_v_fill R bl o zero = refl
look_v_fill R bl o (suc n) = rw (or-true, fill_is n)

-- "V length+4 over R"
abbrev pub FitV : ℕ → List (List ℕ) → Type 0
FitV R xs = Every (λ x. 4 + length x ≤ R) xs

laying_v : (R B : ℕ) → R < 10000 → R ≤ B → (xs : List (List ℕ)) → FitV R xs → Laying (VP R true) B (λ _. refl) (λ _. Unit {0}) (map record_v xs) xs
unfolding look
laying_v R B small rb [] v = tt
laying_v R B small rb (x ∷ xs) v =
    let l : length (record_v x) ≡ 4 + length x = record_v_length x in
    ((λ o more. look_v_record R true o x more refl v.0 small), (λ o room _ _. look_v_fill R true o room), (λ _ _ _. tt), omega arith, laying_v R B small rb xs v.1)

pub within_v : (R B : ℕ) → R ≤ B → (xs : List (List ℕ)) → FitV R xs → Every (λ e. length e ≤ B) (map record_v xs)
within_v R B h [] v = tt
within_v R B h (x ∷ xs) v = (omega (arith, v.0, record_v_length x), within_v R B h xs v.1)

pub write_read_v : (R B : ℕ) → R < 10000 → R ≤ B → (xs : List (List ℕ)) → FitV R xs
    → Reads (read_all plain (file_of (VP R true) (pack (VP R true) B xs).contents)) xs
unfolding pack
write_read_v R B small rb [] v = read_none (VP R true)
write_read_v R B small rb (x ∷ xs) v =
    subst (λ (k : Packing). Reads (read_all plain (file_of (VP R true) k.contents)) (x ∷ xs)) (sym (laid_v R B x xs (within_v R B rb (x ∷ xs) v)))
    (read_laid (VP R true) (lay B B (map record_v (x ∷ xs))) (x ∷ xs)
    (lay_reads (VP R true) B (λ _. refl) (λ _. Unit {0}) tt (map record_v (x ∷ xs)) (x ∷ xs) (laying_v R B small rb (x ∷ xs) v) 0 0 B tt))

-- V unblocked

one_pieces : (R b : ℕ) (x : List ℕ) (m : ℕ) → 4 + length x ≤ R → R < 10000
    → pieces (VP R false) b 0 (record_v x ++ fill m) ≡ part whole x b 0 (0 + length (record_v x)) ∷ []
unfolding look
one_pieces R b x m h small =
    pieces_eq (VP R false) b 0 (record_v x ++ fill m)
    ∙ rw (look_v_record R false 0 x (fill m) refl h small, drop-append_seam (record_v x) (fill m))
    (ap (λ (ts : List Token). part whole x b 0 (0 + length (record_v x)) ∷ ts)
    (pieces_eq (VP R false) b (0 + length (record_v x)) (fill m) ∙ rw (look_v_fill R false (0 + length (record_v x)) m)))

lay_one_reads : (R B : ℕ) → R < 10000 → (xs : List (List ℕ)) → FitV R xs → (b : ℕ) → Reads (join plain (VP R false) (in_blocks (VP R false) b (map held (lay_one B (map record_v xs)))) fresh) xs
unfolding lay_one in_blocks in_block join
lay_one_reads R B small [] v b = record { rs = []; same = refl; clean = refl }
lay_one_reads R B small (x ∷ xs) v b =
    rw (one_pieces R b x (B - length (record_v x)) v.0 small)
    (reads_cons (record { body = x; first_block = b; last_block = b }) (lay_one_reads R B small xs v.1 (suc b)))

pub write_read_v1 : (R B : ℕ) → R < 10000 → (xs : List (List ℕ)) → FitV R xs
    → Reads (read_all plain (file_of (VP R false) (pack (VP R false) B xs).contents)) xs
unfolding pack file_of listed
write_read_v1 R B small xs v = rw read_all_listed (lay_one_reads R B small xs v 0)

-- ---- F

abbrev FP : ℕ → Bool → Params
FP R bl = record { format = fixed; R = R; blocked = bl }

-- "F length not R"
abbrev pub FitF : ℕ → List (List ℕ) → Type 0
FitF R xs = Every (λ x. length x ≡ R) xs

look_f_record : (R : ℕ) (x more : List ℕ) → 1 ≤ R → length x ≡ R → look_f R (x ++ more) ≡ piece whole x (length x)
unfolding look_f
look_f_record R [] more h e = absurd (omega arith)
look_f_record R (y ∷ x) more h e =
    let l : length (x ++ more) ≡ length x + length more = length-append x more in
    rw (le-leb 1 R h, le-leb R (suc (length (x ++ more))) (omega arith), take_at (y ∷ x) more R e, e)

abbrev pub Multiple : ℕ → ℕ → Type 0
Multiple R room = (q : ℕ) × (room ≡ q * R)

pub multiple_less : (R room q : ℕ) → room ≡ q * R → R ≤ room → 1 ≤ R → Multiple R (room - R)
multiple_less R room zero e h r = absurd (omega arith)
multiple_less R room (suc q) e h r = (q, omega arith)

pub multiple_short : (R room q : ℕ) → room ≡ q * R → room < R → room ≡ 0
multiple_short R room zero e h = omega arith
multiple_short R room (suc q) e h = absurd (omega arith)

laying_f : (R : ℕ) (bl : Bool) (B : ℕ) → 1 ≤ R → R ≤ B → (xs : List (List ℕ)) → FitF R xs → Laying (FP R bl) B (λ _. refl) (Multiple R) xs xs
unfolding look look_f
laying_f R bl B r rb [] v = tt
laying_f R bl B r rb (x ∷ xs) v = (
  (λ o more. look_f_record R x more r v.0),
  (λ o room m h. ap (λ (k : ℕ). look_f R (fill k)) (multiple_short R room m.0 m.1 (omega arith))),
  (λ room m h. rw v.0 (multiple_less R room m.0 m.1 (omega arith) r)),
  omega arith,
  laying_f R bl B r rb xs v.1,
)

pub write_read_f : (R : ℕ) (bl : Bool) (B : ℕ) → 1 ≤ R → R ≤ B → B ≡ B / R * R → (xs : List (List ℕ)) → FitF R xs
    → Reads (read_all plain (file_of (FP R bl) (pack (FP R bl) B xs).contents)) xs
unfolding pack lay_f
write_read_f R bl B r rb e [] v = read_none (FP R bl)
write_read_f R bl B r rb e (x ∷ xs) v =
    subst (λ (k : Packing). Reads (read_all plain (file_of (FP R bl) k.contents)) (x ∷ xs)) (sym (laid_f R bl B r rb e x xs v))
    (read_laid (FP R bl) (lay B B (x ∷ xs)) (x ∷ xs)
    (lay_reads (FP R bl) B (λ _. refl) (Multiple R) (B / R, e) (x ∷ xs) (x ∷ xs) (laying_f R bl B r rb (x ∷ xs) v) 0 0 B (B / R, e)))
