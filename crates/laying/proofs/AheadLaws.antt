-- The list of records as it will stand, record by record; and that it is what the definitions pack.
-- Assumes nothing.
use Prim.Native.Nat.{ℕ, zero, suc, ◌+◌, ◌-◌, ◌*◌, ◌/◌, ◌<◌, ◌≤◌}
use mathlib.Core.Path.{◌≡◌, refl, sym, ap, ◌∙◌}
use mathlib.Core.Bool.{Bool, true, false, cond}
use mathlib.Core.List.{List, [], ◌∷◌, ◌++◌, map, flatten, append_assoc}
use lib.ListN.{length, length-replicate, replicate-append-replicate, take, drop, length-append, length-drop}
use lib.Seq.{take-nil, drop-nil}
use lib.Dec.{leb}
use native.Mathlib.Omega.{arith}
use native.Mathlib.Nat.{not-suc-le-zero, sub-zero, le-div_iff_mul-le}
use borrow.Author.Tests.{le-leb, lt-leb, leb-false}
use Rattle.standard.specs.Labels.{fixed, variable, spanned}
use Rattle.standard.specs.Packing.{Packing, fill, lay_f, record_v, lay_one, segment_role, segment, Laid, then_here, then_next, spread_if, spread, least, start_if, lay_s, pack_in}
use Rattle.standard.specs.Writing.{filled_to}
use Rattle.promises.specs.Ground.Lists.{Every, every_drop}
use Rattle.promises.specs.Writing.Laying.{place_if, lay, laid_v}
use Rattle.promises.specs.Writing.NeededLaws.{Tiled}
use Rattle.promises.proofs.Writing.NeededLaws.{least_for_lem, every_lengths}
use Rattle.promises.proofs.Writing.WritingPromises.{joined}
use Rattle.promises.specs.Writing.WritingLaws.{segment_length, record_v_length, within_v, least_five, goes_on_lem}
use Rattle.filling.specs.Poured.{flat}
use Rattle.filling.proofs.RunLaws.{take_over, drop_over}
use Rattle.laying.specs.Ahead.{flat_laid, lay_from, fits_as, chunked, chunks}

-- ---- fill
filled_behind : (size : ℕ) (x y : List ℕ) → filled_to size (x ++ y) ≡ x ++ filled_to (size - length x) y
unfolding filled_to
filled_behind size x y =
    let e : size - length (x ++ y) ≡ size - length x - length y = rw (length-append x y) (omega arith) in
    append_assoc x y (fill (size - length (x ++ y))) ∙ ap (λ (n : ℕ). x ++ (y ++ fill n)) e

fill_filled : (size n : ℕ) → n ≤ size → filled_to size (fill n) ≡ fill size
unfolding filled_to
fill_filled size n h =
    let e : n + (size - length (fill n)) ≡ size = omega (arith, length-replicate {A = ℕ} n 0) in
    replicate-append-replicate n (size - length (fill n)) 0 ∙ ap fill e

pub filled_by : (size n : ℕ) (x : List ℕ) → length x ≡ n → filled_to size x ≡ x ++ fill (size - n)
unfolding filled_to
filled_by size n x e = ap (λ (k : ℕ). x ++ fill (size - k)) e

pub filled_none : (size : ℕ) → filled_to size [] ≡ fill size
unfolding filled_to
filled_none size = ap fill (sub-zero size)

-- ---- bytes, and then what follows, in the same block; in the next
flat_then : (size rest : ℕ) (e : List ℕ) (l : Laid) → flat_laid size rest (then_here e l) ≡ e ++ flat_laid size (rest - length e) l
flat_then size rest e l =
    ap (λ (s : List ℕ). s ++ flat size l.later) (filled_behind rest e l.here)
    ∙ append_assoc e (filled_to (rest - length e) l.here) (flat size l.later)

flat_next : (size rest : ℕ) (e : List ℕ) (l : Laid) → flat_laid size rest (then_next e l) ≡ filled_to rest e ++ flat_laid size size l
unfolding flat
flat_next size rest e l = refl

-- F and V: "into the current block if it fits, else the next"
pub place_step : (t : Bool) (size B room rest : ℕ) (e : List ℕ) (more : ℕ → Laid) → room ≤ rest
    → flat_laid size rest (place_if t B room e more)
    ≡ cond t [] (fill rest) ++ (e ++ flat_laid size (cond t rest size - length e) (more (cond t room B - length e)))
place_step true size B room rest e more h = flat_then size rest e (more (room - length e))
place_step false size B room rest e more h =
    flat_next size rest (fill room) (then_here e (more (B - length e)))
    ∙ (ap (λ (s : List ℕ). s ++ flat_laid size size (then_here e (more (B - length e)))) (fill_filled rest room h)
    ∙ ap (λ (s : List ℕ). fill rest ++ s) (flat_then size size e (more (B - length e))))

-- S: "a segment starts where 6 bytes are left (5 for an empty record)"
pub start_step : (t : Bool) (size B room rest : ℕ) (at : ℕ → Laid) → room ≤ rest
    → flat_laid size rest (start_if t B room at) ≡ cond t [] (fill rest) ++ flat_laid size (cond t rest size) (at (cond t room B))
start_step true size B room rest at h = refl
start_step false size B room rest at h =
    flat_next size rest (fill room) (at B) ∙ ap (λ (s : List ℕ). s ++ flat_laid size size (at B)) (fill_filled rest room h)

-- the last segment of a record; one "takes what fits, and goes on in the next block"
pub spread_here : (n size B room rest : ℕ) (begun : Bool) (body : List ℕ) (more : ℕ → Laid) → 5 + length body ≤ room
    → flat_laid size rest (spread (suc n) B begun room body more)
    ≡ segment (segment_role begun true) body ++ flat_laid size (rest - (5 + length body)) (more (room - (5 + length body)))
unfolding spread
spread_here n size B room rest begun body more h =
    rw (le-leb (5 + length body) room h)
    (flat_then size rest (segment (segment_role begun true) body) (more (room - (5 + length body)))
    ∙ ap (λ (k : ℕ). segment (segment_role begun true) body ++ flat_laid size (rest - k) (more (room - (5 + length body)))) (segment_length (segment_role begun true) body))

-- the bound on the number of blocks does not matter
spread_enough : (k m B : ℕ) (begun : Bool) (room : ℕ) (body : List ℕ) (more : ℕ → Laid) → length body < k → length body < m → least body ≤ room → least body ≤ B
    → spread k B begun room body more ≡ spread m B begun room body more
unfolding spread
spread_enough zero m B begun room body more hk hm h hb = absurd (not-suc-le-zero hk)
spread_enough (suc k) zero B begun room body more hk hm h hb = absurd (not-suc-le-zero hm)
spread_enough (suc k) (suc m) B begun room body more hk hm h hb =
    go (leb (5 + length body) room) refl (λ a b c d. spread_enough k m B true B (drop (room - 5) body) more a b c d)
  where
    go : (t : Bool) → leb (5 + length body) room ≡ t
        → (length (drop (room - 5) body) < k → length (drop (room - 5) body) < m → least (drop (room - 5) body) ≤ B → least (drop (room - 5) body) ≤ B
        → spread k B true B (drop (room - 5) body) more ≡ spread m B true B (drop (room - 5) body) more)
        → spread_if t begun room body more (λ rest. spread k B true B rest more) ≡ spread_if t begun room body more (λ rest. spread m B true B rest more)
    go true q ih = refl
    go false q ih =
        let on = goes_on_lem room body (leb-false (5 + length body) room q) h in
        ap (λ (l : Laid). then_next (segment (segment_role begun false) (take (room - 5) body)) l) (ih (omega arith) (omega arith) (omega arith) (omega arith))

pub spread_on : (size B room rest : ℕ) (begun : Bool) (body : List ℕ) (more : ℕ → Laid) → room < 5 + length body → least body ≤ room → least body ≤ B → room ≤ rest
    → flat_laid size rest (spread (suc (length body)) B begun room body more)
    ≡ segment (segment_role begun false) (take (room - 5) body)
    ++ (fill (rest - room) ++ flat_laid size size (spread (suc (length (drop (room - 5) body))) B true B (drop (room - 5) body) more))
unfolding spread
spread_on size B room rest begun body more over_room h hb r =
    let on = goes_on_lem room body over_room h in
    let x = drop (room - 5) body in
    let front = take (room - 5) body in
    let e : List ℕ = segment (segment_role begun false) front in
    let le : length e ≡ room = omega (arith, segment_length (segment_role begun false) front, on.front) in
    let enough : spread (length body) B true B x more ≡ spread (suc (length x)) B true B x more =
    spread_enough (length body) (suc (length x)) B true B x more (omega arith) (omega arith) (omega arith) (omega arith) in
    let l : Laid = spread (length body) B true B x more in
    rw (lt-leb (5 + length body) room over_room)
    (flat_next size rest e l
    ∙ (ap (λ (s : List ℕ). s ++ flat_laid size size l) (filled_by rest room e le)
    ∙ (append_assoc e (fill (rest - room)) (flat_laid size size l)
    ∙ ap (λ (k : Laid). e ++ (fill (rest - room) ++ flat_laid size size k)) enough)))

-- ---- WHAT THE DEFINITIONS PACK
place_same : (t : Bool) (B room : ℕ) (e : List ℕ) (f g : ℕ → Laid) → ((r : ℕ) → f r ≡ g r) → place_if t B room e f ≡ place_if t B room e g
place_same true B room e f g h = ap (then_here e) (h (room - length e))
place_same false B room e f g h = ap (λ (l : Laid). then_next (fill room) (then_here e l)) (h (B - length e))

spread_same : (n B : ℕ) (begun : Bool) (room : ℕ) (body : List ℕ) (f g : ℕ → Laid) → ((r : ℕ) → f r ≡ g r) → spread n B begun room body f ≡ spread n B begun room body g
unfolding spread
spread_same zero B begun room body f g h = h room
spread_same (suc n) B begun room body f g h = go (leb (5 + length body) room) (spread_same n B true B (drop (room - 5) body) f g h)
  where
    go : (t : Bool) → spread n B true B (drop (room - 5) body) f ≡ spread n B true B (drop (room - 5) body) g
        → spread_if t begun room body f (λ rest. spread n B true B rest f) ≡ spread_if t begun room body g (λ rest. spread n B true B rest g)
    go true e = ap (then_here (segment (segment_role begun true) body)) (h (room - (5 + length body)))
    go false e = ap (λ (l : Laid). then_next (segment (segment_role begun false) (take (room - 5) body)) l) e

start_same : (t : Bool) (B room : ℕ) (f g : ℕ → Laid) → ((r : ℕ) → f r ≡ g r) → start_if t B room f ≡ start_if t B room g
start_same true B room f g h = h room
start_same false B room f g h = ap (then_next (fill room)) (h B)

lay_variable : (B room : ℕ) (xs : List (List ℕ)) → lay_from false true B room xs ≡ lay B room (map record_v xs)
unfolding lay_from lay
lay_variable B room [] = refl
lay_variable B room (x ∷ xs) = place_same (leb (length (record_v x)) room) B room (record_v x) _ _ (λ r. lay_variable B r xs)

lay_spanned : (j : Bool) (B room : ℕ) (xs : List (List ℕ)) → lay_from true j B room xs ≡ lay_s B room xs
unfolding lay_from lay_s
lay_spanned j B room [] = refl
lay_spanned j B room (x ∷ xs) =
    start_same (leb (least x) room) B room _ _ (λ r. spread_same (suc (length x)) B false r x _ _ (λ r'. lay_spanned j B r' xs))

-- the first record begins block 0: from no block and no room, or from all of block 0
first_whole : (size B : ℕ) (e : List ℕ) (more : ℕ → Laid) → 1 ≤ length e → length e ≤ B
    → flat_laid size 0 (place_if (leb (length e) 0) B 0 e more) ≡ flat_laid size size (place_if (leb (length e) B) B B e more)
unfolding filled_to
first_whole size B e more lo hi = rw (lt-leb (length e) 0 lo, le-leb (length e) B hi) (flat_next size 0 (fill 0) (then_here e (more (B - length e))))

first_spanned : (size B : ℕ) (x : List ℕ) (at : ℕ → Laid) → least x ≤ B
    → flat_laid size 0 (start_if (leb (least x) 0) B 0 at) ≡ flat_laid size size (start_if (leb (least x) B) B B at)
unfolding filled_to
first_spanned size B x at hi =
    let five = least_five x in
    rw (lt-leb (least x) 0 (omega arith), le-leb (least x) B hi) (flat_next size 0 (fill 0) (at B))

-- V unblocked: "one to a block"
alone_here : (B : ℕ) (xs : List (List ℕ)) → (lay_from false false B 0 xs).here ≡ []
unfolding lay_from
alone_here B [] = refl
alone_here B (x ∷ xs) =
    let l = record_v_length x in
    rw (lt-leb (length (record_v x)) 0 (omega arith))

alone_flat : (size B : ℕ) → B ≤ size → (xs : List (List ℕ)) → Every (λ x. 4 + length x ≤ B) xs
    → flat size (lay_one B (map record_v xs)) ≡ flat_laid size 0 (lay_from false false B 0 xs)
unfolding flat lay_one lay_from filled_to
alone_flat size B b [] h = sym (ap (λ (s : List ℕ). s ++ []) (filled_none 0))
alone_flat size B b (x ∷ xs) h =
    let l = record_v_length x in
    let e = record_v x in
    let k : Laid = lay_from false false B 0 xs in
    let once : filled_to size (e ++ fill (B - length e)) ≡ e ++ filled_to (size - length e) [] =
    filled_behind size e (fill (B - length e)) ∙ ap (λ (s : List ℕ). e ++ s) (fill_filled (size - length e) (B - length e) (omega (arith, h.0)) ∙ sym (filled_none (size - length e))) in
    let none = alone_here B xs in
    let behind : flat size (lay_one B (map record_v xs)) ≡ flat size k.later =
    alone_flat size B b xs h.1 ∙ ap (λ (s : List ℕ). filled_to 0 s ++ flat size k.later) none in
    rw (lt-leb (length e) 0 (omega arith), once, behind)
    (append_assoc e (filled_to (size - length e) []) (flat size k.later)
    ∙ (ap (λ (s : List ℕ). e ++ (filled_to (size - length e) s ++ flat size k.later)) (sym none)
    ∙ sym (place_step false size B 0 0 e (λ r. k) (omega arith))))

begun : (size : ℕ) (l : Laid) → flat size (l.here ∷ l.later) ≡ flat_laid size size l
unfolding flat
begun size l = refl

no_records : (size : ℕ) (f : Bool) (j : Bool) (B : ℕ) → flat size [] ≡ flat_laid size 0 (lay_from f j B 0 [])
unfolding flat lay_from
no_records size f j B = sym (ap (λ (s : List ℕ). s ++ []) (filled_none 0))

-- V AND S: the packed blocks are what is laid from no block and no room on
pub packed_v : (R : ℕ) (blocked : Bool) (size B : ℕ) (xs : List (List ℕ)) → B ≤ size → Every (fits_as false B) (map length xs)
    → flat size (pack_in variable R blocked B xs).contents ≡ flat_laid size 0 (lay_from false blocked B 0 xs)
unfolding lay
packed_v R true size B [] b h = no_records size false true B
packed_v R true size B (x ∷ xs) b h =
    let l = record_v_length x in
    ap (λ (k : Packing). flat size k.contents) (laid_v R B x xs (within_v B B (omega arith) (x ∷ xs) (every_lengths (λ n. 4 + n ≤ B) (x ∷ xs) h)))
    ∙ (begun size (lay B B (map record_v (x ∷ xs)))
    ∙ (sym (first_whole size B (record_v x) (λ r. lay B r (map record_v xs)) (omega arith) (omega (arith, h.0)))
    ∙ ap (flat_laid size 0) (sym (lay_variable B 0 (x ∷ xs)))))
packed_v R false size B xs b h = alone_flat size B b xs (every_lengths (λ n. 4 + n ≤ B) xs h)

pub packed_s : (R : ℕ) (blocked j : Bool) (size B : ℕ) (xs : List (List ℕ)) → Every (fits_as true B) (map length xs)
    → flat size (pack_in spanned R blocked B xs).contents ≡ flat_laid size 0 (lay_from true j B 0 xs)
unfolding lay_s
packed_s R blocked j size B [] h = no_records size true j B
packed_s R blocked j size B (x ∷ xs) h =
    begun size (lay_s B B (x ∷ xs))
    ∙ (sym (first_spanned size B x (λ r. spread (suc (length x)) B false r x (λ r'. lay_s B r' xs)) (omega (arith, least_for_lem x, h.0)))
    ∙ ap (flat_laid size 0) (sym (lay_spanned j B 0 (x ∷ xs))))

-- F: the packed blocks are so many bytes of the bodies each
chunk_enough : (k n B : ℕ) (s : List ℕ) → 1 ≤ B → length s ≤ k → length s ≤ n → chunked k B s ≡ chunked n B s
unfolding chunked
chunk_enough zero zero B s b hk hn = refl
chunk_enough zero (suc n) B [] b hk hn = refl
chunk_enough zero (suc n) B (x ∷ s) b hk hn = absurd (not-suc-le-zero hk)
chunk_enough (suc k) zero B [] b hk hn = refl
chunk_enough (suc k) zero B (x ∷ s) b hk hn = absurd (not-suc-le-zero hn)
chunk_enough (suc k) (suc n) B [] b hk hn = refl
chunk_enough (suc k) (suc n) B (x ∷ s) b hk hn =
    let d = length-drop B (x ∷ s) in
    ap (λ (r : List (List ℕ)). take B (x ∷ s) ∷ r) (chunk_enough k n B (drop B (x ∷ s)) b (omega arith) (omega arith))

pub chunks_next : (B : ℕ) (s : List ℕ) → 1 ≤ B → 1 ≤ length s → chunks B s ≡ take B s ∷ chunks B (drop B s)
unfolding chunked
chunks_next B [] b h = absurd (not-suc-le-zero h)
chunks_next B (x ∷ s) b h =
    let d = length-drop B (x ∷ s) in
    ap (λ (r : List (List ℕ)). take B (x ∷ s) ∷ r) (chunk_enough (length s) (length (drop B (x ∷ s))) B (drop B (x ∷ s)) b (omega arith) (omega arith))

pub chunks_none : (B : ℕ) → chunks B [] ≡ []
unfolding chunked
chunks_none B = refl

-- n records of R bytes are n * R of the bytes
records_front : (R : ℕ) (xs : List (List ℕ)) → Every (λ x. length x ≡ R) xs → (n : ℕ)
    → (joined (take n xs) ≡ take (n * R) (joined xs)) × (joined (drop n xs) ≡ drop (n * R) (joined xs))
unfolding flatten
records_front R xs h zero =
    let none : 0 * R ≡ 0 = omega arith in
    rw none (refl, refl)
records_front R [] h (suc n) = (sym (take-nil (suc n * R)), sym (drop-nil (suc n * R)))
records_front R (x ∷ xs) h (suc n) =
    let lx = h.0 in
    let k = records_front R xs h.1 n in
    let less : suc n * R - length x ≡ n * R = omega arith in
    let fits : length x ≤ suc n * R = omega arith in (
      ap (λ (s : List ℕ). x ++ s) (k.0 ∙ ap (λ (m : ℕ). take m (joined xs)) (sym less)) ∙ sym (take_over (suc n * R) x (joined xs) fits),
      k.1 ∙ ap (λ (m : ℕ). drop m (joined xs)) (sym less) ∙ sym (drop_over (suc n * R) x (joined xs) fits),
    )

groups_chunks : (R n B : ℕ) → 1 ≤ R → 1 ≤ n → 1 ≤ B → B ≡ n * R → (k : ℕ) (xs : List (List ℕ)) → Every (λ x. length x ≡ R) xs → length xs ≤ k
    → lay_f k n xs ≡ chunks B (joined xs)
unfolding lay_f flatten
groups_chunks R n B r m b e zero [] h l = sym (chunks_none B)
groups_chunks R n B r m b e zero (x ∷ xs) h l = absurd (not-suc-le-zero l)
groups_chunks R n B r m b e (suc k) [] h l = sym (chunks_none B)
groups_chunks R n B r m b e (suc k) (x ∷ xs) h l =
    let lx = h.0 in
    let s = joined (x ∷ xs) in
    let front = records_front R (x ∷ xs) h n in
    let here : joined (take n (x ∷ xs)) ≡ take B s = front.0 ∙ ap (λ (j : ℕ). take j s) (sym e) in
    let behind : joined (drop n (x ∷ xs)) ≡ drop B s = front.1 ∙ ap (λ (j : ℕ). drop j s) (sym e) in
    let later = groups_chunks R n B r m b e k (drop n (x ∷ xs)) (every_drop (λ y. length y ≡ R) n (x ∷ xs) h) (omega (arith, length-drop n (x ∷ xs))) in
    ap (λ (c : List ℕ). c ∷ lay_f k n (drop n (x ∷ xs))) here
    ∙ (ap (λ (cs : List (List ℕ)). take B s ∷ cs) (later ∙ ap (chunks B) behind) ∙ sym (chunks_next B s b (omega (arith, length-append x (joined xs)))))

pub packed_f : (R : ℕ) (blocked : Bool) (B : ℕ) (xs : List (List ℕ)) → Tiled R B (map length xs) → (pack_in fixed R blocked B xs).contents ≡ chunks B (joined xs)
packed_f R blocked B xs t =
    groups_chunks R (B / R) B t.some ((le-div_iff_mul-le t.some).1 (omega (arith, t.high))) (omega (arith, t.some, t.high)) t.whole (length xs) xs
    (every_lengths (λ n. n ≡ R) xs t.each) (omega arith)
