-- HOW MANY BLOCKS A WRITE NEEDS, AND U: counted from the lengths alone, and how large the number of blocks can be.
-- Assumes nothing.
use Rattle.std.specs.Prelude.{ℕ, zero, suc, ◌+◌, ◌-◌, ◌<◌, ◌≤◌, ◌≡◌, refl, Bool, true, false, cond, not, ◌&&◌, List, [], ◌∷◌, ◌++◌, map, length, get_or, drop, leb, ltb, eqb, Ok}
use Rattle.std.proofs.Common.{sym, ◌∙◌, map-id, length-drop, drop-cons, arith, add-one, le_refl, not-suc-le-zero, div-add-mod', leb-true, leb-false, ltb-false, le-leb, eqb-true}
use Rattle.std.proofs.Math.Path.{ap, subst}
use Rattle.std.proofs.lemmas.Bool.{lt-leb, not-false}
use Rattle.standard.specs.Refusals.{refuse}
use Rattle.standard.specs.Labels.{format_of, block_length, record_length, is_blocked, Format, fixed, variable, spanned}
use Rattle.standard.specs.Packing.{Packing, unused_in, fill, lay_f, record_v, lay_one, Laid, then_here, then_next, spread_if, spread, least, start_if, lay_s, pack_in, pack}
use Rattle.standard.specs.Writing.{total, parted, wrong_in, wrong_length, lengths_from, packing, needed}
use Rattle.standard.specs.declared.Geometry.{Geometry}
use Rattle.promises.specs.Ground.Basics.{never, or_r}
use Rattle.promises.specs.Volumes.Judging.{stop_first, stop_rest}
use Rattle.promises.specs.Volumes.LabelRules.{Rules, Shape, shape, fixed_low, fixed_high, fixed_whole, variable_high, spanned_low, is_f, is_v, is_s}
use Rattle.promises.specs.Writing.Laying.{place_if, lay, laid_f, laid_v}
use Rattle.promises.specs.Writing.WritingLaws.{record_v_length, within_v}
use Rattle.promises.specs.Writing.PackedRecords.{six_fits}
use Rattle.promises.proofs.Writing.WritingPromises.{parted_lengths}
use Rattle.promises.specs.Ground.Lists.{Every}
use Rattle.promises.specs.Writing.NeededLaws.{Level, level_of, placed, placed_whole, spread_to, least_for, placed_spanned, needed_from, level_from, FitsIn, EachFits, Tiled}

pub needed_level : (f : Format) (bl : Bool) (B room blocks : ℕ) (lengths : List ℕ) → needed_from f bl B room blocks lengths ≡ (level_from f bl B room blocks lengths).blocks
unfolding needed_from level_from
needed_level f bl B room blocks [] = refl
needed_level f bl B room blocks (n ∷ lengths) =
    needed_level f bl B (placed f bl B room blocks n).room (placed f bl B room blocks n).blocks lengths

pub needed_append : (f : Format) (bl : Bool) (B room blocks : ℕ) (xs ys : List ℕ)
    → needed_from f bl B room blocks (xs ++ ys)
    ≡ needed_from f bl B (level_from f bl B room blocks xs).room (level_from f bl B room blocks xs).blocks ys
unfolding needed_from level_from
needed_append f bl B room blocks [] ys = refl
needed_append f bl B room blocks (n ∷ xs) ys =
    needed_append f bl B (placed f bl B room blocks n).room (placed f bl B room blocks n).blocks xs ys

-- the lengths from number i on, from those behind it
pub level_next : (f : Format) (bl : Bool) (B room blocks : ℕ) (lengths : List ℕ) (i : ℕ) → i < length lengths
    → level_from f bl B room blocks (drop i lengths)
    ≡ level_from f bl B (placed f bl B room blocks (get_or lengths i 0)).room (placed f bl B room blocks (get_or lengths i 0)).blocks (drop (i + 1) lengths)
unfolding level_from
level_next f bl B room blocks lengths i h =
    let l : Level = placed f bl B room blocks (get_or lengths i 0) in
    ap (level_from f bl B room blocks) (drop-cons lengths i 0 h) ∙ ap (λ (k : ℕ). level_from f bl B l.room l.blocks (drop k lengths)) (sym (add-one i))

-- THE LAW OF A RECORD OF S: it ends in the current block, or it goes on in the next with what is left of it
pub spread_ends : (B room blocks n : ℕ) → 5 + n ≤ room → spread_to (suc n) B room blocks n ≡ level_of (room - (5 + n)) blocks
unfolding spread_to
spread_ends B room blocks n h = rw (le-leb (5 + n) room h)

pub least_pos : (n : ℕ) → 1 ≤ n → least_for n ≡ 6
least_pos zero h = absurd (not-suc-le-zero h)
least_pos (suc n) h = refl

pub least_most : (n : ℕ) → (5 ≤ least_for n) × (least_for n ≤ 6)
least_most zero = (omega arith, omega arith)
least_most (suc n) = (omega arith, omega arith)

-- a segment that goes on takes a byte or more, and so does the next
pub six_left : (n room B : ℕ) → room < 5 + n → least_for n ≤ room → least_for n ≤ B → (6 ≤ room) × (6 ≤ B)
six_left zero room B o lo hi = absurd (omega arith)
six_left (suc n) room B o lo hi = (lo, hi)

spread_enough : (k m B room blocks n : ℕ) → n < k → n < m → least_for n ≤ room → least_for n ≤ B → spread_to k B room blocks n ≡ spread_to m B room blocks n
unfolding spread_to
spread_enough zero m B room blocks n hk hm h hb = absurd (not-suc-le-zero hk)
spread_enough (suc k) zero B room blocks n hk hm h hb = absurd (not-suc-le-zero hm)
spread_enough (suc k) (suc m) B room blocks n hk hm h hb =
    go (leb (5 + n) room) refl (λ h₁ h₂ h₃. spread_enough k m B B (suc blocks) (n - (room - 5)) h₁ h₂ h₃ h₃)
  where
    go : (t : Bool) → leb (5 + n) room ≡ t
        → (n - (room - 5) < k → n - (room - 5) < m → least_for (n - (room - 5)) ≤ B → spread_to k B B (suc blocks) (n - (room - 5)) ≡ spread_to m B B (suc blocks) (n - (room - 5)))
        → cond t (level_of (room - (5 + n)) blocks) (spread_to k B B (suc blocks) (n - (room - 5))) ≡ cond t (level_of (room - (5 + n)) blocks) (spread_to m B B (suc blocks) (n - (room - 5)))
    go true q ih = refl
    go false q ih =
        let over_room = leb-false (5 + n) room q in
        let on = six_left n room B over_room h hb in
        let most = least_most (n - (room - 5)) in
        ih (omega arith) (omega arith) (omega arith)

pub spread_goes_on : (B room blocks n : ℕ) → room < 5 + n → least_for n ≤ room → least_for n ≤ B
    → spread_to (suc n) B room blocks n ≡ spread_to (suc (n - (room - 5))) B B (suc blocks) (n - (room - 5))
unfolding spread_to
spread_goes_on B room blocks n l h hb =
    let on = six_left n room B l h hb in
    let most = least_most (n - (room - 5)) in
    rw (lt-leb (5 + n) room l) (spread_enough n (suc (n - (room - 5))) B B (suc blocks) (n - (room - 5)) (omega arith) (le_refl (suc (n - (room - 5)))) (omega arith) (omega arith))

-- ---- the bytes do not matter: what is laid, from so many blocks on, as a level
abbrev laid_level : ℕ → Laid → Level
laid_level blocks l = level_of l.unused (blocks + length l.later)

none_laid : (room blocks : ℕ) → level_of room (blocks + 0) ≡ level_of room blocks
none_laid room blocks = let z : blocks + 0 ≡ blocks = omega arith in rw z

next_laid : (blocks : ℕ) (bytes : List ℕ) (l : Laid) → laid_level blocks (then_next bytes l) ≡ laid_level (suc blocks) l
next_laid blocks bytes l =
    let e : blocks + suc (length l.later) ≡ suc blocks + length l.later = omega arith in
    rw e

pub least_for_lem : (x : List ℕ) → least x ≡ least_for (length x)
least_for_lem [] = refl
least_for_lem (y ∷ x) = refl

-- F, and V blocked
lay_level : (f : Format) (bl : Bool) (cw : ℕ) (B : ℕ) → ((room blocks n : ℕ) → placed f bl B room blocks n ≡ placed_whole B room blocks (cw + n))
    → (enc : List ℕ → List ℕ) → ((x : List ℕ) → length (enc x) ≡ cw + length x)
    → (xs : List (List ℕ)) (room blocks : ℕ) → laid_level blocks (lay B room (map enc xs)) ≡ level_from f bl B room blocks (map length xs)
unfolding lay level_from
lay_level f bl cw B p enc e [] room blocks = none_laid room blocks
lay_level f bl cw B p enc e (x ∷ xs) room blocks =
    go (leb (length (enc x)) room) (λ r k. lay_level f bl cw B p enc e xs r k)
    ∙ ap (λ (l : Level). level_from f bl B l.room l.blocks (map length xs)) (ap (placed_whole B room blocks) (e x) ∙ sym (p room blocks (length x)))
  where
    go : (t : Bool) → ((r k : ℕ) → laid_level k (lay B r (map enc xs)) ≡ level_from f bl B r k (map length xs))
        → laid_level blocks (place_if t B room (enc x) (λ r. lay B r (map enc xs)))
        ≡ level_from f bl B (cond t (level_of (room - length (enc x)) blocks) (level_of (B - length (enc x)) (suc blocks))).room
        (cond t (level_of (room - length (enc x)) blocks) (level_of (B - length (enc x)) (suc blocks))).blocks (map length xs)
    go true ih = ih (room - length (enc x)) blocks
    go false ih = next_laid blocks (fill room) (then_here (enc x) (lay B (B - length (enc x)) (map enc xs))) ∙ ih (B - length (enc x)) (suc blocks)

-- V unblocked
one_level : (B : ℕ) (xs : List (List ℕ)) (blocks : ℕ) → level_of 0 (blocks + length (lay_one B (map record_v xs))) ≡ level_from variable false B 0 blocks (map length xs)
unfolding lay_one level_from
one_level B [] blocks = none_laid 0 blocks
one_level B (x ∷ xs) blocks =
    let n = length (lay_one B (map record_v xs)) in
    let e : blocks + suc n ≡ suc blocks + n = omega arith in
    ap (level_of 0) e ∙ one_level B xs (suc blocks)

-- S
spread_level : (B : ℕ) (more : ℕ → Laid) (k : ℕ) (begun : Bool) (room blocks : ℕ) (body : List ℕ)
    → laid_level blocks (spread k B begun room body more)
    ≡ laid_level (spread_to k B room blocks (length body)).blocks (more (spread_to k B room blocks (length body)).room)
unfolding spread spread_to
spread_level B more zero begun room blocks body = refl
spread_level B more (suc k) begun room blocks body =
    go (leb (5 + length body) room) (rw length-drop at (spread_level B more k true B (suc blocks) (drop (room - 5) body)))
  where
    next : Level
    next = spread_to k B B (suc blocks) (length body - (room - 5))

    go : (t : Bool) → laid_level (suc blocks) (spread k B true B (drop (room - 5) body) more) ≡ laid_level next.blocks (more next.room)
        → laid_level blocks (spread_if t begun room body more (λ rest. spread k B true B rest more))
        ≡ laid_level (cond t (level_of (room - (5 + length body)) blocks) next).blocks (more (cond t (level_of (room - (5 + length body)) blocks) next).room)
    go true ih = refl
    go false ih = next_laid blocks [] (spread k B true B (drop (room - 5) body) more) ∙ ih

lay_s_level : (bl : Bool) (B : ℕ) (xs : List (List ℕ)) (room blocks : ℕ) → laid_level blocks (lay_s B room xs) ≡ level_from spanned bl B room blocks (map length xs)
unfolding lay_s level_from
lay_s_level bl B [] room blocks = none_laid room blocks
lay_s_level bl B (x ∷ xs) room blocks =
    rw (least_for_lem x) (go (leb (least_for (length x)) room) (λ r k. lay_s_level bl B xs r k))
  where
    go : (t : Bool) → ((r k : ℕ) → laid_level k (lay_s B r xs) ≡ level_from spanned bl B r k (map length xs))
        → laid_level blocks (start_if t B room (λ r. spread (suc (length x)) B false r x (λ r'. lay_s B r' xs)))
        ≡ level_from spanned bl B (cond t (spread_to (suc (length x)) B room blocks (length x)) (spread_to (suc (length x)) B B (suc blocks) (length x))).room
        (cond t (spread_to (suc (length x)) B room blocks (length x)) (spread_to (suc (length x)) B B (suc blocks) (length x))).blocks (map length xs)
    go true ih =
        let l : Level = spread_to (suc (length x)) B room blocks (length x) in
        spread_level B (λ r. lay_s B r xs) (suc (length x)) false room blocks x ∙ ih l.room l.blocks
    go false ih =
        let l : Level = spread_to (suc (length x)) B B (suc blocks) (length x) in
        next_laid blocks (fill room) (spread (suc (length x)) B false B x (λ r. lay_s B r xs))
        ∙ spread_level B (λ r. lay_s B r xs) (suc (length x)) false B (suc blocks) x
        ∙ ih l.room l.blocks

least_fits : (B : ℕ) → 5 ≤ B → (n : ℕ) → (eqb B 5 && not (eqb n 0)) ≡ false → least_for n ≤ B
least_fits B l zero e = l
least_fits B l (suc n) e = six_fits B n l e

one_fits : (g : Geometry) (h : List ℕ) → Rules g h → Shape h → (n : ℕ) → wrong_length h n ≡ false → FitsIn (format_of h) (block_length h) n
unfolding wrong_length
one_fits g h r (is_f f t) n e =
    let q : wrong_in fixed (block_length h) (record_length h) n ≡ false = rw f at e in
    let s : n ≡ record_length h = eqb-true n (record_length h) (not-false _ q) in
    rw f (omega (arith, fixed_low g h r t), omega (arith, fixed_high g h r t))
one_fits g h r (is_v f t) n e =
    let q : wrong_in variable (block_length h) (record_length h) n ≡ false = rw f at e in
    rw f (omega (arith, ltb-false (record_length h) (n + 4) q, variable_high g h r t))
one_fits g h r (is_s f t) n e =
    let q : wrong_in spanned (block_length h) (record_length h) n ≡ false = rw f at e in
    rw f (least_fits (block_length h) (spanned_low g h r t) n (or_r (ltb 0 (record_length h) && ltb (record_length h) n) _ q))

pub each_fits : (g : Geometry) (h : List ℕ) → Rules g h → (i : ℕ) (lengths : List ℕ) → lengths_from h i lengths ≡ Ok tt → EachFits (format_of h) (block_length h) lengths
unfolding lengths_from
each_fits g h r i [] p = tt
each_fits g h r i (n ∷ lengths) p = (
  one_fits g h r (shape h r.r40) n (stop_first (wrong_length h n) _ (lengths_from h (i + 1) lengths) p),
  each_fits g h r (i + 1) lengths (stop_rest (wrong_length h n) (refuse 26 i) (lengths_from h (i + 1) lengths) p),
)

lengths_r : (h : List ℕ) → format_of h ≡ fixed → (i : ℕ) (lengths : List ℕ) → lengths_from h i lengths ≡ Ok tt → Every (λ n. n ≡ record_length h) lengths
unfolding lengths_from wrong_length
lengths_r h f i [] p = tt
lengths_r h f i (n ∷ lengths) p =
    let q : wrong_in fixed (block_length h) (record_length h) n ≡ false = rw f at (stop_first (wrong_length h n) _ (lengths_from h (i + 1) lengths) p) in
    (eqb-true n (record_length h) (not-false _ q), lengths_r h f (i + 1) lengths (stop_rest (wrong_length h n) (refuse 26 i) (lengths_from h (i + 1) lengths) p))

pub tiled : (g : Geometry) (h lengths : List ℕ) → Rules g h → lengths_from h 0 lengths ≡ Ok tt → format_of h ≡ fixed
    → Tiled (record_length h) (block_length h) lengths
tiled g h lengths r p e = go (shape h r.r40)
  where
    go : Shape h → Tiled (record_length h) (block_length h) lengths
    go (is_f f t) =
        record {
          some = fixed_low g h r t;
          high = fixed_high g h r t;
          whole = omega (arith, div-add-mod' (block_length h) (record_length h), fixed_whole g h r t);
          each = lengths_r h f 0 lengths p;
        }
    go (is_v f t) = never (cc)
    go (is_s f t) = never (cc)

pub every_lengths : (C : ℕ → Type 0) (xs : List (List ℕ)) → Every C (map length xs) → Every (λ x. C (length x)) xs
every_lengths C [] h = tt
every_lengths C (x ∷ xs) h = (h.0, every_lengths C xs h.1)

-- ---- the first record begins block 0: from no block and no room, or from all of block 0
begin_whole : (B n : ℕ) → 1 ≤ n → n ≤ B → placed_whole B 0 0 n ≡ placed_whole B B 1 n
begin_whole B n lo hi = rw (lt-leb n 0 lo, le-leb n B hi)

begin_spanned : (B n : ℕ) → least_for n ≤ B → placed_spanned B 0 0 n ≡ placed_spanned B B 1 n
begin_spanned B zero h = rw (le-leb 5 B h)
begin_spanned B (suc n) h = rw (le-leb 6 B h)

begun_as : (f : Format) (bl : Bool) (B : ℕ) (a b : Level) (lengths : List ℕ) → a ≡ b → level_from f bl B b.room b.blocks lengths ≡ level_from f bl B a.room a.blocks lengths
begun_as f bl B a b lengths e = sym (ap (λ (l : Level). level_from f bl B l.room l.blocks lengths) e)

abbrev packed_level : Packing → Level
packed_level p = level_of p.U (length p.contents)

first_laid : (l : Laid) → level_of l.unused (suc (length l.later)) ≡ laid_level 1 l
first_laid l = let e : suc (length l.later) ≡ 1 + length l.later = omega arith in rw e

pack_level : (f : Format) (R : ℕ) (bl : Bool) (B : ℕ) (xs : List (List ℕ)) → EachFits f B (map length xs) → (f ≡ fixed → Tiled R B (map length xs))
    → packed_level (pack_in f R bl B xs) ≡ level_from f bl B 0 0 (map length xs)
unfolding level_from lay_f unused_in
pack_level fixed R bl B [] h t = refl
pack_level fixed R bl B (x ∷ xs) h t =
    let d = t refl in
    ap packed_level (laid_f R bl B d.some d.high d.whole x xs (every_lengths (λ n. n ≡ R) (x ∷ xs) d.each))
    ∙ first_laid (lay B B (x ∷ xs))
    ∙ ap (λ (l : List (List ℕ)). laid_level 1 (lay B B l)) (sym (map-id (x ∷ xs)))
    ∙ lay_level fixed bl 0 B (λ room blocks n. ap (placed_whole B room blocks) (omega arith)) (λ (y : List ℕ). y) (λ y. omega arith) (x ∷ xs) B 1
    ∙ begun_as fixed bl B _ _ (map length xs) (begin_whole B (length x) h.0.0 h.0.1)
pack_level variable R true B [] h t = refl
pack_level variable R true B (x ∷ xs) h t =
    ap packed_level (laid_v R B x xs (within_v B B (le_refl B) (x ∷ xs) (every_lengths (λ n. 4 + n ≤ B) (x ∷ xs) h)))
    ∙ first_laid (lay B B (map record_v (x ∷ xs)))
    ∙ lay_level variable true 4 B (λ room blocks n. refl) record_v record_v_length (x ∷ xs) B 1
    ∙ begun_as variable true B _ _ (map length xs) (begin_whole B (4 + length x) (omega arith) h.0)
pack_level variable R false B xs h t =
    let n = length (lay_one B (map record_v xs)) in
    let e : n ≡ 0 + n = omega arith in
    ap (level_of 0) e ∙ one_level B xs 0
pack_level spanned R bl B [] h t = refl
pack_level spanned R bl B (x ∷ xs) h t =
    first_laid (lay_s B B (x ∷ xs)) ∙ lay_s_level bl B (x ∷ xs) B 1 ∙ begun_as spanned bl B _ _ (map length xs) (begin_spanned B (length x) h.0)

-- ---- how large it can be

-- the count never falls
spread_grows : (k B room blocks n : ℕ) → blocks ≤ (spread_to k B room blocks n).blocks
unfolding spread_to
spread_grows zero B room blocks n = le_refl blocks
spread_grows (suc k) B room blocks n = go (leb (5 + n) room) (spread_grows k B B (suc blocks) (n - (room - 5)))
  where
    go : (t : Bool) → suc blocks ≤ (spread_to k B B (suc blocks) (n - (room - 5))).blocks
        → blocks ≤ (cond t (level_of (room - (5 + n)) blocks) (spread_to k B B (suc blocks) (n - (room - 5)))).blocks
    go true ih = le_refl blocks
    go false ih = omega arith

whole_grows : (t : Bool) (B room blocks n : ℕ) → blocks ≤ (cond t (level_of (room - n) blocks) (level_of (B - n) (suc blocks))).blocks
whole_grows true B room blocks n = le_refl blocks
whole_grows false B room blocks n = omega arith

placed_grows : (f : Format) (bl : Bool) (B room blocks n : ℕ) → blocks ≤ (placed f bl B room blocks n).blocks
placed_grows fixed bl B room blocks n = whole_grows (leb n room) B room blocks n
placed_grows variable true B room blocks n = whole_grows (leb (4 + n) room) B room blocks (4 + n)
placed_grows variable false B room blocks n = omega arith
placed_grows spanned bl B room blocks n = go (leb (least_for n) room)
  where
    go : (t : Bool) → blocks ≤ (cond t (spread_to (suc n) B room blocks n) (spread_to (suc n) B B (suc blocks) n)).blocks
    go true = spread_grows (suc n) B room blocks n
    go false = omega (arith, spread_grows (suc n) B B (suc blocks) n)

pub needed_grows : (f : Format) (bl : Bool) (B room blocks : ℕ) (lengths : List ℕ) → blocks ≤ needed_from f bl B room blocks lengths
unfolding needed_from
needed_grows f bl B room blocks [] = le_refl blocks
needed_grows f bl B room blocks (n ∷ lengths) =
    omega (arith, placed_grows f bl B room blocks n, needed_grows f bl B (placed f bl B room blocks n).room (placed f bl B room blocks n).blocks lengths)

-- a record of F or V begins a block at most
whole_bound : (t : Bool) (B room blocks n : ℕ) → (cond t (level_of (room - n) blocks) (level_of (B - n) (suc blocks))).blocks ≤ suc blocks
whole_bound true B room blocks n = omega arith
whole_bound false B room blocks n = le_refl (suc blocks)

abbrev Whole : Format → Type 0
Whole fixed = Unit {0}
Whole variable = Unit {0}
Whole spanned = ⊥

placed_whole_lem : (f : Format) → Whole f → (bl : Bool) (B room blocks n : ℕ) → (placed f bl B room blocks n).blocks ≤ suc blocks
placed_whole_lem fixed u bl B room blocks n = whole_bound (leb n room) B room blocks n
placed_whole_lem variable u true B room blocks n = whole_bound (leb (4 + n) room) B room blocks (4 + n)
placed_whole_lem variable u false B room blocks n = le_refl (suc blocks)
placed_whole_lem spanned u bl B room blocks n = absurd u

bound_whole : (f : Format) → Whole f → (bl : Bool) (B room blocks : ℕ) (lengths : List ℕ) → needed_from f bl B room blocks lengths ≤ blocks + length lengths
unfolding needed_from
bound_whole f u bl B room blocks [] = omega arith
bound_whole f u bl B room blocks (n ∷ lengths) =
    omega (arith, placed_whole_lem f u bl B room blocks n, bound_whole f u bl B (placed f bl B room blocks n).room (placed f bl B room blocks n).blocks lengths)

-- one of S goes on into a block more for a byte at most
spread_bound : (k B room blocks n : ℕ) → least_for n ≤ room → least_for n ≤ B → (spread_to k B room blocks n).blocks ≤ blocks + n
unfolding spread_to
spread_bound zero B room blocks n h hb = omega arith
spread_bound (suc k) B room blocks n h hb = go (leb (5 + n) room) refl (λ h₁. spread_bound k B B (suc blocks) (n - (room - 5)) h₁ h₁)
  where
    go : (t : Bool) → leb (5 + n) room ≡ t
        → (least_for (n - (room - 5)) ≤ B → (spread_to k B B (suc blocks) (n - (room - 5))).blocks ≤ suc blocks + (n - (room - 5)))
        → (cond t (level_of (room - (5 + n)) blocks) (spread_to k B B (suc blocks) (n - (room - 5)))).blocks ≤ blocks + n
    go true q ih = omega arith
    go false q ih =
        let m = leb-false (5 + n) room q in
        let on = six_left n room B m h hb in
        let most = least_most (n - (room - 5)) in
        omega (arith, ih (omega arith))

spanned_bound : (B room blocks n : ℕ) → least_for n ≤ B → (placed_spanned B room blocks n).blocks ≤ blocks + 1 + n
spanned_bound B room blocks n h = go (leb (least_for n) room) refl
  where
    go : (t : Bool) → leb (least_for n) room ≡ t → (cond t (spread_to (suc n) B room blocks n) (spread_to (suc n) B B (suc blocks) n)).blocks ≤ blocks + 1 + n
    go true q = omega (arith, spread_bound (suc n) B room blocks n (leb-true (least_for n) room q) h)
    go false q = omega (arith, spread_bound (suc n) B B (suc blocks) n h h)

bound_spanned : (bl : Bool) (B room blocks : ℕ) (lengths : List ℕ) → EachFits spanned B lengths
    → needed_from spanned bl B room blocks lengths ≤ blocks + (length lengths + total lengths)
unfolding needed_from total
bound_spanned bl B room blocks [] h = omega arith
bound_spanned bl B room blocks (n ∷ lengths) h =
    omega (arith, spanned_bound B room blocks n h.0, bound_spanned bl B (placed_spanned B room blocks n).room (placed_spanned B room blocks n).blocks lengths h.1)

bound_any : (f : Format) (bl : Bool) (B room blocks : ℕ) (lengths : List ℕ) → EachFits f B lengths
    → needed_from f bl B room blocks lengths ≤ blocks + (length lengths + total lengths)
bound_any fixed bl B room blocks lengths h = omega (arith, bound_whole fixed tt bl B room blocks lengths)
bound_any variable bl B room blocks lengths h = omega (arith, bound_whole variable tt bl B room blocks lengths)
bound_any spanned bl B room blocks lengths h = bound_spanned bl B room blocks lengths h

-- ---- THE THEOREMS, of a label right by the rules, and lengths that refusals 25 and 26 pass
module _ (g : Geometry) (h bodies lengths : List ℕ) (r : Rules g h) (sum : total lengths ≡ length bodies) (fits : lengths_from h 0 lengths ≡ Ok tt) where
  -- U AND THE BLOCKS NEEDED ARE COUNTED OVER THE LENGTHS, from no block and no room on; the bytes do not matter
  packing_level : level_of (packing h bodies lengths).U (needed h bodies lengths) ≡ level_from (format_of h) (is_blocked h) (block_length h) 0 0 lengths
  unfolding packing pack
  packing_level =
      let e = parted_lengths lengths bodies sum in
      pack_level (format_of h) (record_length h) (is_blocked h) (block_length h) (parted bodies lengths)
      (subst (EachFits (format_of h) (block_length h)) (sym e) (each_fits g h r 0 lengths fits))
      (λ f. subst (Tiled (record_length h) (block_length h)) (sym e) (tiled g h lengths r fits f))
      ∙ ap (level_from (format_of h) (is_blocked h) (block_length h) 0 0) e

  -- U IS THE ROOM THAT THE LIST LEAVES
  pub unused_counted : (packing h bodies lengths).U ≡ (level_from (format_of h) (is_blocked h) (block_length h) 0 0 lengths).room
  unused_counted = ap (λ (l : Level). l.room) packing_level

  -- THE BLOCKS NEEDED ARE THOSE BEGUN BEHIND IT
  pub needed_level_is : needed h bodies lengths ≡ (level_from (format_of h) (is_blocked h) (block_length h) 0 0 lengths).blocks
  needed_level_is = ap (λ (l : Level). l.blocks) packing_level

  pub needed_counted : needed h bodies lengths ≡ needed_from (format_of h) (is_blocked h) (block_length h) 0 0 lengths
  needed_counted = needed_level_is ∙ sym (needed_level (format_of h) (is_blocked h) (block_length h) 0 0 lengths)

  -- SO THEY ARE NO MORE THAN THERE ARE RECORDS AND BYTES, and no more than there are records in F and V
  pub needed_bound : needed h bodies lengths ≤ length lengths + length bodies
  needed_bound = omega (arith, needed_counted, bound_any (format_of h) (is_blocked h) (block_length h) 0 0 lengths (each_fits g h r 0 lengths fits))
