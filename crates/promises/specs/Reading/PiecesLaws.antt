-- Laws of `look`, `pieces` and `ahead`.
-- Assumes nothing.
use Rattle.std.specs.Prelude.{ℕ, zero, suc, ◌+◌, ◌≤◌, ◌<◌, ◌≡◌, refl, Bool, true, false, cond, ◌&&◌, List, [], ◌∷◌, ◌++◌, length, get_or, drop, leb}
use Rattle.std.proofs.Common.{sym, ap, ◌∙◌, length-drop, drop_of_length-le, drop-drop, arith, add-one, not-suc-le-zero, le_refl, leb-true}
use Rattle.std.proofs.Math.Option.{Option, none, some}
use Rattle.standard.specs.Pieces.{Block, lost_block, held, Role, whole, first, middle, last, Piece, blank, broken, piece, look_v, look_s, look_f, is_fill, must_fill, four, role_of, sized_v, sized_s, only_fill_v, only_fill_s, look_in, look, Token, part, bad, lost, after_part, tokens_at, walk, pieces, in_block, in_blocks, from_tail, ahead}
use Rattle.standard.specs.Labels.{Format, fixed, variable, spanned, Params}
use Rattle.promises.specs.Ground.Basics.{cond_elim, and_l, and_r}

-- a piece takes a byte or more, and no more than there are
abbrev pub Sound : ℕ → Piece → Type 0
Sound n blank = Unit {0}
Sound n broken = Unit {0}
Sound n (piece k body s) = (1 ≤ s) × (s ≤ n)

must_fill_sound : (rest : List ℕ) → Sound (length rest) (must_fill rest)
must_fill_sound rest = cond_elim (Sound (length rest)) (is_fill rest) (λ _. tt) (λ _. tt)

sized_v_sound : (R : ℕ) (rest : List ℕ) (n : Option ℕ) → Sound (length rest) (sized_v R rest n)
sized_v_sound R rest none = tt
sized_v_sound R rest (some n) =
    cond_elim (Sound (length rest)) (leb 4 n && leb n R && leb n (length rest))
    (λ t. let h : 4 ≤ n = leb-true 4 n (search (and_l, and_r)) in (omega arith, leb-true n (length rest) (search (and_l, and_r))))
    (λ _. tt)

sized_s_sound : (rest : List ℕ) (k : Option Role) (n : Option ℕ) → Sound (length rest) (sized_s rest k n)
sized_s_sound rest none n = tt
sized_s_sound rest (some k) none = tt
sized_s_sound rest (some k) (some n) =
    cond_elim (Sound (length rest)) (leb 5 n && leb n (length rest))
    (λ t. let h : 5 ≤ n = leb-true 5 n (search (and_l, and_r)) in (omega arith, leb-true n (length rest) (search (and_l, and_r))))
    (λ _. tt)

look_f_sound : (R : ℕ) (rest : List ℕ) → Sound (length rest) (look_f R rest)
unfolding look_f
look_f_sound R [] = tt
look_f_sound R (x ∷ xs) =
    cond_elim (Sound (suc (length xs))) (leb 1 R && leb R (suc (length xs)))
    (λ t. (leb-true 1 R (search (and_l, and_r)), leb-true R (suc (length xs)) (search (and_l, and_r))))
    (λ _. tt)

look_in_sound : (f : Format) (R : ℕ) (bl : Bool) (o : ℕ) (rest : List ℕ) → Sound (length rest) (look_in f R bl o rest)
unfolding look_v look_s
look_in_sound fixed R bl o rest = look_f_sound R rest
look_in_sound variable R bl o rest = cond_elim (Sound (length rest)) (only_fill_v bl o rest) (λ _. must_fill_sound rest) (λ _. sized_v_sound R rest (four rest))
look_in_sound spanned R bl o rest =
    cond_elim (Sound (length rest)) (only_fill_s rest) (λ _. must_fill_sound rest) (λ _. sized_s_sound rest (role_of (get_or rest 0 0)) (four (drop 1 rest)))

pub look_sound : (p : Params) (o : ℕ) (rest : List ℕ) → Sound (length rest) (look p o rest)
unfolding look
look_sound p o rest = look_in_sound p.format p.R p.blocked o rest

look_in_nil : (f : Format) (R : ℕ) (bl : Bool) (o : ℕ) → look_in f R bl o [] ≡ blank
unfolding look_f look_v look_s
look_in_nil fixed R bl o = refl
look_in_nil variable R bl o = refl
look_in_nil spanned R bl o = refl

pub look_nil : (p : Params) (o : ℕ) → look p o [] ≡ blank
unfolding look
look_nil p o = look_in_nil p.format p.R p.blocked o

-- the bound on the number of pieces does not matter, where it is large enough
tokens_at_cong : (b o : ℕ) (rest : List ℕ) (f g : ℕ → List ℕ → List Token) (q : Piece) → Sound (length rest) q
    → ((o' : ℕ) (r : List ℕ) → length r < length rest → f o' r ≡ g o' r) → tokens_at b o rest f q ≡ tokens_at b o rest g q
tokens_at_cong b o rest f g blank s h = refl
tokens_at_cong b o rest f g broken s h = refl
tokens_at_cong b o rest f g (piece k body n) s h =
    ap (λ (more : List Token). part k body b o (o + n) ∷ after_part k b (o + n) (drop n rest) more) (h (o + n) (drop n rest) (omega (arith, length-drop n rest)))

walk_nil : (n : ℕ) (p : Params) (b o : ℕ) → walk n p b o [] ≡ []
unfolding walk
walk_nil zero p b o = refl
walk_nil (suc n) p b o = rw look_nil

walk_short : (n : ℕ) (p : Params) (b o : ℕ) (rest : List ℕ) → length rest ≤ 0 → walk n p b o rest ≡ []
walk_short n p b o [] h = walk_nil n p b o
walk_short n p b o (x ∷ xs) h = absurd (not-suc-le-zero h)

walk_enough : (n m : ℕ) (p : Params) (b o : ℕ) (rest : List ℕ) → length rest ≤ n → length rest ≤ m → walk n p b o rest ≡ walk m p b o rest
unfolding walk
walk_enough zero m p b o rest h k = sym (walk_short m p b o rest h)
walk_enough (suc n) zero p b o rest h k = walk_short (suc n) p b o rest k
walk_enough (suc n) (suc m) p b o rest h k =
    tokens_at_cong b o rest _ _ (look p o rest) (look_sound p o rest) (λ o' r l. walk_enough n m p b o' r (omega arith) (omega arith))

-- THE LAW OF `pieces`: it may be read as if it were defined by this
pub pieces_eq : (p : Params) (b o : ℕ) (rest : List ℕ) → pieces p b o rest ≡ tokens_at b o rest (λ o' r. pieces p b o' r) (look p o rest)
unfolding pieces walk
pieces_eq p b o [] = rw look_nil
pieces_eq p b o (x ∷ xs) =
    tokens_at_cong b o (x ∷ xs) _ _ (look p o (x ∷ xs)) (look_sound p o (x ∷ xs))
    (λ o' r l. walk_enough (length xs) (length r) p b o' r (omega arith) (le_refl (length r)))

after_part_length : (k : Role) (b o n : ℕ) (rest : List ℕ) (more : List Token) → length more ≤ suc n → length (after_part k b o rest more) ≤ suc n
after_part_length whole b o n rest more h = h
after_part_length first b o n rest more h = cond_elim (λ (l : List Token). length l ≤ suc n) (is_fill rest) (λ _. omega arith) (λ _. omega arith)
after_part_length middle b o n rest more h = cond_elim (λ (l : List Token). length l ≤ suc n) (is_fill rest) (λ _. omega arith) (λ _. omega arith)
after_part_length last b o n rest more h = h

tokens_at_length : (b o n : ℕ) (rest : List ℕ) (f : ℕ → List ℕ → List Token) (q : Piece)
    → ((o' : ℕ) (r : List ℕ) → length (f o' r) ≤ suc n) → length (tokens_at b o rest f q) ≤ suc (suc n)
tokens_at_length b o n rest f blank h = omega arith
tokens_at_length b o n rest f broken h = omega arith
tokens_at_length b o n rest f (piece k body s) h = omega (arith, after_part_length k b (o + s) n (drop s rest) (f (o + s) (drop s rest)) (h (o + s) (drop s rest)))

pub walk_length : (n : ℕ) (p : Params) (b o : ℕ) (rest : List ℕ) → length (walk n p b o rest) ≤ suc n
unfolding walk
walk_length zero p b o rest = omega arith
walk_length (suc n) p b o rest = tokens_at_length b o n rest _ (look p o rest) (λ o' r. walk_length n p b o' r)

pub drop_tail : {A : Type 0} (b : ℕ) (bs : List A) {x : A} {xs : List A} → drop b bs ≡ x ∷ xs → drop (suc b) bs ≡ xs
drop_tail b bs {x} {xs} e = ap (λ (k : ℕ). drop k bs) (sym (add-one b)) ∙ sym (drop-drop 1 b bs) ∙ ap (drop 1) e

pub from_tail_start : (p : Params) (b : ℕ) (bs : List Block) → from_tail p b 0 bs ≡ in_blocks p b bs
unfolding in_blocks
from_tail_start p b [] = refl
from_tail_start p b (x ∷ xs) = refl

-- what stands ahead in a block that is held, and at the start of the block behind one
pub held_ahead : (p : Params) (bs : List Block) (b : ℕ) (c : List ℕ) (xs : List Block) → drop b bs ≡ held c ∷ xs
    → (o : ℕ) → ahead p bs b o ≡ pieces p b o (drop o c) ++ in_blocks p (suc b) xs
unfolding ahead in_block
held_ahead p bs b c xs e o = rw e

pub next_ahead : (p : Params) (bs : List Block) (b : ℕ) (x : Block) (xs : List Block) → drop b bs ≡ x ∷ xs → ahead p bs (suc b) 0 ≡ in_blocks p (suc b) xs
unfolding ahead
next_ahead p bs b x xs e = ap (from_tail p (suc b) 0) (drop_tail b bs e) ∙ from_tail_start p (suc b) xs

-- What stands behind a token is what stands ahead of the place that it leads to.
abbrev pub Ends : Role → Type 0
Ends whole = Unit {0}
Ends first = ⊥
Ends middle = ⊥
Ends last = Unit {0}

abbrev pub Chained : Params → List Block → List Token → Type 0
Chained p bs [] = Unit {0}
Chained p bs (part k body b o n ∷ ts) = (Ends k → ahead p bs b n ≡ ts) × Chained p bs ts
Chained p bs (bad b o ∷ ts) = Chained p bs ts
Chained p bs (lost b ∷ ts) = (ahead p bs (suc b) 0 ≡ ts) × Chained p bs ts

module _ (p : Params) (bs : List Block) (b : ℕ) (c : List ℕ) (xs : List Block) (e : drop b bs ≡ held c ∷ xs)
    (later : Chained p bs (in_blocks p (suc b) xs)) where
  rest_chained : (t : Bool) (o : ℕ) → Chained p bs (cond t [] (bad b o ∷ []) ++ in_blocks p (suc b) xs)
  rest_chained true o = later
  rest_chained false o = later

  tokens_chained : (o : ℕ) (q : Piece) → Sound (length (drop o c)) q
      → ((s : ℕ) → 1 ≤ s → s ≤ length (drop o c) → Chained p bs (pieces p b (o + s) (drop (o + s) c) ++ in_blocks p (suc b) xs))
      → Chained p bs (tokens_at b o (drop o c) (λ o' r. pieces p b o' r) q ++ in_blocks p (suc b) xs)
  tokens_chained o blank l ih = later
  tokens_chained o broken l ih = later
  tokens_chained o (piece whole body s) l ih = rw drop-drop ((λ _. held_ahead p bs b c xs e (o + s)), ih s l.0 l.1)
  tokens_chained o (piece first body s) l ih = ((λ v. absurd v), rest_chained (is_fill (drop s (drop o c))) (o + s))
  tokens_chained o (piece middle body s) l ih = ((λ v. absurd v), rest_chained (is_fill (drop s (drop o c))) (o + s))
  tokens_chained o (piece last body s) l ih = rw drop-drop ((λ _. held_ahead p bs b c xs e (o + s)), ih s l.0 l.1)

  pub pieces_chained : (n o : ℕ) → length c < n + o → Chained p bs (pieces p b o (drop o c) ++ in_blocks p (suc b) xs)
  pieces_chained zero o h = rw (pieces_eq, drop_of_length-le c {i = o} (omega arith), look_nil) later
  pieces_chained (suc n) o h =
      rw pieces_eq (tokens_chained o (look p o (drop o c)) (look_sound p o (drop o c)) (λ s l u. pieces_chained n (o + s) (omega arith)))

pub blocks_chained : (p : Params) (bs : List Block) (b : ℕ) (xs : List Block) → drop b bs ≡ xs → Chained p bs (in_blocks p b xs)
unfolding in_blocks in_block
blocks_chained p bs b [] e = tt
blocks_chained p bs b (lost_block sz ∷ xs) e =
    (next_ahead p bs b (lost_block sz) xs e, blocks_chained p bs (suc b) xs (drop_tail b bs e))
blocks_chained p bs b (held c ∷ xs) e =
    pieces_chained p bs b c xs e (blocks_chained p bs (suc b) xs (drop_tail b bs e)) (suc (length c)) 0 (omega arith)
