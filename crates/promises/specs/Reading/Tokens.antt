-- A property of every token of a file, from what `look` says of every piece.
-- Assumes nothing.
use Prim.Native.Nat.{ℕ, zero, suc, ◌+◌, ◌≤◌}
use Rattle.std.specs.Prelude.{◌≡◌, refl, Bool, ◌&&◌, List, [], ◌∷◌, length, drop, leb}
use Rattle.std.proofs.Math.Option.{Option, none, some}
use Rattle.std.proofs.Common.{arith}
use Rattle.standard.specs.Pieces.{Block, lost_block, held, Role, whole, first, middle, last, Piece, blank, broken, piece, is_fill, four, sized_v, look_f, only_fill_v, look_v, look_in, look, Token, part, bad, lost, after_part, tokens_at, walk, pieces, in_block, in_blocks}
use Rattle.standard.specs.Labels.{Format, fixed, variable, spanned, Params}
use Rattle.promises.specs.Ground.Basics.{cond_elim}
use Rattle.promises.specs.Ground.Lists.{Every, every_append}

abbrev pub OnPiece : (Token → Type 0) → ℕ → ℕ → Piece → Type 0
OnPiece Q b o blank = Unit {0}
OnPiece Q b o broken = Unit {0}
OnPiece Q b o (piece k body s) = Q (part k body b o (o + s))

module _ (Q : Token → Type 0) (b : ℕ) (hb : (o : ℕ) → Q (bad b o)) where
  pub after_part_every : (k : Role) (o : ℕ) (rest : List ℕ) (more : List Token) → Every Q more → Every Q (after_part k b o rest more)
  after_part_every whole o rest more h = h
  after_part_every first o rest more h = cond_elim (Every Q) (is_fill rest) (λ _. tt) (λ _. (hb o, tt))
  after_part_every middle o rest more h = cond_elim (Every Q) (is_fill rest) (λ _. tt) (λ _. (hb o, tt))
  after_part_every last o rest more h = h

  tokens_at_every : (o : ℕ) (rest : List ℕ) (f : ℕ → List ℕ → List Token) (q : Piece) → OnPiece Q b o q
      → ((o' : ℕ) (r : List ℕ) → Every Q (f o' r)) → Every Q (tokens_at b o rest f q)
  tokens_at_every o rest f blank h k = tt
  tokens_at_every o rest f broken h k = (hb o, tt)
  tokens_at_every o rest f (piece kd body s) h k = (h, after_part_every kd (o + s) (drop s rest) (f (o + s) (drop s rest)) (k (o + s) (drop s rest)))

  walk_every : (p : Params) → ((o : ℕ) (rest : List ℕ) → OnPiece Q b o (look p o rest)) → (n o : ℕ) (rest : List ℕ) → Every Q (walk n p b o rest)
  unfolding walk
  walk_every p h zero o rest = tt
  walk_every p h (suc n) o rest = tokens_at_every o rest _ (look p o rest) (h o rest) (λ o' r. walk_every p h n o' r)

-- the tokens of block b are of block b
abbrev pub At : ℕ → Token → Type 0
At b (part k body b' o e) = b' ≡ b
At b (bad b' o) = Unit {0}
At b (lost b') = ⊥

on_at : (b o : ℕ) (q : Piece) → OnPiece (At b) b o q
on_at b o blank = tt
on_at b o broken = tt
on_at b o (piece k body s) = refl

pub pieces_at : (p : Params) (b o : ℕ) (rest : List ℕ) → Every (At b) (pieces p b o rest)
unfolding pieces
pieces_at p b o rest = walk_every (At b) b (λ _. tt) p (λ o' r. on_at b o' (look p o' r)) (length rest) o rest

-- the tokens of the blocks from b on are of those
abbrev pub From : ℕ → Token → Type 0
From b (part k body b' o e) = b ≤ b'
From b (bad b' o) = Unit {0}
From b (lost b') = Unit {0}

on_from : (a b o : ℕ) → a ≤ b → (q : Piece) → OnPiece (From a) b o q
on_from a b o h blank = tt
on_from a b o h broken = tt
on_from a b o h (piece k body s) = h

pub blocks_from : (p : Params) (a b : ℕ) (xs : List Block) → a ≤ b → Every (From a) (in_blocks p b xs)
unfolding in_blocks in_block pieces
blocks_from p a b [] h = tt
blocks_from p a b (lost_block sz ∷ xs) h = (tt, blocks_from p a (suc b) xs (omega arith))
blocks_from p a b (held c ∷ xs) h =
    every_append (From a) (walk (length c) p b 0 c) (in_blocks p (suc b) xs)
    (walk_every (From a) b (λ _. tt) p (λ o' r. on_from a b o' h (look p o' r)) (length c) 0 c) (blocks_from p a (suc b) xs (omega arith))

-- F and V have whole records only
abbrev pub Whole : Token → Type 0
Whole (part whole body b o e) = Unit {0}
Whole (part first body b o e) = ⊥
Whole (part middle body b o e) = ⊥
Whole (part last body b o e) = ⊥
Whole (bad b o) = Unit {0}
Whole (lost b) = Unit {0}

look_f_whole : (b o R : ℕ) (rest : List ℕ) → OnPiece Whole b o (look_f R rest)
unfolding look_f
look_f_whole b o R [] = tt
look_f_whole b o R (x ∷ xs) = cond_elim (OnPiece Whole b o) (leb 1 R && leb R (suc (length xs))) (λ _. tt) (λ _. tt)

sized_v_whole : (b o R : ℕ) (rest : List ℕ) (n : Option ℕ) → OnPiece Whole b o (sized_v R rest n)
sized_v_whole b o R rest none = tt
sized_v_whole b o R rest (some n) = cond_elim (OnPiece Whole b o) (leb 4 n && leb n R && leb n (length rest)) (λ _. tt) (λ _. tt)

look_v_whole : (b o R : ℕ) (bl : Bool) (rest : List ℕ) → OnPiece Whole b o (look_v R bl o rest)
unfolding look_v
look_v_whole b o R bl rest =
    cond_elim (OnPiece Whole b o) (only_fill_v bl o rest) (λ _. cond_elim (OnPiece Whole b o) (is_fill rest) (λ _. tt) (λ _. tt)) (λ _. sized_v_whole b o R rest (four rest))

abbrev pub Unspanned : Format → Type 0
Unspanned fixed = Unit {0}
Unspanned variable = Unit {0}
Unspanned spanned = ⊥

look_in_whole : (f : Format) → Unspanned f → (b o R : ℕ) (bl : Bool) (rest : List ℕ) → OnPiece Whole b o (look_in f R bl o rest)
look_in_whole fixed u b o R bl rest = look_f_whole b o R rest
look_in_whole variable u b o R bl rest = look_v_whole b o R bl rest
look_in_whole spanned u b o R bl rest = absurd u

pub blocks_whole : (p : Params) → Unspanned p.format → (b : ℕ) (xs : List Block) → Every Whole (in_blocks p b xs)
unfolding in_blocks in_block pieces look
blocks_whole p u b [] = tt
blocks_whole p u b (lost_block sz ∷ xs) = (tt, blocks_whole p u (suc b) xs)
blocks_whole p u b (held c ∷ xs) =
    every_append Whole (walk (length c) p b 0 c) (in_blocks p (suc b) xs)
    (walk_every Whole b (λ _. tt) p (λ o' r. look_in_whole p.format u b o' p.R p.blocked r) (length c) 0 c) (blocks_whole p u (suc b) xs)
