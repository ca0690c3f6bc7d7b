-- THE LAW OF THE STEP: reading may be read, and a loop of code proved, as if it were defined by this, place by place.
-- Assumes nothing.
use Rattle.std.specs.Prelude.{ℕ, suc, ◌+◌, ◌≡◌, Bool, cond, List, [], ◌∷◌, ◌++◌, drop}
use Rattle.std.proofs.Math.Path.{refl}
use Rattle.std.proofs.Common.{ap, ◌∙◌, drop-drop}
use Rattle.std.proofs.Math.Bool.{true, false}
use Rattle.standard.specs.Pieces.{Block, lost_block, held, Role, whole, first, middle, last, Piece, blank, broken, piece, is_fill, look, Token, bad, tokens_at, pieces, in_block, in_blocks, ahead}
use Rattle.standard.specs.Records.{Mode, Met, refused, refuse21, State, Move, deliver, carry, breach, meet, at_end, at_lost, after_move, first_met}
use Rattle.standard.specs.Labels.{Params}
use Rattle.promises.specs.Reading.PiecesLaws.{pieces_eq, held_ahead, next_ahead}

-- the answer to a reader that stands at block b, offset o in a state
abbrev pub reading : Mode → Params → List Block → ℕ → ℕ → State → Met
reading m p bs b o st = first_met m p (ahead p bs b o) st

-- behind a piece: a whole or a last is followed by what stands there; after a first or a middle the rest is fill, and reading goes on in the next block
abbrev pub behind : Mode → Params → List Block → ℕ → ℕ → List ℕ → Role → State → Met
behind m p bs b o c whole st = reading m p bs b o st
behind m p bs b o c first st = cond (is_fill (drop o c)) (reading m p bs (suc b) 0 st) (refused (refuse21 b o))
behind m p bs b o c middle st = cond (is_fill (drop o c)) (reading m p bs (suc b) 0 st) (refused (refuse21 b o))
behind m p bs b o c last st = reading m p bs b o st

abbrev pub on_piece : Mode → Params → List Block → ℕ → ℕ → List ℕ → State → Piece → Met
on_piece m p bs b o c st blank = reading m p bs (suc b) 0 st
on_piece m p bs b o c st broken = refused (refuse21 b o)
on_piece m p bs b o c st (piece k body s) = after_move (meet p st k body b) b o (o + s) (λ st'. behind m p bs b (o + s) c k st')

abbrev pub on_blocks : Mode → Params → List Block → ℕ → ℕ → State → List Block → Met
on_blocks m p bs b o st [] = at_end st
on_blocks m p bs b o st (lost_block sz ∷ xs) = at_lost m b
on_blocks m p bs b o st (held c ∷ xs) = on_piece m p bs b o c st (look p o (drop o c))

-- ---- the proof

move_cong : (mv : Move) (b o e : ℕ) (f g : State → Met) → ((st : State) → f st ≡ g st) → after_move mv b o e f ≡ after_move mv b o e g
move_cong (deliver body f₁) b o e f g h = refl
move_cong (carry st) b o e f g h = h st
move_cong breach b o e f g h = refl

module _ (m : Mode) (p : Params) (bs : List Block) (b : ℕ) (c : List ℕ) (xs : List Block) (e : drop b bs ≡ held c ∷ xs) where
  rest_law : (t : Bool) (o : ℕ) (st : State) → first_met m p (cond t [] (bad b o ∷ []) ++ in_blocks p (suc b) xs) st ≡ cond t (reading m p bs (suc b) 0 st) (refused (refuse21 b o))
  unfolding first_met
  rest_law true o st = rw (next_ahead p bs b (held c) xs e)
  rest_law false o st = refl

  piece_law : (o : ℕ) (st : State) (q : Piece)
      → first_met m p (tokens_at b o (drop o c) (λ o' r. pieces p b o' r) q ++ in_blocks p (suc b) xs) st ≡ on_piece m p bs b o c st q
  unfolding first_met
  piece_law o st blank = rw (next_ahead p bs b (held c) xs e)
  piece_law o st broken = refl
  piece_law o st (piece whole body s) = rw (drop-drop, held_ahead p bs b c xs e (o + s))
  piece_law o st (piece first body s) = rw (drop-drop s o c) (move_cong (meet p st first body b) b o (o + s) _ _ (λ st'. rest_law (is_fill (drop (o + s) c)) (o + s) st'))
  piece_law o st (piece middle body s) = rw (drop-drop s o c) (move_cong (meet p st middle body b) b o (o + s) _ _ (λ st'. rest_law (is_fill (drop (o + s) c)) (o + s) st'))
  piece_law o st (piece last body s) = rw (drop-drop, held_ahead p bs b c xs e (o + s))

blocks_law : (m : Mode) (p : Params) (bs : List Block) (b o : ℕ) (st : State) (xs : List Block) → drop b bs ≡ xs → reading m p bs b o st ≡ on_blocks m p bs b o st xs
unfolding ahead first_met in_block
blocks_law m p bs b o st [] e = rw e
blocks_law m p bs b o st (lost_block sz ∷ xs) e = rw e
blocks_law m p bs b o st (held c ∷ xs) e =
    ap (λ (ts : List Token). first_met m p ts st) (held_ahead p bs b c xs e o ∙ ap (λ (ts : List Token). ts ++ in_blocks p (suc b) xs) (pieces_eq p b o (drop o c)))
    ∙ piece_law m p bs b c xs e o st (look p o (drop o c))

pub reading_law : (m : Mode) (p : Params) (bs : List Block) (b o : ℕ) (st : State) → reading m p bs b o st ≡ on_blocks m p bs b o st (drop b bs)
reading_law m p bs b o st = blocks_law m p bs b o st (drop b bs) refl
