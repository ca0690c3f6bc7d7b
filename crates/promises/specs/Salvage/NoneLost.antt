-- Where no block is lost, salvage reads as plain reading does.
-- Assumes nothing.
use Rattle.std.specs.Prelude.{ℕ, suc, ◌≡◌, refl, List, [], ◌∷◌, map}
use Rattle.std.proofs.Common.{sym, ap, ◌∙◌}
use Rattle.standard.specs.Pieces.{held, Token, part, bad, lost, pieces, in_block, in_blocks}
use Rattle.standard.specs.Records.{plain, salvage, State, fresh, Move, deliver, carry, breach, meet}
use Rattle.standard.specs.Listed.{Item, rec, read_all, join_move, join, listed}
use Rattle.standard.specs.Packing.{file_of}
use Rattle.standard.specs.Labels.{Params}
use Rattle.promises.specs.Ground.Lists.{Every, every_append, every_map}
use Rattle.promises.specs.Reading.Tokens.{At, pieces_at}
use Rattle.promises.specs.Reading.ReadingLaws.{read_all_listed}

abbrev NotLost : Token → Type 0
NotLost (part k body b o n) = Unit {0}
NotLost (bad b o) = Unit {0}
NotLost (lost b) = ⊥

at_not_lost : (b : ℕ) (t : Token) → At b t → NotLost t
at_not_lost b (part k body b' o n) h = tt
at_not_lost b (bad b' o) h = tt
at_not_lost b (lost b') h = h

none_held : (p : Params) (b : ℕ) (cs : List (List ℕ)) → Every NotLost (in_blocks p b (map held cs))
unfolding in_blocks in_block
none_held p b [] = tt
none_held p b (c ∷ cs) =
    every_append NotLost (pieces p b 0 c) (in_blocks p (suc b) (map held cs))
    (every_map (At b) NotLost (at_not_lost b) (pieces p b 0 c) (pieces_at p b 0 c)) (none_held p (suc b) cs)

join_alike : (p : Params) (ts : List Token) (st : State) → Every NotLost ts → join salvage p ts st ≡ join plain p ts st
unfolding join
join_alike p [] st h = refl
join_alike p (part k body b o n ∷ ts) st h = go (meet p st k body b) (λ st'. join_alike p ts st' h.1)
  where
    go : (mv : Move) → ((st' : State) → join salvage p ts st' ≡ join plain p ts st')
        → join_move mv b o (λ st'. join salvage p ts st') ≡ join_move mv b o (λ st'. join plain p ts st')
    go (deliver x f) ih = ap (λ (is : List Item). rec (record { body = x; first_block = f; last_block = b }) ∷ is) (ih fresh)
    go (carry st') ih = ih st'
    go breach ih = refl
join_alike p (bad b o ∷ ts) st h = refl
join_alike p (lost b ∷ ts) st h = absurd h.0

pub salvage_alike : (p : Params) (cs : List (List ℕ)) → read_all salvage (file_of p cs) ≡ read_all plain (file_of p cs)
unfolding file_of listed
salvage_alike p cs =
    read_all_listed salvage (file_of p cs) ∙ (join_alike p (in_blocks p 0 (map held cs)) fresh (none_held p 0 cs) ∙ sym (read_all_listed plain (file_of p cs)))
