-- One turn of a reader, place by place: what it meets at an offset of a block, in numbers and in bytes.
-- Assumes nothing.
use Prim.Native.Nat.{ℕ, suc, ◌+◌}
use mathlib.Core.Path.{◌≡◌, refl, sym, ap, ◌∙◌}
use mathlib.Core.Bool.{Bool, true, false, cond}
use mathlib.Core.List.{List, [], ◌∷◌, ◌++◌}
use lib.ListN.{length, drop}
use Rattle.standard.specs.Labels.{Params}
use Rattle.standard.specs.Pieces.{Block, lost_block, held, Piece, blank, broken, piece, is_fill, look}
use Rattle.standard.specs.Records.{Mode, State, took, refused, refuse21, Move as MoveOf, at_end, at_lost, after_move}
use Rattle.promises.specs.Ground.Basics.{never}
use Rattle.promises.specs.Reading.StepLaw.{reading, behind, on_piece, on_blocks, reading_law}
use Rattle.blocks.specs.Roles.{role_for, completes_by}
use Rattle.blocks.specs.declared.Role.{Role}
use Rattle.blocks.specs.declared.Role.TheVariants.{Whole, First, Middle, Last}
use Rattle.walks.specs.Stands.{length_of, state_with, limit_of, meet_by, move_with}
use Rattle.walks.specs.declared.Stand.{Stand}
use Rattle.walks.specs.declared.Move.{Move}
use Rattle.walks.specs.declared.Move.TheVariants.{Deliver, Carry, Breach}
use Rattle.walks.proofs.StandLaws.{meet_with}

module _ (m : Mode) (p : Params) (bs : List Block) (b o : ℕ) where
  pub turn_end : (st : State) → drop b bs ≡ [] → reading m p bs b o st ≡ at_end st
  turn_end st e = reading_law m p bs b o st ∙ ap (on_blocks m p bs b o st) e

  pub turn_lost : (st : State) (size : ℕ) (xs : List Block) → drop b bs ≡ lost_block size ∷ xs → reading m p bs b o st ≡ at_lost m b
  turn_lost st size xs e = reading_law m p bs b o st ∙ ap (on_blocks m p bs b o st) e

  module _ (c : List ℕ) (xs : List Block) (e : drop b bs ≡ held c ∷ xs) where
    turn_piece : (st : State) (q : Piece) → look p o (drop o c) ≡ q → reading m p bs b o st ≡ on_piece m p bs b o c st q
    turn_piece st q l = reading_law m p bs b o st ∙ (ap (on_blocks m p bs b o st) e ∙ ap (on_piece m p bs b o c st) l)

    pub turn_blank : (st : State) → look p o (drop o c) ≡ blank → reading m p bs b o st ≡ reading m p bs (suc b) 0 st
    turn_blank st l = turn_piece st blank l

    pub turn_broken : (st : State) → look p o (drop o c) ≡ broken → reading m p bs b o st ≡ refused (refuse21 b o)
    turn_broken st l = turn_piece st broken l

    module _ (k : Role) (size : ℕ) (acc body : List ℕ) (s : Stand) (l : look p o (drop o c) ≡ piece (role_for k) body size) (n : length acc ≡ length_of s) where
      turn_part : (mv : Move) → mv ≡ meet_by (limit_of p) s k (length body) b
          → reading m p bs b o (state_with acc s) ≡ after_move (move_with (acc ++ body) mv) b o (o + size) (λ st. behind m p bs b (o + size) c (role_for k) st)
      turn_part mv h =
          turn_piece (state_with acc s) (piece (role_for k) body size) l
          ∙ ap (λ (v : MoveOf). after_move v b o (o + size) (λ st. behind m p bs b (o + size) c (role_for k) st))
          (meet_with p acc body b s k n ∙ ap (move_with (acc ++ body)) (sym h))

      pub turn_takes : (n f : ℕ) → Deliver n f ≡ meet_by (limit_of p) s k (length body) b
          → reading m p bs b o (state_with acc s) ≡ took (record { body = acc ++ body; first_block = f; last_block = b }) (record { block = b; offset = o + size; mark = false })
      turn_takes n f h = turn_part (Deliver n f) h

      pub turn_breach : Breach ≡ meet_by (limit_of p) s k (length body) b → reading m p bs b o (state_with acc s) ≡ refused (refuse21 b o)
      turn_breach h = turn_part Breach h

      -- a 0 or 3 is followed by what stands there
      pub turn_on : (t : Stand) → Carry t ≡ meet_by (limit_of p) s k (length body) b → completes_by k ≡ true
          → reading m p bs b o (state_with acc s) ≡ reading m p bs b (o + size) (state_with (acc ++ body) t)
      turn_on t h x = turn_part (Carry t) h ∙ go k x
        where
          go : (d : Role) → completes_by d ≡ true
              → behind m p bs b (o + size) c (role_for d) (state_with (acc ++ body) t) ≡ reading m p bs b (o + size) (state_with (acc ++ body) t)
          go Whole x = refl
          go First x = never (cc)
          go Middle x = never (cc)
          go Last x = refl

      -- "After 1 or 2 the rest of the block is fill"
      turn_rest : (t : Stand) → Carry t ≡ meet_by (limit_of p) s k (length body) b → completes_by k ≡ false
          → reading m p bs b o (state_with acc s)
          ≡ cond (is_fill (drop (o + size) c)) (reading m p bs (suc b) 0 (state_with (acc ++ body) t)) (refused (refuse21 b (o + size)))
      turn_rest t h x = turn_part (Carry t) h ∙ go k x
        where
          go : (d : Role) → completes_by d ≡ false
              → behind m p bs b (o + size) c (role_for d) (state_with (acc ++ body) t)
              ≡ cond (is_fill (drop (o + size) c)) (reading m p bs (suc b) 0 (state_with (acc ++ body) t)) (refused (refuse21 b (o + size)))
          go Whole x = never (cc)
          go First x = refl
          go Middle x = refl
          go Last x = never (cc)

      pub turn_next : (t : Stand) → Carry t ≡ meet_by (limit_of p) s k (length body) b → completes_by k ≡ false → is_fill (drop (o + size) c) ≡ true
          → reading m p bs b o (state_with acc s) ≡ reading m p bs (suc b) 0 (state_with (acc ++ body) t)
      turn_next t h d i = turn_rest t h d ∙ ap (λ (z : Bool). cond z (reading m p bs (suc b) 0 (state_with (acc ++ body) t)) (refused (refuse21 b (o + size)))) i

      pub turn_stops : (t : Stand) → Carry t ≡ meet_by (limit_of p) s k (length body) b → completes_by k ≡ false → is_fill (drop (o + size) c) ≡ false
          → reading m p bs b o (state_with acc s) ≡ refused (refuse21 b (o + size))
      turn_stops t h d i = turn_rest t h d ∙ ap (λ (z : Bool). cond z (reading m p bs (suc b) 0 (state_with (acc ++ body) t)) (refused (refuse21 b (o + size)))) i
