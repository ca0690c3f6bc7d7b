-- Section "Blocks and records": the declared list of a file's records, and reading on from place to place. No contract cites it: the promises do, of what a
-- caller hears who goes on.
-- Assumes nothing.
use Rattle.std.specs.Prelude.{ℕ, zero, suc, ◌+◌, true, List, [], ◌∷◌, length}
use Rattle.standard.specs.Pieces.{Block, lost_block, held, Token, part, bad, lost, in_blocks}
use Rattle.standard.specs.Places.{start}
use Rattle.standard.specs.Labels.{Format, Params}
use Rattle.standard.specs.Records.{Mode, salvage, File, FileRecord, refuse21, Met, took, gapped, ended, refused, State, fresh, Move, meet, on_end, on_lost, on_move, entering, step}
use Rattle.standard.specs.declared.Refusal.{Refusal}
use Rattle.standard.specs.declared.Place.{Place}

-- what a row of readings yields: its records and gaps, and then End or the refusal
pub data Item : Type 0 where
  rec : FileRecord → Item
  gap : (block : ℕ) → Item
  end : Item
  no : Refusal → Item

-- THE DECLARED LIST, straight from the blocks: their pieces in order, joined. Behind a gap a reader is in the state in which the place handed out is entered.
abbrev pub state_after_gap : Format → State
state_after_gap f = entering salvage f 0 true

abbrev pub join_end : State → Item
join_end st = on_end st end no

abbrev pub join_lost : Mode → ℕ → List Item → List Item
join_lost m b rest = on_lost m b (gap b ∷ rest) (λ x. no x ∷ [])

abbrev pub join_move : Move → ℕ → ℕ → (State → List Item) → List Item
join_move mv b o go = on_move mv b o (λ r. rec r ∷ go fresh) go (λ x. no x ∷ [])

unfoldable pub join : Mode → Params → List Token → State → List Item
join m p [] st = join_end st ∷ []
join m p (part k body b o n ∷ ts) st = join_move (meet p st k body b) b o (λ st'. join m p ts st')
join m p (bad b o ∷ ts) st = no (refuse21 b o) ∷ []
join m p (lost b ∷ ts) st = join_lost m b (join m p ts (state_after_gap p.format))

unfoldable pub listed : Mode → File → List Item
listed m f = join m f.params (in_blocks f.params 0 f.blocks) fresh

-- READING ON from a place, and then from each place that is handed out, at most n readings
abbrev pub follow : Met → (Place → List Item) → List Item
follow (took r pl) go = rec r ∷ go pl
follow (gapped b pl) go = gap b ∷ go pl
follow ended go = end ∷ []
follow (refused r) go = no r ∷ []

unfoldable pub read_on : ℕ → Mode → File → Place → List Item
read_on zero m f pl = []
read_on (suc n) m f pl = follow (step m f pl) (λ pl'. read_on n m f pl')

-- enough for every file: a reading for each byte and each block, and one for End
unfoldable pub enough : List Block → ℕ
enough [] = 1
enough (lost_block sz ∷ bs) = 1 + enough bs
enough (held c ∷ bs) = 1 + length c + enough bs

unfoldable pub read_all : Mode → File → List Item
read_all m f = read_on (enough f.blocks) m f start
