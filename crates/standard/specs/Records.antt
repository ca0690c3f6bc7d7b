-- Section "Blocks and records": what one reading of a place meets, plainly or by salvage. Contracts go by this file; the whole list of a file's records, of
-- which the promises speak, is in Listed.
-- Assumes nothing.
use Rattle.std.specs.Prelude.{ℕ, ◌%◌, Bool, true, false, cond, ◌&&◌, List, [], ◌∷◌, ◌++◌, length, get_or, leb, ltb, eqb}
use Rattle.standard.specs.Pieces.{Block, held, size_of, Role, whole, first, middle, last, Token, part, bad, lost, ahead}
use Rattle.standard.specs.Refusals.{refuse, refuse_at}
use Rattle.standard.specs.Places.{place_at, mark_at, behind_at, goes_on, after_gap}
use Rattle.standard.specs.Labels.{Format, fixed, variable, spanned, Params}
use Rattle.standard.specs.declared.Refusal.{Refusal}
use Rattle.standard.specs.declared.Place.{Place}

-- plain reading, and salvage
pub data Mode : Type 0 where
  plain salvage : Mode

-- A file as it is read: what of its label the content rules read, and its blocks.
pub record File : Type 0 where
  pub params : Params
  pub blocks : List Block

-- A record of the file: its body, and the blocks where it begins and ends.
pub record FileRecord : Type 0 where
  pub body : List ℕ
  pub first_block : ℕ
  pub last_block : ℕ

-- 20 "plain reading meets a lost block", block; 21 "content rule broken", block, offset; 22 "file ends after a 1 or 2 not dropped", 0
abbrev pub refuse20 : ℕ → Refusal
refuse20 block = refuse 20 block

abbrev pub refuse21 : ℕ → ℕ → Refusal
refuse21 block offset = refuse_at 21 block offset

abbrev pub refuse22 : Refusal
refuse22 = refuse 22 0

-- What one reading of a place meets: a record and the place behind it, a lost block and the place behind it, the end, or a refusal.
pub data Met : Type 0 where
  took : FileRecord → Place → Met
  gapped : (block : ℕ) → Place → Met
  ended : Met
  refused : Refusal → Met

-- Where a reader stands in what it reads: between records; at a block's start after a gap; inside a spanned record, of which it has a body so far.
pub data State : Type 0 where
  fresh : State
  marked : State
  within : (body : List ℕ) (first_block : ℕ) → State

-- What a piece does to a reader: it completes a record, it is taken in, or it breaks a rule.
pub data Move : Type 0 where
  deliver : (body : List ℕ) (first_block : ℕ) → Move
  carry : State → Move
  breach : Move

-- "A body over R (unless 0000) breaks the rule"
abbrev pub over_in : Format → ℕ → ℕ → Bool
over_in fixed R n = false
over_in variable R n = false
over_in spanned R n = ltb 0 R && ltb R n

abbrev pub over : Params → ℕ → Bool
over p n = over_in p.format p.R n

-- "the next segment must be 2 or 3; otherwise it must be 0 or 1." After a gap, "There, in S, 0 to 3 may come first: a 2 is dropped, unmeasured by R, and
-- the mark stays; a 3 is dropped likewise and reading goes on without it."
abbrev pub meet : Params → State → Role → List ℕ → ℕ → Move
meet p fresh whole body b = cond (over p (length body)) breach (deliver body b)
meet p fresh first body b = cond (over p (length body)) breach (carry (within body b))
meet p fresh middle body b = breach
meet p fresh last body b = breach
meet p marked whole body b = cond (over p (length body)) breach (deliver body b)
meet p marked first body b = cond (over p (length body)) breach (carry (within body b))
meet p marked middle body b = carry marked
meet p marked last body b = carry fresh
meet p (within acc f) whole body b = breach
meet p (within acc f) first body b = breach
meet p (within acc f) middle body b = cond (over p (length (acc ++ body))) breach (carry (within (acc ++ body) f))
meet p (within acc f) last body b = cond (over p (length (acc ++ body))) breach (deliver (acc ++ body) f)

-- WHAT COMES OF THE END, OF A LOST BLOCK, OF A PIECE, each by cases: said once for one reading, which answers, and for a list (Listed), which goes on.
-- "file ends after a 1 or 2 not dropped"
abbrev pub on_end : {A : Type 0} → State → A → (Refusal → A) → A
on_end fresh finish stop = finish
on_end marked finish stop = finish
on_end (within body f) finish stop = stop refuse22

-- "plain reading meets a lost block"; salvage has a gap there
abbrev pub on_lost : {A : Type 0} → Mode → ℕ → A → (Refusal → A) → A
on_lost plain b pass stop = stop (refuse20 b)
on_lost salvage b pass stop = pass

-- of a piece of block b at offset o, by what it does to the reader
abbrev pub on_move : {A : Type 0} → Move → ℕ → ℕ → (FileRecord → A) → (State → A) → (Refusal → A) → A
on_move (deliver body f) b o give go stop = give (record { body = body; first_block = f; last_block = b })
on_move (carry st) b o give go stop = go st
on_move breach b o give go stop = stop (refuse21 b o)

abbrev pub at_end : State → Met
at_end st = on_end st ended refused

-- "Meeting it, also midway in a spanned record, gives one gap and the next block's start, marked."
abbrev pub at_lost : Mode → ℕ → Met
at_lost m b = on_lost m b (gapped b (after_gap (goes_on (place_at b 0)))) refused

-- "Reading a place gives the record and the place right behind it": n is the offset behind the piece
abbrev pub after_move : Move → ℕ → ℕ → ℕ → (State → Met) → Met
after_move mv b o n go = on_move mv b o (λ r. took r (behind_at n (place_at b o))) go refused

-- what a reader in a state meets first, of which the list is what it has before it. A block of fill has no tokens, so the state stays: "A block of fill keeps
-- it." Where nothing is left, "block = count .. answers End".
unfoldable pub first_met : Mode → Params → List Token → State → Met
first_met m p [] st = at_end st
first_met m p (part k body b o n ∷ ts) st = after_move (meet p st k body b) b o n (λ st'. first_met m p ts st')
first_met m p (bad b o ∷ ts) st = refused (refuse21 b o)
first_met m p (lost b ∷ ts) st = at_lost m b

-- "In plain reading, at offsets above 0, and in F and V, the mark counts as absent."
abbrev pub entering : Mode → Format → ℕ → Bool → State
entering plain f o mark = fresh
entering salvage fixed o mark = fresh
entering salvage variable o mark = fresh
entering salvage spanned o mark = cond (mark_at o mark) marked fresh

-- THE STEP: one reading of a place
unfoldable pub step : Mode → File → Place → Met
step m f pl = first_met m f.params (ahead f.params f.blocks pl.block pl.offset) (entering m f.params.format pl.offset pl.mark)

-- "Any place in the file may be asked; F offsets are multiples of R; offset at most the content; block = count only with offset 0"
abbrev pub aligned : Format → ℕ → ℕ → Bool
aligned fixed R o = eqb (o % R) 0
aligned variable R o = true
aligned spanned R o = true

unfoldable pub in_file : File → Place → Bool
in_file f pl =
    cond (ltb pl.block (length f.blocks))
    (leb pl.offset (size_of (get_or f.blocks pl.block (held []))) && aligned f.params.format f.params.R pl.offset)
    (eqb pl.block (length f.blocks) && eqb pl.offset 0)
