-- THE READING THEOREM: reading from Start step by step, plain or salvage, gives the declared list.
-- Assumes nothing.
use Rattle.std.specs.Prelude.{ℕ, zero, suc, ◌≤◌, ◌<◌, ◌≡◌, refl, true, false, map, List, [], ◌∷◌, ◌++◌, length}
use Rattle.std.proofs.Common.{ap, length-append, arith, not-suc-le-zero, le_of_suc-le-suc}
use Rattle.standard.specs.Records.{FileRecord, Mode, plain, salvage, File, State, fresh, marked, within, Move, deliver, carry, breach, over, meet, at_lost, after_move, first_met, entering, step}
use Rattle.standard.specs.Listed.{end, Item, rec, gap, follow, read_on, enough, read_all, state_after_gap, join_move, join_lost, join, listed}
use Rattle.standard.specs.Places.{start}
use Rattle.standard.specs.Pieces.{Block, lost_block, held, Role, whole, first, middle, last, Token, part, bad, lost, walk, pieces, in_block, in_blocks, ahead}
use Rattle.standard.specs.Labels.{Format, fixed, variable, spanned, Params}
use Rattle.standard.specs.declared.Place.{Place}
use Rattle.promises.specs.Ground.Basics.{cond_elim}
use Rattle.promises.specs.Reading.PiecesLaws.{walk_length, from_tail_start, Ends, Chained, blocks_chained}

-- only a whole or a last piece delivers
abbrev Delivers : Role → Move → Type 0
Delivers k (deliver body f) = Ends k
Delivers k (carry st) = Unit {0}
Delivers k breach = Unit {0}

pub meet_delivers : (p : Params) (st : State) (k : Role) (body : List ℕ) (b : ℕ) → Delivers k (meet p st k body b)
meet_delivers p fresh whole body b = cond_elim (Delivers whole) (over p (length body)) (λ _. tt) (λ _. tt)
meet_delivers p fresh first body b = cond_elim (Delivers first) (over p (length body)) (λ _. tt) (λ _. tt)
meet_delivers p fresh middle body b = tt
meet_delivers p fresh last body b = tt
meet_delivers p marked whole body b = cond_elim (Delivers whole) (over p (length body)) (λ _. tt) (λ _. tt)
meet_delivers p marked first body b = cond_elim (Delivers first) (over p (length body)) (λ _. tt) (λ _. tt)
meet_delivers p marked middle body b = tt
meet_delivers p marked last body b = tt
meet_delivers p (within acc f) whole body b = tt
meet_delivers p (within acc f) first body b = tt
meet_delivers p (within acc f) middle body b = cond_elim (Delivers middle) (over p (length (acc ++ body))) (λ _. tt) (λ _. tt)
meet_delivers p (within acc f) last body b = cond_elim (Delivers last) (over p (length (acc ++ body))) (λ _. tt) (λ _. tt)

entering_unmarked : (m : Mode) (f : Format) (o : ℕ) → entering m f o false ≡ fresh
entering_unmarked plain f o = refl
entering_unmarked salvage fixed o = refl
entering_unmarked salvage variable o = refl
entering_unmarked salvage spanned o = refl

entering_marked : (f : Format) → entering salvage f 0 true ≡ state_after_gap f
entering_marked fixed = refl
entering_marked variable = refl
entering_marked spanned = refl

-- n + 1 readings from where the tokens `ts` lie ahead give the list of `ts`
pub Onward : Mode → File → ℕ → List Token → State → Type 0
Onward m f n ts st = follow (first_met m f.params ts st) (λ pl. read_on n m f pl) ≡ join m f.params ts st

pub one_more : (m : Mode) (f : File) (n : ℕ) (pl : Place) (ts : List Token) (st : State) → ahead f.params f.blocks pl.block pl.offset ≡ ts
    → entering m f.params.format pl.offset pl.mark ≡ st → Onward m f n ts st → read_on (suc n) m f pl ≡ join m f.params ts st
unfolding read_on step Onward
one_more m f n pl ts st a s h = rw (a, s) h

move_onward : (m : Mode) (f : File) (n b o e : ℕ) (ts : List Token) (k : Role) (mv : Move) → Delivers k mv → (Ends k → ahead f.params f.blocks b e ≡ ts)
    → ((st : State) → Onward m f n ts st) → ((st : State) → Onward m f (suc n) ts st)
    → follow (after_move mv b o e (λ st. first_met m f.params ts st)) (λ pl. read_on (suc n) m f pl) ≡ join_move mv b o (λ st. join m f.params ts st)
unfolding Onward
move_onward m f n b o e ts k (deliver body g) d a ih ih' =
    ap (λ (is : List Item). rec (record { body = body; first_block = g; last_block = b }) ∷ is)
    (one_more m f n (record { block = b; offset = e; mark = false }) ts fresh (a d) (entering_unmarked m f.params.format e) (ih fresh))
move_onward m f n b o e ts k (carry st) d a ih ih' = ih' st
move_onward m f n b o e ts k breach d a ih ih' = refl

lost_onward : (m : Mode) (f : File) (n b : ℕ) (ts : List Token) → ahead f.params f.blocks (suc b) 0 ≡ ts → ((st : State) → Onward m f n ts st)
    → follow (at_lost m b) (λ pl. read_on (suc n) m f pl) ≡ join_lost m b (join m f.params ts (state_after_gap f.params.format))
lost_onward plain f n b ts a ih = refl
lost_onward salvage f n b ts a ih =
    ap (λ (is : List Item). gap b ∷ is)
    (one_more salvage f n (record { block = suc b; offset = 0; mark = true }) ts (state_after_gap f.params.format) a (entering_marked f.params.format) (ih _))

pub onward : (m : Mode) (f : File) (ts : List Token) → Chained f.params f.blocks ts → (n : ℕ) → length ts ≤ n → (st : State) → Onward m f n ts st
unfolding Onward first_met join
onward m f [] c n h fresh = refl
onward m f [] c n h marked = refl
onward m f [] c n h (within body g) = refl
onward m f (part k body b o e ∷ ts) c zero h st = absurd (not-suc-le-zero h)
onward m f (part k body b o e ∷ ts) c (suc n) h st =
    move_onward m f n b o e ts k (meet f.params st k body b) (meet_delivers f.params st k body b) c.0
    (λ st'. onward m f ts c.1 n (le_of_suc-le-suc h) st') (λ st'. onward m f ts c.1 (suc n) (omega arith) st')
onward m f (bad b o ∷ ts) c n h st = refl
onward m f (lost b ∷ ts) c zero h st = absurd (not-suc-le-zero h)
onward m f (lost b ∷ ts) c (suc n) h st = lost_onward m f n b ts c.0 (λ st'. onward m f ts c.1 n (le_of_suc-le-suc h) st')

enough_is : (p : Params) (b : ℕ) (bs : List Block) → length (in_blocks p b bs) < enough bs
unfolding in_blocks in_block enough pieces
enough_is p b [] = omega arith
enough_is p b (lost_block sz ∷ bs) = omega (arith, enough_is p (suc b) bs)
enough_is p b (held c ∷ bs) =
    omega (arith, length-append (walk (length c) p b 0 c) (in_blocks p (suc b) bs), walk_length (length c) p b 0 c, enough_is p (suc b) bs)

read_on_start : (m : Mode) (f : File) (n : ℕ) → length (in_blocks f.params 0 f.blocks) < n → read_on n m f start ≡ listed m f
unfolding listed ahead
read_on_start m f zero h = absurd (not-suc-le-zero h)
read_on_start m f (suc n) h =
    one_more m f n start (in_blocks f.params 0 f.blocks) fresh (from_tail_start f.params 0 f.blocks) (entering_unmarked m f.params.format 0)
    (onward m f (in_blocks f.params 0 f.blocks) (blocks_chained f.params f.blocks 0 f.blocks refl) n (le_of_suc-le-suc h) fresh)

pub read_all_listed : (m : Mode) (f : File) → read_all m f ≡ listed m f
unfolding read_all
read_all_listed m f = read_on_start m f (enough f.blocks) (enough_is f.params 0 f.blocks)

-- the list of a reading that refused nothing
abbrev pub Clean : List Item → List FileRecord → Type 0
Clean is rs = is ≡ map rec rs ++ (end ∷ [])

abbrev pub body_of : FileRecord → List ℕ
body_of r = r.body

-- the reading gives these bodies, and then End
pub record Reads (is : List Item) (xs : List (List ℕ)) : Type 0 where
  pub rs : List FileRecord
  pub same : map body_of rs ≡ xs
  pub clean : Clean is rs

pub reads_cons : {is : List Item} {xs : List (List ℕ)} (r : FileRecord) → Reads is xs → Reads (rec r ∷ is) (r.body ∷ xs)
reads_cons r h = record { rs = r ∷ h.rs; same = ap (λ (ys : List (List ℕ)). r.body ∷ ys) h.same; clean = ap (λ (is : List Item). rec r ∷ is) h.clean }
