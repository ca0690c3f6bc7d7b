-- THE SALVAGE THEOREM.
-- Assumes nothing.
use Prim.Native.Nat.{ℕ, zero, suc, ◌+◌, ◌-◌, ◌≤◌, ◌<◌}
use Rattle.std.specs.Prelude.{◌≡◌, Bool, cond, length}
use Rattle.std.proofs.Math.Path.{refl, subst}
use Rattle.std.proofs.Common.{sym, ap, ◌∙◌, arith, le_refl}
use Rattle.std.proofs.Math.Bool.{true, false, and-true, and-false}
use mathlib.Core.List.{List, [], ◌∷◌, ◌++◌}
use borrow.Author.Tests.{ne_eqb, eq-eqb}
use Rattle.standard.specs.Pieces.{Block, lost_block, held, Role, whole, first, middle, last, Token, part, bad, lost, pieces, in_block, in_blocks}
use Rattle.standard.specs.Records.{plain, salvage, File, FileRecord, State, fresh, marked, within, Move, deliver, carry, breach, over, meet, refuse20, refuse21}
use Rattle.standard.specs.Listed.{Item, rec, gap, end, no, read_all, state_after_gap, join_move, join_end, join, listed}
use Rattle.standard.specs.Damage.{damage, damaged, intact, spared, ending_in, remains}
use Rattle.standard.specs.Labels.{Format, fixed, variable, spanned, Params}
use Rattle.standard.specs.declared.Refusal.{Refusal}
use Rattle.promises.specs.Ground.Basics.{cond_elim}
use Rattle.promises.specs.Ground.Lists.{Every}
use Rattle.promises.specs.Reading.Tokens.{At, pieces_at, From, blocks_from, Whole, blocks_whole}
use Rattle.promises.specs.Reading.ReadingLaws.{read_all_listed, Clean}

unfoldable pub SalvageTheorem : Type 0
SalvageTheorem = (gone : ℕ → Bool) (f : File) (rs : List FileRecord)
    → Clean (read_all plain f) rs
    → read_all salvage (damaged gone f) ≡ remains gone 0 (length f.blocks) rs ++ (end ∷ [])

pub clean_no : (x : Refusal) (rs : List FileRecord) → Clean (no x ∷ []) rs → ⊥
clean_no x [] h = let z : ◌≡◌ {A = ℕ} 0 1 = cc in omega arith
clean_no x (r ∷ rs) h = let z : ◌≡◌ {A = ℕ} 0 1 = cc in omega arith

abbrev pub Peeled : FileRecord → List Item → List FileRecord → Type 0
Peeled r is rs = (rs' : List FileRecord) × (rs ≡ r ∷ rs') × Clean is rs'

pub clean_rec : (r : FileRecord) (is : List Item) (rs : List FileRecord) → Clean (rec r ∷ is) rs → Peeled r is rs
clean_rec r is [] h = let z : ◌≡◌ {A = ℕ} 0 1 = cc in absurd (omega arith)
clean_rec r is (r' ∷ rs) h = (rs, (cc), (cc))

pub clean_end : (st : State) (rs : List FileRecord) → Clean (join_end st ∷ []) rs → (rs ≡ []) × (join_end st ≡ end)
clean_end st [] h = (refl, (cc))
clean_end fresh (r ∷ rs) h = let z : ◌≡◌ {A = ℕ} 0 1 = cc in absurd (omega arith)
clean_end marked (r ∷ rs) h = let z : ◌≡◌ {A = ℕ} 0 1 = cc in absurd (omega arith)
clean_end (within acc f) (r ∷ rs) h = let z : ◌≡◌ {A = ℕ} 0 1 = cc in absurd (omega arith)

-- the records of tokens from block b on end in that block or behind it
abbrev pub EndFrom : ℕ → List FileRecord → Type 0
EndFrom b rs = Every (λ r. b ≤ r.last_block) rs

move_ends : (b b' o : ℕ) (mv : Move) (more : State → List Item) (rs : List FileRecord) → b ≤ b' → Clean (join_move mv b' o more) rs
    → ((st : State) (rs' : List FileRecord) → Clean (more st) rs' → EndFrom b rs') → EndFrom b rs
move_ends b b' o (deliver body f) more rs l h ih =
    let (rs', e, c) = clean_rec (record { body = body; first_block = f; last_block = b' }) (more fresh) rs h in
    rw e (l, ih fresh rs' c)
move_ends b b' o (carry st) more rs l h ih = ih st rs h
move_ends b b' o breach more rs l h ih = absurd (clean_no (refuse21 b' o) rs h)

pub tokens_end : (p : Params) (b : ℕ) (ts : List Token) → Every (From b) ts → (st : State) (rs : List FileRecord) → Clean (join plain p ts st) rs → EndFrom b rs
unfolding join
tokens_end p b [] v st rs h = rw (clean_end st rs h).0 tt
tokens_end p b (part k body b' o e ∷ ts) v st rs h =
    move_ends b b' o (meet p st k body b') (λ st'. join plain p ts st') rs v.0 h (λ st' rs' c. tokens_end p b ts v.1 st' rs' c)
tokens_end p b (bad b' o ∷ ts) v st rs h = absurd (clean_no (refuse21 b' o) rs h)
tokens_end p b (lost b' ∷ ts) v st rs h = absurd (clean_no (refuse20 b') rs h)

-- ---- the expected list

module _ (gone : ℕ → Bool) where
  pub ending_in_skip : (b : ℕ) (r : FileRecord) (rs : List FileRecord) → (r.last_block ≡ b → ⊥) → ending_in gone b (r ∷ rs) ≡ ending_in gone b rs
  unfolding ending_in
  ending_in_skip b r rs h = rw (ne_eqb r.last_block b h)

  pub remains_skip : (n a : ℕ) (r : FileRecord) (rs : List FileRecord) → r.last_block < a → remains gone a n (r ∷ rs) ≡ remains gone a n rs
  unfolding remains
  remains_skip zero a r rs h = refl
  remains_skip (suc n) a r rs h = rw (ending_in_skip a r rs (λ e. omega arith), remains_skip n (suc a) r rs (omega arith))

  -- what is expected of block b, where it is not gone, and of the n blocks behind it
  abbrev Due : ℕ → ℕ → List FileRecord → List Item
  Due b n rs = ending_in gone b rs ++ remains gone (suc b) n rs ++ (end ∷ [])

  due_spared : (b n : ℕ) (r : FileRecord) (rs : List FileRecord) → r.last_block ≡ b → spared gone r ≡ true → Due b n (r ∷ rs) ≡ rec r ∷ Due b n rs
  unfolding ending_in
  due_spared b n r rs e s =
      rw (remains_skip n (suc b) r rs (omega arith), eq-eqb r.last_block b e, s)

  due_gone : (b n : ℕ) (r : FileRecord) (rs : List FileRecord) → r.last_block ≡ b → spared gone r ≡ false → Due b n (r ∷ rs) ≡ Due b n rs
  unfolding ending_in
  due_gone b n r rs e s = rw (remains_skip n (suc b) r rs (omega arith), eq-eqb r.last_block b e, s)

  -- records of later blocks end in none before
  none_ending : (b : ℕ) (rs : List FileRecord) → EndFrom (suc b) rs → ending_in gone b rs ≡ []
  unfolding ending_in
  none_ending b [] v = refl
  none_ending b (r ∷ rs) v = ending_in_skip b r rs (λ q. omega (arith, v.0)) ∙ none_ending b rs v.1

-- ---- the two readings, side by side

-- The states of a plain reader of the file before the damage and of a salvager of the file after it, where both come to block b, or are in it: the same;
-- between records, with or without the mark; inside a record with no block gone so far; inside a record with a block gone.
data Rel (gone : ℕ → Bool) (b : ℕ) : State → State → Type 0 where
  both : Rel gone b fresh fresh
  skip : Rel gone b fresh marked
  live : {acc : List ℕ} (f n : ℕ) → b ≡ f + n → intact gone f n ≡ true → Rel gone b (within acc f) (within acc f)
  dead : {acc : List ℕ} (f n : ℕ) → b ≡ f + n → intact gone f n ≡ false → Rel gone b (within acc f) marked

rel_next : (gone : ℕ → Bool) (b : ℕ) {st st' : State} → gone b ≡ false → Rel gone b st st' → Rel gone (suc b) st st'
unfolding intact
rel_next gone b g both = both
rel_next gone b g skip = skip
rel_next gone b g (live f n e i) = live f (suc n) (omega arith) (rw (i, ← e, g))
rel_next gone b g (dead f n e i) = dead f (suc n) (omega arith) (rw i)

spared_is : (gone : ℕ → Bool) (b f n : ℕ) (body : List ℕ) (t : Bool) → gone b ≡ false → b ≡ f + n → intact gone f n ≡ t
    → spared gone (record { body = body; first_block = f; last_block = b }) ≡ t
unfolding spared intact
spared_is gone b f n body t g e i =
    let c : suc b - f ≡ suc n = omega arith in
    rw (c, i, ← e, g) (and-true t)

module _ (gone : ℕ → Bool) (p : Params) (b n : ℕ) (g : gone b ≡ false) (ms ms' : List Token) where
  -- what is claimed of a plain reader in state st and a salvager in state st' that have `ts` and then the blocks behind before them
  Alike : List Token → State → State → Type 0
  Alike ts st st' = (rs : List FileRecord) → Clean (join plain p (ts ++ ms) st) rs → join salvage p (ts ++ ms') st' ≡ Due gone b n rs

  module _ (ts : List Token) (o : ℕ) (rs : List FileRecord) where
    abbrev Plainly : Move → Type 0
    Plainly mv = Clean (join_move mv b o (λ st. join plain p (ts ++ ms) st)) rs

    abbrev Salvaged : Move → Type 0
    Salvaged mv = join_move mv b o (λ st. join salvage p (ts ++ ms') st) ≡ Due gone b n rs

    broke : {X : Type 0} → Plainly breach → X
    broke h = absurd (clean_no (refuse21 b o) rs h)

    deliver_alike : (t : Bool) (body : List ℕ) (f m : ℕ) → b ≡ f + m → intact gone f m ≡ true → Alike ts fresh fresh
        → Plainly (cond t breach (deliver body f)) → Salvaged (cond t breach (deliver body f))
    unfolding Alike
    deliver_alike true body f m e i ih h = broke h
    deliver_alike false body f m e i ih h =
        let r : FileRecord = record { body = body; first_block = f; last_block = b } in
        let (rs', q, c) = clean_rec r (join plain p (ts ++ ms) fresh) rs h in
        rw (q, due_spared gone b n r rs' refl (spared_is gone b f m body true g e i)) (ap (λ (is : List Item). rec r ∷ is) (ih rs' c))

    carry_alike : (t : Bool) (st st' : State) → Alike ts st st' → Plainly (cond t breach (carry st)) → Salvaged (cond t breach (carry st'))
    unfolding Alike
    carry_alike true st st' ih h = broke h
    carry_alike false st st' ih h = ih rs h

    drop_middle : (t : Bool) (st : State) → Alike ts st marked → Plainly (cond t breach (carry st)) → Salvaged (carry marked)
    unfolding Alike
    drop_middle true st ih h = broke h
    drop_middle false st ih h = ih rs h

    drop_last : (t : Bool) (body : List ℕ) (f m : ℕ) → b ≡ f + m → intact gone f m ≡ false → Alike ts fresh fresh
        → Plainly (cond t breach (deliver body f)) → Salvaged (carry fresh)
    unfolding Alike
    drop_last true body f m e i ih h = broke h
    drop_last false body f m e i ih h =
        let r : FileRecord = record { body = body; first_block = f; last_block = b } in
        let (rs', q, c) = clean_rec r (join plain p (ts ++ ms) fresh) rs h in
        rw (q, due_gone gone b n r rs' refl (spared_is gone b f m body false g e i)) (ih rs' c)

  part_alike : (ts : List Token) → ((st st' : State) → Rel gone b st st' → Alike ts st st')
      → (body : List ℕ) (o e : ℕ) {st st' : State} → Rel gone b st st' → (k : Role) → Alike (part k body b o e ∷ ts) st st'
  unfolding Alike join intact
  part_alike ts ih body o e both whole rs h = deliver_alike ts o rs (over p (length body)) body b 0 (omega arith) refl (ih _ _ both) h
  part_alike ts ih body o e both first rs h =
      carry_alike ts o rs (over p (length body)) (within body b) (within body b) (ih _ _ (live b 0 (omega arith) refl)) h
  part_alike ts ih body o e both middle rs h = broke ts o rs h
  part_alike ts ih body o e both last rs h = broke ts o rs h
  part_alike ts ih body o e skip whole rs h = deliver_alike ts o rs (over p (length body)) body b 0 (omega arith) refl (ih _ _ both) h
  part_alike ts ih body o e skip first rs h =
      carry_alike ts o rs (over p (length body)) (within body b) (within body b) (ih _ _ (live b 0 (omega arith) refl)) h
  part_alike ts ih body o e skip middle rs h = broke ts o rs h
  part_alike ts ih body o e skip last rs h = broke ts o rs h
  part_alike ts ih body o e (live f m q i) whole rs h = broke ts o rs h
  part_alike ts ih body o e (live f m q i) first rs h = broke ts o rs h
  part_alike ts ih body o e (live {acc = acc} f m q i) middle rs h =
      carry_alike ts o rs (over p (length (acc ++ body))) (within (acc ++ body) f) (within (acc ++ body) f) (ih _ _ (live f m q i)) h
  part_alike ts ih body o e (live {acc = acc} f m q i) last rs h =
      deliver_alike ts o rs (over p (length (acc ++ body))) (acc ++ body) f m q i (ih _ _ both) h
  part_alike ts ih body o e (dead f m q i) whole rs h = broke ts o rs h
  part_alike ts ih body o e (dead f m q i) first rs h = broke ts o rs h
  part_alike ts ih body o e (dead {acc = acc} f m q i) middle rs h =
      drop_middle ts o rs (over p (length (acc ++ body))) (within (acc ++ body) f) (ih _ _ (dead f m q i)) h
  part_alike ts ih body o e (dead {acc = acc} f m q i) last rs h =
      drop_last ts o rs (over p (length (acc ++ body))) (acc ++ body) f m q i (ih _ _ both) h

  -- a block that is not gone
  held_alike : ((st st' : State) → Rel gone b st st' → Alike [] st st') → (ts : List Token) → Every (At b) ts → {st st' : State} → Rel gone b st st' → Alike ts st st'
  unfolding Alike join
  held_alike last_of [] v r = last_of _ _ r
  held_alike last_of (part k body b' o e ∷ ts) v {st} {st'} r =
      subst (λ (x : ℕ). Alike (part k body x o e ∷ ts) st st') (sym v.0) (part_alike ts (λ st₁ st₂ r'. held_alike last_of ts v.1 r') body o e r k)
  held_alike last_of (bad b' o ∷ ts) v r = λ rs h. absurd (clean_no (refuse21 b' o) rs h)
  held_alike last_of (lost b' ∷ ts) v r = absurd v.0

-- ---- a block that is gone: the plain reader's way through it yields only records that end in it

-- a plain reader's state in block b: it has no mark, and a record that it is inside began in b or before
abbrev pub Begun : ℕ → State → Type 0
Begun b fresh = Unit {0}
Begun b marked = ⊥
Begun b (within acc f) = f ≤ b

abbrev pub BegunBy : ℕ → Move → Type 0
BegunBy b (deliver body f) = f ≤ b
BegunBy b (carry st) = Begun b st
BegunBy b breach = Unit {0}

pub meet_begun : (p : Params) (b : ℕ) (st : State) (k : Role) (body : List ℕ) → Begun b st → BegunBy b (meet p st k body b)
meet_begun p b fresh whole body h = cond_elim (BegunBy b) (over p (length body)) (λ _. tt) (λ _. le_refl b)
meet_begun p b fresh first body h = cond_elim (BegunBy b) (over p (length body)) (λ _. tt) (λ _. le_refl b)
meet_begun p b fresh middle body h = tt
meet_begun p b fresh last body h = tt
meet_begun p b marked k body h = absurd h
meet_begun p b (within acc f) whole body h = tt
meet_begun p b (within acc f) first body h = tt
meet_begun p b (within acc f) middle body h = cond_elim (BegunBy b) (over p (length (acc ++ body))) (λ _. tt) (λ _. h)
meet_begun p b (within acc f) last body h = cond_elim (BegunBy b) (over p (length (acc ++ body))) (λ _. tt) (λ _. h)

module _ (gone : ℕ → Bool) (p : Params) (b n : ℕ) (ms : List Token) (got : List Item) where
  Passed : List Token → State → Type 0
  Passed ts st = (rs : List FileRecord) → Clean (join plain p (ts ++ ms) st) rs → got ≡ remains gone (suc b) n rs ++ (end ∷ [])

  move_passed : (ts : List Token) (o : ℕ) (mv : Move) → BegunBy b mv → ((st : State) → Begun b st → Passed ts st) → (rs : List FileRecord)
      → Clean (join_move mv b o (λ st. join plain p (ts ++ ms) st)) rs → got ≡ remains gone (suc b) n rs ++ (end ∷ [])
  unfolding Passed
  move_passed ts o (deliver body f) w ih rs h =
      let r : FileRecord = record { body = body; first_block = f; last_block = b } in
      let (rs', q, c) = clean_rec r (join plain p (ts ++ ms) fresh) rs h in
      rw (q, remains_skip gone n (suc b) r rs' (le_refl (suc b))) (ih fresh tt rs' c)
  move_passed ts o (carry st) w ih rs h = ih st w rs h
  move_passed ts o breach w ih rs h = absurd (clean_no (refuse21 b o) rs h)

  gone_passed : ((st : State) → Begun b st → Passed [] st) → (ts : List Token) → Every (At b) ts → (st : State) → Begun b st → Passed ts st
  unfolding Passed join
  gone_passed last_of [] v st w = last_of st w
  gone_passed last_of (part k body b' o e ∷ ts) v st w =
      subst (λ (x : ℕ). Passed (part k body x o e ∷ ts) st) (sym v.0)
      (λ rs h. move_passed ts o (meet p st k body b) (meet_begun p b st k body w) (λ st₁ w₁. gone_passed last_of ts v.1 st₁ w₁) rs h)
  gone_passed last_of (bad b' o ∷ ts) v st w = λ rs h. absurd (clean_no (refuse21 b' o) rs h)
  gone_passed last_of (lost b' ∷ ts) v st w = absurd v.0

-- ---- the theorem

-- in F and V the mark makes no difference
whole_unmarked : (p : Params) (ts : List Token) → Every Whole ts → join salvage p ts fresh ≡ join salvage p ts marked
unfolding join
whole_unmarked p [] v = refl
whole_unmarked p (part whole body b o e ∷ ts) v = refl
whole_unmarked p (part first body b o e ∷ ts) v = absurd v.0
whole_unmarked p (part middle body b o e ∷ ts) v = absurd v.0
whole_unmarked p (part last body b o e ∷ ts) v = absurd v.0
whole_unmarked p (bad b o ∷ ts) v = refl
whole_unmarked p (lost b ∷ ts) v = refl

gap_marked : (p : Params) (f : Format) → p.format ≡ f → (b : ℕ) (xs : List Block)
    → join salvage p (in_blocks p b xs) (state_after_gap f) ≡ join salvage p (in_blocks p b xs) marked
gap_marked p fixed e b xs = whole_unmarked p (in_blocks p b xs) (blocks_whole p (rw e tt) b xs)
gap_marked p variable e b xs = whole_unmarked p (in_blocks p b xs) (blocks_whole p (rw e tt) b xs)
gap_marked p spanned e b xs = refl

rel_gone : (gone : ℕ → Bool) (b : ℕ) → gone b ≡ true → (st : State) → Begun b st → Rel gone (suc b) st marked
unfolding intact
rel_gone gone b g fresh w = skip
rel_gone gone b g marked w = absurd w
rel_gone gone b g (within acc f) w =
    let e : b ≡ f + (b - f) = omega arith in
    dead f (suc (b - f)) (omega arith) (rw (← e, g) (and-false (intact gone f (b - f))))

rel_begun : (gone : ℕ → Bool) (b : ℕ) {st st' : State} → Rel gone b st st' → Begun b st
rel_begun gone b both = tt
rel_begun gone b skip = tt
rel_begun gone b (live f n e i) = omega arith
rel_begun gone b (dead f n e i) = omega arith

ended_alike : (gone : ℕ → Bool) (b : ℕ) {st st' : State} → Rel gone b st st' → join_end st ≡ end → join_end st' ≡ end
ended_alike gone b both e = refl
ended_alike gone b skip e = refl
ended_alike gone b (live f n q i) e = e
ended_alike gone b (dead f n q i) e = refl

Thus : (ℕ → Bool) → Params → List Block → Type 0
Thus gone p xs = (b : ℕ) (st st' : State) → Rel gone b st st' → (rs : List FileRecord) → Clean (join plain p (in_blocks p b xs) st) rs
    → join salvage p (in_blocks p b (damage gone b xs)) st' ≡ remains gone b (length xs) rs ++ (end ∷ [])

block_thus : (gone : ℕ → Bool) (p : Params) (c : List ℕ) (xs : List Block) → Thus gone p xs → (t : Bool) → (b : ℕ) → gone b ≡ t
    → (st st' : State) → Rel gone b st st' → (rs : List FileRecord) → Clean (join plain p (in_blocks p b (held c ∷ xs)) st) rs
    → join salvage p (in_blocks p b (damage gone b (held c ∷ xs))) st' ≡ remains gone b (suc (length xs)) rs ++ (end ∷ [])
unfolding Thus Alike Passed join damage remains in_blocks in_block
block_thus gone p c xs ih true b g st st' r rs h =
    let ms : List Token = in_blocks p (suc b) xs in
    let got : List Item = join salvage p (in_blocks p (suc b) (damage gone (suc b) xs)) marked in
    rw g
    (ap (λ (is : List Item). gap b ∷ is)
    (gap_marked p p.format refl (suc b) (damage gone (suc b) xs)
    ∙ gone_passed gone p b (length xs) ms got (λ st₁ w rs₁ h₁. ih (suc b) st₁ marked (rel_gone gone b g st₁ w) rs₁ h₁)
    (pieces p b 0 c) (pieces_at p b 0 c) st (rel_begun gone b r) rs h))
block_thus gone p c xs ih false b g st st' r rs h =
    let ms : List Token = in_blocks p (suc b) xs in
    rw g
    (held_alike gone p b (length xs) g ms (in_blocks p (suc b) (damage gone (suc b) xs))
    (λ st₁ st₂ r₁ rs₁ h₁.
    rw (none_ending gone b rs₁ (tokens_end p (suc b) ms (blocks_from p (suc b) (suc b) xs (le_refl (suc b))) st₁ rs₁ h₁)) (ih (suc b) st₁ st₂ (rel_next gone b g r₁) rs₁ h₁))
    (pieces p b 0 c) (pieces_at p b 0 c) r rs h)

blocks_thus : (gone : ℕ → Bool) (p : Params) (xs : List Block) → Thus gone p xs
unfolding Thus join in_blocks in_block remains damage
blocks_thus gone p [] b st st' r rs h = let (q, e) = clean_end st rs h in rw (ended_alike gone b r e)
blocks_thus gone p (lost_block sz ∷ xs) b st st' r rs h = absurd (clean_no (refuse20 b) rs h)
blocks_thus gone p (held c ∷ xs) b st st' r rs h = block_thus gone p c xs (blocks_thus gone p xs) (gone b) b refl st st' r rs h

pub salvage_theorem : SalvageTheorem
unfolding SalvageTheorem Thus listed damaged
salvage_theorem gone f rs h =
    read_all_listed salvage (damaged gone f) ∙ blocks_thus gone f.params f.blocks 0 fresh fresh both rs (sym (read_all_listed plain f) ∙ h)
