-- The salvage theorem seen twice more plainly: the records alone are the spared ones, in order; the gaps alone are the lost blocks, in order.
-- Assumes nothing.
use Prim.Native.Nat.{ℕ, zero, suc, ◌+◌, ◌-◌, ◌≤◌, ◌<◌}
use Rattle.std.specs.Prelude.{◌≡◌, Bool, cond, ◌&&◌, ◌≢◌, length}
use Rattle.std.proofs.Math.Path.{refl}
use Rattle.std.proofs.Common.{sym, ap, ◌∙◌, le_refl}
use Rattle.std.proofs.Math.Bool.{true, false, and-false}
use mathlib.Core.List.{List, [], ◌∷◌, ◌++◌, append-nil}
use Rattle.std.proofs.Math.Dec.{eqb}
use native.Mathlib.Omega.{arith}
use borrow.Author.Tests.{eqb-false, eqb-true}
use Rattle.standard.specs.Pieces.{Block, lost_block, held, Token, part, bad, lost, pieces, in_block, in_blocks}
use Rattle.standard.specs.Records.{plain, salvage, File, FileRecord, State, fresh, marked, within, Move, deliver, carry, breach, meet, refuse20, refuse21}
use Rattle.standard.specs.Listed.{Item, rec, gap, end, no, read_all, join_move, join, listed}
use Rattle.standard.specs.Damage.{damaged, intact, spared, ending_in, remains, records_in, gaps_in, spared_of, gone_of}
use Rattle.standard.specs.Labels.{Params}
use Rattle.promises.specs.Ground.Basics.{cond_elim}
use Rattle.promises.specs.Ground.Lists.{Every}
use Rattle.promises.specs.Reading.Tokens.{At, pieces_at}
use Rattle.promises.specs.Reading.ReadingLaws.{read_all_listed, Clean}
use Rattle.promises.specs.Salvage.SalvageLaws.{SalvageTheorem, clean_no, clean_rec, clean_end, ending_in_skip, remains_skip, Begun, BegunBy, meet_begun, salvage_theorem}

records_in_append : (is js : List Item) → records_in (is ++ js) ≡ records_in is ++ records_in js
unfolding records_in
records_in_append [] js = refl
records_in_append (rec r ∷ is) js = ap (λ (rs : List FileRecord). r ∷ rs) (records_in_append is js)
records_in_append (gap b ∷ is) js = records_in_append is js
records_in_append (end ∷ is) js = records_in_append is js
records_in_append (no x ∷ is) js = records_in_append is js

gaps_in_append : (is js : List Item) → gaps_in (is ++ js) ≡ gaps_in is ++ gaps_in js
unfolding gaps_in
gaps_in_append [] js = refl
gaps_in_append (rec r ∷ is) js = gaps_in_append is js
gaps_in_append (gap b ∷ is) js = ap (λ (bs : List ℕ). b ∷ bs) (gaps_in_append is js)
gaps_in_append (end ∷ is) js = gaps_in_append is js
gaps_in_append (no x ∷ is) js = gaps_in_append is js

-- ---- the gaps

gaps_ending : (gone : ℕ → Bool) (b : ℕ) (rs : List FileRecord) → gaps_in (ending_in gone b rs) ≡ []
unfolding gaps_in ending_in
gaps_ending gone b [] = refl
gaps_ending gone b (r ∷ rs) = cond_elim (λ (is : List Item). gaps_in is ≡ []) (eqb r.last_block b && spared gone r) (λ _. gaps_ending gone b rs) (λ _. gaps_ending gone b rs)

gaps_remain : (gone : ℕ → Bool) (n b : ℕ) (rs : List FileRecord) → gaps_in (remains gone b n rs) ≡ gone_of gone b n
unfolding gaps_in remains gone_of
gaps_remain gone zero b rs = refl
gaps_remain gone (suc n) b rs = go (gone b) (gaps_remain gone n (suc b) rs)
  where
    go : (t : Bool) → gaps_in (remains gone (suc b) n rs) ≡ gone_of gone (suc b) n
        → gaps_in (cond t (gap b ∷ []) (ending_in gone b rs) ++ remains gone (suc b) n rs) ≡ cond t (b ∷ gone_of gone (suc b) n) (gone_of gone (suc b) n)
    go true h = ap (λ (bs : List ℕ). b ∷ bs) h
    go false h = gaps_in_append (ending_in gone b rs) (remains gone (suc b) n rs) ∙ rw (gaps_ending gone b rs) h

pub salvage_gaps : (gone : ℕ → Bool) (f : File) (rs : List FileRecord) → Clean (read_all plain f) rs
    → gaps_in (read_all salvage (damaged gone f)) ≡ gone_of gone 0 (length f.blocks)
unfolding SalvageTheorem gaps_in
salvage_gaps gone f rs h =
    ap gaps_in (salvage_theorem gone f rs h) ∙ gaps_in_append (remains gone 0 (length f.blocks) rs) (end ∷ []) ∙ append-nil (gaps_in (remains gone 0 (length f.blocks) rs)) ∙ gaps_remain gone (length f.blocks) 0 rs

-- ---- the records: they lie in order of their last blocks, all below `top`, and each ends where it began or behind that

abbrev Rising : ℕ → ℕ → List Token → Type 0
Rising top a [] = Unit {0}
Rising top a (part k body b o e ∷ ts) = (a ≤ b) × (b < top) × Rising top b ts
Rising top a (bad b o ∷ ts) = Rising top a ts
Rising top a (lost b ∷ ts) = Rising top a ts

rising_mono : (top a b : ℕ) (ts : List Token) → a ≤ b → Rising top b ts → Rising top a ts
rising_mono top a b [] h v = tt
rising_mono top a b (part k body b' o e ∷ ts) h v = (omega (arith, v.0), v.1, v.2)
rising_mono top a b (bad b' o ∷ ts) h v = rising_mono top a b ts h v
rising_mono top a b (lost b' ∷ ts) h v = rising_mono top a b ts h v

rising_append : (top a b : ℕ) (ts us : List Token) → Every (At b) ts → a ≤ b → b < top → Rising top b us → Rising top a (ts ++ us)
rising_append top a b [] us v h l w = rising_mono top a b us h w
rising_append top a b (part k body b' o e ∷ ts) us v h l w = (omega (arith, v.0), omega (arith, v.0), rising_append top b' b ts us v.1 (omega (arith, v.0)) l w)
rising_append top a b (bad b' o ∷ ts) us v h l w = rising_append top a b ts us v.1 h l w
rising_append top a b (lost b' ∷ ts) us v h l w = absurd v.0

blocks_rising : (p : Params) (top a b : ℕ) (xs : List Block) → a ≤ b → b + length xs ≤ top → Rising top a (in_blocks p b xs)
unfolding in_blocks in_block
blocks_rising p top a b [] h l = tt
blocks_rising p top a b (lost_block sz ∷ xs) h l = blocks_rising p top a (suc b) xs (omega arith) (omega arith)
blocks_rising p top a b (held c ∷ xs) h l =
    rising_append top a b (pieces p b 0 c) (in_blocks p (suc b) xs) (pieces_at p b 0 c) h (omega arith) (blocks_rising p top b (suc b) xs (omega arith) (omega arith))

abbrev Asc : ℕ → ℕ → List FileRecord → Type 0
Asc top a [] = Unit {0}
Asc top a (r ∷ rs) = (a ≤ r.last_block) × (r.last_block < top) × (r.first_block ≤ r.last_block) × Asc top r.last_block rs

asc_mono : (top a b : ℕ) (rs : List FileRecord) → a ≤ b → Asc top b rs → Asc top a rs
asc_mono top a b [] h v = tt
asc_mono top a b (r ∷ rs) h v = (omega (arith, v.0), v.1, v.2, v.3)

begun_mono : (a b : ℕ) (st : State) → a ≤ b → Begun a st → Begun b st
begun_mono a b fresh h w = tt
begun_mono a b marked h w = w
begun_mono a b (within acc f) h w = omega arith

asc_move : (top a b o : ℕ) (mv : Move) (more : State → List Item) (rs : List FileRecord) → a ≤ b → b < top → BegunBy b mv
    → ((st : State) (rs' : List FileRecord) → Begun b st → Clean (more st) rs' → Asc top b rs') → Clean (join_move mv b o more) rs → Asc top a rs
asc_move top a b o (deliver body f) more rs h l w ih c =
    let (rs', q, c') = clean_rec (record { body = body; first_block = f; last_block = b }) (more fresh) rs c in
    rw q (h, l, w, ih fresh rs' tt c')
asc_move top a b o (carry st) more rs h l w ih c = asc_mono top a b rs h (ih st rs w c)
asc_move top a b o breach more rs h l w ih c = absurd (clean_no (refuse21 b o) rs c)

asc_of : (p : Params) (top a : ℕ) (ts : List Token) → Rising top a ts → (st : State) (rs : List FileRecord) → Begun a st → Clean (join plain p ts st) rs → Asc top a rs
unfolding join
asc_of p top a [] v st rs w c = rw (clean_end st rs c).0 tt
asc_of p top a (part k body b o e ∷ ts) v st rs w c =
    asc_move top a b o (meet p st k body b) (λ st'. join plain p ts st') rs v.0 v.1 (meet_begun p b st k body (begun_mono a b st v.0 w))
    (λ st' rs' w' c'. asc_of p top b ts v.2 st' rs' w' c') c
asc_of p top a (bad b o ∷ ts) v st rs w c = absurd (clean_no (refuse21 b o) rs c)
asc_of p top a (lost b ∷ ts) v st rs w c = absurd (clean_no (refuse20 b) rs c)

module _ (gone : ℕ → Bool) where
  spared_gone : (r : FileRecord) → r.first_block ≤ r.last_block → gone r.last_block ≡ true → spared gone r ≡ false
  unfolding spared intact
  spared_gone r h g =
      let n : ℕ = r.last_block - r.first_block in
      let e : suc r.last_block - r.first_block ≡ suc n = omega arith in
      let e' : r.first_block + n ≡ r.last_block = omega arith in
      rw (e, e', g) (and-false (intact gone r.first_block n))

  asc_ending : (top a b : ℕ) (rs : List FileRecord) → b < a → Asc top a rs → ending_in gone b rs ≡ []
  unfolding ending_in
  asc_ending top a b [] h v = refl
  asc_ending top a b (r ∷ rs) h v =
      ending_in_skip gone b r rs (λ q. omega (arith, v.0)) ∙ asc_ending top r.last_block b rs (omega (arith, v.0)) v.3

  -- one block
  Shows : ℕ → ℕ → List FileRecord → Type 0
  Shows a n rs = records_in (remains gone a n rs) ≡ spared_of gone rs

  here_gone : (top a n : ℕ) → gone a ≡ true → ((rs : List FileRecord) → Asc top (suc a) rs → Shows (suc a) n rs) → (rs : List FileRecord) → Asc top a rs → Shows (suc a) n rs
  unfolding Shows spared_of
  here_gone top a n g ih [] v = ih [] tt
  here_gone top a n g ih (r ∷ rs) v = go (eqb r.last_block a) refl (λ w. here_gone top a n g ih rs w)
    where
      go : (t : Bool) → eqb r.last_block a ≡ t → (Asc top a rs → Shows (suc a) n rs) → Shows (suc a) n (r ∷ rs)
      go true q k =
          let e : r.last_block ≡ a = eqb-true r.last_block a q in
          rw (remains_skip gone n (suc a) r rs (omega arith), spared_gone r v.2 (ap gone e ∙ g)) (k (rw e at v.3))
      go false q k = let ne : r.last_block ≢ a = eqb-false r.last_block a q in ih (r ∷ rs) (omega (arith, v.0), v.1, v.2, v.3)

  here_held : (top a n : ℕ) → ((rs : List FileRecord) → Asc top (suc a) rs → Shows (suc a) n rs) → (rs : List FileRecord) → Asc top a rs
      → records_in (ending_in gone a rs ++ remains gone (suc a) n rs) ≡ spared_of gone rs
  unfolding Shows spared_of ending_in records_in
  here_held top a n ih [] v = ih [] tt
  here_held top a n ih (r ∷ rs) v = go (eqb r.last_block a) (spared gone r) refl refl (λ w. here_held top a n ih rs w)
    where
      go : (t s : Bool) → eqb r.last_block a ≡ t → spared gone r ≡ s → (Asc top a rs → records_in (ending_in gone a rs ++ remains gone (suc a) n rs) ≡ spared_of gone rs)
          → records_in (ending_in gone a (r ∷ rs) ++ remains gone (suc a) n (r ∷ rs)) ≡ spared_of gone (r ∷ rs)
      go true true q u k =
          let e : r.last_block ≡ a = eqb-true r.last_block a q in
          rw (remains_skip gone n (suc a) r rs (omega arith), q, u) (ap (λ (l : List FileRecord). r ∷ l) (k (rw e at v.3)))
      go true false q u k =
          let e : r.last_block ≡ a = eqb-true r.last_block a q in
          rw (remains_skip gone n (suc a) r rs (omega arith), q, u) (k (rw e at v.3))
      go false s q u k =
          let ne : r.last_block ≢ a = eqb-false r.last_block a q in
          let w : Asc top (suc a) (r ∷ rs) = (omega (arith, v.0), v.1, v.2, v.3) in
          rw (asc_ending top (suc a) a (r ∷ rs) (le_refl (suc a)) w) (ih (r ∷ rs) w)

  records_remain : (n top a : ℕ) (rs : List FileRecord) → top ≡ a + n → Asc top a rs → Shows a n rs
  unfolding Shows remains records_in spared_of
  records_remain zero top a [] q v = refl
  records_remain zero top a (r ∷ rs) q v = absurd (omega (arith, v.0, v.1))
  records_remain (suc n) top a rs q v = go (gone a) refl (λ rs' w. records_remain n top (suc a) rs' (omega arith) w)
    where
      go : (t : Bool) → gone a ≡ t → ((rs' : List FileRecord) → Asc top (suc a) rs' → Shows (suc a) n rs') → Shows a (suc n) rs
      go true e ih = rw e (here_gone top a n e ih rs v)
      go false e ih = rw e (here_held top a n ih rs v)

pub salvage_records : (gone : ℕ → Bool) (f : File) (rs : List FileRecord) → Clean (read_all plain f) rs
    → records_in (read_all salvage (damaged gone f)) ≡ spared_of gone rs
unfolding SalvageTheorem records_in listed Shows
salvage_records gone f rs h =
    let n : ℕ = length f.blocks in
    let c : Clean (join plain f.params (in_blocks f.params 0 f.blocks) fresh) rs = sym (read_all_listed plain f) ∙ h in
    ap records_in (salvage_theorem gone f rs h)
    ∙ records_in_append (remains gone 0 n rs) (end ∷ [])
    ∙ append-nil (records_in (remains gone 0 n rs))
    ∙ records_remain gone n n 0 rs (omega arith)
    (asc_of f.params n 0 (in_blocks f.params 0 f.blocks) (blocks_rising f.params n 0 0 f.blocks (le_refl 0) (omega arith)) fresh rs tt c)
