-- PLAIN READING OF A FAILED IMAGE: the records that ended before the first lost block, and then refusal 20.
-- Assumes nothing.
use Rattle.std.specs.Prelude.{ℕ, zero, suc, ◌+◌, ◌≤◌, ◌<◌, ◌≡◌, refl, Bool, true, false, cond, ◌⊎◌, length, take, ltb, Ok}
use Rattle.std.proofs.Common.{sym, ap, subst, ◌∙◌, inl, inr, le_refl, lt-ltb, le-ltb}
use mathlib.Core.List.{List, [], ◌∷◌, ◌++◌, map}
use native.Mathlib.Omega.{arith}
use Rattle.standard.specs.Layout.{label_at}
use Rattle.standard.specs.Pieces.{Block, lost_block, held, Token, part, bad, lost, pieces, in_block, in_blocks}
use Rattle.standard.specs.Records.{plain, File, FileRecord, State, fresh, Move, deliver, carry, breach, meet, refuse20, refuse21}
use Rattle.standard.specs.Listed.{Item, rec, no, end, read_all, join_move, join, listed}
use Rattle.standard.specs.Places.{start}
use Rattle.standard.specs.Judgement.{judged}
use Rattle.standard.specs.Files.{block_count, file_in}
use Rattle.standard.specs.Damage.{damage, damaged}
use Rattle.standard.specs.Labels.{Params}
use Rattle.standard.specs.declared.Geometry.{Geometry}
use Rattle.promises.specs.Ground.Basics.{either, lt_or_le}
use Rattle.promises.specs.Reading.ReadingLaws.{read_all_listed, Clean, body_of}
use Rattle.promises.specs.Ground.Lists.{Every}
use Rattle.promises.specs.Reading.Tokens.{At, pieces_at, blocks_from}
use Rattle.promises.specs.Salvage.SalvageLaws.{clean_no, clean_rec, EndFrom, tokens_end}
use Rattle.promises.specs.Reading.Following.{following, heard, Fits}
use Rattle.promises.specs.Salvage.Failing.{Failed, Spares, gone, ReadsWhole, Salvaged}
use Rattle.promises.proofs.Reading.FollowingLaws.{following_listed}
use Rattle.promises.proofs.Salvage.SalvageImage.{file_count}
use Rattle.promises.specs.Promises.{SalvageAnyPromise}
use Rattle.promises.proofs.Promises.{salvage_any_promise}

-- of n blocks, b is the first that is gone
pub record FirstGone (gone : ℕ → Bool) (n b : ℕ) : Type 0 where
  pub inside : b < n
  pub taken : gone b ≡ true
  pub kept : (a : ℕ) → a < b → gone a ≡ false

-- none of n blocks is gone
abbrev pub NoneGone : (ℕ → Bool) → ℕ → Type 0
NoneGone gone n = (a : ℕ) → a < n → gone a ≡ false

-- the records whose last block is below b, in order. A record begun before b and not ended before b is not among them.
unfoldable pub ended_before : ℕ → List FileRecord → List FileRecord
ended_before b [] = []
ended_before b (r ∷ rs) = cond (ltb r.last_block b) (r ∷ ended_before b rs) (ended_before b rs)

-- 20 "plain reading meets a lost block", block: what is read up to there, and the refusal
abbrev pub cut_at : ℕ → List FileRecord → List Item
cut_at b rs = map rec (ended_before b rs) ++ (no (refuse20 b) ∷ [])

-- in every case there is a first block that is gone, or none
pub first_or_none : (gone : ℕ → Bool) (n : ℕ) → NoneGone gone n ⊎ ((b : ℕ) × FirstGone gone n b)
first_or_none gone zero = inl (λ a l. absurd (omega (arith, l)))
first_or_none gone (suc n) =
    either (first_or_none gone n)
    (λ (none : NoneGone gone n). go (gone n) refl none)
    (λ (f : (b : ℕ) × FirstGone gone n b). inr (f.0, record { inside = omega (arith, f.1.inside); taken = f.1.taken; kept = f.1.kept }))
  where
    go : (t : Bool) → gone n ≡ t → NoneGone gone n → NoneGone gone (suc n) ⊎ ((b : ℕ) × FirstGone gone (suc n) b)
    go true e none = inr (n, record { inside = le_refl (suc n); taken = e; kept = none })
    go false e none =
        inl (λ a l. either (lt_or_le a n) (λ (k : a < n). none a k) (λ (k : n ≤ a). let q : a ≡ n = omega arith in ap gone q ∙ e))

-- ---- the records of the blocks before b, and of those from b on
ended_in : (b : ℕ) (r : FileRecord) (rs : List FileRecord) → r.last_block < b → ended_before b (r ∷ rs) ≡ r ∷ ended_before b rs
unfolding ended_before
ended_in b r rs h = rw (lt-ltb r.last_block b h)

ended_out : (b : ℕ) (r : FileRecord) (rs : List FileRecord) → b ≤ r.last_block → ended_before b (r ∷ rs) ≡ ended_before b rs
unfolding ended_before
ended_out b r rs h = rw (le-ltb r.last_block b h)

none_ended : (b : ℕ) (rs : List FileRecord) → EndFrom b rs → ended_before b rs ≡ []
unfolding ended_before
none_ended b [] v = refl
none_ended b (r ∷ rs) v = ended_out b r rs v.0 ∙ none_ended b rs v.1

-- ---- a block before the first one gone: both readers go through it alike
module _ (p : Params) (a b : ℕ) (l : a < b) (ms ms' : List Token)
    (later : (st : State) (rs : List FileRecord) → Clean (join plain p ms st) rs → join plain p ms' st ≡ cut_at b rs) where
  move_cut : (ts : List Token) (o : ℕ) (mv : Move)
      → ((st : State) (rs : List FileRecord) → Clean (join plain p (ts ++ ms) st) rs → join plain p (ts ++ ms') st ≡ cut_at b rs)
      → (rs : List FileRecord) → Clean (join_move mv a o (λ st. join plain p (ts ++ ms) st)) rs → join_move mv a o (λ st. join plain p (ts ++ ms') st) ≡ cut_at b rs
  move_cut ts o (deliver body f) ih rs h =
      let r : FileRecord = record { body = body; first_block = f; last_block = a } in
      let (rs', e, c) = clean_rec r (join plain p (ts ++ ms) fresh) rs h in
      ap (λ (is : List Item). rec r ∷ is) (ih fresh rs' c)
      ∙ ap (λ (x : List FileRecord). map rec x ++ (no (refuse20 b) ∷ [])) (sym (ap (ended_before b) e ∙ ended_in b r rs' l))
  move_cut ts o (carry st) ih rs h = ih st rs h
  move_cut ts o breach ih rs h = absurd (clean_no (refuse21 a o) rs h)

  held_cut : (ts : List Token) → Every (At a) ts → (st : State) (rs : List FileRecord) → Clean (join plain p (ts ++ ms) st) rs → join plain p (ts ++ ms') st ≡ cut_at b rs
  unfolding join
  held_cut [] v st rs h = later st rs h
  held_cut (part k body b' o e ∷ ts) v st rs h =
      let q : b' ≡ a = v.0 in
      let step : Clean (join_move (meet p st k body a) a o (λ st'. join plain p (ts ++ ms) st')) rs = rw q at h in
      rw q (move_cut ts o (meet p st k body a) (λ st' rs' c. held_cut ts v.1 st' rs' c) rs step)
  held_cut (bad b' o ∷ ts) v st rs h = absurd (clean_no (refuse21 b' o) rs h)
  held_cut (lost b' ∷ ts) v st rs h = absurd v.0

-- ---- the blocks
module _ (gone : ℕ → Bool) (p : Params) (b : ℕ) (taken : gone b ≡ true) (kept : (a : ℕ) → a < b → gone a ≡ false) where
  blocks_cut : (xs : List Block) (a : ℕ) → a ≤ b → b < a + length xs → (st : State) (rs : List FileRecord) → Clean (join plain p (in_blocks p a xs) st) rs
      → join plain p (in_blocks p a (damage gone a xs)) st ≡ cut_at b rs
  unfolding join in_blocks in_block damage
  blocks_cut [] a lo hi st rs h = absurd (omega arith)
  blocks_cut (lost_block sz ∷ xs) a lo hi st rs h = absurd (clean_no (refuse20 a) rs h)
  blocks_cut (held c ∷ xs) a lo hi st rs h =
      either (lt_or_le a b)
      (λ (l : a < b).
      rw (kept a l)
      (held_cut p a b l (in_blocks p (suc a) xs) (in_blocks p (suc a) (damage gone (suc a) xs))
      (λ st' rs' c. blocks_cut xs (suc a) l (omega arith) st' rs' c) (pieces p a 0 c) (pieces_at p a 0 c) st rs h))
      (λ (l : b ≤ a).
      let e : a ≡ b = omega arith in
      let none : ended_before b rs ≡ [] = none_ended b rs (tokens_end p b (in_blocks p a (held c ∷ xs)) (blocks_from p b a (held c ∷ xs) l) st rs h) in
      rw (ap gone e ∙ taken, none, e))

-- where no block is gone the file is as it was
blocks_kept : (gone : ℕ → Bool) (xs : List Block) (a : ℕ) → ((b : ℕ) → a ≤ b → b < a + length xs → gone b ≡ false) → damage gone a xs ≡ xs
unfolding damage
blocks_kept gone [] a h = refl
blocks_kept gone (x ∷ xs) a h = rw (h a (le_refl a) (omega arith), blocks_kept gone xs (suc a) (λ b lo hi. h b (omega arith) (omega arith)))

-- AT THE FILE. A file is read whole, plainly; then blocks are gone, b the first of them. Plain reading gives the records that ended before b, in order,
-- and then refusal 20 naming b.
pub plain_cut : (gone : ℕ → Bool) (f : File) (rs : List FileRecord) (b : ℕ) → Clean (read_all plain f) rs → FirstGone gone (length f.blocks) b
    → listed plain (damaged gone f) ≡ map rec (ended_before b rs) ++ (no (refuse20 b) ∷ [])
unfolding listed damaged
plain_cut gone f rs b h first =
    blocks_cut gone f.params b first.taken first.kept f.blocks 0 (omega arith) (omega (arith, first.inside)) fresh rs (sym (read_all_listed plain f) ∙ h)

pub none_damaged : (gone : ℕ → Bool) (f : File) → NoneGone gone (length f.blocks) → damaged gone f ≡ f
unfolding damaged
none_damaged gone f h = rw (blocks_kept gone f.blocks 0 (λ b lo hi. h b (omega arith)))

-- ---- AT THE IMAGE

-- room for all records is room for those that ended before b
fits_cut : (room b : ℕ) (rs : List FileRecord) → Fits room (map rec rs) → Fits room (cut_at b rs)
unfolding ended_before
fits_cut room b [] f = tt
fits_cut room b (r ∷ rs) f = go (ltb r.last_block b) (fits_cut room b rs f.1)
  where
    go : (t : Bool) → Fits room (cut_at b rs) → Fits room (map rec (cond t (r ∷ ended_before b rs) (ended_before b rs)) ++ (no (refuse20 b) ∷ []))
    go true h = (f.0, h)
    go false h = h

-- What plain reading of the file in a slot gives after the failure, of which b is the first block that is gone; rs are its records before.
pub record ReadUpTo (g : Geometry) (image' : List ℕ) (slot b : ℕ) (rs : List FileRecord) : Type 0 where
  -- its list: the records that ended before b, in order, and then 20
  pub list : listed plain (file_in g image' (label_at g image' slot)) ≡ map rec (ended_before b rs) ++ (no (refuse20 b) ∷ [])
  -- n readings from Start, into an output with room for every record, are heard as the first n of the list
  pub answers : (n : ℕ) (out : List ℕ) → Fits (length out) (map rec rs)
      → following n plain image' slot out start ≡ take n (map heard (map rec (ended_before b rs) ++ (no (refuse20 b) ∷ [])))

-- The same where no block is gone: its records, and End, as before.
pub record ReadAsBefore (g : Geometry) (image' : List ℕ) (slot : ℕ) (rs : List FileRecord) : Type 0 where
  pub list : listed plain (file_in g image' (label_at g image' slot)) ≡ map rec rs ++ (end ∷ [])
  pub answers : (n : ℕ) (out : List ℕ) → Fits (length out) (map rec rs)
      → following n plain image' slot out start ≡ take n (map heard (map rec rs ++ (end ∷ [])))

fits_end : (room : ℕ) (rs : List FileRecord) → Fits room (map rec rs) → Fits room (map rec rs ++ (end ∷ []))
fits_end room [] f = tt
fits_end room (r ∷ rs) f = (f.0, fits_end room rs f.1)

module _ (image image' : List ℕ) (g : Geometry) (slot : ℕ) (hit : ℕ → Bool) (rs : List FileRecord) (s : Salvaged g hit image image' slot rs) where
  abbrev the_file : File
  the_file = file_in g image (label_at g image slot)

  abbrev gone_now : ℕ → Bool
  gone_now = gone g hit image (label_at g image slot)

  -- what is listed is heard
  hears : (is : List Item) → listed plain (file_in g image' (label_at g image' slot)) ≡ is → (n : ℕ) (out : List ℕ) → Fits (length out) is
      → following n plain image' slot out start ≡ take n (map heard is)
  hears is e n out k =
      following_listed image' g slot s.volume s.opens plain n out (subst (Fits (length out)) (sym e) k) ∙ ap (λ (l : List Item). take n (map heard l)) e

  cut_list : (b : ℕ) → FirstGone gone_now (block_count g image (label_at g image slot)) b
      → listed plain (file_in g image' (label_at g image' slot)) ≡ cut_at b rs
  cut_list b first =
      ap (listed plain) s.file
      ∙ plain_cut gone_now the_file rs b (read_all_listed plain the_file ∙ s.before) (subst (λ (n : ℕ). FirstGone gone_now n b) (sym (file_count g image (label_at g image slot))) first)

  kept_list : NoneGone gone_now (block_count g image (label_at g image slot)) → listed plain (file_in g image' (label_at g image' slot)) ≡ map rec rs ++ (end ∷ [])
  kept_list none =
      ap (listed plain) (s.file ∙ none_damaged gone_now the_file (subst (λ (n : ℕ). NoneGone gone_now n) (sym (file_count g image (label_at g image slot))) none)) ∙ s.before

  pub plain_up_to : (b : ℕ) → FirstGone gone_now (block_count g image (label_at g image slot)) b → ReadUpTo g image' slot b rs
  plain_up_to b first =
      record {
        list = cut_list b first;
        answers = λ n out k. hears (cut_at b rs) (cut_list b first) n out (fits_cut (length out) b rs k);
      }

  pub plain_as_before : NoneGone gone_now (block_count g image (label_at g image slot)) → ReadAsBefore g image' slot rs
  plain_as_before none =
      record {
        list = kept_list none;
        answers = λ n out k. hears (map rec rs ++ (end ∷ [])) (kept_list none) n out (fits_end (length out) rs k);
      }

-- What a plain reader is promised of the file in a slot after the failure, of which rs is the list before it, each record with the blocks in which it
-- begins and ends: the records up to the first block that is gone, or all of them. (`first_or_none`: one of the two is the case.)
abbrev pub PlainlyRead : Geometry → (ℕ → Bool) → List ℕ → List ℕ → ℕ → List FileRecord → Type 0
PlainlyRead g hit image image' slot rs =
    (listed plain (file_in g image (label_at g image slot)) ≡ map rec rs ++ (end ∷ []))
    × ((b : ℕ) → FirstGone (gone g hit image (label_at g image slot)) (block_count g image (label_at g image slot)) b → ReadUpTo g image' slot b rs)
    × (NoneGone (gone g hit image (label_at g image slot)) (block_count g image (label_at g image slot)) → ReadAsBefore g image' slot rs)

-- A file is read whole, plainly; then any sectors behind the index cylinder fail, other files' too, but no record of this file's extent that is not good.
unfoldable pub PlainFailedAnyPromise : Type 0
PlainFailedAnyPromise = (image image' : List ℕ) (g : Geometry) (slot : ℕ) (bodies : List (List ℕ)) (hit : ℕ → Bool)
    → judged image ≡ Ok g → ReadsWhole image slot bodies
    → Failed g hit image image' → Spares g hit image (label_at g image slot)
    → (rs : List FileRecord) × (map body_of rs ≡ bodies) × PlainlyRead g hit image image' slot rs

pub plain_failed_any_promise : PlainFailedAnyPromise
unfolding PlainFailedAnyPromise SalvageAnyPromise
plain_failed_any_promise image image' g slot bodies hit j w fail k =
    let (rs, same, s) = salvage_any_promise image image' g slot bodies hit j w fail k in
    (rs, same, (s.before, plain_up_to image image' g slot hit rs s, plain_as_before image image' g slot hit rs s))
