-- Each place that a reading hands out is in the file: a caller that goes on from it never meets refusal 19.
-- Assumes nothing.
use Prim.Native.Nat.{ℕ, zero, suc, ◌+◌, ◌-◌, ◌≤◌, ◌<◌}
use Rattle.std.specs.Prelude.{◌≡◌, refl, Bool, true, false, ◌&&◌, length, get_or, drop, leb, ltb}
use Rattle.std.proofs.Common.{sym, ap, ◌∙◌, length-drop, drop-drop, get_or-drop, arith, lt-ltb, le-leb, eq-eqb, ltb-false, leb-true, ltb-true}
use mathlib.Core.List.{List, [], ◌∷◌}
use Rattle.std.proofs.Math.Nat.{zero-mod, add-mod_right}
use Rattle.standard.specs.Records.{Mode, plain, salvage, File, FileRecord, refuse20, refuse21, refuse22, Met, took, gapped, ended, refused, State, fresh, marked, within, Move, deliver, carry, breach, meet, at_lost, after_move, first_met, entering, step, aligned, in_file}
use Rattle.standard.specs.Places.{start}
use Rattle.standard.specs.Pieces.{Block, lost_block, held, size_of, Role, Piece, blank, broken, piece, look_f, look_in, look, Token, part, bad, lost, tokens_at, pieces, in_block, in_blocks, from_tail, ahead}
use Rattle.standard.specs.Labels.{Format, fixed, variable, spanned, Params}
use Rattle.standard.specs.declared.Place.{Place}
use Rattle.standard.specs.declared.Refusal.{Refusal}
use Rattle.promises.specs.Ground.Basics.{cond_elim, and_l, and_r}
use Rattle.promises.specs.Ground.Lists.{Every, every_append}
use Rattle.promises.specs.Reading.PiecesLaws.{Sound, look_sound, pieces_eq, drop_tail}
use Rattle.promises.specs.Reading.Tokens.{after_part_every}

abbrev at : ℕ → ℕ → Bool → Place
at b o g = record { block = b; offset = o; mark = g }

abbrev InFile : File → ℕ → ℕ → Type 0
InFile f b o = (g : Bool) → in_file f (at b o g) ≡ true

abbrev Lands : File → Token → Type 0
Lands f (part k body b o e) = InFile f b e
Lands f (bad b o) = Unit {0}
Lands f (lost b) = InFile f (suc b) 0

abbrev pub Landed : File → Met → Type 0
Landed f (took r pl) = in_file f pl ≡ true
Landed f (gapped b pl) = in_file f pl ≡ true
Landed f ended = Unit {0}
Landed f (refused x) = Unit {0}

-- A PROPERTY OF WHAT IS MET: an answer has it if the end and every refusal do, each record that a token completes, and each gap that a token gives
module _ (Q : Met → Type 0) (C : Token → Type 0) (at_end : Q ended) (at-refusal : (x : Refusal) → Q (refused x))
    (at-record : (k : Role) (body : List ℕ) (b o e : ℕ) → C (part k body b o e) → (r : FileRecord) → Q (took r (at b e false)))
    (at_gap : (b : ℕ) → C (lost b) → Q (gapped b (at (suc b) 0 true))) where
  move_holds : (mv : Move) (b o e : ℕ) (more : State → Met) → ((r : FileRecord) → Q (took r (at b e false))) → ((st : State) → Q (more st))
      → Q (after_move mv b o e more)
  move_holds (deliver body g) b o e more h k = h (record { body = body; first_block = g; last_block = b })
  move_holds (carry st) b o e more h k = k st
  move_holds breach b o e more h k = at-refusal (refuse21 b o)

  lost_holds : (m : Mode) (b : ℕ) → C (lost b) → Q (at_lost m b)
  lost_holds plain b h = at-refusal (refuse20 b)
  lost_holds salvage b h = at_gap b h

  pub answer_holds : (m : Mode) (p : Params) (ts : List Token) → Every C ts → (st : State) → Q (first_met m p ts st)
  unfolding first_met
  answer_holds m p [] v fresh = at_end
  answer_holds m p [] v marked = at_end
  answer_holds m p [] v (within acc g) = at-refusal refuse22
  answer_holds m p (part k body b o e ∷ ts) v st =
      move_holds (meet p st k body b) b o e (λ st'. first_met m p ts st') (at-record k body b o e v.0) (λ st'. answer_holds m p ts v.1 st')
  answer_holds m p (bad b o ∷ ts) v st = at-refusal (refuse21 b o)
  answer_holds m p (lost b ∷ ts) v st = lost_holds m b v.0

answer_lands : (f : File) (m : Mode) (p : Params) (ts : List Token) → Every (Lands f) ts → (st : State) → Landed f (first_met m p ts st)
answer_lands f = answer_holds (Landed f) (Lands f) tt (λ x. tt) (λ k body b o e h r. h false) (λ b h. h true)

-- ---- what makes a place one of the file

aligned_start : (f : Format) (R : ℕ) → aligned f R 0 ≡ true
aligned_start fixed R = rw zero-mod
aligned_start variable R = refl
aligned_start spanned R = refl

in_block_lem : (f : File) (b o : ℕ) → b < length f.blocks → o ≤ size_of (get_or f.blocks b (held [])) → aligned f.params.format f.params.R o ≡ true → InFile f b o
unfolding in_file
in_block_lem f b o h l a g = rw (lt-ltb b (length f.blocks) h, le-leb o (size_of (get_or f.blocks b (held []))) l, a)

-- the start of a block, and of the one behind the last
pub in_start : (f : File) (b : ℕ) → b ≤ length f.blocks → InFile f b 0
unfolding in_file
in_start f b h g = go (ltb b (length f.blocks)) refl
  where
    go : (t : Bool) → ltb b (length f.blocks) ≡ t → in_file f (at b 0 g) ≡ true
    go true q = in_block_lem f b 0 (ltb-true b (length f.blocks) q) (omega arith) (aligned_start f.params.format f.params.R) g
    go false q =
        let e : b ≡ length f.blocks = omega (arith, ltb-false b (length f.blocks) q) in
        rw (q, eq-eqb b (length f.blocks) e)

pub start_in_file : (f : File) → in_file f start ≡ true
start_in_file f = in_start f 0 (omega arith) false

-- in F a record takes R bytes
abbrev Stride : Format → ℕ → Piece → Type 0
Stride fixed R (piece k body s) = s ≡ R
Stride fixed R blank = Unit {0}
Stride fixed R broken = Unit {0}
Stride variable R q = Unit {0}
Stride spanned R q = Unit {0}

look_f_stride : (R : ℕ) (rest : List ℕ) → Stride fixed R (look_f R rest)
unfolding look_f
look_f_stride R [] = tt
look_f_stride R (x ∷ xs) = cond_elim (Stride fixed R) (leb 1 R && leb R (suc (length xs))) (λ _. refl) (λ _. tt)

look_in_stride : (f : Format) (R : ℕ) (bl : Bool) (o : ℕ) (rest : List ℕ) → Stride f R (look_in f R bl o rest)
look_in_stride fixed R bl o rest = look_f_stride R rest
look_in_stride variable R bl o rest = tt
look_in_stride spanned R bl o rest = tt

aligned_next : (f : Format) (R o s : ℕ) (k : Role) (body : List ℕ) → Stride f R (piece k body s) → aligned f R o ≡ true → aligned f R (o + s) ≡ true
aligned_next fixed R o s k body e a = rw (e, add-mod_right) a
aligned_next variable R o s k body e a = refl
aligned_next spanned R o s k body e a = refl

-- ---- every token of the file leads to a place of the file

abbrev Good : File → ℕ → ℕ → Type 0
Good f o n = (o ≤ n) × (aligned f.params.format f.params.R o ≡ true)

module _ (f : File) (b : ℕ) (c : List ℕ) (inside : b < length f.blocks) (here : get_or f.blocks b (held []) ≡ held c) where
  place_of : (o : ℕ) → Good f o (length c) → InFile f b o
  place_of o h = in_block_lem f b o inside (rw here h.0) h.1

  tokens_land : (o : ℕ) (q : Piece) → Sound (length (drop o c)) q → Stride f.params.format f.params.R q → Good f o (length c)
      → ((s : ℕ) → 1 ≤ s → Good f (o + s) (length c) → Every (Lands f) (pieces f.params b (o + s) (drop (o + s) c)))
      → Every (Lands f) (tokens_at b o (drop o c) (λ o' r. pieces f.params b o' r) q)
  tokens_land o blank l t h k = tt
  tokens_land o broken l t h k = (tt, tt)
  tokens_land o (piece kd body s) l t h k =
      let n : length (drop o c) ≡ length c - o = length-drop o c in
      let w : Good f (o + s) (length c) = (omega (arith, h.0, l.1), aligned_next f.params.format f.params.R o s kd body t h.1) in
      (place_of (o + s) w, after_part_every (Lands f) b (λ _. tt) kd (o + s) (drop s (drop o c)) (pieces f.params b (o + s) (drop s (drop o c))) (rw (drop-drop s o c) (k s l.0 w)))

  pieces_land : (n o : ℕ) → length c < n + o → Good f o (length c) → Every (Lands f) (pieces f.params b o (drop o c))
  unfolding look
  pieces_land zero o h w = absurd (omega (arith, w.0))
  pieces_land (suc n) o h w =
      rw pieces_eq (tokens_land o (look f.params o (drop o c)) (look_sound f.params o (drop o c))
      (look_in_stride f.params.format f.params.R f.params.blocked o (drop o c)) w (λ s l w'. pieces_land n (o + s) (omega arith) w'))

pub drop_inside : {A : Type 0} (b : ℕ) (bs : List A) (x d : A) (xs : List A) → drop b bs ≡ x ∷ xs → (b < length bs) × (get_or bs b d ≡ x)
drop_inside {A = A} b bs x d xs e =
    let l : length (drop b bs) ≡ length bs - b = length-drop b bs in
    let l' : length (drop b bs) ≡ suc (length xs) = ap length e in
    let z : b + 0 ≡ b = omega arith in
    (omega arith, ap (λ (k : ℕ). get_or bs k d) (sym z) ∙ sym (get_or-drop b bs 0 d) ∙ ap (λ (l : List A). get_or l 0 d) e)

good_of : (f : File) (b o : ℕ) (c : List ℕ) → b < length f.blocks → get_or f.blocks b (held []) ≡ held c → in_file f (at b o false) ≡ true → Good f o (length c)
unfolding in_file
good_of f b o c i q h =
    let h' : (leb o (length c) && aligned f.params.format f.params.R o) ≡ true = rw (lt-ltb b (length f.blocks) i, q) at h in
    (leb-true o (length c) (and_l (leb o (length c)) _ h'), and_r (leb o (length c)) (aligned f.params.format f.params.R o) h')

blocks_land : (f : File) (b : ℕ) (xs : List Block) → drop b f.blocks ≡ xs → Every (Lands f) (in_blocks f.params b xs)
unfolding in_blocks in_block
blocks_land f b [] e = tt
blocks_land f b (lost_block sz ∷ xs) e = (in_start f (suc b) (drop_inside b f.blocks (lost_block sz) (held []) xs e).0, blocks_land f (suc b) xs (drop_tail b f.blocks e))
blocks_land f b (held c ∷ xs) e =
    let (i, h) = drop_inside b f.blocks (held c) (held []) xs e in
    every_append (Lands f) (pieces f.params b 0 c) (in_blocks f.params (suc b) xs)
    (pieces_land f b c i h (suc (length c)) 0 (omega arith) (omega arith, aligned_start f.params.format f.params.R))
    (blocks_land f (suc b) xs (drop_tail b f.blocks e))

tail_land : (f : File) (b o : ℕ) (xs : List Block) → drop b f.blocks ≡ xs → InFile f b o → Every (Lands f) (from_tail f.params b o xs)
unfolding in_block
tail_land f b o [] e h = tt
tail_land f b o (lost_block sz ∷ xs) e h = (in_start f (suc b) (drop_inside b f.blocks (lost_block sz) (held []) xs e).0, blocks_land f (suc b) xs (drop_tail b f.blocks e))
tail_land f b o (held c ∷ xs) e h =
    let (i, q) = drop_inside b f.blocks (held c) (held []) xs e in
    every_append (Lands f) (pieces f.params b o (drop o c)) (in_blocks f.params (suc b) xs)
    (pieces_land f b c i q (suc (length c)) o (omega arith) (good_of f b o c i q (h false)))
    (blocks_land f (suc b) xs (drop_tail b f.blocks e))

pub step_lands : (m : Mode) (f : File) (pl : Place) → in_file f pl ≡ true → Landed f (step m f pl)
unfolding step ahead in_file
step_lands m f pl h =
    answer_lands f m f.params (from_tail f.params pl.block pl.offset (drop pl.block f.blocks))
    (tail_land f pl.block pl.offset (drop pl.block f.blocks) refl (λ g. h)) (entering m f.params.format pl.offset pl.mark)
