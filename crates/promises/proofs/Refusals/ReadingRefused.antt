-- "Reading: 13-19, then 20-22 as blocks are met, 23 last": a reading refuses exactly with the first of that list. "Bytes behind a record in the output stay
-- too." And the places that a reading hands out: they are in the file.
-- Assumes nothing.
use Rattle.std.specs.Prelude.{ℕ, suc, ◌≤◌, ◌<◌, ◌≡◌, refl, Bool, true, false, cond, not, length, get_or, drop, ltb, Result, Ok, Err, ⊤}
use Rattle.std.proofs.Common.{sym, ◌∙◌, length-append, length-drop, arith, le_refl, ltb-false}
use Rattle.std.proofs.Math.Path.{ap, subst}
use mathlib.Core.List.{List, [], ◌∷◌, ◌++◌}
use Rattle.std.proofs.Math.Seq.{drop-append_seam}
use Rattle.standard.specs.Refusals.{refuse, given_when, in_order, or_else}
use Rattle.standard.specs.Judgement.{judged}
use Rattle.standard.specs.Files.{open_list, open_refusal, file_in, block_count}
use Rattle.standard.specs.Pieces.{Block, lost_block, held, Token, part, bad, lost, pieces, in_block, in_blocks, from_tail, ahead}
use Rattle.standard.specs.Records.{Mode, plain, salvage, File, Met, took, gapped, ended, refused, State, fresh, marked, within, Move, deliver, carry, breach, meet, at_end, at_lost, after_move, first_met, entering, step, in_file}
use Rattle.standard.specs.Places.{end_place}
use Rattle.standard.specs.Reading.{Reply, unanswered, replied, reply_in, opened, reply, laid_over, read_answer, output_after}
use Rattle.standard.specs.Labels.{Params}
use Rattle.standard.specs.Layout.{label_at}
use Rattle.standard.specs.declared.Geometry.{Geometry}
use Rattle.standard.specs.declared.Place.{Place}
use Rattle.standard.specs.declared.Refusal.{Refusal}
use Rattle.standard.specs.declared.Answer.{Answer}
use Rattle.standard.specs.declared.Answer.TheVariants.{Record as RecordOf, Gap, End}
use Rattle.promises.specs.Ground.Lists.{Every}
use Rattle.promises.specs.Volumes.Judging.{order_append}
use Rattle.promises.specs.Reading.PiecesLaws.{drop_tail}
use Rattle.promises.specs.Reading.Tokens.{At, pieces_at}
use Rattle.promises.specs.Reading.PlaceLaws.{Landed, step_lands, drop_inside, in_start}
use Rattle.promises.proofs.Salvage.SalvageImage.{file_count}
use Rattle.promises.specs.Refusals.Refusing.{Exactly, First, order_first, first_order, reply_on}
use Rattle.promises.specs.Ground.Basics.{never, either, lt_or_le}

-- 20, 21 or 22, as blocks are met
abbrev pub met_refusal : Met → Result ⊤ Refusal
met_refusal (took r pl) = Ok tt
met_refusal (gapped b pl) = Ok tt
met_refusal ended = Ok tt
met_refusal (refused r) = Err r

-- 23 "output too small", length needed
abbrev pub too_small : ℕ → Met → Result ⊤ Refusal
too_small room (took r pl) = given_when (ltb room (length r.body)) (refuse 23 (length r.body))
too_small room (gapped b pl) = Ok tt
too_small room ended = Ok tt
too_small room (refused r) = Ok tt

-- behind those of opening the file
abbrev pub place_list : Mode → File → Place → ℕ → List (Result ⊤ Refusal)
place_list m f pl room = given_when (not (in_file f pl)) (refuse 19 0) ∷ met_refusal (step m f pl) ∷ too_small room (step m f pl) ∷ []

-- THE LIST: "13-19, then 20-22 as blocks are met, 23 last"
abbrev pub read_list : Mode → Geometry → List ℕ → ℕ → Place → ℕ → List (Result ⊤ Refusal)
read_list m g image slot pl room = open_list g image slot ++ place_list m (file_in g image (label_at g image slot)) pl room

met_stops : (f : File) (room : ℕ) (s : Met) (r : Refusal) → Exactly ((replied f room s).answer ≡ Err r) (in_order (met_refusal s ∷ too_small room s ∷ []) ≡ Err r)
unfolding in_order given_when
met_stops f room (took q pl) r = go (ltb room (length q.body))
  where
    go : (t : Bool)
        → Exactly ((cond t (unanswered (refuse 23 (length q.body))) (record { answer = Ok (RecordOf (length q.body) pl); body = q.body })).answer ≡ Err r)
        (in_order (given_when t (refuse 23 (length q.body)) ∷ []) ≡ Err r)
    go true = ((λ h. cc), (λ h. cc))
    go false = ((λ h. never (cc)), (λ h. never (cc)))
met_stops f room (gapped b pl) r = ((λ h. never (cc)), (λ h. never (cc)))
met_stops f room ended r = ((λ h. never (cc)), (λ h. never (cc)))
met_stops f room (refused x) r = ((λ h. cc), (λ h. cc))

place_stops : (m : Mode) (f : File) (pl : Place) (room : ℕ) (r : Refusal) → Exactly ((reply_in m f pl room).answer ≡ Err r) (in_order (place_list m f pl room) ≡ Err r)
unfolding reply_in in_order given_when
place_stops m f pl room r = go (in_file f pl)
  where
    go : (t : Bool) → Exactly ((cond t (replied f room (step m f pl)) (unanswered (refuse 19 0))).answer ≡ Err r)
        (in_order (given_when (not t) (refuse 19 0) ∷ met_refusal (step m f pl) ∷ too_small room (step m f pl) ∷ []) ≡ Err r)
    go true = met_stops f room (step m f pl) r
    go false = ((λ h. cc), (λ h. cc))

opened_stops : (c d : Result ⊤ Refusal) (y : Reply) (r : Refusal) → Exactly (y.answer ≡ Err r) (d ≡ Err r)
    → Exactly ((opened c y).answer ≡ Err r) (or_else c d ≡ Err r)
unfolding or_else
opened_stops (Ok _) d y r h = h
opened_stops (Err x) d y r h = ((λ k. cc), (λ k. cc))

-- A READING REFUSES EXACTLY WITH THE FIRST OF ITS LIST
pub read_first : (image : List ℕ) (g : Geometry) → judged image ≡ Ok g → (m : Mode) (slot : ℕ) (pl : Place) (out : List ℕ) (r : Refusal)
    → Exactly (read_answer m image slot pl out ≡ Err r) (First r (read_list m g image slot pl (length out)))
unfolding reply open_refusal
read_first image g j m slot pl out r =
    let f = file_in g image (label_at g image slot) in
    let room = length out in
    let e : read_answer m image slot pl out ≡ (opened (open_refusal g image slot) (reply_in m f pl room)).answer =
    ap (λ (v : Result Geometry Refusal). (reply_on v m image slot pl room).answer) j in
    let x = opened_stops (in_order (open_list g image slot)) (in_order (place_list m f pl room)) (reply_in m f pl room) r (place_stops m f pl room r) in
    let o : in_order (read_list m g image slot pl room) ≡ or_else (in_order (open_list g image slot)) (in_order (place_list m f pl room)) =
    order_append (open_list g image slot) (place_list m f pl room) in (
      (λ h. order_first (read_list m g image slot pl room) r (o ∙ x.0 (sym e ∙ h))),
      (λ k. e ∙ x.1 (sym o ∙ first_order (read_list m g image slot pl room) r k)),
    )

-- ---- "Bytes behind a record in the output stay too"
-- a reply that is a record has a body of the length that it names, and there is room for it
abbrev Roomy : ℕ → Result Answer Refusal → List ℕ → Type 0
Roomy room (Err r) body = Unit {0}
Roomy room (Ok (RecordOf n pl)) body = (length body ≡ n) × (n ≤ room)
Roomy room (Ok (Gap pl)) body = Unit {0}
Roomy room (Ok (End pl)) body = Unit {0}

replied_roomy : (f : File) (room : ℕ) (s : Met) → Roomy room (replied f room s).answer (replied f room s).body
replied_roomy f room (took q pl) = go (ltb room (length q.body)) refl
  where
    go : (t : Bool) → ltb room (length q.body) ≡ t
        → Roomy room (cond t (unanswered (refuse 23 (length q.body))) (record { answer = Ok (RecordOf (length q.body) pl); body = q.body })).answer
        (cond t (unanswered (refuse 23 (length q.body))) (record { answer = Ok (RecordOf (length q.body) pl); body = q.body })).body
    go true e = tt
    go false e = (refl, ltb-false room (length q.body) e)
replied_roomy f room (gapped b pl) = tt
replied_roomy f room ended = tt
replied_roomy f room (refused x) = tt

in_roomy : (m : Mode) (f : File) (pl : Place) (room : ℕ) → Roomy room (reply_in m f pl room).answer (reply_in m f pl room).body
unfolding reply_in in_order given_when
in_roomy m f pl room = go (in_file f pl)
  where
    go : (t : Bool) → Roomy room (cond t (replied f room (step m f pl)) (unanswered (refuse 19 0))).answer (cond t (replied f room (step m f pl)) (unanswered (refuse 19 0))).body
    go true = replied_roomy f room (step m f pl)
    go false = tt

opened_roomy : (room : ℕ) (c : Result ⊤ Refusal) (y : Reply) → Roomy room y.answer y.body → Roomy room (opened c y).answer (opened c y).body
opened_roomy room (Ok _) y h = h
opened_roomy room (Err x) y h = tt

on_roomy : (v : Result Geometry Refusal) (m : Mode) (image : List ℕ) (slot : ℕ) (pl : Place) (room : ℕ)
    → Roomy room (reply_on v m image slot pl room).answer (reply_on v m image slot pl room).body
on_roomy (Err r) m image slot pl room = tt
on_roomy (Ok g) m image slot pl room =
    let f = file_in g image (label_at g image slot) in
    opened_roomy room (open_refusal g image slot) (reply_in m f pl room) (in_roomy m f pl room)

roomy : (m : Mode) (image : List ℕ) (slot : ℕ) (pl : Place) (room : ℕ) → Roomy room (reply m image slot pl room).answer (reply m image slot pl room).body
unfolding reply
roomy m image slot pl room = on_roomy (judged image) m image slot pl room

laid_behind : (body out : List ℕ) (k : ℕ) → length body ≡ k → k ≤ length out → (drop k (laid_over body out) ≡ drop k out) × (length (laid_over body out) ≡ length out)
unfolding laid_over
laid_behind body out k e l =
    let s : drop (length body) (body ++ drop (length body) out) ≡ drop (length body) out = drop-append_seam body (drop (length body) out) in (
      subst (λ (n : ℕ). drop n (body ++ drop (length body) out) ≡ drop n out) e s,
      length-append body (drop (length body) out) ∙ rw (length-drop (length body) out) (omega arith),
    )

pub record_laid : (m : Mode) (image : List ℕ) (slot : ℕ) (pl : Place) (out : List ℕ) (k : ℕ) (next : Place) → read_answer m image slot pl out ≡ Ok (RecordOf k next)
    → (k ≤ length out) × (drop k (output_after m image slot pl out) ≡ drop k out) × (length (output_after m image slot pl out) ≡ length out)
record_laid m image slot pl out k next h =
    let body = (reply m image slot pl (length out)).body in
    let y : Roomy (length out) (Ok (RecordOf k next)) body = subst (λ (a : Result Answer Refusal). Roomy (length out) a body) h (roomy m image slot pl (length out)) in
    let b = laid_behind body out k y.0 y.1 in
    (y.1, b.0, b.1)

-- ---- the places handed out
-- block b of a file is lost
abbrev pub LostIn : File → ℕ → Type 0
LostIn f b = (b < length f.blocks) × (sz : ℕ) × (get_or f.blocks b (held []) ≡ lost_block sz)

-- b is the first lost block from block a on
pub record FirstLost (f : File) (a b : ℕ) : Type 0 where
  pub behind : a ≤ b
  pub is_lost : LostIn f b
  pub none_before : (c : ℕ) → a ≤ c → c < b → LostIn f c → ⊥

-- "one gap and the next block's start, marked": what a reader meets that stands in block a
abbrev Gaps : File → ℕ → Met → Type 0
Gaps f a (took r pl) = Unit {0}
Gaps f a (gapped b pl) = FirstLost f a b × (pl ≡ record { block = suc b; offset = 0; mark = true })
Gaps f a ended = Unit {0}
Gaps f a (refused x) = Unit {0}

-- past a block that is not lost
gaps_past : (f : File) (a : ℕ) (s : Met) → (LostIn f a → ⊥) → Gaps f (suc a) s → Gaps f a s
gaps_past f a (took r pl) h g = tt
gaps_past f a (gapped b pl) h g = (
  record {
    behind = omega (arith, g.0.behind);
    is_lost = g.0.is_lost;
    none_before = λ c low high l.
        either (lt_or_le a c)
        (λ (k : a < c). g.0.none_before c k high l)
        (λ (k : c ≤ a). let e : c ≡ a = omega arith in h (subst (LostIn f) e l));
  },
  g.1,
)
gaps_past f a ended h g = tt
gaps_past f a (refused x) h g = tt

move_gaps : (f : File) (a : ℕ) (mv : Move) (b o n : ℕ) (go : State → Met) → ((st : State) → Gaps f a (go st)) → Gaps f a (after_move mv b o n go)
move_gaps f a (deliver body g) b o n go h = tt
move_gaps f a (carry st) b o n go h = h st
move_gaps f a breach b o n go h = tt

-- past the pieces of a block
pieces_gaps : (f : File) (a : ℕ) (m : Mode) (p : Params) (b : ℕ) (ts more : List Token) → Every (At b) ts → ((st : State) → Gaps f a (first_met m p more st))
    → (st : State) → Gaps f a (first_met m p (ts ++ more) st)
unfolding first_met
pieces_gaps f a m p b [] more e h st = h st
pieces_gaps f a m p b (part k body c o n ∷ ts) more e h st =
    move_gaps f a (meet p st k body c) c o n (λ st'. first_met m p (ts ++ more) st') (λ st'. pieces_gaps f a m p b ts more e.1 h st')
pieces_gaps f a m p b (bad c o ∷ ts) more e h st = tt
pieces_gaps f a m p b (lost c ∷ ts) more e h st = absurd e.0

end_gaps : (f : File) (a : ℕ) (st : State) → Gaps f a (at_end st)
end_gaps f a fresh = tt
end_gaps f a marked = tt
end_gaps f a (within body g) = tt

lost_gaps : (f : File) (a : ℕ) (m : Mode) → LostIn f a → Gaps f a (at_lost m a)
lost_gaps f a plain l = tt
lost_gaps f a salvage l = (record { behind = le_refl a; is_lost = l; none_before = λ c low high k. absurd (omega arith) }, refl)

not_lost : (f : File) (a : ℕ) (c : List ℕ) → get_or f.blocks a (held []) ≡ held c → LostIn f a → ⊥
not_lost f a c e l = let q = sym e ∙ l.2 in never (cc)

module _ (f : File) (m : Mode) where
  block_gaps : (a o : ℕ) (x : Block) (xs : List Block) → drop a f.blocks ≡ x ∷ xs
      → ((st : State) → Gaps f (suc a) (first_met m f.params (in_blocks f.params (suc a) xs) st))
      → (st : State) → Gaps f a (first_met m f.params (in_block f.params a o x ++ in_blocks f.params (suc a) xs) st)
  unfolding in_block first_met
  block_gaps a o (lost_block sz) xs e h st = let (i, q) = drop_inside a f.blocks (lost_block sz) (held []) xs e in lost_gaps f a m (i, sz, q)
  block_gaps a o (held c) xs e h st =
      let (i, q) = drop_inside a f.blocks (held c) (held []) xs e in
      pieces_gaps f a m f.params a (pieces f.params a o (drop o c)) (in_blocks f.params (suc a) xs) (pieces_at f.params a o (drop o c))
      (λ st'. gaps_past f a (first_met m f.params (in_blocks f.params (suc a) xs) st') (not_lost f a c q) (h st')) st

  blocks_gaps : (a : ℕ) (xs : List Block) → drop a f.blocks ≡ xs → (st : State) → Gaps f a (first_met m f.params (in_blocks f.params a xs) st)
  unfolding in_blocks first_met
  blocks_gaps a [] e st = end_gaps f a st
  blocks_gaps a (x ∷ xs) e st = block_gaps a 0 x xs e (λ st'. blocks_gaps (suc a) xs (drop_tail a f.blocks e) st') st

  tail_gaps : (a o : ℕ) (xs : List Block) → drop a f.blocks ≡ xs → (st : State) → Gaps f a (first_met m f.params (from_tail f.params a o xs) st)
  unfolding first_met
  tail_gaps a o [] e st = end_gaps f a st
  tail_gaps a o (x ∷ xs) e st = block_gaps a o x xs e (λ st'. blocks_gaps (suc a) xs (drop_tail a f.blocks e) st') st

step_gaps : (m : Mode) (f : File) (pl : Place) → Gaps f pl.block (step m f pl)
unfolding step ahead
step_gaps m f pl = tail_gaps f m pl.block pl.offset (drop pl.block f.blocks) refl (entering m f.params.format pl.offset pl.mark)

-- what an answer's place has to be
abbrev Handed : File → ℕ → Result Answer Refusal → Type 0
Handed f a (Err r) = Unit {0}
Handed f a (Ok (RecordOf n next)) = in_file f next ≡ true
Handed f a (Ok (Gap next)) = (in_file f next ≡ true) × (b : ℕ) × FirstLost f a b × (next ≡ record { block = suc b; offset = 0; mark = true })
Handed f a (Ok (End next)) = (in_file f next ≡ true) × (next ≡ end_place (length f.blocks))

met_handed : (f : File) (a room : ℕ) (s : Met) → Landed f s → Gaps f a s → Handed f a (replied f room s).answer
met_handed f a room (took q pl) l k = go (ltb room (length q.body))
  where
    go : (t : Bool) → Handed f a (cond t (unanswered (refuse 23 (length q.body))) (record { answer = Ok (RecordOf (length q.body) pl); body = q.body })).answer
    go true = tt
    go false = l
met_handed f a room (gapped b pl) l k = (l, b, k.0, k.1)
met_handed f a room ended l k = (in_start f (length f.blocks) (le_refl (length f.blocks)) false, refl)
met_handed f a room (refused x) l k = tt

in_handed : (m : Mode) (f : File) (pl : Place) (room : ℕ) → Handed f pl.block (reply_in m f pl room).answer
unfolding reply_in
in_handed m f pl room = go (in_file f pl) refl
  where
    go : (t : Bool) → in_file f pl ≡ t → Handed f pl.block (cond t (replied f room (step m f pl)) (unanswered (refuse 19 0))).answer
    go true e = met_handed f pl.block room (step m f pl) (step_lands m f pl e) (step_gaps m f pl)
    go false e = tt

opened_handed : (f : File) (a : ℕ) (c : Result ⊤ Refusal) (y : Reply) → Handed f a y.answer → Handed f a (opened c y).answer
opened_handed f a (Ok _) y h = h
opened_handed f a (Err x) y h = tt

module _ (image : List ℕ) (g : Geometry) (j : judged image ≡ Ok g) (m : Mode) (slot : ℕ) (pl : Place) (out : List ℕ) (next : Place) where
  handed : (a : Result Answer Refusal) → read_answer m image slot pl out ≡ a → Handed (file_in g image (label_at g image slot)) pl.block a
  unfolding reply
  handed a h =
      let f = file_in g image (label_at g image slot) in
      let e : read_answer m image slot pl out ≡ (opened (open_refusal g image slot) (reply_in m f pl (length out))).answer =
      ap (λ (v : Result Geometry Refusal). (reply_on v m image slot pl (length out)).answer) j in
      subst (Handed f pl.block) (sym e ∙ h) (opened_handed f pl.block (open_refusal g image slot) (reply_in m f pl (length out)) (in_handed m f pl (length out)))

  -- A PLACE BEHIND A RECORD IS IN THE FILE
  pub record_next : (k : ℕ) → read_answer m image slot pl out ≡ Ok (RecordOf k next) → in_file (file_in g image (label_at g image slot)) next ≡ true
  record_next k h = handed (Ok (RecordOf k next)) h

  -- A PLACE BEHIND A GAP IS IN THE FILE: the start, marked, of the block behind the first lost one from the place on
  pub gap_next : read_answer m image slot pl out ≡ Ok (Gap next)
      → (in_file (file_in g image (label_at g image slot)) next ≡ true)
      × (b : ℕ) × FirstLost (file_in g image (label_at g image slot)) pl.block b × (next ≡ record { block = suc b; offset = 0; mark = true })
  gap_next h = handed (Ok (Gap next)) h

  -- END'S PLACE IS THE FILE'S END
  pub end_next : read_answer m image slot pl out ≡ Ok (End next)
      → (in_file (file_in g image (label_at g image slot)) next ≡ true) × (next ≡ end_place (block_count g image (label_at g image slot)))
  end_next h =
      let y = handed (Ok (End next)) h in
      (y.0, y.1 ∙ ap end_place (file_count g image (label_at g image slot)))
