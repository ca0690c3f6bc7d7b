-- "No record is ever joined out of two others", of any file, in any mode, from any place: a record that a reading gives stands in the file as it is given,
-- one piece `0`, or `1`, any number of `2` and `3` right behind each other, with no lost block between. ("There, in S, 0 to 3 may come first: a 2 is
-- dropped, unmeasured by R, and the mark stays; a 3 is dropped likewise and reading goes on without it.")
-- Assumes nothing.
use Rattle.std.specs.Prelude.{ℕ, ◌≡◌, refl, Bool, true, false, cond, List, [], ◌∷◌, ◌++◌, length, take, ltb, Result, Ok, Err, ⊤}
use Rattle.std.proofs.Common.{sym, ap, subst, ◌∙◌, append_assoc}
use Rattle.standard.specs.Refusals.{refuse}
use Rattle.standard.specs.Layout.{label_at}
use Rattle.standard.specs.Judgement.{judged}
use Rattle.standard.specs.Files.{open_refusal, file_in}
use Rattle.standard.specs.Pieces.{Role, whole, first, middle, last, Token, part, bad, lost, ahead}
use Rattle.standard.specs.Records.{Mode, plain, salvage, File, FileRecord, Met, took, gapped, ended, refused, State, fresh, marked, within, Move, deliver, carry, breach, over, meet, at_lost, after_move, first_met, entering, step, in_file}
use Rattle.standard.specs.Reading.{Reply, unanswered, replied, reply_in, opened, reply, laid_over, read_answer, output_after}
use Rattle.standard.specs.Labels.{Params}
use Rattle.standard.specs.declared.Geometry.{Geometry}
use Rattle.standard.specs.declared.Place.{Place}
use Rattle.standard.specs.declared.Answer.{Answer}
use Rattle.standard.specs.declared.Answer.TheVariants.{Record as RecordOf, Gap, End}
use Rattle.promises.proofs.Reading.FollowingLaws.{laid_record}
use Rattle.promises.specs.Refusals.Refusing.{reply_on}
use Rattle.standard.specs.declared.Refusal.{Refusal}
use Rattle.promises.specs.Ground.Basics.{never}

-- THE REST OF A SPANNED RECORD: any number of `2`, then a `3`, right behind each other, of these bodies joined; the block of the `3`, the offset behind it
pub data Rest : List Token → List ℕ → ℕ → ℕ → Type 0 where
  closing : (body : List ℕ) (b o n : ℕ) (ts : List Token) → Rest (part last body b o n ∷ ts) body b n
  further : (body : List ℕ) (b o n : ℕ) (ts : List Token) (more : List ℕ) (e behind : ℕ) → Rest ts more e behind
      → Rest (part middle body b o n ∷ ts) (body ++ more) e behind

-- A RECORD STANDS FIRST in what lies ahead: a `0`, or a `1` and the rest; with its blocks, and the place right behind it
pub data Run : List Token → FileRecord → Place → Type 0 where
  alone : (body : List ℕ) (b o n : ℕ) (ts : List Token)
      → Run (part whole body b o n ∷ ts) (record { body = body; first_block = b; last_block = b }) (record { block = b; offset = n; mark = false })
  spans : (body : List ℕ) (b o n : ℕ) (ts : List Token) (more : List ℕ) (e behind : ℕ) → Rest ts more e behind
      → Run (part first body b o n ∷ ts) (record { body = body ++ more; first_block = b; last_block = e }) (record { block = e; offset = behind; mark = false })

-- the same behind what is dropped after a gap: any number of `2`, then at most one `3`
pub data AfterDropped : List Token → FileRecord → Place → Type 0 where
  at_once : (ts : List Token) (r : FileRecord) (next : Place) → Run ts r next → AfterDropped ts r next
  two_dropped : (body : List ℕ) (b o n : ℕ) (ts : List Token) (r : FileRecord) (next : Place) → AfterDropped ts r next → AfterDropped (part middle body b o n ∷ ts) r next
  three_dropped : (body : List ℕ) (b o n : ℕ) (ts : List Token) (r : FileRecord) (next : Place) → Run ts r next → AfterDropped (part last body b o n ∷ ts) r next

-- where a reader has a body so far, the rest of its record stands first
pub record Completes (acc : List ℕ) (f : ℕ) (ts : List Token) (r : FileRecord) (next : Place) : Type 0 where
  pub more : List ℕ
  pub e : ℕ
  pub behind : ℕ
  pub rest : Rest ts more e behind
  pub is_record : r ≡ record { body = acc ++ more; first_block = f; last_block = e }
  pub is_next : next ≡ record { block = e; offset = behind; mark = false }

-- A RECORD STANDS AHEAD OF A READER in a state: between records, first of all; after a gap, behind what is dropped; inside a record, with the rest of it
abbrev pub Stands : State → List Token → FileRecord → Place → Type 0
Stands fresh ts r next = Run ts r next
Stands marked ts r next = AfterDropped ts r next
Stands (within acc f) ts r next = Completes acc f ts r next

same_record : {x y : FileRecord} {u v : Place} → took x u ≡ took y v → x ≡ y
same_record e = cc

same_place : {x y : FileRecord} {u v : Place} → took x u ≡ took y v → u ≡ v
same_place e = cc

carried : (P : FileRecord → Place → Type 0) {x y : FileRecord} {u v : Place} → took x u ≡ took y v → P x u → P y v
carried P {x} {y} {u} {v} e p = subst (λ (w : Place). P y w) (same_place e) (subst (λ (z : FileRecord). P z u) (same_record e) p)

spanned_run : (body : List ℕ) (b o n : ℕ) (ts : List Token) (r : FileRecord) (next : Place) → Completes body b ts r next → Run (part first body b o n ∷ ts) r next
spanned_run body b o n ts r next c =
    subst (λ (w : Place). Run (part first body b o n ∷ ts) r w) (sym c.is_next)
    (subst (λ (z : FileRecord). Run (part first body b o n ∷ ts) z (record { block = c.e; offset = c.behind; mark = false })) (sym c.is_record)
    (spans body b o n ts c.more c.e c.behind c.rest))

further_on : (acc body : List ℕ) (f b o n : ℕ) (ts : List Token) (r : FileRecord) (next : Place) → Completes (acc ++ body) f ts r next
    → Completes acc f (part middle body b o n ∷ ts) r next
further_on acc body f b o n ts r next c =
    record {
      more = body ++ c.more;
      e = c.e;
      behind = c.behind;
      rest = further body b o n ts c.more c.e c.behind c.rest;
      is_record = c.is_record ∙ ap (λ (x : List ℕ). record { body = x; first_block = f; last_block = c.e }) (append_assoc acc body c.more);
      is_next = c.is_next;
    }

module _ (m : Mode) (p : Params) (ts : List Token) (body : List ℕ) (b o n : ℕ) (r : FileRecord) (next : Place) where
  -- what one piece makes of a reader, if a record is taken in the end
  abbrev Takes : Move → Type 0
  Takes mv = after_move mv b o n (λ st. first_met m p ts st) ≡ took r next

  whole_run : (t : Bool) → Takes (cond t breach (deliver body b)) → Run (part whole body b o n ∷ ts) r next
  whole_run true e = never (cc)
  whole_run false e = carried (λ (x : FileRecord) (u : Place). Run (part whole body b o n ∷ ts) x u) e (alone body b o n ts)

  first_run : (t : Bool) → (first_met m p ts (within body b) ≡ took r next → Completes body b ts r next) → Takes (cond t breach (carry (within body b)))
      → Run (part first body b o n ∷ ts) r next
  first_run true ih e = never (cc)
  first_run false ih e = spanned_run body b o n ts r next (ih e)

  middle_on : (acc : List ℕ) (f : ℕ) (t : Bool) → (first_met m p ts (within (acc ++ body) f) ≡ took r next → Completes (acc ++ body) f ts r next)
      → Takes (cond t breach (carry (within (acc ++ body) f))) → Completes acc f (part middle body b o n ∷ ts) r next
  middle_on acc f true ih e = never (cc)
  middle_on acc f false ih e = further_on acc body f b o n ts r next (ih e)

  last_on : (acc : List ℕ) (f : ℕ) (t : Bool) → Takes (cond t breach (deliver (acc ++ body) f)) → Completes acc f (part last body b o n ∷ ts) r next
  last_on acc f true e = never (cc)
  last_on acc f false e =
      record { more = body; e = b; behind = n; rest = closing body b o n ts; is_record = sym (same_record e); is_next = sym (same_place e) }

  piece_stands : (st : State) (k : Role) → ((st' : State) → first_met m p ts st' ≡ took r next → Stands st' ts r next) → Takes (meet p st k body b)
      → Stands st (part k body b o n ∷ ts) r next
  piece_stands fresh whole ih e = whole_run (over p (length body)) e
  piece_stands fresh first ih e = first_run (over p (length body)) (ih (within body b)) e
  piece_stands fresh middle ih e = never (cc)
  piece_stands fresh last ih e = never (cc)
  piece_stands marked whole ih e = at_once (part whole body b o n ∷ ts) r next (whole_run (over p (length body)) e)
  piece_stands marked first ih e = at_once (part first body b o n ∷ ts) r next (first_run (over p (length body)) (ih (within body b)) e)
  piece_stands marked middle ih e = two_dropped body b o n ts r next (ih marked e)
  piece_stands marked last ih e = three_dropped body b o n ts r next (ih fresh e)
  piece_stands (within acc f) whole ih e = never (cc)
  piece_stands (within acc f) first ih e = never (cc)
  piece_stands (within acc f) middle ih e = middle_on acc f (over p (length (acc ++ body))) (ih (within (acc ++ body) f)) e
  piece_stands (within acc f) last ih e = last_on acc f (over p (length (acc ++ body))) e

no_record_lost : {A : Type 0} (m : Mode) (b : ℕ) (r : FileRecord) (next : Place) → at_lost m b ≡ took r next → A
no_record_lost plain b r next e = never (cc)
no_record_lost salvage b r next e = never (cc)

no_record_end : {A : Type 0} (st : State) (m : Mode) (p : Params) (r : FileRecord) (next : Place) → first_met m p [] st ≡ took r next → A
unfolding first_met
no_record_end fresh m p r next e = never (cc)
no_record_end marked m p r next e = never (cc)
no_record_end (within body f) m p r next e = never (cc)

answer_stands : (m : Mode) (p : Params) (ts : List Token) (r : FileRecord) (next : Place) (st : State) → first_met m p ts st ≡ took r next → Stands st ts r next
unfolding first_met
answer_stands m p [] r next st e = no_record_end st m p r next e
answer_stands m p (part k body b o n ∷ ts) r next st e = piece_stands m p ts body b o n r next st k (λ st' e'. answer_stands m p ts r next st' e') e
answer_stands m p (bad b o ∷ ts) r next st e = never (cc)
answer_stands m p (lost b ∷ ts) r next st e = no_record_lost m b r next e

-- A RECORD THAT A READING TAKES STANDS IN WHAT LIES AHEAD OF THE PLACE, first of all, and behind what is dropped only where the mark counts
pub step_run : (m : Mode) (f : File) (pl : Place) (r : FileRecord) (next : Place) → step m f pl ≡ took r next
    → Stands (entering m f.params.format pl.offset pl.mark) (ahead f.params f.blocks pl.block pl.offset) r next
unfolding step
step_run m f pl r next e =
    answer_stands m f.params (ahead f.params f.blocks pl.block pl.offset) r next (entering m f.params.format pl.offset pl.mark) e

-- ---- in an image
-- an answer that is a record: its bytes, and the step that took it
abbrev Taken : Mode → File → Place → Result Answer Refusal → List ℕ → Type 0
Taken m f pl (Err x) body = Unit {0}
Taken m f pl (Ok (RecordOf n next)) body = (r : FileRecord) × (body ≡ r.body) × (n ≡ length r.body) × (step m f pl ≡ took r next)
Taken m f pl (Ok (Gap next)) body = Unit {0}
Taken m f pl (Ok (End next)) body = Unit {0}

met_taken : (m : Mode) (f : File) (pl : Place) (room : ℕ) (s : Met) → step m f pl ≡ s → Taken m f pl (replied f room s).answer (replied f room s).body
met_taken m f pl room (took q next) e = go (ltb room (length q.body))
  where
    go : (t : Bool)
        → Taken m f pl (cond t (unanswered (refuse 23 (length q.body))) (record { answer = Ok (RecordOf (length q.body) next); body = q.body })).answer
        (cond t (unanswered (refuse 23 (length q.body))) (record { answer = Ok (RecordOf (length q.body) next); body = q.body })).body
    go true = tt
    go false = (q, refl, refl, e)
met_taken m f pl room (gapped b next) e = tt
met_taken m f pl room ended e = tt
met_taken m f pl room (refused x) e = tt

in_taken : (m : Mode) (f : File) (pl : Place) (room : ℕ) → Taken m f pl (reply_in m f pl room).answer (reply_in m f pl room).body
unfolding reply_in
in_taken m f pl room = go (in_file f pl)
  where
    go : (t : Bool) → Taken m f pl (cond t (replied f room (step m f pl)) (unanswered (refuse 19 0))).answer (cond t (replied f room (step m f pl)) (unanswered (refuse 19 0))).body
    go true = met_taken m f pl room (step m f pl) refl
    go false = tt

opened_taken : (m : Mode) (f : File) (pl : Place) (c : Result ⊤ Refusal) (y : Reply) → Taken m f pl y.answer y.body → Taken m f pl (opened c y).answer (opened c y).body
opened_taken m f pl (Ok _) y h = h
opened_taken m f pl (Err x) y h = tt

reply_taken : (image : List ℕ) (g : Geometry) → judged image ≡ Ok g → (m : Mode) (slot : ℕ) (pl : Place) (room : ℕ)
    → Taken m (file_in g image (label_at g image slot)) pl (reply m image slot pl room).answer (reply m image slot pl room).body
unfolding reply
reply_taken image g j m slot pl room =
    let f = file_in g image (label_at g image slot) in
    let e : reply m image slot pl room ≡ opened (open_refusal g image slot) (reply_in m f pl room) = ap (λ (v : Result Geometry Refusal). reply_on v m image slot pl room) j in
    subst (λ (y : Reply). Taken m f pl y.answer y.body) (sym e) (opened_taken m f pl (open_refusal g image slot) (reply_in m f pl room) (in_taken m f pl room))

-- NO RECORD IS EVER JOINED OUT OF TWO OTHERS: the bytes that a reading lays in the output are the record of the file that stands first ahead of the place that
-- was asked, behind what is dropped where the mark counts
pub record_stands : (image : List ℕ) (g : Geometry) → judged image ≡ Ok g → (m : Mode) (slot : ℕ) (pl : Place) (out : List ℕ) (k : ℕ) (next : Place)
    → read_answer m image slot pl out ≡ Ok (RecordOf k next)
    → (r : FileRecord) × (take k (output_after m image slot pl out) ≡ r.body)
    × Stands (entering m (file_in g image (label_at g image slot)).params.format pl.offset pl.mark)
    (ahead (file_in g image (label_at g image slot)).params (file_in g image (label_at g image slot)).blocks pl.block pl.offset) r next
record_stands image g j m slot pl out k next h =
    let f = file_in g image (label_at g image slot) in
    let body = (reply m image slot pl (length out)).body in
    let y : Taken m f pl (Ok (RecordOf k next)) body = subst (λ (a : Result Answer Refusal). Taken m f pl a body) h (reply_taken image g j m slot pl (length out)) in
    let n : k ≡ length body = y.2 ∙ ap length (sym y.1) in (
      y.0,
      ap (λ (i : ℕ). take i (laid_over body out)) n ∙ laid_record body out ∙ y.1,
      step_run m f pl y.0 next y.3,
    )
