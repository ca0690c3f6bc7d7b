-- A refusal is given exactly when its list says so: it is the first of the list that is given. And what was lent stays as it was.
-- Assumes nothing.
use Rattle.std.specs.Prelude.{ℕ, ◌≡◌, Bool, true, false, cond, List, [], ◌∷◌, ◌++◌, length, ltb, Result, Ok, Err, ⊤}
use Rattle.std.proofs.Math.Path.{refl, ap}
use Rattle.std.proofs.Common.{subst, ◌∙◌}
use Rattle.standard.specs.Refusals.{refuse, in_order}
use Rattle.standard.specs.Judgement.{volume_of, volume_list, volume_refusal, verdict, judged, on_volume}
use Rattle.standard.specs.Finding.{found, found_at}
use Rattle.standard.specs.Free.{free_count}
use Rattle.standard.specs.Files.{count_list, count_refusal, count_or, counted, open_refusal, file_in}
use Rattle.standard.specs.Records.{Mode, File, Met, took, gapped, ended, refused, step, in_file}
use Rattle.standard.specs.Reading.{Reply, unanswered, delivered, replied, reply_in, opened, reply, laid_over, read_answer, output_after}
use Rattle.standard.specs.Writing.{Outcome, packing, write_list, write_refusal, unless, outcome, image_with, written, image_after}
use Rattle.standard.specs.Layout.{label_at}
use Rattle.standard.specs.declared.Geometry.{Geometry}
use Rattle.standard.specs.declared.Place.{Place}
use Rattle.standard.specs.declared.Refusal.{Refusal}
use Rattle.standard.specs.declared.Answer.{Answer}
use Rattle.standard.specs.declared.Answer.TheVariants.{Record as RecordOf, Gap, End}
use Rattle.promises.specs.Ground.Lists.{Every}
use Rattle.promises.specs.Ground.Basics.{never}

-- each follows from the other
abbrev pub Exactly : Type 0 → Type 0 → Type 0
Exactly A B = (A → B) × (B → A)

-- none of a list of refusals is given
abbrev pub NoneGiven : List (Result ⊤ Refusal) → Type 0
NoneGiven list = Every (λ c. c ≡ Ok tt) list

-- IT IS THE FIRST OF A LIST THAT IS GIVEN: none before it is
pub record First (r : Refusal) (list : List (Result ⊤ Refusal)) : Type 0 where
  pub earlier : List (Result ⊤ Refusal)
  pub later : List (Result ⊤ Refusal)
  pub stands : list ≡ earlier ++ (Err r ∷ later)
  pub none_earlier : NoneGiven earlier

pub order_first : (list : List (Result ⊤ Refusal)) (r : Refusal) → in_order list ≡ Err r → First r list
unfolding in_order
order_first [] r h = never (cc)
order_first (Ok _ ∷ list) r h =
    let f = order_first list r h in
    record { earlier = Ok tt ∷ f.earlier; later = f.later; stands = ap (λ (l : List (Result ⊤ Refusal)). Ok tt ∷ l) f.stands; none_earlier = (refl, f.none_earlier) }
order_first (Err q ∷ list) r h = record { earlier = []; later = list; stands = cc; none_earlier = tt }

none_then : (earlier later : List (Result ⊤ Refusal)) (r : Refusal) → NoneGiven earlier → in_order (earlier ++ (Err r ∷ later)) ≡ Err r
unfolding in_order
none_then [] later r h = refl
none_then (Ok _ ∷ earlier) later r h = none_then earlier later r h.1
none_then (Err q ∷ earlier) later r h = never (let e = h.0 in cc)

pub first_order : (list : List (Result ⊤ Refusal)) (r : Refusal) → First r list → in_order list ≡ Err r
first_order list r f = ap in_order f.stands ∙ none_then f.earlier f.later r f.none_earlier

-- the volume
verdict_stopped : (c : Result ⊤ Refusal) (g : Geometry) (r : Refusal) → verdict c g ≡ Err r → c ≡ Err r
verdict_stopped (Ok _) g r h = never (cc)
verdict_stopped (Err q) g r h = cc

pub volume_first : (image : List ℕ) (r : Refusal) → Exactly (judged image ≡ Err r) (First r (volume_list image (volume_of image)))
unfolding judged volume_refusal
volume_first image r = (
  (λ h. order_first (volume_list image (volume_of image)) r (verdict_stopped _ (volume_of image) r h)),
  (λ f. ap (λ (c : Result ⊤ Refusal). verdict c (volume_of image)) (first_order (volume_list image (volume_of image)) r f)),
)

-- a reading's reply, and a write's outcome, by the judgement of the volume
abbrev pub reply_on : Result Geometry Refusal → Mode → List ℕ → ℕ → Place → ℕ → Reply
reply_on v m image slot pl room = on_volume v unanswered (λ g. opened (open_refusal g image slot) (reply_in m (file_in g image (label_at g image slot)) pl room))

abbrev outcome_done : Geometry → List ℕ → ℕ → List ℕ → List ℕ → Outcome
outcome_done g image slot bodies lengths =
    let p = packing (label_at g image slot) bodies lengths in
    record { answer = Ok (length p.contents); image = image_with g image slot p }

abbrev outcome_on : Result Geometry Refusal → List ℕ → ℕ → List ℕ → List ℕ → Outcome
outcome_on v image slot bodies lengths =
    on_volume v (λ x. record { answer = Err x; image = image })
    (λ g. unless (write_refusal g image slot bodies lengths) image (outcome_done g image slot bodies lengths))

-- "A file call stops at the first refusal of the volume."
pub volume_stops : (image : List ℕ) (r : Refusal) → judged image ≡ Err r
    → ((name : List ℕ) → found image name ≡ Err r)
    × ((slot : ℕ) → found_at image slot ≡ Err r)
    × ((slot : ℕ) → counted image slot ≡ Err r)
    × (free_count image ≡ Err r)
    × ((m : Mode) (slot : ℕ) (pl : Place) (out : List ℕ) → read_answer m image slot pl out ≡ Err r)
    × ((slot : ℕ) (bodies lengths : List ℕ) → written image slot bodies lengths ≡ Err r)
unfolding found found_at counted free_count reply outcome
volume_stops image r j = (
  (λ name. rw j),
  (λ slot. rw j),
  (λ slot. rw j),
  rw j,
  (λ m slot pl out. ap (λ (v : Result Geometry Refusal). (reply_on v m image slot pl (length out)).answer) j),
  (λ slot bodies lengths. ap (λ (v : Result Geometry Refusal). (outcome_on v image slot bodies lengths).answer) j),
)

-- the count
count_stopped : (c : Result ⊤ Refusal) (n : ℕ) (r : Refusal) → count_or c n ≡ Err r → c ≡ Err r
count_stopped (Ok _) n r h = never (cc)
count_stopped (Err q) n r h = cc

module _ (image : List ℕ) (g : Geometry) (j : judged image ≡ Ok g) where
  pub count_first : (slot : ℕ) (r : Refusal) → Exactly (counted image slot ≡ Err r) (First r (count_list g image slot))
  unfolding counted count_refusal
  count_first slot r = (
    (λ h. order_first (count_list g image slot) r (count_stopped (in_order (count_list g image slot)) _ r (rw j at h))),
    (λ f. rw j (rw (first_order (count_list g image slot) r f))),
  )

  -- writing
  write_stopped : (c : Result ⊤ Refusal) (o : Outcome) (n : ℕ) (r : Refusal) → o.answer ≡ Ok n → (unless c image o).answer ≡ Err r → c ≡ Err r
  write_stopped (Ok _) o n r b h = never (cc)
  write_stopped (Err q) o n r b h = cc

  pub write_first : (slot : ℕ) (bodies lengths : List ℕ) (r : Refusal)
      → Exactly (written image slot bodies lengths ≡ Err r) (First r (write_list g image slot bodies lengths))
  unfolding outcome write_refusal
  write_first slot bodies lengths r = (
    (λ h. order_first (write_list g image slot bodies lengths) r (write_stopped (in_order (write_list g image slot bodies lengths)) _ _ r refl
        (subst (λ (v : Result Geometry Refusal). (outcome_on v image slot bodies lengths).answer ≡ Err r) j h))),
    (λ f. ap (λ (v : Result Geometry Refusal). (outcome_on v image slot bodies lengths).answer) j ∙ ap (λ (c : Result ⊤ Refusal). (unless c image (outcome_done g image slot bodies lengths)).answer) (first_order (write_list g image slot bodies lengths) r f)),
  )

  -- a write that answers with blocks was refused by nothing
  write_done : (c : Result ⊤ Refusal) (o : Outcome) (n : ℕ) → (unless c image o).answer ≡ Ok n → c ≡ Ok tt
  write_done (Ok _) o n h = refl
  write_done (Err q) o n h = never (cc)

  pub accepted_write : (slot : ℕ) (bodies lengths : List ℕ) (n : ℕ) → written image slot bodies lengths ≡ Ok n → write_refusal g image slot bodies lengths ≡ Ok tt
  unfolding outcome
  accepted_write slot bodies lengths n h =
      write_done (write_refusal g image slot bodies lengths) (outcome_done g image slot bodies lengths) n
      (subst (λ (v : Result Geometry Refusal). (outcome_on v image slot bodies lengths).answer ≡ Ok n) j h)

-- ---- what was lent stays
-- A reply that is no record has no body; one that is a record has a body of the length that it names.
abbrev Bodied : Result Answer Refusal → List ℕ → Type 0
Bodied (Err r) body = body ≡ []
Bodied (Ok (RecordOf n pl)) body = length body ≡ n
Bodied (Ok (Gap pl)) body = body ≡ []
Bodied (Ok (End pl)) body = body ≡ []

delivered_bodied : (room : ℕ) (body : List ℕ) (pl : Place) → Bodied (delivered room body pl).answer (delivered room body pl).body
delivered_bodied room body pl = go (ltb room (length body))
  where
    go : (t : Bool)
        → Bodied (cond t (unanswered (refuse 23 (length body))) (record { answer = Ok (RecordOf (length body) pl); body = body })).answer
        (cond t (unanswered (refuse 23 (length body))) (record { answer = Ok (RecordOf (length body) pl); body = body })).body
    go true = refl
    go false = refl

replied_bodied : (f : File) (room : ℕ) (x : Met) → Bodied (replied f room x).answer (replied f room x).body
replied_bodied f room (took r pl) = delivered_bodied room r.body pl
replied_bodied f room (gapped b pl) = refl
replied_bodied f room ended = refl
replied_bodied f room (refused r) = refl

in_bodied : (m : Mode) (f : File) (pl : Place) (room : ℕ) → Bodied (reply_in m f pl room).answer (reply_in m f pl room).body
unfolding reply_in
in_bodied m f pl room = go (in_file f pl) (replied_bodied f room (step m f pl))
  where
    go : (t : Bool) → Bodied (replied f room (step m f pl)).answer (replied f room (step m f pl)).body
        → Bodied (cond t (replied f room (step m f pl)) (unanswered (refuse 19 0))).answer (cond t (replied f room (step m f pl)) (unanswered (refuse 19 0))).body
    go true h = h
    go false h = refl

opened_bodied : (c : Result ⊤ Refusal) (r : Reply) → Bodied r.answer r.body → Bodied (opened c r).answer (opened c r).body
opened_bodied (Ok _) r h = h
opened_bodied (Err x) r h = refl

on_bodied : (v : Result Geometry Refusal) (m : Mode) (image : List ℕ) (slot : ℕ) (pl : Place) (room : ℕ)
    → Bodied (reply_on v m image slot pl room).answer (reply_on v m image slot pl room).body
on_bodied (Err r) m image slot pl room = refl
on_bodied (Ok g) m image slot pl room =
    opened_bodied (open_refusal g image slot) (reply_in m (file_in g image (label_at g image slot)) pl room) (in_bodied m (file_in g image (label_at g image slot)) pl room)

bodied : (m : Mode) (image : List ℕ) (slot : ℕ) (pl : Place) (room : ℕ) → Bodied (reply m image slot pl room).answer (reply m image slot pl room).body
unfolding reply
bodied m image slot pl room = on_bodied (judged image) m image slot pl room

module _ (m : Mode) (image : List ℕ) (slot : ℕ) (pl : Place) (out : List ℕ) where
  nothing_laid : (reply m image slot pl (length out)).body ≡ [] → output_after m image slot pl out ≡ out
  unfolding laid_over
  nothing_laid e = rw e

  so : (a : Result Answer Refusal) → read_answer m image slot pl out ≡ a → Bodied a (reply m image slot pl (length out)).body
  so a h = subst (λ (x : Result Answer Refusal). Bodied x (reply m image slot pl (length out)).body) h (bodied m image slot pl (length out))

  pub refusal_lays_nothing : (r : Refusal) → read_answer m image slot pl out ≡ Err r → output_after m image slot pl out ≡ out
  refusal_lays_nothing r h = nothing_laid (so (Err r) h)

  pub gap_lays_nothing : (next : Place) → read_answer m image slot pl out ≡ Ok (Gap next) → output_after m image slot pl out ≡ out
  gap_lays_nothing next h = nothing_laid (so (Ok (Gap next)) h)

  pub end_lays_nothing : (next : Place) → read_answer m image slot pl out ≡ Ok (End next) → output_after m image slot pl out ≡ out
  end_lays_nothing next h = nothing_laid (so (Ok (End next)) h)

write_unless : (c : Result ⊤ Refusal) (image : List ℕ) (o : Outcome) (n : ℕ) (r : Refusal) → o.answer ≡ Ok n → (unless c image o).answer ≡ Err r → (unless c image o).image ≡ image
write_unless (Ok _) image o n r b h = never (cc)
write_unless (Err q) image o n r b h = refl

on_writes : (v : Result Geometry Refusal) (image : List ℕ) (slot : ℕ) (bodies lengths : List ℕ) (r : Refusal)
    → (outcome_on v image slot bodies lengths).answer ≡ Err r → (outcome_on v image slot bodies lengths).image ≡ image
on_writes (Err x) image slot bodies lengths r h = refl
on_writes (Ok g) image slot bodies lengths r h = write_unless (write_refusal g image slot bodies lengths) image _ _ r refl h

pub refusal_writes_nothing : (image : List ℕ) (slot : ℕ) (bodies lengths : List ℕ) (r : Refusal)
    → written image slot bodies lengths ≡ Err r → image_after image slot bodies lengths ≡ image
unfolding outcome
refusal_writes_nothing image slot bodies lengths r h = on_writes (judged image) image slot bodies lengths r h
