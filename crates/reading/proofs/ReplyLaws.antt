-- From what is met to the reply, and the exits of a reading.
-- Assumes nothing.
use Rattle.std.specs.Prelude.{Result, Ok, Err}
use Prim.Native.Nat.{ℕ, ◌-◌, ◌<◌, ◌≤◌}
use mathlib.Core.Path.{◌≡◌, refl, sym, ap, subst, ◌∙◌}
use mathlib.Core.Bool.{true, false, ◌&&◌}
use mathlib.Core.List.{List, []}
use lib.ListN.{length}
use lib.Seq.{paste}
use lib.Dec.{leb, ltb, eqb}
use native.Mathlib.Omega.{arith}
use borrow.Author.Tests.{lt-ltb, le-ltb, leb-true, leb-false, ltb-true, eqb-true}
use Rattle.standard.specs.Refusals.{refuse}
use Rattle.standard.specs.Labels.{Format}
use Rattle.standard.specs.Judgement.{judged}
use Rattle.standard.specs.Files.{open_refusal, file_in}
use Rattle.standard.specs.Pieces.{ahead}
use Rattle.standard.specs.Records.{Mode as ModeOf, File, Met, took, gapped, ended, refused, first_met, entering, aligned, in_file, step}
use Rattle.standard.specs.Reading.{Reply, unanswered, replied, reply_in, reply, read_answer, laid_over, output_after}
use Rattle.standard.specs.declared.Geometry.{Geometry}
use Rattle.standard.specs.declared.Place.{Place}
use Rattle.standard.specs.declared.Refusal.{Refusal}
use Rattle.standard.specs.declared.Answer.{Answer}
use Rattle.standard.specs.declared.Answer.TheVariants.{Record as RecordOf}
use Rattle.promises.specs.Ground.Basics.{by_test, and_l, and_r, never}
use Rattle.promises.proofs.Salvage.SalvageImage.{file_count}
use Rattle.labels.specs.Forms.{format_for}
use Rattle.opening.specs.Opened.{file_numbers, opening_in, label_in, file_of, Opened, size_at, inside_by, Seated, opening_on, opening_of}
use Rattle.opening.specs.declared.FileNumbers.{FileNumbers}
use Rattle.opening.specs.declared.Seat.{Seat}
use Rattle.opening.proofs.OpenedLaws.{facts, open_is, shut_of}
use Rattle.blocks.proofs.CopyLaws.{paste_laid}
use Rattle.walks.specs.Stands.{length_of, state_with, met_with, measured, length_in, ended_by}
use Rattle.walks.specs.Walks.{mode_of, met_from, Walking, body_ahead, Reached, grown, ReachedBy}
use Rattle.walks.specs.declared.Mode.{Mode}
use Rattle.walks.specs.declared.Stand.{Stand}
use Rattle.walks.specs.declared.Stand.TheVariants.{Fresh, Marked, Within}
use Rattle.walks.specs.declared.Measured.{Measured}
use Rattle.walks.specs.declared.Measured.TheVariants.{Took, Lost, Ended}
use Rattle.walks.specs.declared.Walk.{Walk}
use Rattle.walks.proofs.WalkLaws.{size_most}
use Rattle.reading.specs.Answers.{Room, body_in, answered_by, fits_in, Answers}
use Rattle.reading.proofs.MeetingLaws.{end_measured, met_end}

-- 23 or the record
pub answered_short : (count room : ℕ) (x : Result Measured Refusal) (n f : ℕ) (pl : Place) → x ≡ Ok (Took n f pl) → room < n → Err (refuse 23 n) ≡ answered_by count room x
answered_short count room x n f pl e h = rw (e, lt-ltb room n h)

pub answered_record : (count room : ℕ) (x : Result Measured Refusal) (n f : ℕ) (pl : Place) → x ≡ Ok (Took n f pl) → n ≤ room → Ok (RecordOf n pl) ≡ answered_by count room x
answered_record count room x n f pl e h = rw (e, le-ltb room n h)

fits_not : (n room : ℕ) → leb n room ≡ true → ltb room n ≡ false
fits_not n room h = le-ltb room n (leb-true n room h)

not_fits : (n room : ℕ) → leb n room ≡ false → ltb room n ≡ true
not_fits n room h = lt-ltb room n (leb-false n room h)

-- THE REPLY to what is met
module _ (file : File) (room : ℕ) where
  reply_no : (met : Met) → fits_in room (measured met) ≡ false
      → ((replied file room met).answer ≡ answered_by (length file.blocks) room (measured met)) × ((replied file room met).body ≡ [])
  reply_no (took r pl) h = rw (not_fits (length r.body) room h) (refl, refl)
  reply_no (gapped b pl) h = (refl, refl)
  reply_no ended h = (refl, refl)
  reply_no (refused r) h = (refl, refl)

  reply_yes : (met : Met) → fits_in room (measured met) ≡ true
      → ((replied file room met).answer ≡ answered_by (length file.blocks) room (measured met)) × ((replied file room met).body ≡ body_in met)
  reply_yes (took r pl) h = rw (fits_not (length r.body) room h) (refl, refl)
  reply_yes (gapped b pl) h = never (cc)
  reply_yes ended h = never (cc)
  reply_yes (refused r) h = never (cc)

  pub room_for : (met : Met) → fits_in room (measured met) ≡ true → Room room met
  room_for (took r pl) h = leb-true (length r.body) room h
  room_for (gapped b pl) h = never (cc)
  room_for ended h = never (cc)
  room_for (refused r) h = never (cc)

nothing_laid : (out : List ℕ) → out ≡ laid_over [] out
unfolding laid_over
nothing_laid out = refl

-- the answer and the output of a reply that is the same, and of one that refuses
same_reply : {y z : Reply} (out after : List ℕ) (a : Result Answer Refusal) → y ≡ z → (a ≡ y.answer) × (after ≡ laid_over y.body out) → (a ≡ z.answer) × (after ≡ laid_over z.body out)
same_reply out after a e h = subst (λ (x : Reply). (a ≡ x.answer) × (after ≡ laid_over x.body out)) e h

refused_reply : {y : Reply} (out : List ℕ) (r : Refusal) → y ≡ unanswered r → (Err r ≡ y.answer) × (out ≡ laid_over y.body out)
refused_reply out r e = same_reply out out (Err r) (sym e) (refl, nothing_laid out)

module _ (image : List ℕ) (f : FileNumbers) (o : Opened image f) (out : List ℕ) where
  counted_blocks : length (file_of image f).blocks ≡ f.count
  counted_blocks = file_count f.g image (label_in image f) ∙ sym (facts image f o).count_is

  pub answers_no : (met : Met) (x : Result Measured Refusal) (a : Result Answer Refusal) → x ≡ measured met → fits_in (length out) x ≡ false → a ≡ answered_by f.count (length out) x
      → Answers image f met out out a
  answers_no met x a e h q =
      let r = reply_no (file_of image f) (length out) met (ap (fits_in (length out)) (sym e) ∙ h) in (
        q ∙ (ap (answered_by f.count (length out)) e ∙ (ap (λ (n : ℕ). answered_by n (length out) (measured met)) (sym counted_blocks) ∙ sym r.0)),
        nothing_laid out ∙ ap (λ (b : List ℕ). laid_over b out) (sym r.1),
      )

  pub answers_yes : (met : Met) (x : Result Measured Refusal) (a : Result Answer Refusal) (after : List ℕ) → x ≡ measured met → fits_in (length out) x ≡ true
      → a ≡ answered_by f.count (length out) x → after ≡ laid_over (body_in met) out → Answers image f met out after a
  answers_yes met x a after e h q l =
      let r = reply_yes (file_of image f) (length out) met (ap (fits_in (length out)) (sym e) ∙ h) in (
        q ∙ (ap (answered_by f.count (length out)) e ∙ (ap (λ (n : ℕ). answered_by n (length out) (measured met)) (sym counted_blocks) ∙ sym r.0)),
        l ∙ ap (λ (b : List ℕ). laid_over b out) (sym r.1),
      )

end_fits : (room : ℕ) (s : Stand) → fits_in room (ended_by s) ≡ false
end_fits room Fresh = refl
end_fits room Marked = refl
end_fits room (Within n f) = refl

pub answers_end : (image : List ℕ) (f : FileNumbers) → Opened image f → (out : List ℕ) (s : Mode) (w : Walk) (x : Result Measured Refusal) (a : Result Answer Refusal) → f.count ≤ w.place.block
    → x ≡ ended_by w.stand → a ≡ answered_by f.count (length out) x → Answers image f (met_from image f s w []) out out a
answers_end image f o out s w x a l e q =
    answers_no image f o out (met_from image f s w []) x a (e ∙ (sym (end_measured w.stand []) ∙ ap measured (sym (met_end image f s o w [] l))))
    (ap (fits_in (length out)) e ∙ end_fits (length out) w.stand) q

-- ONE TURN
module _ (image : List ℕ) (f : FileNumbers) (w : Walk) (z : length_of w.stand ≡ 0) where
  pub once_room : (x : Result Measured Refusal) (room : ℕ) → ReachedBy image f w x → fits_in room x ≡ true → (Reached image f w (length_in x)) × (length_in x ≤ room)
  once_room (Ok (Took n g pl)) room r h = (r, leb-true n room h)
  once_room (Ok (Lost pl)) room r h = never (cc)
  once_room (Ok Ended) room r h = never (cc)
  once_room (Err q) room r h = never (cc)

  once_body : (x : Result Measured Refusal) (body : List ℕ) (room : ℕ) → fits_in room x ≡ true → body_in (met_with body x) ≡ body
  once_body (Ok (Took n g pl)) body room h = refl
  once_body (Ok (Lost pl)) body room h = never (cc)
  once_body (Ok Ended) body room h = never (cc)
  once_body (Err q) body room h = never (cc)

  pub once_laid : (x : Result Measured Refusal) (out after : List ℕ) → ReachedBy image f w x → fits_in (length out) x ≡ true
      → after ≡ paste out (length_of w.stand) (body_ahead image f w) (length_in x - length_of w.stand)
      → after ≡ laid_over (body_in (met_with (grown image f w [] (length_in x)) x)) out
  once_laid x out after r h q =
      let n = length_in x in
      let a = length_of w.stand in
      let reach = (once_room x (length out) r h).0 in
      q
      ∙ (ap (λ (i : ℕ). paste out i (body_ahead image f w) (n - a)) z
      ∙ (paste_laid out (body_ahead image f w) (n - a) (omega (arith, reach.0, reach.1))
      ∙ ap (λ (b : List ℕ). laid_over b out) (sym (once_body x (grown image f w [] n) (length out) h))))

-- what is met further on, into the same output
pub answers_from : (image : List ℕ) (f : FileNumbers) (met met' : Met) (out out' after : List ℕ) (a : Result Answer Refusal) → met ≡ met' → out' ≡ out
    → Answers image f met' out' after a → Answers image f met out after a
answers_from image f met met' out out' after a e o h =
    subst (λ (m : Met). Answers image f m out after a) (sym e) (subst (λ (x : List ℕ). Answers image f met' x after a) o h)

-- A PLACE OF AN OPENED FILE
pub place_low : (image : List ℕ) (f : FileNumbers) (pl : Place) → Opened image f → inside_by f pl ≡ true → (pl.block ≤ f.count) × (pl.offset < 65536)
unfolding inside_by
place_low image f pl o h =
    let k = facts image f o in
    by_test (ltb pl.block f.count)
    (λ t.
    let q : (leb pl.offset (size_at f pl.block) && aligned (format_for f.form) f.R pl.offset) ≡ true = rw t at h in
    (omega (arith, ltb-true pl.block f.count t), omega (arith, leb-true pl.offset (size_at f pl.block) (and_l _ _ q), size_most f pl.block, k.B-low)))
    (λ t.
    let q : (eqb pl.block f.count && eqb pl.offset 0) ≡ true = rw t at h in
    (omega (arith, eqb-true pl.block f.count (and_l _ _ q)), omega (arith, eqb-true pl.offset 0 (and_r (eqb pl.block f.count) _ q))))

pub walking_start : (image : List ℕ) (f : FileNumbers) (w : Walk) → Seated image f w.place.block w.at → w.place.block ≤ f.count → w.place.offset < 65536
    → length_of w.stand ≡ 0 → Walking image f w
walking_start image f w s b o z = (s, b, o, omega (arith, z))

pub seat_same : (image : List ℕ) (f : FileNumbers) (s : Seat) (b : ℕ) → s.block ≡ b → Seated image f b s.at → Seated image f s.block s.at
seat_same image f s b e h = rw e h

module _ (m : ModeOf) (file : File) (pl : Place) (room : ℕ) where
  pub reply_19 : in_file file pl ≡ false → reply_in m file pl room ≡ unanswered (refuse 19 0)
  unfolding reply_in
  reply_19 h = rw h

  pub reply_step : in_file file pl ≡ true → reply_in m file pl room ≡ replied file room (step m file pl)
  unfolding reply_in
  reply_step h = rw h

pub answer_19 : (m : ModeOf) (file : File) (pl : Place) (out : List ℕ) → in_file file pl ≡ false
    → (Err (refuse 19 0) ≡ (reply_in m file pl (length out)).answer) × (out ≡ laid_over (reply_in m file pl (length out)).body out)
answer_19 m file pl out h = refused_reply out (refuse 19 0) (reply_19 m file pl (length out) h)

pub answer_step : (image : List ℕ) (f : FileNumbers) (m : ModeOf) (pl : Place) (met : Met) (out after : List ℕ) (a : Result Answer Refusal) → in_file (file_of image f) pl ≡ true
    → met ≡ step m (file_of image f) pl → Answers image f met out after a
    → (a ≡ (reply_in m (file_of image f) pl (length out)).answer) × (after ≡ laid_over (reply_in m (file_of image f) pl (length out)).body out)
answer_step image f m pl met out after a i e h =
    let r = ap (replied (file_of image f) (length out)) e ∙ sym (reply_step m (file_of image f) pl (length out) i) in
    same_reply out after a r h

pub step_from : (image : List ℕ) (f : FileNumbers) (s : Mode) (w : Walk) (format : Format) → format ≡ (file_of image f).params.format
    → state_with [] w.stand ≡ entering (mode_of s) format w.place.offset w.place.mark
    → met_from image f s w [] ≡ step (mode_of s) (file_of image f) w.place
unfolding step
step_from image f s w format e h =
    let file = file_of image f in
    ap (first_met (mode_of s) file.params (ahead file.params file.blocks w.place.block w.place.offset))
    (h ∙ ap (λ (k : Format). entering (mode_of s) k w.place.offset w.place.mark) e)

pub format_is : (image : List ℕ) (f : FileNumbers) → Opened image f → format_for f.form ≡ (file_of image f).params.format
unfolding file_in
format_is image f o = (facts image f o).format

-- A SLOT OF ANY IMAGE
numbers_own : (image : List ℕ) (g : Geometry) (slot : ℕ) → ((file_numbers g image slot).g ≡ g) × ((file_numbers g image slot).slot ≡ slot)
unfolding file_numbers
numbers_own image g slot = (refl, refl)

open_same : (image : List ℕ) (g : Geometry) (slot : ℕ) (f : FileNumbers) → opening_in g image slot ≡ Ok f → (f.g ≡ g) × (f.slot ≡ slot) × (open_refusal g image slot ≡ Ok tt)
open_same image g slot f e =
    let o = open_is image g slot f e in
    let own = numbers_own image g slot in
    (ap (λ (x : FileNumbers). x.g) o.1 ∙ own.0, ap (λ (x : FileNumbers). x.slot) o.1 ∙ own.1, o.0)

module _ (m : ModeOf) (image : List ℕ) (slot : ℕ) (pl : Place) (room : ℕ) where
  reply_refused : (r : Refusal) → judged image ≡ Err r → reply m image slot pl room ≡ unanswered r
  unfolding reply
  reply_refused r j = rw j

  reply_shut : (g : Geometry) (r : Refusal) → judged image ≡ Ok g → opening_in g image slot ≡ Err r → reply m image slot pl room ≡ unanswered r
  unfolding reply
  reply_shut g r j e = rw (j, shut_of image g slot r e)

  reply_open : (g : Geometry) (f : FileNumbers) → judged image ≡ Ok g → opening_in g image slot ≡ Ok f → reply m image slot pl room ≡ reply_in m (file_of image f) pl room
  unfolding reply
  reply_open g f j e =
      let s = open_same image g slot f e in
      rw (j, s.2) (ap (λ (file : File). reply_in m file pl room) (rw (s.0, s.1)))

-- and the answer and the output, by what judging and opening said
module _ (m : ModeOf) (image : List ℕ) (slot : ℕ) (pl : Place) (out : List ℕ) where
  pub answer_closed : (r : Refusal) → opening_of image slot ≡ Err r → (Err r ≡ read_answer m image slot pl out) × (out ≡ output_after m image slot pl out)
  answer_closed r e = refused_reply out r (on (judged image) refl e)
    where
      on : (j : Result Geometry Refusal) → judged image ≡ j → opening_on j image slot ≡ Err r → reply m image slot pl (length out) ≡ unanswered r
      on (Err x) k e = reply_refused m image slot pl (length out) r (cc)
      on (Ok g) k e = reply_shut m image slot pl (length out) g r k e

  pub answer_going : (f : FileNumbers) (a : Result Answer Refusal) (after : List ℕ) → opening_of image slot ≡ Ok f
      → (a ≡ (reply_in m (file_of image f) pl (length out)).answer) × (after ≡ laid_over (reply_in m (file_of image f) pl (length out)).body out)
      → (a ≡ read_answer m image slot pl out) × (after ≡ output_after m image slot pl out)
  answer_going f a after e h = same_reply out after a (sym (on (judged image) refl e)) h
    where
      on : (j : Result Geometry Refusal) → judged image ≡ j → opening_on j image slot ≡ Ok f → reply m image slot pl (length out) ≡ reply_in m (file_of image f) pl (length out)
      on (Err r) k e = never (cc)
      on (Ok g) k e = reply_open m image slot pl (length out) g f k e
