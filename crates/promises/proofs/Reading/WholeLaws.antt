-- A file that is heard whole: what a caller has heard is the file's list.
-- Assumes nothing.
use Prim.Native.Nat.{ℕ, zero, suc}
use Rattle.std.proofs.Common.{subst, sym, ◌∙◌, arith}
use Rattle.std.specs.Prelude.{◌≡◌, Bool, true, false, length, take, ltb, Result, Ok, Err, ⊤}
use Rattle.std.proofs.Math.Path.{refl, ap}
use mathlib.Core.List.{List, [], ◌∷◌, ◌++◌, map}
use Rattle.standard.specs.Refusals.{refuse}
use Rattle.standard.specs.Layout.{label_at}
use Rattle.standard.specs.Records.{Mode, plain, FileRecord}
use Rattle.standard.specs.Listed.{Item, rec, gap, end, no, listed}
use Rattle.standard.specs.Places.{start}
use Rattle.standard.specs.Judgement.{judged}
use Rattle.standard.specs.Files.{open_refusal, file_in}
use Rattle.standard.specs.Reading.{Reply, unanswered, reply, laid_over}
use Rattle.standard.specs.declared.Geometry.{Geometry}
use Rattle.standard.specs.declared.Refusal.{Refusal}
use Rattle.standard.specs.declared.Place.{Place}
use Rattle.promises.specs.Reading.ReadingLaws.{Reads, reads_cons}
use Rattle.promises.specs.Reading.ListedLaws.{Closed, listed_closed}
use Rattle.promises.specs.Reading.Following.{Heard, told, gap_at, done, refused, onward, following, too_long, heard_in}
use Rattle.promises.proofs.Reading.FollowingLaws.{following_any}
use Rattle.promises.specs.Salvage.Failing.{ReadsWhole}

abbrev Whole : List Heard → List (List ℕ) → Type 0
Whole hs bodies = hs ≡ map told bodies ++ (done ∷ [])

-- what is heard first
none_whole : (bodies : List (List ℕ)) → Whole [] bodies → ⊥
none_whole [] h = let z : ◌≡◌ {A = ℕ} 0 1 = cc in omega arith
none_whole (x ∷ xs) h = let z : ◌≡◌ {A = ℕ} 0 1 = cc in omega arith

refused_whole : (x : Refusal) (hs : List Heard) (bodies : List (List ℕ)) → Whole (refused x ∷ hs) bodies → ⊥
refused_whole x hs [] h = let z : ◌≡◌ {A = ℕ} 0 1 = cc in omega arith
refused_whole x hs (y ∷ ys) h = let z : ◌≡◌ {A = ℕ} 0 1 = cc in omega arith

gap_whole : (b : ℕ) (hs : List Heard) (bodies : List (List ℕ)) → Whole (gap_at b ∷ hs) bodies → ⊥
gap_whole b hs [] h = let z : ◌≡◌ {A = ℕ} 0 1 = cc in omega arith
gap_whole b hs (y ∷ ys) h = let z : ◌≡◌ {A = ℕ} 0 1 = cc in omega arith

told_none : (body : List ℕ) (hs : List Heard) → Whole (told body ∷ hs) [] → ⊥
told_none body hs h = let z : ◌≡◌ {A = ℕ} 0 1 = cc in omega arith

done_none : (hs : List Heard) (x : List ℕ) (xs : List (List ℕ)) → Whole (done ∷ hs) (x ∷ xs) → ⊥
done_none hs x xs h = let z : ◌≡◌ {A = ℕ} 0 1 = cc in omega arith

told_first : (body x : List ℕ) (hs : List Heard) (xs : List (List ℕ)) → Whole (told body ∷ hs) (x ∷ xs) → (body ≡ x) × Whole hs xs
told_first body x hs xs h = ((cc), (cc))

rec_whole : (room : ℕ) (t : Bool) (r : FileRecord) (is : List Item) (hs : List Heard) (bodies : List (List ℕ)) → Whole (too_long t r.body hs) bodies
    → ((xs : List (List ℕ)) → Whole hs xs → Reads is xs) → Reads (rec r ∷ is) bodies
rec_whole room true r is hs bodies h ih = absurd (refused_whole (refuse 23 (length r.body)) [] bodies h)
rec_whole room false r is hs [] h ih = absurd (told_none r.body hs h)
rec_whole room false r is hs (x ∷ xs) h ih =
    let (q, w) = told_first r.body x hs xs h in
    subst (λ (y : List ℕ). Reads (rec r ∷ is) (y ∷ xs)) q (reads_cons r (ih xs w))

end_whole : (is : List Item) (hs : List Heard) → is ≡ [] → (bodies : List (List ℕ)) → Whole (done ∷ hs) bodies → Reads (end ∷ is) bodies
end_whole is hs e [] h = record { rs = []; same = refl; clean = ap (λ (ms : List Item). end ∷ ms) e }
end_whole is hs e (x ∷ xs) h = absurd (done_none hs x xs h)

-- a list that is heard as bodies and End has these bodies and End
heard_whole : (room n : ℕ) (is : List Item) → Closed is → (bodies : List (List ℕ)) → Whole (heard_in room (take n is)) bodies → Reads is bodies
unfolding heard_in
heard_whole room zero is c bodies h = absurd (none_whole bodies h)
heard_whole room (suc n) [] c bodies h = absurd c
heard_whole room (suc n) (rec r ∷ is) c bodies h =
    rec_whole room (ltb room (length r.body)) r is (heard_in room (take n is)) bodies h (λ xs w. heard_whole room n is c xs w)
heard_whole room (suc n) (gap b ∷ is) c bodies h = absurd (gap_whole b _ bodies h)
heard_whole room (suc n) (end ∷ is) c bodies h = end_whole is (heard_in room (take n is)) c bodies h
heard_whole room (suc n) (no x ∷ is) c bodies h = absurd (refused_whole x _ bodies h)

module _ (image : List ℕ) (g : Geometry) (slot : ℕ) (bodies : List (List ℕ)) (j : judged image ≡ Ok g) (w : ReadsWhole image slot bodies) where
  -- a file that is heard whole may be opened
  stopped_reply : (m : Mode) (pl : Place) (room : ℕ) (x : Refusal) → open_refusal g image slot ≡ Err x → reply m image slot pl room ≡ unanswered x
  unfolding reply
  stopped_reply m pl room x e = rw (j, e)

  stopped_heard : (n : ℕ) (out : List ℕ) (x : Refusal) → open_refusal g image slot ≡ Err x → following (suc n) plain image slot out start ≡ refused x ∷ []
  unfolding following
  stopped_heard n out x e =
      ap (λ (r : Reply). onward r.answer (laid_over r.body out) (λ out' pl. following n plain image slot out' pl)) (stopped_reply plain start (length out) x e)

  whole_opens : (n : ℕ) (out : List ℕ) → Whole (following n plain image slot out start) bodies → open_refusal g image slot ≡ Ok tt
  unfolding following
  whole_opens zero out h = absurd (none_whole bodies h)
  whole_opens (suc n) out h = go (open_refusal g image slot) refl
    where
      go : (c : Result ⊤ Refusal) → open_refusal g image slot ≡ c → open_refusal g image slot ≡ Ok tt
      go (Ok _) e = e
      go (Err x) e = absurd (refused_whole x [] bodies (sym (stopped_heard n out x e) ∙ h))

  pub opens_whole : open_refusal g image slot ≡ Ok tt
  opens_whole = whole_opens w.readings w.out w.hears

  pub reads_whole : Reads (listed plain (file_in g image (label_at g image slot))) bodies
  reads_whole =
      let f = file_in g image (label_at g image slot) in
      heard_whole (length w.out) w.readings (listed plain f) (listed_closed plain f) bodies
      (sym (following_any image g slot j opens_whole plain w.readings w.out) ∙ w.hears)
