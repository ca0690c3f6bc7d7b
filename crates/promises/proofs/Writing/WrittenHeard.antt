-- WHAT A CALLER HEARS OF A WRITTEN FILE: following it from Start gives the bodies that were written, and End.
-- Assumes nothing.
use Rattle.std.specs.Prelude.{ℕ, zero, suc, ◌+◌, ◌≤◌, ◌≡◌, refl, Bool, true, false, List, [], ◌∷◌, ◌++◌, map, length, take, drop, ltb, Ok}
use Rattle.std.proofs.Common.{sym, ap, subst, ◌∙◌, length-append, take_all, arith, le-ltb}
use Rattle.std.proofs.lemmas.List.{length-map}
use Rattle.std.proofs.Math.Seq.{take-nil}
use Rattle.standard.specs.Layout.{label_at}
use Rattle.standard.specs.Refusals.{refuse}
use Rattle.standard.specs.Judgement.{judged}
use Rattle.standard.specs.Records.{Mode, plain, salvage, FileRecord}
use Rattle.standard.specs.Listed.{Item, rec, end, read_all, listed}
use Rattle.standard.specs.Places.{start}
use Rattle.standard.specs.Files.{file_in, file_at}
use Rattle.standard.specs.Writing.{total, parted, write_refusal, image_after}
use Rattle.standard.specs.declared.Geometry.{Geometry}
use Rattle.promises.specs.Reading.ReadingLaws.{read_all_listed, Reads, body_of}
use Rattle.promises.specs.Reading.Following.{Heard, told, done, refused, following, too_long, heard_in}
use Rattle.promises.specs.Salvage.Failing.{ReadsWhole}
use Rattle.promises.proofs.Writing.AcceptedWrite.{passing}
use Rattle.promises.proofs.Reading.FollowingLaws.{following_any}
use Rattle.promises.specs.Volumes.VolumePromises.{file_at_lem}
use Rattle.promises.proofs.Writing.WritingPromises.{accepted_still, opens, reads, salvages, records_are}
use Rattle.promises.specs.Ground.Lists.{Every}

-- What is heard of bodies and End where the output has so much room: each body, up to the first that is too long, where 23 "output too small" is heard.
unfoldable pub told_in : ℕ → List (List ℕ) → List Heard
told_in room [] = done ∷ []
told_in room (x ∷ xs) = too_long (ltb room (length x)) x (told_in room xs)

-- so much room is enough for every one of these lengths
abbrev pub RoomFor : ℕ → List ℕ → Type 0
RoomFor room lengths = Every (λ n. n ≤ room) lengths

pub told_all : (room : ℕ) (xs : List (List ℕ)) → RoomFor room (map length xs) → told_in room xs ≡ map told xs ++ (done ∷ [])
unfolding told_in
told_all room [] h = refl
told_all room (x ∷ xs) h = rw (le-ltb room (length x) h.0, told_all room xs h.1)

take_long : (n : ℕ) (t : Bool) (body : List ℕ) (hs ks : List Heard) → hs ≡ take n ks → too_long t body hs ≡ take (suc n) (too_long t body ks)
take_long n true body hs ks e = ap (λ (l : List Heard). refused (refuse 23 (length body)) ∷ l) (sym (take-nil {A = Heard} n))
take_long n false body hs ks e = ap (λ (l : List Heard). told body ∷ l) e

heard_told : (room n : ℕ) (rs : List FileRecord) → heard_in room (take n (map rec rs ++ (end ∷ []))) ≡ take n (told_in room (map body_of rs))
unfolding heard_in told_in
heard_told room zero rs = refl
heard_told room (suc n) [] = rw (take-nil {A = Item} n, take-nil {A = Heard} n)
heard_told room (suc n) (r ∷ rs) =
    take_long n (ltb room (length r.body)) r.body (heard_in room (take n (map rec rs ++ (end ∷ [])))) (told_in room (map body_of rs)) (heard_told room n rs)

room_total : (room : ℕ) (lengths : List ℕ) → total lengths ≤ room → RoomFor room lengths
unfolding total
room_total room [] h = tt
room_total room (n ∷ lengths) h = (omega arith, room_total room lengths (omega arith))

parted_count : (lengths bodies : List ℕ) → length (parted bodies lengths) ≡ length lengths
unfolding parted
parted_count [] bodies = refl
parted_count (n ∷ lengths) bodies = ap suc (parted_count lengths (drop n bodies))

module _ (image : List ℕ) (g : Geometry) (slot : ℕ) (bodies lengths : List ℕ) (j : judged image ≡ Ok g)
    (w : write_refusal g image slot bodies lengths ≡ Ok tt) where
  abbrev after : List ℕ
  after = image_after image slot bodies lengths

  -- a file that reads as these bodies is heard so
  heard_so : (m : Mode) → Reads (read_all m (file_at after slot)) (parted bodies lengths) → (n : ℕ) (out : List ℕ)
      → following n m after slot out start ≡ take n (told_in (length out) (parted bodies lengths))
  heard_so m r n out =
      let j' = accepted_still image g slot bodies lengths j w in
      let e : listed m (file_in g after (label_at g after slot)) ≡ map rec r.rs ++ (end ∷ []) =
      ap (listed m) (sym (file_at_lem after g slot j')) ∙ sym (read_all_listed m (file_at after slot)) ∙ r.clean in
      following_any after g slot j' (opens image g slot bodies lengths j w) m n out
      ∙ ap (λ (is : List Item). heard_in (length out) (take n is)) e
      ∙ heard_told (length out) n r.rs
      ∙ ap (λ (xs : List (List ℕ)). take n (told_in (length out) xs)) r.same

  -- N READINGS FROM START, plain or salvage, into any output: the bodies written, in order, and End, up to the first that is too long for the output
  pub written_heard_in : (m : Mode) (n : ℕ) (out : List ℕ) → following n m after slot out start ≡ take n (told_in (length out) (parted bodies lengths))
  written_heard_in plain = heard_so plain (reads image g slot bodies lengths j w)
  written_heard_in salvage = heard_so salvage (salvages image g slot bodies lengths j w)

  -- INTO AN OUTPUT WITH ROOM FOR EVERY RECORD: the bodies written, in order, and End
  pub written_heard : (m : Mode) (n : ℕ) (out : List ℕ) → RoomFor (length out) lengths
      → following n m after slot out start ≡ take n (map told (parted bodies lengths) ++ (done ∷ []))
  written_heard m n out h =
      written_heard_in m n out
      ∙ ap (take n) (told_all (length out) (parted bodies lengths) (subst (RoomFor (length out)) (sym (records_are image g slot bodies lengths j w).0) h))

  -- and one reading more than there are records gives them all. (So demand 3 holds of every file just written.)
  pub written_heard_all : (m : Mode) (n : ℕ) (out : List ℕ) → RoomFor (length out) lengths → length lengths + 1 ≤ n
      → following n m after slot out start ≡ map told (parted bodies lengths) ++ (done ∷ [])
  written_heard_all m n out h l =
      let hs : List Heard = map told (parted bodies lengths) in
      let c : length hs ≡ length lengths = length-map (parted bodies lengths) told ∙ parted_count lengths bodies in
      written_heard m n out h ∙ take_all n (hs ++ (done ∷ [])) (simp length-append (omega arith))

  pub written_whole : ReadsWhole after slot (parted bodies lengths)
  written_whole =
      record {
        readings = length lengths + 1;
        out = bodies;
        hears =
            written_heard_all plain (length lengths + 1) bodies (room_total (length bodies) lengths (omega (arith, (passing g image slot bodies lengths w).sum))) (omega arith);
      }
