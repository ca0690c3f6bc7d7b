-- Following a file from Start gives the declared list.
-- Assumes nothing.
use Prim.Native.Nat.{ℕ, zero, suc, ◌≤◌, ◌-◌}
use Rattle.std.specs.Prelude.{◌≡◌, Bool, cond, length, take, drop, Ok}
use Rattle.std.proofs.Math.Path.{refl, ap}
use Rattle.std.proofs.Common.{◌∙◌, length-append, length-drop, arith, le-ltb, ltb-false}
use Rattle.std.proofs.Math.Bool.{true, false}
use mathlib.Core.List.{List, [], ◌∷◌, map}
use Rattle.std.proofs.Math.Seq.{take-append_seam}
use Rattle.std.proofs.Math.Dec.{ltb}
use Rattle.standard.specs.Pieces.{Token}
use Rattle.standard.specs.Records.{Mode, File, Met, took, gapped, ended, refused as refusedBy, State, step, first_met, in_file}
use Rattle.standard.specs.Listed.{Item, rec, gap, end, no, follow, read_on, listed}
use Rattle.standard.specs.Places.{start}
use Rattle.standard.specs.Layout.{label_at}
use Rattle.standard.specs.Judgement.{judged}
use Rattle.standard.specs.Files.{open_refusal, file_in}
use Rattle.standard.specs.Refusals.{refuse}
use Rattle.standard.specs.Reading.{Reply, unanswered, replied, reply_in, reply, laid_over}
use Rattle.standard.specs.Labels.{Params}
use Rattle.standard.specs.declared.Place.{Place}
use Rattle.standard.specs.declared.Geometry.{Geometry}
use Rattle.standard.specs.declared.Answer.TheVariants.{Record as RecordOf}
use Rattle.promises.specs.Ground.Lists.{every_each}
use Rattle.promises.specs.Reading.PlaceLaws.{Landed, answer_holds, start_in_file, step_lands}
use Rattle.promises.specs.Reading.ListedLaws.{read_on_listed}
use Rattle.promises.specs.Reading.Following.{Heard, told, onward, following, heard, Fits, too_long, heard_in}

-- the place behind a gap is in the block behind the lost one
abbrev Nexts : Met → Type 0
Nexts (took r pl) = Unit {0}
Nexts (gapped b pl) = pl.block ≡ suc b
Nexts ended = Unit {0}
Nexts (refusedBy x) = Unit {0}

answer_nexts : (m : Mode) (p : Params) (ts : List Token) (st : State) → Nexts (first_met m p ts st)
answer_nexts m p ts st =
    answer_holds Nexts (λ _. Unit {0}) tt (λ x. tt) (λ k body b o e h r. tt) (λ b h. refl) m p ts (every_each (λ _. Unit {0}) (λ _. tt) ts) st

step_nexts : (m : Mode) (f : File) (pl : Place) → Nexts (step m f pl)
unfolding step
step_nexts m f pl = answer_nexts m f.params _ _

-- the output keeps its length, and begins with the record
laid_length : (body out : List ℕ) → length body ≤ length out → length (laid_over body out) ≡ length out
unfolding laid_over
laid_length body out h = length-append body (drop (length body) out) ∙ rw (length-drop (length body) out) (omega arith)

pub laid_record : (body out : List ℕ) → take (length body) (laid_over body out) ≡ body
unfolding laid_over
laid_record body out = take-append_seam body (drop (length body) out)

-- a reading of an accepted image, of a file that may be opened, is one of the file
module _ (image : List ℕ) (g : Geometry) (slot : ℕ) (j : judged image ≡ Ok g) (ok : open_refusal g image slot ≡ Ok tt) where
  abbrev pub the_file : File
  the_file = file_in g image (label_at g image slot)

  reply_is : (m : Mode) (pl : Place) (room : ℕ) → reply m image slot pl room ≡ reply_in m the_file pl room
  unfolding reply
  reply_is m pl room = rw (j, ok)

  reply_here : (m : Mode) (pl : Place) (room : ℕ) → in_file the_file pl ≡ true → reply m image slot pl room ≡ replied the_file room (step m the_file pl)
  unfolding reply_in
  reply_here m pl room h = reply_is m pl room ∙ rw h

  abbrev pub Alike : ℕ → Mode → Type 0
  Alike n m = (out : List ℕ) (pl : Place) → in_file the_file pl ≡ true → following n m image slot out pl ≡ heard_in (length out) (read_on n m the_file pl)

  heard_on : (n : ℕ) (m : Mode) (out : List ℕ) → Alike n m → (s : Met) → Landed the_file s → Nexts s
      → onward (replied the_file (length out) s).answer (laid_over (replied the_file (length out) s).body out) (λ out' pl. following n m image slot out' pl)
      ≡ heard_in (length out) (follow s (λ pl. read_on n m the_file pl))
  unfolding heard_in laid_over
  heard_on n m out ih (took r pl) l k = go (ltb (length out) (length r.body)) refl (ih (laid_over r.body out) pl l)
    where
      go : (t : Bool) → ltb (length out) (length r.body) ≡ t
          → following n m image slot (laid_over r.body out) pl ≡ heard_in (length (laid_over r.body out)) (read_on n m the_file pl)
          → onward (cond t (unanswered (refuse 23 (length r.body))) (record { answer = Ok (RecordOf (length r.body) pl); body = r.body })).answer
          (laid_over (cond t (unanswered (refuse 23 (length r.body))) (record { answer = Ok (RecordOf (length r.body) pl); body = r.body })).body out)
          (λ out' pl'. following n m image slot out' pl')
          ≡ too_long t r.body (heard_in (length out) (read_on n m the_file pl))
      go true q e = refl
      go false q e =
          ap (λ (x : List ℕ). told x ∷ following n m image slot (laid_over r.body out) pl) (laid_record r.body out)
          ∙ ap (λ (x : List Heard). told r.body ∷ x)
          (e ∙ ap (λ (x : ℕ). heard_in x (read_on n m the_file pl)) (laid_length r.body out (ltb-false (length out) (length r.body) q)))
  heard_on n m out ih (gapped b pl) l k =
      let z : pl.block - 1 ≡ b = omega (arith, k) in
      rw (z, ih out pl l)
  heard_on n m out ih ended l k = refl
  heard_on n m out ih (refusedBy x) l k = refl

  pub following_is : (n : ℕ) (m : Mode) → Alike n m
  unfolding following read_on heard_in
  following_is zero m out pl h = refl
  following_is (suc n) m out pl h =
      ap (λ (r : Reply). onward r.answer (laid_over r.body out) (λ out' pl'. following n m image slot out' pl')) (reply_here m pl (length out) h)
      ∙ heard_on n m out (following_is n m) (step m the_file pl) (step_lands m the_file pl h) (step_nexts m the_file pl)

-- any room: n readings are heard as the first n of the list, up to the first record that is too long
pub following_any : (image : List ℕ) (g : Geometry) (slot : ℕ) → judged image ≡ Ok g → open_refusal g image slot ≡ Ok tt
    → (m : Mode) (n : ℕ) (out : List ℕ) → following n m image slot out start ≡ heard_in (length out) (take n (listed m (file_in g image (label_at g image slot))))
following_any image g slot j ok m n out =
    let f = file_in g image (label_at g image slot) in
    following_is image g slot j ok n m out start (start_in_file f) ∙ ap (heard_in (length out)) (read_on_listed n m f)

-- with room for every record no refusal 23 is heard
fits_heard : (room n : ℕ) (is : List Item) → Fits room is → heard_in room (take n is) ≡ take n (map heard is)
unfolding heard_in
fits_heard room zero is h = refl
fits_heard room (suc n) [] h = refl
fits_heard room (suc n) (rec r ∷ is) h = rw (le-ltb room (length r.body) h.0, fits_heard room n is h.1)
fits_heard room (suc n) (gap b ∷ is) h = rw (fits_heard room n is h)
fits_heard room (suc n) (end ∷ is) h = rw (fits_heard room n is h)
fits_heard room (suc n) (no x ∷ is) h = rw (fits_heard room n is h)

-- room for every record: n readings are heard as the first n of the list
pub following_listed : (image : List ℕ) (g : Geometry) (slot : ℕ) → judged image ≡ Ok g → open_refusal g image slot ≡ Ok tt
    → (m : Mode) (n : ℕ) (out : List ℕ) → Fits (length out) (listed m (file_in g image (label_at g image slot)))
    → following n m image slot out start ≡ take n (map heard (listed m (file_in g image (label_at g image slot))))
following_listed image g slot j ok m n out h =
    following_any image g slot j ok m n out ∙ fits_heard (length out) n (listed m (file_in g image (label_at g image slot))) h
