-- WHAT NO ANSWER HANGS ON, for a reader who proves nothing, of any functions that meet their rows of `Calls`: "check failed, body not trusted"; positions of sectors 01
-- to 07 that are not judged, 79 of VOL1 among them. The first lines of Called say how to read this. `EqualBut loose image image'`: the images are equal but for what is
-- loose, the bodies of check-failed sectors or some positions or both; they may be accepted or refused (Demands, its last section, tells of it). `NoneJudged loose`:
-- no rule judges a position that is loose.
-- Assumes nothing.
use Prim.Native.Nat.{ℕ, zero, suc, ◌+◌, ◌*◌, ◌<◌}
use Rattle.std.specs.Prelude.{◌≡◌, refl, List, [], ◌∷◌, length}
use Rattle.std.proofs.Common.{sym, ◌∙◌, arith}
use Rattle.std.proofs.Math.Path.{ap, subst}
use Rattle.text.specs.Laid.{laid}
use Rattle.standard.specs.Writing.{splice}
use Rattle.promises.proofs.Images.Alike.{Loose, NoneJudged, Only, failed_bodies, EqualBut}
use Rattle.promises.proofs.Demands.{unseen_judged, unseen_found, unseen_counted, unseen_listed, unseen_read, unseen_written, unseen_created, unseen_deleted, unjudged_byte}
use Rattle.promises.proofs.Requested.{reserve_not_judged}
use Rattle.demanded.specs.Calls.{Response, Meets, named, in_slot, into, ask, give, want, Call, judge, find, find_slot, label_named_row, label_in_slot_row, free, count, list, write, create, delete, read, contract, Export, call_of, number_of, exported}
use Rattle.demanded.specs.Called.{image_in}

-- A QUESTION OF AN IMAGE: all that a call is given, with this image in the place of its own
abbrev pub asked_of : (c : Call) → (contract c).Input → List ℕ → (contract c).Input
asked_of judge i image = image
asked_of find i image = named image i.name
asked_of find_slot i image = in_slot image i.slot
asked_of label_named_row i image = named image i.name
asked_of label_in_slot_row i image = in_slot image i.slot
asked_of free i image = image
asked_of count i image = in_slot image i.slot
asked_of list i image = into image i.out
asked_of (read m) i image = ask image i.slot i.place i.out
asked_of write i image = give image i.slot i.bodies i.lengths
asked_of create i image = want image i.fields i.records
asked_of delete i image = in_slot image i.slot

-- so every input is a question of its image
pub own_question : (c : Call) (i : (contract c).Input) → asked_of c i (image_in c i) ≡ i
own_question judge i = refl
own_question find i = refl
own_question find_slot i = refl
own_question label_named_row i = refl
own_question label_in_slot_row i = refl
own_question free i = refl
own_question count i = refl
own_question list i = refl
own_question (read m) i = refl
own_question write i = refl
own_question create i = refl
own_question delete i = refl

-- WHAT IS LENT TO A CALL FOR CHANGE
pub data Lent : Type 0 where
  nothing an_output the_image : Lent

abbrev pub lends : Call → Lent
lends judge = nothing
lends find = nothing
lends find_slot = nothing
lends label_named_row = nothing
lends label_in_slot_row = nothing
lends free = nothing
lends count = nothing
lends list = an_output
lends (read m) = an_output
lends write = the_image
lends create = the_image
lends delete = the_image

-- LEFT ALIKE: an output has the same bytes; the images are equal but for what is loose, as before
abbrev pub LeftAlike : Loose → Lent → List ℕ → List ℕ → Type 0
LeftAlike loose nothing after after' = after ≡ after'
LeftAlike loose an_output after after' = after ≡ after'
LeftAlike loose the_image after after' = EqualBut loose after after'

-- what the rows fix of two such images
module _ (loose : Loose) (none-judged : NoneJudged loose) where
  rows_answer : (c : Call) (i : (contract c).Input) (image image' : List ℕ) → EqualBut loose image image'
      → (contract c).result (asked_of c i image) ≡ (contract c).result (asked_of c i image')
  rows_answer judge i image image' e = unseen_judged loose none-judged image image' e
  rows_answer find i image image' e = (unseen_found loose none-judged image image' e).0 i.name
  rows_answer find_slot i image image' e = (unseen_found loose none-judged image image' e).1 i.slot
  rows_answer label_named_row i image image' e = (unseen_found loose none-judged image image' e).2 i.name
  rows_answer label_in_slot_row i image image' e = (unseen_found loose none-judged image image' e).3 i.slot
  rows_answer free i image image' e = (unseen_counted loose none-judged image image' e).1
  rows_answer count i image image' e = (unseen_counted loose none-judged image image' e).0 i.slot
  rows_answer list i image image' e = ap length (unseen_listed loose none-judged image image' e)
  rows_answer (read m) i image image' e = (unseen_read loose none-judged image image' e m i.slot i.place i.out).0
  rows_answer write i image image' e = (unseen_written loose none-judged image image' e i.slot i.bodies i.lengths).0
  rows_answer create i image image' e = (unseen_created loose none-judged image image' e i.fields i.records).0
  rows_answer delete i image image' e = (unseen_deleted loose none-judged image image' e i.slot).0

  rows_leave : (c : Call) (i : (contract c).Input) (image image' : List ℕ) → EqualBut loose image image'
      → LeftAlike loose (lends c) ((contract c).left (asked_of c i image)) ((contract c).left (asked_of c i image'))
  rows_leave judge i image image' e = refl
  rows_leave find i image image' e = refl
  rows_leave find_slot i image image' e = refl
  rows_leave label_named_row i image image' e = refl
  rows_leave label_in_slot_row i image image' e = refl
  rows_leave free i image image' e = refl
  rows_leave count i image image' e = refl
  rows_leave list i image image' e = ap (laid i.out 0) (unseen_listed loose none-judged image image' e)
  rows_leave (read m) i image image' e = (unseen_read loose none-judged image image' e m i.slot i.place i.out).1
  rows_leave write i image image' e = (unseen_written loose none-judged image image' e i.slot i.bodies i.lengths).1
  rows_leave create i image image' e = (unseen_created loose none-judged image image' e i.fields i.records).1
  rows_leave delete i image image' e = (unseen_deleted loose none-judged image image' e i.slot).1

-- what is left is what the row leaves
left_through : (loose : Loose) (l : Lent) (after after' left left' : List ℕ) → after ≡ left → after' ≡ left' → LeftAlike loose l left left'
    → LeftAlike loose l after after'
left_through loose l after after' left left' p q a = subst (λ (x : List ℕ). LeftAlike loose l x after') (sym p) (subst (LeftAlike loose l left) (sym q) a)

-- ======== ONE CALL
-- Every call answers a question of the one image as it answers it of the other, and leaves alike what is lent to it.
pub looks_at_no_more : (loose : Loose) → NoneJudged loose → (c : Call) (f : (contract c).Input → Response (contract c).Result) → Meets (contract c) f
    → (i : (contract c).Input) (image image' : List ℕ) → EqualBut loose image image'
    → ((f (asked_of c i image)).answer ≡ (f (asked_of c i image')).answer) × LeftAlike loose (lends c) (f (asked_of c i image)).after (f (asked_of c i image')).after
looks_at_no_more loose u c f meets i image image' e = (
  (meets (asked_of c i image)).0 ∙ rows_answer loose u c i image image' e ∙ sym (meets (asked_of c i image')).0,
  left_through loose (lends c) _ _ _ _ (meets (asked_of c i image)).1 (meets (asked_of c i image')).1 (rows_leave loose u c i image image' e),
)

-- and so does every export for C
pub exports_look_at_no_more : (loose : Loose) → NoneJudged loose → (x : Export) (f : (exported x).Input → Response ℕ) → Meets (exported x) f
    → (i : (exported x).Input) (image image' : List ℕ) → EqualBut loose image image'
    → ((f (asked_of (call_of x) i image)).answer ≡ (f (asked_of (call_of x) i image')).answer)
    × LeftAlike loose (lends (call_of x)) (f (asked_of (call_of x) i image)).after (f (asked_of (call_of x) i image')).after
exports_look_at_no_more loose u x f meets i image image' e =
    let c = call_of x in (
      (meets (asked_of c i image)).0 ∙ ap (number_of x) (rows_answer loose u c i image image' e) ∙ sym (meets (asked_of c i image')).0,
      left_through loose (lends c) _ _ _ _ (meets (asked_of c i image)).1 (meets (asked_of c i image')).1 (rows_leave loose u c i image image' e),
    )

-- "Kind 32+k: check failed, body not trusted": these bodies are loose, and no position
pub trusts_no_failed_body : (c : Call) (f : (contract c).Input → Response (contract c).Result) → Meets (contract c) f
    → (i : (contract c).Input) (image image' : List ℕ) → EqualBut failed_bodies image image'
    → ((f (asked_of c i image)).answer ≡ (f (asked_of c i image')).answer)
    × LeftAlike failed_bodies (lends c) (f (asked_of c i image)).after (f (asked_of c i image')).after
trusts_no_failed_body = looks_at_no_more failed_bodies (λ sector p none. absurd none)

-- REQUEST 2026-02, "79 becomes reserved and is not judged": whatever byte is put at position 79 of VOL1, every call answers as before, and leaves an output as
-- before; of images that are lent for change it leaves two that are equal but for that byte (`Only`: it is loose, no other and no body). VOL1's position p is byte
-- 6·129 + p of the image.
pub reserve_at_79 : (c : Call) (f : (contract c).Input → Response (contract c).Result) → Meets (contract c) f
    → (i : (contract c).Input) (image : List ℕ) (x : ℕ) → 6 * 129 + 79 < length image
    → ((f (asked_of c i image)).answer ≡ (f (asked_of c i (splice (6 * 129 + 79) (x ∷ []) image))).answer)
    × LeftAlike (Only 7 79) (lends c) (f (asked_of c i image)).after (f (asked_of c i (splice (6 * 129 + 79) (x ∷ []) image))).after
reserve_at_79 c f meets i image x inside =
    looks_at_no_more (Only 7 79) reserve_not_judged c f meets i image _ (unjudged_byte image 7 79 x (omega arith) (omega arith) (omega arith) (omega arith) inside)

-- ======== ANY ROW OF CALLS
-- A caller asks one question after the other, each of the image as the calls before left it, and chooses each by all that he has heard so far: `Asking` is a call and
-- what it is given, `Hearing` what is answered and what stands in the output.
pub record Asking : Type 0 where
  pub call : Call
  pub given : (contract call).Input

pub record Hearing : Type 0 where
  pub call : Call
  pub answer : (contract call).Result
  pub output : List ℕ

abbrev pub Caller : Type 0
Caller = List Hearing → Asking

abbrev pub Functions : Type 0
Functions = (c : Call) → (contract c).Input → Response (contract c).Result

abbrev pub output_in : Lent → List ℕ → List ℕ
output_in nothing after = []
output_in an_output after = after
output_in the_image after = []

abbrev pub image_then : Lent → List ℕ → List ℕ → List ℕ
image_then nothing image after = image
image_then an_output image after = image
image_then the_image image after = after

-- what one question hears, and the image behind it
abbrev pub hears : Functions → Asking → List ℕ → Hearing
hears f a image =
    let r = f a.call (asked_of a.call a.given image) in
    record { call = a.call; answer = r.answer; output = output_in (lends a.call) r.after }

abbrev pub leaves : Functions → Asking → List ℕ → List ℕ
leaves f a image = image_then (lends a.call) image (f a.call (asked_of a.call a.given image)).after

-- n more questions of a caller who has heard something: all that he has heard then, the last first, and the image behind them
unfoldable pub heard_after : Functions → Caller → ℕ → List Hearing → List ℕ → List Hearing
heard_after f next zero past image = past
heard_after f next (suc n) past image = heard_after f next n (hears f (next past) image ∷ past) (leaves f (next past) image)

unfoldable pub image_behind : Functions → Caller → ℕ → List Hearing → List ℕ → List ℕ
image_behind f next zero past image = image
image_behind f next (suc n) past image = image_behind f next n (hears f (next past) image ∷ past) (leaves f (next past) image)

outputs_alike : (loose : Loose) (l : Lent) (after after' : List ℕ) → LeftAlike loose l after after' → output_in l after ≡ output_in l after'
outputs_alike loose nothing after after' a = refl
outputs_alike loose an_output after after' a = a
outputs_alike loose the_image after after' a = refl

images_alike : (loose : Loose) (l : Lent) (image image' after after' : List ℕ) → EqualBut loose image image' → LeftAlike loose l after after'
    → EqualBut loose (image_then l image after) (image_then l image' after')
images_alike loose nothing image image' after after' e a = e
images_alike loose an_output image image' after after' e a = e
images_alike loose the_image image image' after after' e a = a

module _ (loose : Loose) (none-judged : NoneJudged loose) (f : Functions) (meets : (c : Call) → Meets (contract c) (f c)) where
  one_question : (a : Asking) (image image' : List ℕ) → EqualBut loose image image'
      → (hears f a image ≡ hears f a image') × EqualBut loose (leaves f a image) (leaves f a image')
  one_question a image image' e =
      let c = a.call in
      let r = f c (asked_of c a.given image) in
      let r' = f c (asked_of c a.given image') in
      let one = looks_at_no_more loose none-judged c (f c) (meets c) a.given image image' e in
      (rw (one.0, outputs_alike loose (lends c) r.after r'.after one.1), images_alike loose (lends c) image image' r.after r'.after e one.1)

  -- WHOEVER ASKS, whatever he changes on the way: he hears the same of both images, and leaves two such images
  pub no_caller_tells : (next : Caller) (n : ℕ) (past : List Hearing) (image image' : List ℕ) → EqualBut loose image image'
      → (heard_after f next n past image ≡ heard_after f next n past image')
      × EqualBut loose (image_behind f next n past image) (image_behind f next n past image')
  unfolding heard_after image_behind
  no_caller_tells next zero past image image' e = (refl, e)
  no_caller_tells next (suc n) past image image' e =
      let a = next past in
      let one = one_question a image image' e in
      let rest = no_caller_tells next n (hears f a image ∷ past) (leaves f a image) (leaves f a image') one.1 in (
        rest.0 ∙ ap (λ (x : Hearing). heard_after f next n (x ∷ past) (leaves f a image')) one.0,
        subst (λ (x : Hearing). EqualBut loose (image_behind f next n (hears f a image ∷ past) (leaves f a image)) (image_behind f next n (x ∷ past) (leaves f a image')))
            one.0 rest.1,
      )
