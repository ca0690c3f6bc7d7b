-- "Meeting it, also midway in a spanned record, gives one gap and the next block's start, marked": what is heard of a file after a failure, into an output
-- of any size; and after a write, then a failure.
-- Assumes nothing.
use Rattle.std.specs.Prelude.{ℕ, zero, suc, ◌≡◌, refl, Bool, true, false, cond, ◌&&◌, length, take, ltb, eqb, Ok}
use Rattle.std.proofs.Common.{ap, subst, ◌∙◌}
use mathlib.Core.List.{List, [], ◌∷◌, ◌++◌, map, Memᴰ}
use Rattle.standard.specs.Layout.{label_at}
use Rattle.standard.specs.Records.{salvage, FileRecord}
use Rattle.standard.specs.Listed.{Item, rec, gap, end, no}
use Rattle.standard.specs.Places.{start}
use Rattle.standard.specs.Judgement.{judged}
use Rattle.standard.specs.Damage.{remains, spared, ending_in}
use Rattle.standard.specs.Files.{block_count}
use Rattle.standard.specs.Writing.{parted, write_refusal, image_after}
use Rattle.standard.specs.declared.Geometry.{Geometry}
use Rattle.promises.specs.Ground.Basics.{either, never}
use Rattle.promises.specs.Reading.ReadingLaws.{body_of}
use Rattle.promises.specs.Reading.Following.{Heard, told, gap_at, done, refused, following, too_long, heard_in}
use Rattle.promises.proofs.Reading.FollowingLaws.{following_any}
use Rattle.promises.specs.Salvage.Failing.{Failed, OfBlocks, Spares, ReadsWhole, gone, expected, Salvaged}
use Rattle.promises.specs.Promises.{SalvageAnyPromise, SalvagePromise}
use Rattle.promises.proofs.Promises.{salvage_any_promise, salvage_promise}
use Rattle.promises.proofs.Writing.WritingPromises.{accepted_still}
use Rattle.promises.proofs.Writing.WrittenHeard.{written_whole}

-- what remains of a file has no record that was not one of its records
take_mem : {A : Type 0} (n : ℕ) (xs : List A) {x : A} → Memᴰ x (take n xs) → Memᴰ x xs
take_mem zero xs m = absurd (mathlib.Core.List.Memᴰ.not-nil m)
take_mem (suc n) [] m = absurd (mathlib.Core.List.Memᴰ.not-nil m)
take_mem (suc n) (y ∷ xs) {x} m =
    either (mathlib.Core.List.Memᴰ.cases_cons m) (λ (e : x ≡ y). mathlib.Core.List.Memᴰ.head e) (λ (k : Memᴰ x (take n xs)). mathlib.Core.List.Memᴰ.tail (take_mem n xs k))

-- a record among those that end in a block is one of the records
ending_mem : (gone : ℕ → Bool) (b : ℕ) (rs : List FileRecord) (r : FileRecord) → Memᴰ (rec r) (ending_in gone b rs) → Memᴰ r rs
unfolding ending_in
ending_mem gone b [] r m = absurd (mathlib.Core.List.Memᴰ.not-nil m)
ending_mem gone b (q ∷ rs) r m = go (eqb q.last_block b && spared gone q) m (λ k. ending_mem gone b rs r k)
  where
    go : (t : Bool) → Memᴰ (rec r) (cond t (rec q ∷ ending_in gone b rs) (ending_in gone b rs)) → (Memᴰ (rec r) (ending_in gone b rs) → Memᴰ r rs)
        → Memᴰ r (q ∷ rs)
    go true k ih =
        either (mathlib.Core.List.Memᴰ.cases_cons k)
        (λ (e : rec r ≡ rec q). let same : r ≡ q = cc in mathlib.Core.List.Memᴰ.head same)
        (λ (l : Memᴰ (rec r) (ending_in gone b rs)). mathlib.Core.List.Memᴰ.tail (ih l))
    go false k ih = mathlib.Core.List.Memᴰ.tail (ih k)

remains_mem : (gone : ℕ → Bool) (b n : ℕ) (rs : List FileRecord) (r : FileRecord) → Memᴰ (rec r) (remains gone b n rs) → Memᴰ r rs
unfolding remains
remains_mem gone b zero rs r m = absurd (mathlib.Core.List.Memᴰ.not-nil m)
remains_mem gone b (suc n) rs r m =
    either (mathlib.Core.List.Memᴰ.append_cases (cond (gone b) (gap b ∷ []) (ending_in gone b rs)) m)
    (λ (k : Memᴰ (rec r) (cond (gone b) (gap b ∷ []) (ending_in gone b rs))). go (gone b) k)
    (λ (k : Memᴰ (rec r) (remains gone (suc b) n rs)). remains_mem gone (suc b) n rs r k)
  where
    go : (t : Bool) → Memᴰ (rec r) (cond t (gap b ∷ []) (ending_in gone b rs)) → Memᴰ r rs
    go true k = let e = mathlib.Core.List.Memᴰ.eq_of_singleton k in never (cc)
    go false k = ending_mem gone b rs r k

-- what is heard as a record's bytes is a record of the list, whatever the room
told_long : (room : ℕ) (body : List ℕ) (r : FileRecord) (hs : List Heard) (t : Bool) {A : Type 0}
    → Memᴰ (told body) (too_long t r.body hs) → (body ≡ r.body → A) → (Memᴰ (told body) hs → A) → A
told_long room body r hs true m f g = let e = mathlib.Core.List.Memᴰ.eq_of_singleton m in never (cc)
told_long room body r hs false m f g =
    either (mathlib.Core.List.Memᴰ.cases_cons m) (λ (e : told body ≡ told r.body). f (let same : body ≡ r.body = cc in same)) (λ (k : Memᴰ (told body) hs). g k)

abbrev Told : List ℕ → List Item → Type 0
Told body is = (r : FileRecord) × Memᴰ (rec r) is × (body ≡ r.body)

told_tail : (body : List ℕ) (i : Item) (is : List Item) → Told body is → Told body (i ∷ is)
told_tail body i is t = (t.0, mathlib.Core.List.Memᴰ.tail t.1, t.2)

heard_in_mem : (room : ℕ) (body : List ℕ) (is : List Item) → Memᴰ (told body) (heard_in room is) → (r : FileRecord) × Memᴰ (rec r) is × (body ≡ r.body)
unfolding heard_in
heard_in_mem room body [] m = absurd (mathlib.Core.List.Memᴰ.not-nil m)
heard_in_mem room body (rec q ∷ is) m =
    told_long room body q (heard_in room is) (ltb room (length q.body)) m
    (λ e. (q, mathlib.Core.List.Memᴰ.head refl, e))
    (λ k. told_tail body (rec q) is (heard_in_mem room body is k))
heard_in_mem room body (gap b ∷ is) m =
    either (mathlib.Core.List.Memᴰ.cases_cons m) (λ (e : told body ≡ gap_at b). never (cc))
    (λ (k : Memᴰ (told body) (heard_in room is)). told_tail body (gap b) is (heard_in_mem room body is k))
heard_in_mem room body (end ∷ is) m =
    either (mathlib.Core.List.Memᴰ.cases_cons m) (λ (e : told body ≡ done). never (cc))
    (λ (k : Memᴰ (told body) (heard_in room is)). told_tail body end is (heard_in_mem room body is k))
heard_in_mem room body (no x ∷ is) m =
    either (mathlib.Core.List.Memᴰ.cases_cons m) (λ (e : told body ≡ refused x). never (cc))
    (λ (k : Memᴰ (told body) (heard_in room is)). told_tail body (no x) is (heard_in_mem room body is k))

remains_heard : (lost : ℕ → Bool) (count n room : ℕ) (rs : List FileRecord) (body : List ℕ)
    → Memᴰ (told body) (heard_in room (take n (remains lost 0 count rs ++ (end ∷ [])))) → Memᴰ body (map body_of rs)
remains_heard lost count n room rs body m =
    let t = heard_in_mem room body (take n (remains lost 0 count rs ++ (end ∷ []))) m in
    either (mathlib.Core.List.Memᴰ.append_cases (remains lost 0 count rs) (take_mem n (remains lost 0 count rs ++ (end ∷ [])) t.1))
    (λ (k : Memᴰ (rec t.0) (remains lost 0 count rs)). mathlib.Core.List.Memᴰ.cast t.2 (mathlib.Core.List.Memᴰ.map body_of (remains_mem lost 0 count rs t.0 k)))
    (λ (k : Memᴰ (rec t.0) (end ∷ [])). let e = mathlib.Core.List.Memᴰ.eq_of_singleton k in never (cc))

-- a salvage as promised is heard as its list, up to the first record that is too long for the output
pub salvaged_heard : (image image' : List ℕ) (g : Geometry) (slot : ℕ) (hit : ℕ → Bool) (rs : List FileRecord) → Salvaged g hit image image' slot rs
    → (n : ℕ) (out : List ℕ) → following n salvage image' slot out start ≡ heard_in (length out) (take n (expected g hit image (label_at g image slot) rs))
salvaged_heard image image' g slot hit rs s n out =
    following_any image' g slot s.volume s.opens salvage n out ∙ ap (λ (is : List Item). heard_in (length out) (take n is)) s.list

-- DEMAND 3 FOR AN OUTPUT OF ANY SIZE: a file that was read whole; any sectors fail but those of the index cylinder and of the file's defective records
unfoldable pub SalvageHeardPromise : Type 0
SalvageHeardPromise = (image image' : List ℕ) (g : Geometry) (slot : ℕ) (bodies : List (List ℕ)) (hit : ℕ → Bool)
    → judged image ≡ Ok g → ReadsWhole image slot bodies
    → Failed g hit image image' → Spares g hit image (label_at g image slot)
    → (rs : List FileRecord) × (map body_of rs ≡ bodies) × Salvaged g hit image image' slot rs
    × ((n : ℕ) (out : List ℕ) → following n salvage image' slot out start ≡ heard_in (length out) (take n (expected g hit image (label_at g image slot) rs)))

pub salvage_heard_promise : SalvageHeardPromise
unfolding SalvageHeardPromise SalvageAnyPromise
salvage_heard_promise image image' g slot bodies hit j w fail s =
    let x = salvage_any_promise image image' g slot bodies hit j w fail s in
    (x.0, x.1, x.2, salvaged_heard image image' g slot hit x.0 x.2)

-- "No record is ever joined out of two others", into an output of any size
unfoldable pub NeverJoinedAnyPromise : Type 0
NeverJoinedAnyPromise = (image image' : List ℕ) (g : Geometry) (slot : ℕ) (bodies : List (List ℕ)) (hit : ℕ → Bool)
    → judged image ≡ Ok g → ReadsWhole image slot bodies
    → Failed g hit image image' → Spares g hit image (label_at g image slot)
    → (n : ℕ) (out body : List ℕ) → Memᴰ (told body) (following n salvage image' slot out start) → Memᴰ body bodies

pub never_joined_any_promise : NeverJoinedAnyPromise
unfolding NeverJoinedAnyPromise SalvageAnyPromise
never_joined_any_promise image image' g slot bodies hit j w fail s n out body m =
    let x = salvage_any_promise image image' g slot bodies hit j w fail s in
    let h = label_at g image slot in
    subst (λ (xs : List (List ℕ)). Memᴰ body xs) x.1
    (remains_heard (gone g hit image h) (block_count g image h) n (length out) x.0 body
    (subst (λ (hs : List Heard). Memᴰ (told body) hs) (salvaged_heard image image' g slot hit x.0 x.2 n out) m))

-- WRITE, THEN FAIL, THEN SALVAGE: the records written are these bodies; of them remain those that no lost block touches
unfoldable pub WriteFailSalvagePromise : Type 0
WriteFailSalvagePromise = (image image' : List ℕ) (g : Geometry) (slot : ℕ) (bodies lengths : List ℕ) (hit : ℕ → Bool)
    → judged image ≡ Ok g → write_refusal g image slot bodies lengths ≡ Ok tt
    → Failed g hit (image_after image slot bodies lengths) image'
    → OfBlocks g hit (image_after image slot bodies lengths) (label_at g (image_after image slot bodies lengths) slot)
    → (rs : List FileRecord) × (map body_of rs ≡ parted bodies lengths) × Salvaged g hit (image_after image slot bodies lengths) image' slot rs
    × ((n : ℕ) (out : List ℕ) → following n salvage image' slot out start
    ≡ heard_in (length out) (take n (expected g hit (image_after image slot bodies lengths) (label_at g (image_after image slot bodies lengths) slot) rs)))

pub write_fail_salvage_promise : WriteFailSalvagePromise
unfolding WriteFailSalvagePromise SalvagePromise
write_fail_salvage_promise image image' g slot bodies lengths hit j w fail k =
    let after = image_after image slot bodies lengths in
    let j' = accepted_still image g slot bodies lengths j w in
    let x = salvage_promise after image' g slot (parted bodies lengths) hit j' (written_whole image g slot bodies lengths j w) fail k in
    (x.0, x.1, x.2, salvaged_heard after image' g slot hit x.0 x.2)

-- and nothing else is heard as a record than the bodies written
pub write_never_joined : (image image' : List ℕ) (g : Geometry) (slot : ℕ) (bodies lengths : List ℕ) (hit : ℕ → Bool)
    → judged image ≡ Ok g → write_refusal g image slot bodies lengths ≡ Ok tt
    → Failed g hit (image_after image slot bodies lengths) image'
    → Spares g hit (image_after image slot bodies lengths) (label_at g (image_after image slot bodies lengths) slot)
    → (n : ℕ) (out body : List ℕ) → Memᴰ (told body) (following n salvage image' slot out start) → Memᴰ body (parted bodies lengths)
unfolding NeverJoinedAnyPromise
write_never_joined image image' g slot bodies lengths hit j w fail s n out body m =
    never_joined_any_promise (image_after image slot bodies lengths) image' g slot (parted bodies lengths) hit (accepted_still image g slot bodies lengths j w)
    (written_whole image g slot bodies lengths j w) fail s n out body m
