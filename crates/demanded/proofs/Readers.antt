-- DEMANDS 2 AND 3 OF FUNCTIONS THAT READ, for a reader who proves nothing. The contract of such a function says no more than this: the answer is `read_answer`,
-- and the output afterwards is `output_after` (Calls). Here the promises of crates/promises, Demands, which speak of these definitions, are said of any function
-- that meets the contract, whatever its code; and the wrong programs that document 01 names are shown to meet none. What holds of every call, demand 1 and that
-- a contract leaves no choice, is in Called. The lines behind `=` only name the proof. `A → B`: if A then B; `A × B`: both; `A → ⊥`: not A.
-- Assumes nothing.
use Rattle.std.specs.Prelude.{ℕ, zero, suc, ◌*◌, ◌≤◌, ◌≡◌, refl, Bool, true, length, take, drop, replicate, Result, Ok, Err}
use Rattle.std.proofs.Common.{sym, ap, subst, ◌∙◌}
use mathlib.Core.List.{List, [], ◌∷◌, ◌++◌, map, Memᴰ}
use Rattle.standard.specs.Characters.{bytes}
use Rattle.standard.specs.Layout.{index_sectors, label_at}
use Rattle.standard.specs.Judgement.{judged}
use Rattle.standard.specs.Files.{extent, block_count, open_refusal, file_in}
use Rattle.standard.specs.Records.{Mode, plain, salvage, FileRecord, File, entering, in_file}
use Rattle.standard.specs.Listed.{Item, rec, end, listed}
use Rattle.standard.specs.Places.{start, next_block, end_place}
use Rattle.standard.specs.Damage.{records_in, gaps_in}
use Rattle.standard.specs.Pieces.{ahead}
use Rattle.standard.specs.Reading.{read_answer, output_after}
use Rattle.standard.specs.declared.Geometry.{Geometry}
use Rattle.standard.specs.declared.Place.{Place}
use Rattle.standard.specs.declared.Refusal.{Refusal}
use Rattle.standard.specs.declared.Answer.{Answer}
use Rattle.standard.specs.declared.Answer.TheVariants.{Gap, End, Record as RecordOf}
use Rattle.promises.specs.Ground.Basics.{never, either}
use Rattle.promises.proofs.Refusals.ReadingRefused.{LostIn, FirstLost}
use Rattle.promises.specs.Reading.Following.{Heard, told, gap_at, done, refused, onward, following, heard_in}
use Rattle.promises.proofs.Reading.AnyPlace.{listed_from}
use Rattle.promises.specs.Images.Sectors.{AgreeOn, sector_of}
use Rattle.promises.proofs.Extents.DefectsApart.{SameOffDefects}
use Rattle.promises.specs.Salvage.Failing.{Failed, Spares, OfBlocks, ReadsWhole, gone, expected}
use Rattle.promises.proofs.Reading.WholeLaws.{opens_whole}
use Rattle.promises.proofs.Salvage.Failable.{failed_at, failed_in, among}
use Rattle.promises.proofs.Salvage.PlainFailed.{FirstGone, NoneGone, first_or_none, cut_at}
use Rattle.promises.proofs.Reading.Runs.{Stands}
use Rattle.promises.proofs.Reading.GoingOn.{Finished}
use Rattle.promises.proofs.Demands.{gap_stays, end_stays, record_stays, reading_gives, reading_gives_from, reading_past_defects, reading_goes_on, record_leads, gap_leads, end_leads, salvage_gives, plain_gives, blocks_may_fail, never_joined, joined_rightly, locality}
use Rattle.promises.proofs.Instances.{image, output, geometry, bodies, computed, fails_9, of_blocks, skipping, skipping_heard}
use Rattle.demanded.specs.Calls.{Response, ask, read, contract}
use Rattle.demanded.specs.Called.{answered}
use Rattle.demanded.specs.Readers.{Reader, Reads, as_defined, followed, RecordsOf, SalvagedAs, ReadAs}

-- that is what `following` says of the definitions
onward_same : (a : Result Answer Refusal) (out : List ℕ) (more more' : List ℕ → Place → List Heard) → ((o : List ℕ) (pl : Place) → more o pl ≡ more' o pl)
    → onward a out more ≡ onward a out more'
onward_same (Err x) out more more' h = refl
onward_same (Ok (RecordOf n pl)) out more more' h = ap (λ (hs : List Heard). told (take n out) ∷ hs) (h out pl)
onward_same (Ok (Gap pl)) out more more' h = ap (λ (hs : List Heard). onward (Ok (Gap pl)) out (λ o p. hs)) (h out pl)
onward_same (Ok (End pl)) out more more' h = refl

pub followed_is : (m : Mode) (r : Reader) → Reads m r → (n : ℕ) (image : List ℕ) (slot : ℕ) (out : List ℕ) (pl : Place)
    → followed n r image slot out pl ≡ following n m image slot out pl
unfolding followed following
followed_is m r meets zero image slot out pl = refl
followed_is m r meets (suc n) image slot out pl =
    ap (λ (a : Result Answer Refusal). onward a (r (ask image slot pl out)).after (λ out' pl'. followed n r image slot out' pl')) (meets (ask image slot pl out)).0
    ∙ ap (λ (o : List ℕ). onward (read_answer m image slot pl out) o (λ out' pl'. followed n r image slot out' pl')) (meets (ask image slot pl out)).1
    ∙ onward_same (read_answer m image slot pl out) (output_after m image slot pl out) _ _ (λ o p. followed_is m r meets n image slot o p)

module _ (m : Mode) (r : Reader) (meets : Reads m r) where
  -- ======== ONE READING
  module _ (image : List ℕ) (slot : ℕ) (pl : Place) (out : List ℕ) where
    abbrev given : Response (Result Answer Refusal)
    given = r (ask image slot pl out)

    agreed : (a : Result Answer Refusal) → given.answer ≡ a → read_answer m image slot pl out ≡ a
    agreed a h = sym (meets (ask image slot pl out)).0 ∙ h

    -- "Bytes behind a record in the output stay too; gap and End change none."
    pub gap_leaves : (next : Place) → given.answer ≡ Ok (Gap next) → given.after ≡ out
    gap_leaves next h = (meets (ask image slot pl out)).1 ∙ gap_stays m image slot pl out next (agreed (Ok (Gap next)) h)

    pub end_leaves : (next : Place) → given.answer ≡ Ok (End next) → given.after ≡ out
    end_leaves next h = (meets (ask image slot pl out)).1 ∙ end_stays m image slot pl out next (agreed (Ok (End next)) h)

    pub record_leaves : (k : ℕ) (next : Place) → given.answer ≡ Ok (RecordOf k next)
        → (k ≤ length out) × (drop k given.after ≡ drop k out) × (length given.after ≡ length out)
    record_leaves k next h = rw (meets (ask image slot pl out)).1 (record_stays m image slot pl out k next (agreed (Ok (RecordOf k next)) h))

    -- every place handed out is in the file; a gap's is behind the first lost block from the place on (`FirstLost file a b`: from block a on, b is lost and none
    -- before it), so that a gap is given for no other block; End's is (count, 0)
    module _ (g : Geometry) (accepted : judged image ≡ Ok g) (next : Place) where
      abbrev file : File
      file = file_in g image (label_at g image slot)

      pub record_hands_out : (k : ℕ) → given.answer ≡ Ok (RecordOf k next) → in_file file next ≡ true
      record_hands_out k h = record_leads image g accepted m slot pl out next k (agreed (Ok (RecordOf k next)) h)

      pub gap_hands_out : given.answer ≡ Ok (Gap next)
          → (in_file file next ≡ true)
          × (b : ℕ) × FirstLost file pl.block b × (next ≡ record { block = suc b; offset = 0; mark = true })
      gap_hands_out h = gap_leads image g accepted m slot pl out next (agreed (Ok (Gap next)) h)

      pub end_hands_out : given.answer ≡ Ok (End next)
          → (in_file file next ≡ true) × (next ≡ end_place (block_count g image (label_at g image slot)))
      end_hands_out h = end_leads image g accepted m slot pl out next (agreed (Ok (End next)) h)

      -- "No record is ever joined out of two others": its bytes are those of one piece `0`, or of pieces `1`, `2`.., `3` one behind the other, with no lost
      -- block between, and these stand first ahead of the place (`Run`, in Runs); only where the mark counts may dropped pieces stand before them
      -- (`AfterDropped`). `entering`: where the mark counts the reader is `marked`, else `fresh`; `Stands` says of either what stands ahead.
      pub joins_rightly : (k : ℕ) → given.answer ≡ Ok (RecordOf k next)
          → (q : FileRecord) × (take k given.after ≡ q.body)
          × Stands (entering m file.params.format pl.offset pl.mark) (ahead file.params file.blocks pl.block pl.offset) q next
      joins_rightly k h = rw (meets (ask image slot pl out)).1 (joined_rightly image g accepted m slot pl out k next (agreed (Ok (RecordOf k next)) h))

    -- "A place at the end of a block's content goes on in the next block": what is read there is what is read at the place to which `next_block` moves it. So it is
    -- wherever only fill is left in a block that is not lost (`Finished`, in GoingOn)
    pub goes_on_lem : (g : Geometry) → judged image ≡ Ok g → in_file (file_in g image (label_at g image slot)) pl ≡ true
        → Finished (file_in g image (label_at g image slot)) pl
        → let there = r (ask image slot (next_block (block_count g image (label_at g image slot)) pl) out) in
        (given.answer ≡ there.answer) × (given.after ≡ there.after)
    goes_on_lem g accepted inside over =
        let there = ask image slot (next_block (block_count g image (label_at g image slot)) pl) out in
        let same = reading_goes_on image g accepted m slot pl inside over out in (
          (meets (ask image slot pl out)).0 ∙ same.0 ∙ sym (meets there).0,
          (meets (ask image slot pl out)).1 ∙ same.1 ∙ sym (meets there).1,
        )

  -- ======== DEMAND 2
  -- "reading gives exactly the records the standard puts there"; "Any place in the file may be asked". `listed` is the declared list, straight from the blocks,
  -- `listed_from` the same from a place on; `heardIn room`: the list as it is heard with so much room in the output, up to a record that is too long, where 23 is
  module _ (image : List ℕ) (g : Geometry) (slot : ℕ) (accepted : judged image ≡ Ok g) (opens : open_refusal g image slot ≡ Ok tt) where
    pub gives : (n : ℕ) (out : List ℕ)
        → followed n r image slot out start ≡ heard_in (length out) (take n (listed m (file_in g image (label_at g image slot))))
    gives n out = followed_is m r meets n image slot out start ∙ reading_gives image g slot accepted opens m n out

    pub gives_from : (n : ℕ) (out : List ℕ) (pl : Place) → in_file (file_in g image (label_at g image slot)) pl ≡ true
        → followed n r image slot out pl ≡ heard_in (length out) (take n (listed_from m (file_in g image (label_at g image slot)) pl))
    gives_from n out pl h = followed_is m r meets n image slot out pl ∙ reading_gives_from image g slot accepted opens m n out pl h

  answered_alike : (image image' : List ℕ) (slot : ℕ)
      → ((pl : Place) (out : List ℕ) → read_answer m image slot pl out ≡ read_answer m image' slot pl out)
      → ((pl : Place) (out : List ℕ) → output_after m image slot pl out ≡ output_after m image' slot pl out)
      → (pl : Place) (out : List ℕ) → ((r (ask image slot pl out)).answer ≡ (r (ask image' slot pl out)).answer) × ((r (ask image slot pl out)).after ≡ (r (ask image' slot pl out)).after)
  answered_alike image image' slot answers outputs pl out = (
    (meets (ask image slot pl out)).0 ∙ answers pl out ∙ sym (meets (ask image' slot pl out)).0,
    (meets (ask image slot pl out)).1 ∙ outputs pl out ∙ sym (meets (ask image' slot pl out)).1,
  )

  -- ======== LOCALITY
  -- "Two accepted images equal in the index cylinder and in one file's extent give equal answers to every reading of that file."
  -- `AgreeOn g set`: the images have the same bytes in every sector of the set; `sectorOf g addresses`: the set of the sectors that have these addresses
  pub local : (image image' : List ℕ) (g g' : Geometry) (slot : ℕ) → judged image ≡ Ok g → judged image' ≡ Ok g'
      → take (index_sectors g * 129) image ≡ take (index_sectors g * 129) image'
      → AgreeOn g (sector_of g (extent g (label_at g image slot))) image image'
      → (pl : Place) (out : List ℕ) → ((r (ask image slot pl out)).answer ≡ (r (ask image' slot pl out)).answer) × ((r (ask image slot pl out)).after ≡ (r (ask image' slot pl out)).after)
  local image image' g g' slot j j' index extents =
      let same = locality image image' g g' slot j j' index extents in
      answered_alike image image' slot (same.0 m) (same.1 m)

  -- "data skip them (house)": of two accepted images that differ on defective cylinders alone (`SameOffDefects`) every slot reads alike
  pub looks_past_defects : (image image' : List ℕ) (g g' : Geometry) → judged image ≡ Ok g → judged image' ≡ Ok g' → SameOffDefects g image image'
      → (slot : ℕ) (pl : Place) (out : List ℕ) → ((r (ask image slot pl out)).answer ≡ (r (ask image' slot pl out)).answer) × ((r (ask image slot pl out)).after ≡ (r (ask image' slot pl out)).after)
  looks_past_defects image image' g g' j j' others slot =
      let same = reading_past_defects image g j image' g' j' others slot in
      answered_alike image image' slot (same.0 m) (same.1 m)

-- "After any of a readable file's sectors fail their check": `reader` reads the file whole before (these bodies and End), and the sectors that `hit` names fail
-- (`Failed`: the other sectors have the same bytes, those have the kind of a failed check and any bytes behind it).
module _ (reader salvager : Reader) (reads : Reads plain reader) (salvages : Reads salvage salvager)
    (image image' : List ℕ) (g : Geometry) (slot : ℕ) (bodies : List (List ℕ)) (hit : ℕ → Bool) (accepted : judged image ≡ Ok g)
    (readings : ℕ) (lent : List ℕ) (readable : followed readings reader image slot lent start ≡ map told bodies ++ (done ∷ []))
    (fail : Failed g hit image image') where
  whole : ReadsWhole image slot bodies
  whole = record { readings = readings; out = lent; hears = sym (followed_is plain reader reads readings image slot lent start) ∙ readable }

  -- MORE THAN IS DEMANDED. `Spares`: any sector may fail but those of the index cylinder and those of defective records of this file's extent.
  module _ (spares : Spares g hit image (label_at g image slot)) where
    pub salvager_gives : SalvagedAs salvager g hit image image' slot bodies
    salvager_gives =
        let s = salvage_gives image image' g slot bodies hit accepted whole fail spares in
        record {
          before = record { records = s.0; list = s.2.before; bodies_are = s.1 };
          is_heard = λ n out. followed_is salvage salvager salvages n image' slot out start ∙ s.3 n out;
          records_are = sym (ap records_in s.2.list) ∙ s.2.list_records;
          gaps_are = sym (ap gaps_in s.2.list) ∙ s.2.list_gaps;
        }

    -- the failed image is read as its list
    heard_as : (is : List Item) → listed plain (file_in g image' (label_at g image' slot)) ≡ is
        → (n : ℕ) (out : List ℕ) → followed n reader image' slot out start ≡ heard_in (length out) (take n is)
    heard_as is e n out =
        let s = (salvage_gives image image' g slot bodies hit accepted whole fail spares).2 in
        gives plain reader reads image' g slot s.volume s.opens n out ∙ ap (λ (js : List Item). heard_in (length out) (take n js)) e

    pub reader_gives : ReadAs reader g hit image image' slot bodies
    reader_gives =
        let p = plain_gives image image' g slot bodies hit accepted whole fail spares in
        record {
          before = record { records = p.0; list = p.2.0; bodies_are = p.1 };
          up_to = λ b first. heard_as (cut_at b p.0) (p.2.1 b first).list;
          all = λ none. heard_as (map rec p.0 ++ (end ∷ [])) (p.2.2 none).list;
        }

    -- "No record is ever joined out of two others": whatever the salvager gives as a record was a record of the file before
    pub joins_none : (n : ℕ) (out body : List ℕ) → Memᴰ (told body) (followed n salvager image' slot out start) → Memᴰ body bodies
    joins_none n out body h =
        never_joined image image' g slot bodies hit accepted whole fail spares n out body
        (subst (λ (hs : List Heard). Memᴰ (told body) hs) (followed_is salvage salvager salvages n image' slot out start) h)

  -- THE DEMAND. `OfBlocks`: only sectors fail in which a block of the file lies, any of them.
  module _ (of_blocks : OfBlocks g hit image (label_at g image slot)) where
    spared : Spares g hit image (label_at g image slot)
    spared = blocks_may_fail image g slot hit accepted (opens_whole image g slot bodies accepted whole) of_blocks

    pub salvager_gives_demanded : SalvagedAs salvager g hit image image' slot bodies
    salvager_gives_demanded = salvager_gives spared

    pub reader_gives_demanded : ReadAs reader g hit image image' slot bodies
    reader_gives_demanded = reader_gives spared

    pub joins_none_demanded : (n : ℕ) (out body : List ℕ) → Memᴰ (told body) (followed n salvager image' slot out start) → Memᴰ body bodies
    joins_none_demanded = joins_none spared

-- IT LEAVES NO CHOICE: whoever is heard as demanded, by whatever code, is heard alike. (Were the records tied to the file by their bodies alone, one who never
-- gives a record could be heard as demanded, its blocks being said to be others.)
rec_same : {r q : FileRecord} → rec r ≡ rec q → r ≡ q
rec_same e = cc

records_same : (rs qs : List FileRecord) → map rec rs ++ (end ∷ []) ≡ map rec qs ++ (end ∷ []) → rs ≡ qs
records_same [] [] e = refl
records_same [] (q ∷ qs) e = never (cc)
records_same (r ∷ rs) [] e = never (cc)
records_same (r ∷ rs) (q ∷ qs) e =
    let h : r ≡ q = rec_same (cc) in
    let t : map rec rs ++ (end ∷ []) ≡ map rec qs ++ (end ∷ []) = cc in
    ap (λ (x : FileRecord). x ∷ rs) h ∙ ap (λ (xs : List FileRecord). q ∷ xs) (records_same rs qs t)

one_list : (g : Geometry) (image : List ℕ) (slot : ℕ) (bodies bodies' : List (List ℕ)) (a : RecordsOf g image slot bodies) (b : RecordsOf g image slot bodies')
    → a.records ≡ b.records
one_list g image slot bodies bodies' a b = records_same a.records b.records (sym a.list ∙ b.list)

module _ (one other : Reader) (g : Geometry) (hit : ℕ → Bool) (image image' : List ℕ) (slot : ℕ) (bodies bodies' : List (List ℕ)) where
  pub salvaged_alike : SalvagedAs one g hit image image' slot bodies → SalvagedAs other g hit image image' slot bodies'
      → (n : ℕ) (out : List ℕ) → followed n one image' slot out start ≡ followed n other image' slot out start
  salvaged_alike s t n out =
      s.is_heard n out
      ∙ ap (λ (rs : List FileRecord). heard_in (length out) (take n (expected g hit image (label_at g image slot) rs)))
      (one_list g image slot bodies bodies' s.before t.before)
      ∙ sym (t.is_heard n out)

  -- and so are plain readers
  pub read_alike : ReadAs one g hit image image' slot bodies → ReadAs other g hit image image' slot bodies'
      → (n : ℕ) (out : List ℕ) → followed n one image' slot out start ≡ followed n other image' slot out start
  read_alike s t n out =
      let same = one_list g image slot bodies bodies' s.before t.before in
      let lost = gone g hit image (label_at g image slot) in
      let count = block_count g image (label_at g image slot) in
      either (first_or_none lost count)
      (λ (none : NoneGone lost count).
      s.all none n out
      ∙ ap (λ (rs : List FileRecord). heard_in (length out) (take n (map rec rs ++ (end ∷ [])))) same
      ∙ sym (t.all none n out))
      (λ (first : (b : ℕ) × FirstGone lost count b).
      s.up_to first.0 first.1 n out
      ∙ ap (λ (rs : List FileRecord). heard_in (length out) (take n (cut_at first.0 rs))) same
      ∙ sym (t.up_to first.0 first.1 n out))

-- ======== WHAT HAS TO BE REJECTED
-- "These programs have to be rejected: one refusing everything and one naming the same record each time ..; a reader or salvager that gives the first record
-- and then only End ..; an invented .. gap". Of example 9 of document 01 in an image (`image`, in Instances: bodies of 8, 12 and 3 bytes in three blocks), and
-- of the same with block 1 lost (`failedAt geometry 9 image`, example 10), any function that meets the contract is heard thus:
pub reader_heard : (r : Reader) → Reads plain r
    → followed 4 r image 1 output start ≡ told (bytes "AAAAAAAA") ∷ told (bytes "BBBBBBBBBBBB") ∷ told (bytes "CCC") ∷ done ∷ []
reader_heard r meets = followed_is plain r meets 4 image 1 output start ∙ computed.1

pub salvager_heard : (r : Reader) → Reads salvage r
    → followed 4 r (failed_at geometry 9 image) 1 output start ≡ told (bytes "AAAAAAAA") ∷ gap_at 1 ∷ told (bytes "CCC") ∷ done ∷ []
salvager_heard r meets = followed_is salvage r meets 4 (failed_at geometry 9 image) 1 output start ∙ computed.2

refused_at_once : (r : Reader) (image : List ℕ) (x : Refusal) → (r (ask image 1 start output)).answer ≡ Err x
    → followed 4 r image 1 output start ≡ refused x ∷ []
unfolding followed
refused_at_once r image x h =
    ap (λ (a : Result Answer Refusal). onward a (r (ask image 1 start output)).after (λ out' pl'. followed 3 r image 1 out' pl')) h

-- so that one who is heard otherwise meets no contract. One that refuses everything: it would refuse the start of this file
module _ (r : Reader) (meets : Reads plain r) where
  pub no_refusing : (x : Refusal) → (r (ask image 1 start output)).answer ≡ Err x → ⊥
  no_refusing x h = let e = sym (reader_heard r meets) ∙ refused_at_once r image x h in never (cc)

  -- one that names the same record each time:
  pub no_repeating : (body : List ℕ) (more : List Heard) → followed 4 r image 1 output start ≡ told body ∷ told body ∷ more → ⊥
  no_repeating body more h = let e = sym (reader_heard r meets) ∙ h in never (cc)

  -- one that gives the first record and then only End:
  pub no_stopping : (body : List ℕ) → followed 4 r image 1 output start ≡ told body ∷ done ∷ [] → ⊥
  no_stopping body h = let e = sym (reader_heard r meets) ∙ h in never (cc)

module _ (r : Reader) (meets : Reads salvage r) where
  pub no_refusing_salvage : (x : Refusal) → (r (ask (failed_at geometry 9 image) 1 start output)).answer ≡ Err x → ⊥
  no_refusing_salvage x h = let e = sym (salvager_heard r meets) ∙ refused_at_once r (failed_at geometry 9 image) x h in never (cc)

  pub no_repeating_salvage : (body : List ℕ) (more : List Heard) → followed 4 r (failed_at geometry 9 image) 1 output start ≡ told body ∷ told body ∷ more → ⊥
  no_repeating_salvage body more h = let e = sym (salvager_heard r meets) ∙ h in never (cc)

  pub no_stopping_salvage : (body : List ℕ) → followed 4 r (failed_at geometry 9 image) 1 output start ≡ told body ∷ done ∷ [] → ⊥
  no_stopping_salvage body h = let e = sym (salvager_heard r meets) ∙ h in never (cc)

-- One that reads another cylinder than that of the two comparisons, by `<` for `≤`, by comparing d2 with c, or d2 before d1: of a volume with d1 = 1 and d2 = 2 whose
-- sectors name their own cylinders (`skipping`), any reader, and any salvager, hears cylinders 3 and 4
pub reads_past_two : (m : Mode) (r : Reader) → Reads m r
    → followed 3 r skipping 1 (replicate 2 255) start ≡ told (bytes "03") ∷ told (bytes "04") ∷ done ∷ []
reads_past_two plain r meets = followed_is plain r meets 3 skipping 1 (replicate 2 255) start ∙ skipping_heard.1
reads_past_two salvage r meets = followed_is salvage r meets 3 skipping 1 (replicate 2 255) start ∙ skipping_heard.2

-- One that gives what stands before the lost block, its gap and End, and never the record behind it, is not heard as demanded, whatever it is heard to do
-- elsewhere. (`failedIn geometry (9 ∷ [])` is the same image; nothing is asked of the contract here: it is the demand's own words that rule it out.)
demanded_here : SalvagedAs (as_defined salvage) geometry (among (9 ∷ [])) image (failed_in geometry (9 ∷ []) image) 1 bodies
demanded_here =
    salvager_gives_demanded (as_defined plain) (as_defined salvage) (answered (contract (read plain))) (answered (contract (read salvage))) image (failed_in geometry (9 ∷ []) image) geometry 1 bodies (among (9 ∷ []))
    computed.0 4 output (reader_heard (as_defined plain) (answered (contract (read plain)))) fails_9 of_blocks

one_failed : failed_in geometry (9 ∷ []) image ≡ failed_at geometry 9 image
unfolding failed_in
one_failed = refl

pub no_dropping : (r : Reader) → SalvagedAs r geometry (among (9 ∷ [])) image (failed_in geometry (9 ∷ []) image) 1 bodies
    → followed 4 r (failed_in geometry (9 ∷ []) image) 1 output start ≡ told (bytes "AAAAAAAA") ∷ gap_at 1 ∷ done ∷ [] → ⊥
no_dropping r s h =
    let other = salvaged_alike r (as_defined salvage) geometry (among (9 ∷ [])) image (failed_in geometry (9 ∷ []) image) 1 bodies bodies s demanded_here 4 output in
    let heard = ap (λ (t : List ℕ). followed 4 (as_defined salvage) t 1 output start) one_failed ∙ salvager_heard (as_defined salvage) (answered (contract (read salvage))) in
    let e = sym h ∙ other ∙ heard in
    never (cc)

-- one that invents a gap: where no block is lost from the place on, none is answered
pub no_inventing : (m : Mode) (r : Reader) → Reads m r → (image : List ℕ) (g : Geometry) (slot : ℕ) → judged image ≡ Ok g
    → (pl : Place) → ((b : ℕ) → pl.block ≤ b → LostIn (file_in g image (label_at g image slot)) b → ⊥)
    → (out : List ℕ) (next : Place) → (r (ask image slot pl out)).answer ≡ Ok (Gap next) → ⊥
no_inventing m r meets image g slot accepted pl none out next h =
    let (inside, b, first, at) = gap_hands_out m r meets image slot pl out g accepted next h in
    none b first.behind first.is_lost
