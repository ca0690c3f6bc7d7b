-- THE DEMANDS, of the definitions, for a reader who proves nothing: crates/demanded says them of any function that meets its contract. Each promise stands under
-- the sentence that it states; the lines behind `=` only name its proof. The names in the statements are the definitions of crates/standard, which contracts
-- cite; the few that are not are said where they first stand. `A → B`: if A then B; `A × B`: both; `A ⊎ B`: one of them; `A → ⊥`: not A; `Passed`: no refusal of
-- the list is given; `get_or x i 0`: the byte at i.
-- Assumes nothing.
use Rattle.std.specs.Prelude.{ℕ, ◌+◌, ◌-◌, ◌*◌, ◌≤◌, suc, ◌<◌, ◌≡◌, Bool, true, ◌⊎◌, length, get_or, take, drop, Ok, Err}
use Rattle.std.proofs.Common.{sym, ap, ◌∙◌}
use mathlib.Core.List.{List, ◌∷◌, [], ◌++◌, map, Memᴰ}
use Rattle.standard.specs.Refusals.{refuse}
use Rattle.standard.specs.Layout.{index_sectors, sector_count, body_size, body_offset, check_failed, label_at, slot_count, label_offset}
use Rattle.standard.specs.Addresses.{ordinal, five_bytes, address_count, legal, rank, stepped}
use Rattle.standard.specs.Slots.{has_label, is_label}
use Rattle.standard.specs.Judgement.{judged, volume_of, volume_list, refusal8to10, refusal11}
use Rattle.standard.specs.Finding.{found, found_at, label_named, label_in_slot, label_found}
use Rattle.standard.specs.Free.{free_count, free_records, in_extent}
use Rattle.standard.specs.Files.{extent, block_count, count_list, counted, open_refusal, file_in, blocks_held}
use Rattle.standard.specs.Records.{Mode, salvage, FileRecord, entering, in_file, File}
use Rattle.standard.specs.Listed.{listed}
use Rattle.standard.specs.Places.{start, next_block, end_place}
use Rattle.standard.specs.Reading.{Reply, laid_over, read_answer, output_after}
use Rattle.standard.specs.Writing.{parted, needed, write_list, write_refusal, written, image_after, packing, unused_field, data_end_after, splice}
use Rattle.standard.specs.Creating.{created, image_after_create, deleted, image_after_delete}
use Rattle.standard.specs.Listing.{listing}
use Rattle.standard.specs.Characters.{field}
use Rattle.standard.specs.Labels.{known_level, name_of, start_of, end_of}
use Rattle.standard.specs.Pieces.{ahead}
use Rattle.standard.specs.declared.Geometry.{Geometry}
use Rattle.standard.specs.declared.Address.{Address}
use Rattle.standard.specs.declared.Place.{Place}
use Rattle.standard.specs.declared.Refusal.{Refusal}
use Rattle.standard.specs.declared.Answer.TheVariants.{Gap, End, Record as RecordOf}
use Rattle.promises.specs.Refusals.Refusing.{Exactly, First, accepted_write, volume_first, volume_stops, count_first, write_first, refusal_lays_nothing, gap_lays_nothing, end_lays_nothing, refusal_writes_nothing}
use Rattle.promises.specs.Volumes.VolumePromises.{RecordInRange, extent_in_range, no_record_shared}
use Rattle.promises.specs.Images.Sectors.{AgreeOn, sector_of}
use Rattle.promises.specs.Reading.Following.{following, told, done as ended, heard_in}
use Rattle.promises.specs.Salvage.Failing.{Failed, OfBlocks, ReadsWhole, Salvaged, Spares, expected}
use Rattle.promises.specs.Reading.ReadingLaws.{body_of}
use Rattle.promises.specs.Promises.{LocalityPromise}
use Rattle.promises.proofs.Promises.{same_answers, locality_promise}
use Rattle.promises.proofs.Salvage.PlainFailed.{PlainlyRead, PlainFailedAnyPromise, plain_failed_any_promise}
use Rattle.promises.proofs.Writing.WritingPromises.{joined, answers, length_stays, accepted_still, unused_set, end_set, records_are, counts, writing_again, writing_stays, readings_stay, counts_stay, names_stay, slots_stay, free_stays}
use Rattle.promises.proofs.Writing.WrittenHeard.{RoomFor, written_heard_all}
use Rattle.promises.proofs.Images.ByteSectors.{InSector, MayChange, write_changes}
use Rattle.promises.proofs.Extents.DefectsApart.{OnDefect, SameOffDefects, extents_apart, same_off_defects, write_apart}
use Rattle.promises.specs.Volumes.FindingLaws.{find_named, find_none, label_handed_out}
use Rattle.promises.specs.Volumes.FreeLaws.{extents_below, free_counted, free_is}
use Rattle.promises.proofs.Refusals.ReadingRefused.{read_list, read_first, record_laid, record_next, gap_next, end_next, FirstLost}
use Rattle.promises.proofs.Reading.AnyPlace.{listed_from, following_from}
use Rattle.promises.proofs.Reading.GoingOn.{Finished, goes_on_lem}
use Rattle.promises.proofs.Reading.FollowingLaws.{following_any}
use Rattle.promises.specs.Extents.ExtentWhole.{extent_exactly, refused_shares}
use Rattle.promises.specs.Volumes.AcceptedLaws.{label_in_range}
use Rattle.promises.proofs.Writing.WriteEnds.{end_of_none, end_of_all, end_behind}
use Rattle.promises.proofs.Writing.AcceptedWrite.{label_range}
use Rattle.promises.proofs.Writing.WrittenLabel.{records_some}
use Rattle.promises.proofs.Salvage.SalvagedHeard.{SalvageHeardPromise, salvage_heard_promise, NeverJoinedAnyPromise, never_joined_any_promise}
use Rattle.promises.proofs.Salvage.SalvageImage.{only_blocks}
use Rattle.promises.proofs.Reading.Runs.{Stands, record_stands}
use Rattle.promises.proofs.Images.Alike.{Loose, NoneJudged, Only, SectorsKnown, EqualBut}
use Rattle.promises.proofs.Unseen.JudgedAlike.{judged_alike, equal_swap}
use Rattle.promises.proofs.Unseen.AnswersAlike.{found_alike, found_at_alike, label_named_alike, label_in_alike, free_alike, counted_alike, reply_alike, listing_alike}
use Rattle.promises.proofs.Unseen.LeftAlike.{failed_body_any, unjudged_any}
use Rattle.promises.proofs.Unseen.ChangesAlike.{written_alike, write_leaves_alike, created_alike, create_leaves_alike, deleted_alike, delete_leaves_alike}

-- ======== DEMAND 1
-- "Every image, name, place and length is taken, untested by the caller." Each definition below is a function of any lists of bytes and any numbers, so
-- there is an answer to every input.

-- "Bad input gets the numbered refusal of document 01, exactly when its list says so". `First r list`: r is the first of the list that is given.
-- `Exactly A B`: each follows from the other. The lists stand in Judgement, Files and Writing; which sector, position, slot or record each of their entries
-- names as its place is proved in PlacesNamed, exactly too.
pub volume_refused : (image : List ℕ) (r : Refusal) → Exactly (judged image ≡ Err r) (First r (volume_list image (volume_of image)))
volume_refused = volume_first

module _ (image : List ℕ) (g : Geometry) (accepted : judged image ≡ Ok g) where
  pub count_refused : (slot : ℕ) (r : Refusal) → Exactly (counted image slot ≡ Err r) (First r (count_list g image slot))
  count_refused = count_first image g accepted

  -- "Reading: 13-19, then 20-22 as blocks are met, 23 last": `read_list` is that list, in ReadingRefused
  pub reading_refused : (m : Mode) (slot : ℕ) (pl : Place) (out : List ℕ) (r : Refusal)
      → Exactly (read_answer m image slot pl out ≡ Err r) (First r (read_list m g image slot pl (length out)))
  reading_refused = read_first image g accepted

  pub writing_refused : (slot : ℕ) (bodies lengths : List ℕ) (r : Refusal)
      → Exactly (written image slot bodies lengths ≡ Err r) (First r (write_list g image slot bodies lengths))
  writing_refused = write_first image g accepted

-- "A file call stops at the first refusal of the volume."
pub file_call_refused : (image : List ℕ) (r : Refusal) → judged image ≡ Err r
    → ((name : List ℕ) → found image name ≡ Err r)
    × ((slot : ℕ) → found_at image slot ≡ Err r)
    × ((slot : ℕ) → counted image slot ≡ Err r)
    × (free_count image ≡ Err r)
    × ((m : Mode) (slot : ℕ) (pl : Place) (out : List ℕ) → read_answer m image slot pl out ≡ Err r)
    × ((slot : ℕ) (bodies lengths : List ℕ) → written image slot bodies lengths ≡ Err r)
file_call_refused = volume_stops

-- "and a refusal changes no byte of the image or of the output." (Only a write has the image to change.) "Bytes behind a record in the output stay too; gap
-- and End change none."
module _ (m : Mode) (image : List ℕ) (slot : ℕ) (pl : Place) (out : List ℕ) where
  pub refused_reading_stays : (r : Refusal) → read_answer m image slot pl out ≡ Err r → output_after m image slot pl out ≡ out
  refused_reading_stays = refusal_lays_nothing m image slot pl out

  pub gap_stays : (next : Place) → read_answer m image slot pl out ≡ Ok (Gap next) → output_after m image slot pl out ≡ out
  gap_stays = gap_lays_nothing m image slot pl out

  pub end_stays : (next : Place) → read_answer m image slot pl out ≡ Ok (End next) → output_after m image slot pl out ≡ out
  end_stays = end_lays_nothing m image slot pl out

  pub record_stays : (k : ℕ) (next : Place) → read_answer m image slot pl out ≡ Ok (RecordOf k next)
      → (k ≤ length out) × (drop k (output_after m image slot pl out) ≡ drop k out) × (length (output_after m image slot pl out) ≡ length out)
  record_stays = record_laid m image slot pl out

pub refused_writing_stays : (image : List ℕ) (slot : ℕ) (bodies lengths : List ℕ) (r : Refusal)
    → written image slot bodies lengths ≡ Err r → image_after image slot bodies lengths ≡ image
refused_writing_stays = refusal_writes_nothing

-- ======== DEMAND 2
-- "extents in range, sharing no record". `List.Memᴰ a list`: a is in the list. `RecordInRange`: its address is one of the volume, its sector behind the
-- index cylinder and on no defective one, its bytes inside the image.
pub extents_in_range : (image : List ℕ) (g : Geometry) (slot : ℕ) (a : Address) → judged image ≡ Ok g → has_label g image slot ≡ true
    → Memᴰ a (extent g (label_at g image slot)) → RecordInRange image g a
extents_in_range = extent_in_range

pub sharing_no_record : (image : List ℕ) (g : Geometry) (slot other : ℕ) (a b : Address) → judged image ≡ Ok g
    → has_label g image slot ≡ true → has_label g image other ≡ true
    → Memᴰ a (extent g (label_at g image slot)) → Memᴰ b (extent g (label_at g image other))
    → ordinal g a ≡ ordinal g b → slot ≡ other
sharing_no_record = no_record_shared

-- and an extent has exactly the addresses from its start to its end, so that 11 refuses no volume whose extents share no record
pub extent_is : (image : List ℕ) (g : Geometry) (slot : ℕ) (a : Address) → judged image ≡ Ok g → has_label g image slot ≡ true
    → Exactly (Memᴰ a (extent g (label_at g image slot))) ((legal g a ≡ true) × (in_extent g (label_at g image slot) (rank g a) ≡ true))
extent_is image g slot a accepted h = extent_exactly g (label_at g image slot) a (label_in_range image g slot accepted h)

pub refused_for_sharing : (g : Geometry) (image : List ℕ) (r : Refusal) → refusal8to10 g image ≡ Ok tt → refusal11 g image ≡ Err r
    → (slot lower : ℕ) × (r ≡ refuse 11 slot) × (lower < slot) × (has_label g image slot ≡ true) × (has_label g image lower ≡ true)
    × (a : Address) × Memᴰ a (extent g (label_at g image slot)) × Memᴰ a (extent g (label_at g image lower))
refused_for_sharing = refused_shares

-- "These are physical numbers, and data skip them (house)." `OnDefect g n`: sector n of the image is on a defective cylinder. No extent has one: so two
-- accepted images that differ in such sectors alone (`SameOffDefects`) read alike, and a write changes no byte of them (`InSector g i n`: byte i is in sector n).
module _ (image : List ℕ) (g : Geometry) (accepted : judged image ≡ Ok g) where
  pub extents_off_defects : (slot n : ℕ) → has_label g image slot ≡ true → sector_of g (extent g (label_at g image slot)) n ≡ true → OnDefect g n → ⊥
  extents_off_defects = extents_apart image g accepted

  pub reading_past_defects : (image' : List ℕ) (g' : Geometry) → judged image' ≡ Ok g' → SameOffDefects g image image' → (slot : ℕ)
      → ((m : Mode) (pl : Place) (out : List ℕ) → read_answer m image slot pl out ≡ read_answer m image' slot pl out)
      × ((m : Mode) (pl : Place) (out : List ℕ) → output_after m image slot pl out ≡ output_after m image' slot pl out)
      × (counted image slot ≡ counted image' slot)
  reading_past_defects image' g' j' same slot =
      let l = same_answers image image' g g' slot accepted j' (same_off_defects image g accepted image' slot same) in
      (l.1, l.2, l.3)

  pub writing_past_defects : (slot : ℕ) (bodies lengths : List ℕ) (k i n : ℕ) → written image slot bodies lengths ≡ Ok k
      → InSector g i n → OnDefect g n → get_or (image_after image slot bodies lengths) i 0 ≡ get_or image i 0
  writing_past_defects slot bodies lengths k i n done = write_apart image g accepted slot bodies lengths (accepted_write image g accepted slot bodies lengths k done) i n

-- what is found and handed out: "Names are 17 bytes, found among levels space, 1, 2 only"; "A file's label is handed out as the 128 bytes in the image itself"
module _ (image : List ℕ) (g : Geometry) (accepted : judged image ≡ Ok g) where
  pub finding_gives : (name : List ℕ) (slot offset : ℕ)
      → Exactly (found image name ≡ label_found slot offset)
      ((1 ≤ slot) × (slot ≤ slot_count g) × (is_label g image slot ≡ true) × (known_level (label_at g image slot) ≡ true)
      × (name_of (label_at g image slot) ≡ name) × (offset ≡ label_offset g slot))
  finding_gives = find_named image g accepted

  pub finding_none : (name : List ℕ) (r : Refusal)
      → Exactly (found image name ≡ Err r)
      ((r ≡ refuse 13 0)
      × ((slot : ℕ) → 1 ≤ slot → slot ≤ slot_count g → is_label g image slot ≡ true → known_level (label_at g image slot) ≡ true
      → name_of (label_at g image slot) ≡ name → ⊥))
  finding_none = find_none image g accepted

  pub label_given : (name : List ℕ) (slot offset : ℕ) → found image name ≡ label_found slot offset
      → (label_named image name ≡ take 128 (drop offset image)) × (length (label_named image name) ≡ 128)
  label_given = label_handed_out image g accepted

  -- the free records: all data addresses less the sizes of the labels' extents (`extentsBelow g image n`: of the labels in the slots 1 to n, in all)
  pub free_gives : (free_count image ≡ Ok (free_records g image)) × (free_records g image + extents_below g image (slot_count g) ≡ address_count g)
  free_gives = (free_counted image g accepted, free_is image g accepted)

-- "reading gives exactly the records the standard puts there". `listed` is the declared list, straight from the blocks, and `listed_from` the same from a
-- place on; `following n`: what a caller hears who reads a place and then each place that is handed out, at most n times, stopping at End or a refusal;
-- `heardIn room`: the list as it is heard with so much room in the output, which is the list itself up to a record that is too long, where 23 is heard.
module _ (image : List ℕ) (g : Geometry) (slot : ℕ) (accepted : judged image ≡ Ok g) (opens : open_refusal g image slot ≡ Ok tt) where
  abbrev file : File
  file = file_in g image (label_at g image slot)

  pub reading_gives : (m : Mode) (n : ℕ) (out : List ℕ) → following n m image slot out start ≡ heard_in (length out) (take n (listed m file))
  reading_gives = following_any image g slot accepted opens

  -- "Any place in the file may be asked"
  pub reading_gives_from : (m : Mode) (n : ℕ) (out : List ℕ) (pl : Place) → in_file file pl ≡ true
      → following n m image slot out pl ≡ heard_in (length out) (take n (listed_from m file pl))
  reading_gives_from = following_from image g slot accepted opens

-- "A place at the end of a block's content goes on in the next block": reading it is reading the place to which `next_block` moves it, and so it is wherever only
-- fill is left in a block that is not lost (`Finished`, in GoingOn; `at_the_end` there: the end of the content is such a place)
module _ (image : List ℕ) (g : Geometry) (accepted : judged image ≡ Ok g) (m : Mode) (slot : ℕ) (pl : Place) where
  pub reading_goes_on : in_file (file_in g image (label_at g image slot)) pl ≡ true → Finished (file_in g image (label_at g image slot)) pl → (out : List ℕ)
      → (read_answer m image slot pl out ≡ read_answer m image slot (next_block (block_count g image (label_at g image slot)) pl) out)
      × (output_after m image slot pl out ≡ output_after m image slot (next_block (block_count g image (label_at g image slot)) pl) out)
  reading_goes_on inside over out =
      let same = goes_on_lem image g accepted m slot pl inside over (length out) in
      (ap (λ (r : Reply). r.answer) same, ap (λ (r : Reply). laid_over r.body out) same)

-- every place handed out is in the file; a gap's is the start, marked, of the block behind the first lost one from the place on (`FirstLost file a b`: from block a
-- on, b is lost and none before it); End's is (count, 0)
module _ (image : List ℕ) (g : Geometry) (accepted : judged image ≡ Ok g) (m : Mode) (slot : ℕ) (pl : Place) (out : List ℕ) (next : Place) where
  pub record_leads : (k : ℕ) → read_answer m image slot pl out ≡ Ok (RecordOf k next) → in_file (file_in g image (label_at g image slot)) next ≡ true
  record_leads = record_next image g accepted m slot pl out next

  pub gap_leads : read_answer m image slot pl out ≡ Ok (Gap next)
      → (in_file (file_in g image (label_at g image slot)) next ≡ true)
      × (b : ℕ) × FirstLost (file_in g image (label_at g image slot)) pl.block b × (next ≡ record { block = suc b; offset = 0; mark = true })
  gap_leads = gap_next image g accepted m slot pl out next

  pub end_leads : read_answer m image slot pl out ≡ Ok (End next)
      → (in_file (file_in g image (label_at g image slot)) next ≡ true) × (next ≡ end_place (block_count g image (label_at g image slot)))
  end_leads = end_next image g accepted m slot pl out next

-- "an accepted write reads back as its list and changes no byte but the sectors it fills and two fields of the label." A write is accepted where it
-- answers with a number of blocks. `parted bodies lengths`: the list, record by record. `MayChange`: the byte is in a sector of the blocks filled, or in
-- positions 58-62 or 75-79 of the label.
module _ (image : List ℕ) (g : Geometry) (slot : ℕ) (bodies lengths : List ℕ) (n : ℕ) (accepted : judged image ≡ Ok g)
    (done : written image slot bodies lengths ≡ Ok n) where
  abbrev after : List ℕ
  after = image_after image slot bodies lengths

  abbrev label : List ℕ
  label = label_at g image slot

  passed : write_refusal g image slot bodies lengths ≡ Ok tt
  passed = accepted_write image g accepted slot bodies lengths n done

  -- the list is the bodies lent, each of its length (`joined`: one behind the other)
  pub write_list_lem : (map length (parted bodies lengths) ≡ lengths) × (joined (parted bodies lengths) ≡ bodies)
  write_list_lem = records_are image g slot bodies lengths accepted passed

  pub write_counts : (n ≡ needed label bodies lengths) × (counted after slot ≡ Ok n)
  write_counts =
      let e = answers image g slot bodies lengths accepted passed in
      let same : n ≡ needed label bodies lengths = cc in
      (same, counts image g slot bodies lengths accepted passed ∙ ap Ok (sym same))

  -- `told body`: a record with these bytes is heard; `ended`: End is; `RoomFor room lengths`: none of the lengths is above the room
  pub write_reads_back : (m : Mode) (readings : ℕ) (out : List ℕ) → RoomFor (length out) lengths → length lengths + 1 ≤ readings
      → following readings m after slot out start ≡ map told (parted bodies lengths) ++ (ended ∷ [])
  write_reads_back = written_heard_all image g slot bodies lengths accepted passed

  pub write_changes_no_more : (length after ≡ length image)
      × ((i : ℕ) → (get_or after i 0 ≡ get_or image i 0) ⊎ MayChange g image slot (needed label bodies lengths) i)
  write_changes_no_more = (length_stays image g slot bodies lengths accepted passed, write_changes image g slot bodies lengths accepted passed)

  -- "Then U (spaces for 0) and the data end are set"
  pub write_sets : (field (label_at g after slot) 58 62 ≡ unused_field (packing label bodies lengths).U)
      × (field (label_at g after slot) 75 79 ≡ five_bytes (data_end_after g image label (needed label bodies lengths)))
  write_sets = (unused_set image g slot bodies lengths accepted passed, end_set image g slot bodies lengths accepted passed)

  -- "start for 0 blocks; the first good record of the next block if a whole one is left; else the step past the extent's end": behind the start wherever
  -- there is a block, however the blocks end in tracks, sides and cylinders
  pub write_carries : (n ≡ 0 → data_end_after g image label n ≡ start_of label)
      × (0 < n → blocks_held g image label ≤ n → data_end_after g image label n ≡ stepped g (end_of label))
      × (0 < n → rank g (start_of label) < rank g (data_end_after g image label n))
  write_carries = (
    (λ e. ap (data_end_after g image label) e ∙ end_of_none g image label),
    (λ p l. end_of_all g image label n p l),
    (λ p. end_behind g image label (label_range image g slot bodies lengths accepted passed) (records_some image g slot bodies lengths accepted passed) n p),
  )

  pub write_stays_accepted : judged after ≡ Ok g
  write_stays_accepted = accepted_still image g slot bodies lengths accepted passed

  -- every other file is as before, and so is what is found, the number of free records, and whether a further write is refused
  pub others_stay : (other : ℕ) → (other ≡ slot → ⊥)
      → ((m : Mode) (pl : Place) (out : List ℕ) → read_answer m after other pl out ≡ read_answer m image other pl out)
      × ((m : Mode) (pl : Place) (out : List ℕ) → output_after m after other pl out ≡ output_after m image other pl out)
      × (counted after other ≡ counted image other)
      × ((b l : List ℕ) → write_refusal g after other b l ≡ write_refusal g image other b l)
  others_stay other ne =
      let same = readings_stay image g slot bodies lengths accepted passed other ne in (
        (λ m pl out. ap (λ (r : Reply). r.answer) (same m pl (length out))),
        (λ m pl out. ap (λ (r : Reply). laid_over r.body out) (same m pl (length out))),
        counts_stay image g slot bodies lengths accepted passed other ne,
        writing_stays image g slot bodies lengths accepted passed other ne,
      )

  pub finding_stays : ((name : List ℕ) → found after name ≡ found image name) × ((s : ℕ) → found_at after s ≡ found_at image s)
      × (free_count after ≡ free_count image)
      × ((b l : List ℕ) → write_refusal g after slot b l ≡ write_refusal g image slot b l)
  finding_stays = (
    names_stay image g slot bodies lengths accepted passed,
    slots_stay image g slot bodies lengths accepted passed,
    free_stays image g slot bodies lengths accepted passed,
    writing_again image g slot bodies lengths accepted passed,
  )

-- ======== DEMAND 3
-- "After any of a readable file's sectors fail their check" (`ReadsWhole`: plain reading gives these bodies and End; `Failed`: the other sectors have the same
-- bytes, those that `hit` names have the kind of a failed check and any bytes behind it; `Spares`: any sector may fail but those of the index cylinder and
-- those of defective records of this file's extent, of which docs/DECISIONS.md, 7.12, tells), "salvage gives, in order, every record no block of which is
-- lost, one gap per lost block at its place, nothing more" (`Salvaged`: its list, its records, its gaps; `expected`: that list, block by block
-- a gap, or the records that end there and have no lost block, and then End; both in Failing). What a caller hears is that list. `body_of`: a record's bytes.
module _ (image image' : List ℕ) (g : Geometry) (slot : ℕ) (bodies : List (List ℕ)) (hit : ℕ → Bool) (accepted : judged image ≡ Ok g)
    (readable : ReadsWhole image slot bodies) (fail : Failed g hit image image') (spares : Spares g hit image (label_at g image slot)) where
  pub salvage_gives : (rs : List FileRecord) × (map body_of rs ≡ bodies) × Salvaged g hit image image' slot rs
      × ((n : ℕ) (out : List ℕ) → following n salvage image' slot out start ≡ heard_in (length out) (take n (expected g hit image (label_at g image slot) rs)))
  unfolding SalvageHeardPromise
  salvage_gives = salvage_heard_promise image image' g slot bodies hit accepted readable fail spares

  -- and plain reading gives the records that end before the first lost block, and then 20 naming it; or, if no block is lost, all records and End
  -- (`PlainlyRead`, in PlainFailed)
  pub plain_gives : (rs : List FileRecord) × (map body_of rs ≡ bodies) × PlainlyRead g hit image image' slot rs
  unfolding PlainFailedAnyPromise
  plain_gives = plain_failed_any_promise image image' g slot bodies hit accepted readable fail spares

  -- "No record is ever joined out of two others": whatever salvage gives as a record was a record of the file before
  pub never_joined : (n : ℕ) (out body : List ℕ) → Memᴰ (told body) (following n salvage image' slot out start) → Memᴰ body bodies
  unfolding NeverJoinedAnyPromise
  never_joined = never_joined_any_promise image image' g slot bodies hit accepted readable fail spares

-- The sectors of the file's own blocks are among those that may fail.
pub blocks_may_fail : (image : List ℕ) (g : Geometry) (slot : ℕ) (hit : ℕ → Bool) → judged image ≡ Ok g → open_refusal g image slot ≡ Ok tt
    → OfBlocks g hit image (label_at g image slot) → Spares g hit image (label_at g image slot)
blocks_may_fail = only_blocks

-- The same of any image and any place, readable or not: the bytes of a record given are those of one piece `0`, or of pieces `1`, `2`.., `3` one behind the
-- other, with no lost block between, and these stand first ahead of the place (`Run`, in Runs); only where the mark counts may dropped pieces stand before them
-- (`AfterDropped`). `entering`: where the mark counts the reader is `marked`, else `fresh`; `Stands` says of either what stands ahead.
pub joined_rightly : (image : List ℕ) (g : Geometry) → judged image ≡ Ok g → (m : Mode) (slot : ℕ) (pl : Place) (out : List ℕ) (k : ℕ) (next : Place)
    → read_answer m image slot pl out ≡ Ok (RecordOf k next)
    → (r : FileRecord) × (take k (output_after m image slot pl out) ≡ r.body)
    × Stands (entering m (file_in g image (label_at g image slot)).params.format pl.offset pl.mark)
    (ahead (file_in g image (label_at g image slot)).params (file_in g image (label_at g image slot)).blocks pl.block pl.offset) r next
joined_rightly = record_stands

-- ======== LOCALITY
-- "Two accepted images equal in the index cylinder and in one file's extent give equal answers to every reading of that file." `AgreeOn g set`: the images have
-- the same bytes in every sector of the set; `sectorOf g addresses`: the set of the sectors that have these addresses.
pub locality : (image image' : List ℕ) (g g' : Geometry) (slot : ℕ) → judged image ≡ Ok g → judged image' ≡ Ok g'
    → take (index_sectors g * 129) image ≡ take (index_sectors g * 129) image'
    → AgreeOn g (sector_of g (extent g (label_at g image slot))) image image'
    → ((m : Mode) (pl : Place) (out : List ℕ) → read_answer m image slot pl out ≡ read_answer m image' slot pl out)
    × ((m : Mode) (pl : Place) (out : List ℕ) → output_after m image slot pl out ≡ output_after m image' slot pl out)
    × (counted image slot ≡ counted image' slot)
unfolding LocalityPromise
locality image image' g g' slot j j' index extents =
    let l = locality_promise image image' g g' slot j j' index extents in
    (l.1, l.2, l.3)

-- ======== WHAT NO ANSWER HANGS ON
-- "Kind 32+k: check failed, body not trusted"; "sectors 01-04 and 06 are not judged beyond kind"; of VOL1 "all other positions are not judged", and 2026-02: "79
-- becomes reserved and is not judged". `EqualBut loose image image'`: the images have one length and the same bytes, but for what is loose: the bodies of check-failed
-- sectors, if those are, whose kinds are the same; and positions of sectors 01 to 07, any set of which no rule judges one (`NoneJudged`, `Unjudged`). (In Alike.
-- Sectors 01 to 07 are compared on any image; the others where none of the refusals 1 to 5 is given, `SectorsKnown`: only then is it known where they lie.) Two such
-- images, accepted or refused, get equal answers to every call, and a call that changes them leaves two such images again. So whatever is asked of them, in whatever
-- order, no answer depends on a body that is not trusted or on a position that is not judged.
module _ (loose : Loose) (none-judged : NoneJudged loose) (image image' : List ℕ) (alike : EqualBut loose image image') where
  pub unseen_judged : judged image ≡ judged image'
  unseen_judged = judged_alike loose none-judged image image' alike

  pub unseen_found : ((name : List ℕ) → found image name ≡ found image' name) × ((slot : ℕ) → found_at image slot ≡ found_at image' slot)
      × ((name : List ℕ) → label_named image name ≡ label_named image' name) × ((slot : ℕ) → label_in_slot image slot ≡ label_in_slot image' slot)
  unseen_found =
      (found_alike loose none-judged image image' alike, found_at_alike loose none-judged image image' alike, label_named_alike loose none-judged image image' alike, label_in_alike loose none-judged image image' alike)

  pub unseen_counted : ((slot : ℕ) → counted image slot ≡ counted image' slot) × (free_count image ≡ free_count image')
  unseen_counted = (counted_alike loose none-judged image image' alike, free_alike loose none-judged image image' alike)

  pub unseen_listed : listing image ≡ listing image'
  unseen_listed = listing_alike loose none-judged image image' alike

  -- both modes, every place, every output
  pub unseen_read : (m : Mode) (slot : ℕ) (pl : Place) (out : List ℕ)
      → (read_answer m image slot pl out ≡ read_answer m image' slot pl out) × (output_after m image slot pl out ≡ output_after m image' slot pl out)
  unseen_read m slot pl out =
      let same = reply_alike loose none-judged image image' alike m slot pl (length out) in
      (ap (λ (r : Reply). r.answer) same, ap (λ (r : Reply). laid_over r.body out) same)

  -- a write fills sectors whole, and gives them the valid mark; a create and a delete store in a slot that is not check-failed
  pub unseen_written : (slot : ℕ) (bodies lengths : List ℕ) → (written image slot bodies lengths ≡ written image' slot bodies lengths)
      × EqualBut loose (image_after image slot bodies lengths) (image_after image' slot bodies lengths)
  unseen_written slot bodies lengths = (written_alike loose none-judged image image' alike slot bodies lengths, write_leaves_alike loose none-judged image image' alike slot bodies lengths)

  pub unseen_created : (fields : List ℕ) (n : ℕ) → (created image fields n ≡ created image' fields n)
      × EqualBut loose (image_after_create image fields n) (image_after_create image' fields n)
  unseen_created fields n = (created_alike loose none-judged image image' alike fields n, create_leaves_alike loose none-judged image image' alike fields n)

  pub unseen_deleted : (slot : ℕ) → (deleted image slot ≡ deleted image' slot) × EqualBut loose (image_after_delete image slot) (image_after_delete image' slot)
  unseen_deleted slot = (deleted_alike loose none-judged image image' alike slot, delete_leaves_alike loose none-judged image image' alike slot)

-- Which images these are: the other way round it is the same; and, where bodies are loose, whatever bytes are laid over the body of a check-failed sector (`splice`:
-- from an offset on), the image before and the image after are two of them; also of a slot's, for which the volume is refused.
pub unseen_either_way : (loose : Loose) → NoneJudged loose → (image image' : List ℕ) → EqualBut loose image image' → EqualBut loose image' image
unseen_either_way = equal_swap

pub untrusted_body : (loose : Loose) → loose.bodies → (image : List ℕ) (n : ℕ) (bytes : List ℕ) → SectorsKnown image → n < sector_count (volume_of image)
    → check_failed (volume_of image) image n ≡ true → length bytes ≡ body_size (volume_of image) n
    → EqualBut loose image (splice (body_offset (volume_of image) n) bytes image)
untrusted_body = failed_body_any

-- and so are an image and what it becomes if any byte is put at a position of sector 01 to 07, that position alone being loose (`Only`)
pub unjudged_byte : (image : List ℕ) (sector position x : ℕ) → 1 ≤ sector → sector ≤ 7 → 1 ≤ position → position ≤ 128
    → (sector - 1) * 129 + position < length image → EqualBut (Only sector position) image (splice ((sector - 1) * 129 + position) (x ∷ []) image)
unjudged_byte = unjudged_any
