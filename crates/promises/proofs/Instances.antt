-- Four small images in which the theorems say something: what is promised of images is promised of these. Examples 9 and 10 of the document in an image; a file
-- with a defective record, which shows what demand 3 does not promise; a volume with a write to it that is accepted; and one with two defective cylinders.
-- Assumes nothing.
use Rattle.std.specs.Prelude.{ℕ, zero, suc, ◌+◌, ◌-◌, ◌*◌, ◌<◌, ◌≡◌, refl, true, false, length, replicate, Ok, Err}
use Rattle.std.proofs.Common.{subst, ap, ◌∙◌, arith, eqb-true}
use mathlib.Core.List.{List, [], ◌∷◌, ◌++◌, map, flatten}
use Rattle.standard.specs.Characters.{one_of, same, every, a_set, is_digit, digit_value, number_from, is_hex, hex_value, hex_from, bytes, spaces_or_number, padded, shown_by}
use Rattle.standard.specs.Refusals.{in_order, or_else, given_when, refuse}
use Rattle.standard.specs.Layout.{ordinal_at, sector_count, k_at, body_size, kind_offset, body_offset, image_length, kind_at, body_at, first_byte, valid_mark, incorrect_mark, check_failed, index_kind, index_body, slot_count, slot_ordinal, label_offset, label_at}
use Rattle.standard.specs.Volume.{vol1_rules}
use Rattle.standard.specs.Defects.{ermap_rules, ermap_rule7, ermap_rule11, skip_one, physical}
use Rattle.standard.specs.Addresses.{address_of, five_digits, address_in, five_read, legal, rank, before, stepped, past_last, is_address, is_data_end, ordinal}
use Rattle.standard.specs.Labels.{known_level, another_level, format_of, record_length, unused_count, rule44, rule6, rule29, rule35, rule40, rule23, rule63, rule41, rule42, rule43, rule45, rule64, rule73, rule46, spaces_or_date, rule48, rule67, rule54, rule58, rule75, hdr1_rules, label_fault, variable, spanned}
use Rattle.standard.specs.Slots.{is_label, is_deleted, is_unreadable, slot_refusal, slots_from, has_label}
use Rattle.standard.specs.Judgement.{numbers_in, legal_kind, kinds_from, clashes_below, clashes_from, overlap, shares, same_name, namesake, volume_refusal, judged}
use Rattle.standard.specs.Files.{addresses_from, extent_size, extent, is_defective, good_among, good_records, records_to_block, good_before, data_end_at_start, data_end_in_extent, blocks_held, block_count, is_wrong, wrong_among, splits_block, count_refusal, counted, open_refusal, any_failed, bytes_of, block_of, blocks_from, file_in, file_at}
use Rattle.standard.specs.Records.{first_met, step, in_file, plain, salvage, FileRecord}
use Rattle.standard.specs.Listed.{read_on, enough, read_all, join, listed}
use Rattle.standard.specs.Places.{start}
use Rattle.standard.specs.Pieces.{look, walk, pieces, in_block, in_blocks, ahead, number4, role_of, look_f, look_v, look_s}
use Rattle.standard.specs.Reading.{reply_in, reply, laid_over}
use Rattle.standard.specs.Packing.{unused_in, lay_f, record_v, lay_one, lay_v, segment, spread, lay_s, pack, file_of}
use Rattle.standard.specs.Writing.{written, image_after, total, parted, wrong_length, lengths_from, packing, write_refusal, splice, filled_to, store_record, store_block, store_blocks, next_data_end, data_end_after, set_label, image_with, outcome}
use Rattle.standard.specs.Finding.{is_named, found_from}
use Rattle.standard.specs.Free.{in_extent, taken}
use Rattle.standard.specs.Creating.{proposed, proposed_rules, proposal_fault, deleted_from, lowest_deleted, free_run, run_from, lowest_run, create_refusal, store_slot, image_created, creation, created, image_after_create, delete_refusal, deletion, deleted, image_after_delete, file_made}
use Rattle.standard.specs.Rules.{lowest_fault}
use Rattle.standard.specs.declared.Geometry.{Geometry}
use Rattle.promises.specs.Images.Sectors.{sector_of}
use Rattle.promises.specs.Reading.ReadingLaws.{body_of, Reads}
use Rattle.promises.specs.Reading.Following.{told, gap_at, done, following, refused}
use Rattle.promises.specs.Salvage.Failing.{Failed, records_of, OfBlocks, ReadsWhole, Salvaged, gone, any_hit}
use Rattle.promises.proofs.Salvage.Failable.{failed_at, failed_in, among, some_fail}
use Rattle.promises.specs.Promises.{SalvagePromise}
use Rattle.promises.proofs.Promises.{salvage_promise}
use Rattle.promises.proofs.Writing.WritingPromises.{reads}
use Rattle.promises.proofs.Salvage.PlainFailed.{FirstGone, ReadUpTo, plain_up_to}
use Rattle.promises.proofs.Writing.WrittenHeard.{written_heard}
use Rattle.promises.specs.Writing.NeededLaws.{needed_from, spread_to}

-- a sector of 128 bytes with a valid mark: some bytes, and spaces behind them
abbrev sector : List ℕ → List ℕ
sector b = 0 ∷ (b ++ replicate (128 - length b) 32)

abbrev blank_sectors : ℕ → List ℕ
blank_sectors zero = []
blank_sectors (suc n) = sector [] ++ blank_sectors n

-- a block and the rest of its physical record
abbrev block : List ℕ → List ℕ
block content = content ++ replicate (128 - length content) 0

-- THE FIRST: L = 1, I = 8, D = 3, P = 128, S = 1, and a file of format S, B = 20, R = 0000, U = 12, from 01001 to 01003
unfoldable pub image : List ℕ
image =
    blank_sectors 4
    ++ sector (bytes "ERMAP")
    ++ sector []
    ++ sector (bytes "VOL1DEMO01                                                             A       3010803  1")
    ++ sector (bytes "HDR1 LOG              00020 01001 01003S   2         000000012B           02001")
    ++ sector (block (bytes "00013AAAAAAAA10007BB"))
    ++ sector (block (bytes "30015BBBBBBBBBB"))
    ++ sector (block (bytes "00008CCC"))
    ++ blank_sectors 9

-- an output of 12 bytes, with anything in it
abbrev pub output : List ℕ
output = replicate 12 255

abbrev pub geometry : Geometry
geometry = record { L = 1; I = 8; D = 3; k = 0; P = 128; S = 1; d1 = 0; d2 = 0 }

-- THE SECOND: the same with F, B = R = 256 and D = 5, where the first record of the extent is defective. Its two blocks are A, B and C, D of 128 bytes each.
abbrev of128 : ℕ → List ℕ
of128 c = replicate 128 c

unfoldable pub with_defect : List ℕ
with_defect =
    blank_sectors 4
    ++ sector (bytes "ERMAP")
    ++ sector []
    ++ sector (bytes "VOL1DEMO01                                                             A       3010805  1")
    ++ sector (bytes "HDR1 LOG              00256 01001 01005F   2         0256                 02001")
    ++ (16 ∷ (bytes "F" ++ replicate 127 32))
    ++ sector (of128 65)
    ++ sector (of128 66)
    ++ sector (of128 67)
    ++ sector (of128 68)
    ++ blank_sectors 15

abbrev defect_volume : Geometry
defect_volume = record { L = 1; I = 8; D = 5; k = 0; P = 128; S = 1; d1 = 0; d2 = 0 }

abbrev pub bodies : List (List ℕ)
bodies = bytes "AAAAAAAA" ∷ bytes "BBBBBBBBBBBB" ∷ bytes "CCC" ∷ []

-- What is computed of the first. It is accepted; example 9 is read back; example 10, where block 1 is lost: its sector is the tenth, ordinal 9, in the image, and
-- of block 1.
pub computed : (judged image ≡ Ok geometry)
    × (following 4 plain image 1 output start ≡ map told bodies ++ (done ∷ []))
    × (following 4 salvage (failed_at geometry 9 image) 1 output start ≡ told (bytes "AAAAAAAA") ∷ gap_at 1 ∷ told (bytes "CCC") ∷ done ∷ [])
    × (following 4 plain (failed_at geometry 9 image) 1 output start ≡ told (bytes "AAAAAAAA") ∷ refused (refuse 20 1) ∷ [])
    × (kind_offset geometry 9 < length image)
    × (1 < block_count geometry image (label_at geometry image 1))
    × (sector_of geometry (records_of geometry image (label_at geometry image 1) 1) 9 ≡ true)
    × (gone geometry (among (9 ∷ [])) image (label_at geometry image 1) 0 ≡ false)
    × (gone geometry (among (9 ∷ [])) image (label_at geometry image 1) 1 ≡ true)
    -- Of the second: WHAT DEMAND 3 DOES NOT PROMISE. Where the sector of the defective record fails, it counts as good ("check-failed ones included"), the
    -- blocks move by one record, and salvage gives B, C. (docs/DECISIONS.md, 7.12)
    × (following 3 plain with_defect 1 (replicate 256 255) start ≡ told (of128 65 ++ of128 66) ∷ told (of128 67 ++ of128 68) ∷ done ∷ [])
    × (following 3 salvage (failed_at defect_volume 8 with_defect) 1 (replicate 256 255) start ≡ gap_at 0 ∷ told (of128 66 ++ of128 67) ∷ done ∷ [])
unfolding with_defect image one_of same every a_set is_digit digit_value number_from spaces_or_number is_hex hex_value hex_from given_when in_order or_else lowest_fault ordinal_at sector_count k_at body_size kind_offset body_offset image_length kind_at body_at first_byte valid_mark incorrect_mark check_failed index_kind index_body slot_count slot_ordinal label_offset label_at vol1_rules ermap_rules ermap_rule7 ermap_rule11 rule41 rule42 rule43 rule45 rule64 rule73 skip_one physical five_digits address_in five_read legal rank before stepped past_last is_address is_data_end ordinal known_level another_level format_of record_length unused_count rule44 rule6 rule29 rule35 rule40 rule23 rule63 rule46 spaces_or_date rule48 rule67 rule54 rule58 rule75 hdr1_rules label_fault is_label is_deleted is_unreadable slot_refusal slots_from has_label numbers_in legal_kind kinds_from clashes_below clashes_from overlap shares same_name namesake volume_refusal judged addresses_from extent_size extent is_defective good_among good_records records_to_block good_before data_end_at_start data_end_in_extent blocks_held block_count is_wrong wrong_among splits_block count_refusal counted open_refusal any_failed bytes_of block_of blocks_from file_in file_at first_met step in_file read_on enough read_all join listed number4 role_of look_f look_v look_s look walk pieces in_block in_blocks ahead reply_in reply laid_over following failed_at sector_of records_of any_hit gone among
computed = (refl, refl, refl, refl, omega arith, omega arith, refl, refl, refl, refl, refl)

-- THE PROMISE OF SALVAGE HOLDS OF SOMETHING: its premises are met by this image and this failure
reads_whole : ReadsWhole image 1 bodies
reads_whole = record { readings = 4; out = output; hears = computed.1 }

pub fails_9 : Failed geometry (among (9 ∷ [])) image (failed_in geometry (9 ∷ []) image)
fails_9 = some_fail geometry (9 ∷ []) image (computed.4, tt)

only_9 : (n : ℕ) → among (9 ∷ []) n ≡ true → 9 ≡ n
unfolding among
only_9 n h = eqb-true 9 n h

pub of_blocks : OfBlocks geometry (among (9 ∷ [])) image (label_at geometry image 1)
unfolding OfBlocks
of_blocks n h =
    (1, computed.5, subst (λ (x : ℕ). sector_of geometry (records_of geometry image (label_at geometry image 1) 1) x ≡ true) (only_9 n h) computed.6)

pub salvaged_instance : (rs : List FileRecord) × (map body_of rs ≡ bodies) × Salvaged geometry (among (9 ∷ [])) image (failed_in geometry (9 ∷ []) image) 1 rs
unfolding SalvagePromise
salvaged_instance = salvage_promise image (failed_in geometry (9 ∷ []) image) geometry 1 bodies (among (9 ∷ [])) computed.0 reads_whole fails_9 of_blocks

-- and so is that of plain reading: block 1 is the first that is gone
first_gone : FirstGone (gone geometry (among (9 ∷ [])) image (label_at geometry image 1)) (block_count geometry image (label_at geometry image 1)) 1
first_gone =
    record {
      inside = computed.5;
      taken = computed.8;
      kept = λ a l. let e : a ≡ 0 = omega arith in ap (gone geometry (among (9 ∷ [])) image (label_at geometry image 1)) e ∙ computed.7;
    }

pub plain_instance : ReadUpTo geometry (failed_in geometry (9 ∷ []) image) 1 1 salvaged_instance.0
plain_instance =
    plain_up_to image (failed_in geometry (9 ∷ []) image) geometry 1 (among (9 ∷ [])) salvaged_instance.0 salvaged_instance.2 1 first_gone

-- THE THIRD: L = 1, I = 8, D = 1, P = 128, S = 1 (1,548 bytes), with one label: V blocked, B = 128, R = 100, in one record
abbrev pub demo : List ℕ
demo =
    blank_sectors 4
    ++ sector (bytes "ERMAP")
    ++ sector []
    ++ sector (bytes "VOL1DEMO01                                                             A       3010801  1")
    ++ sector (bytes "HDR1 LOG              00128 01001 01001V   2         0100     B           01001")
    ++ blank_sectors 4

abbrev pub demo_volume : Geometry
demo_volume = record { L = 1; I = 8; D = 1; k = 0; P = 128; S = 1; d1 = 0; d2 = 0 }

abbrev pub demo_bodies : List ℕ
demo_bodies = bytes "PARTSLOG"

abbrev pub demo_lengths : List ℕ
demo_lengths = 5 ∷ 3 ∷ []

pub demo_accepted : (length demo ≡ 1548) × (judged demo ≡ Ok demo_volume) × (write_refusal demo_volume demo 1 demo_bodies demo_lengths ≡ Ok tt)
    × (written demo 1 demo_bodies demo_lengths ≡ Ok 1)
unfolding one_of same every a_set is_digit digit_value number_from spaces_or_number is_hex hex_value hex_from padded shown_by given_when in_order or_else lowest_fault ordinal_at sector_count k_at body_size kind_offset body_offset image_length kind_at body_at first_byte valid_mark incorrect_mark check_failed index_kind index_body slot_count slot_ordinal label_offset label_at vol1_rules ermap_rules ermap_rule7 ermap_rule11 rule41 rule42 rule43 rule45 rule64 rule73 skip_one physical five_digits address_in five_read legal rank before stepped past_last is_address is_data_end ordinal known_level another_level format_of record_length unused_count rule44 rule6 rule29 rule35 rule40 rule23 rule63 rule46 spaces_or_date rule48 rule67 rule54 rule58 rule75 hdr1_rules label_fault is_label is_deleted is_unreadable slot_refusal slots_from has_label numbers_in legal_kind kinds_from clashes_below clashes_from overlap shares same_name namesake volume_refusal judged addresses_from extent_size extent is_defective good_among good_records records_to_block good_before data_end_at_start data_end_in_extent blocks_held block_count is_wrong wrong_among splits_block count_refusal counted open_refusal any_failed bytes_of block_of blocks_from file_in file_at flatten unused_in lay_f record_v lay_one lay_v segment spread lay_s pack file_of total parted wrong_length lengths_from packing write_refusal splice filled_to store_record store_block store_blocks next_data_end data_end_after set_label image_with outcome
demo_accepted = (refl, refl, refl, refl)

-- THE PROMISES OF WRITING SAY SOMETHING: the two records are read back
pub demo_read : Reads (read_all plain (file_at (image_after demo 1 demo_bodies demo_lengths) 1)) (bytes "PARTS" ∷ bytes "LOG" ∷ [])
unfolding parted
demo_read = reads demo demo_volume 1 demo_bodies demo_lengths demo_accepted.1 demo_accepted.2

-- and heard again, in an output of 5 bytes
pub demo_heard : following 3 plain (image_after demo 1 demo_bodies demo_lengths) 1 (replicate 5 255) start ≡ told (bytes "PARTS") ∷ told (bytes "LOG") ∷ done ∷ []
unfolding parted
demo_heard =
    written_heard demo demo_volume 1 demo_bodies demo_lengths demo_accepted.1 demo_accepted.2 plain 3 (replicate 5 255) (omega arith, (omega arith, tt))

-- THE PROMISES OF REQUEST 2026-02 SAY SOMETHING: the third image as the printed table has it, `3` at 79 and a space at 80, is refused; with `3` at both it is accepted
abbrev pub demo_old : List ℕ
demo_old = splice (6 * 129 + 79) (bytes "3 ") demo

pub demo_version : (judged demo_old ≡ Err (refuse 3 80)) × (judged (splice (6 * 129 + 79) (bytes "33") demo) ≡ Ok demo_volume)
unfolding one_of same every a_set is_digit digit_value number_from spaces_or_number is_hex hex_value hex_from padded given_when in_order or_else lowest_fault sector_count k_at body_size kind_offset body_offset image_length kind_at body_at first_byte valid_mark incorrect_mark check_failed index_kind index_body slot_count slot_ordinal label_offset label_at vol1_rules ermap_rules ermap_rule7 ermap_rule11 rule41 rule42 rule43 rule45 rule64 rule73 five_digits address_in address_of legal rank before past_last is_address is_data_end known_level another_level format_of record_length unused_count rule44 rule6 rule29 rule35 rule40 rule23 rule63 rule46 spaces_or_date rule48 rule67 rule54 rule58 rule75 hdr1_rules label_fault is_label is_deleted is_unreadable slot_refusal slots_from has_label numbers_in legal_kind kinds_from clashes_below clashes_from overlap shares same_name namesake volume_refusal judged splice
demo_version = (refl, refl)

-- THE PROMISES OF REQUEST 2026-01 SAY SOMETHING: on the third image the file is deleted and made again, of one record; of two there is no room, and before the
-- delete no slot
abbrev pub demo_fields : List ℕ
demo_fields = bytes "LOG              00128V20100B"

abbrev pub demo_other : List ℕ
demo_other = bytes "PARTS            00128V20100B"

pub demo_made : (created demo demo_fields 1 ≡ Err (refuse 12 1))
    × (created demo demo_other 1 ≡ Err (refuse 28 0))
    × (deleted demo 2 ≡ Err (refuse 13 0))
    × (deleted demo 1 ≡ Ok 1)
    × (judged (image_after_delete demo 1) ≡ Ok demo_volume)
    × (created (image_after_delete demo 1) demo_fields 2 ≡ Err (refuse 29 0))
    × (created (image_after_delete demo 1) demo_fields 1 ≡ file_made 1 (address_in (bytes "01001")))
    × (image_after_create (image_after_delete demo 1) demo_fields 1 ≡ demo)
unfolding one_of same every a_set is_digit digit_value number_from spaces_or_number is_hex hex_value hex_from padded given_when in_order or_else lowest_fault sector_count k_at body_size kind_offset body_offset image_length kind_at body_at first_byte valid_mark incorrect_mark check_failed index_kind index_body slot_count slot_ordinal label_offset label_at vol1_rules ermap_rules ermap_rule7 ermap_rule11 rule41 rule42 rule43 rule45 rule64 rule73 five_digits address_in address_of legal rank before past_last is_address is_data_end known_level another_level format_of record_length unused_count rule44 rule6 rule29 rule35 rule40 rule23 rule63 rule46 spaces_or_date rule48 rule67 rule54 rule58 rule75 hdr1_rules label_fault is_label is_deleted is_unreadable slot_refusal slots_from has_label numbers_in legal_kind kinds_from clashes_below clashes_from overlap shares same_name namesake volume_refusal judged extent_size is_named found_from in_extent taken splice proposed proposed_rules proposal_fault deleted_from lowest_deleted free_run run_from lowest_run create_refusal store_slot image_created creation delete_refusal deletion
demo_made = (refl, refl, refl, refl, refl, refl, refl, refl)

-- THE FOURTH, of request 2026-03: L = 2 with d1 = 1 and d2 = 2, and a file of F, B = R = 2, over both data cylinders, which stand on 3 and 4. Every cylinder has one
-- sector, which begins with its number.
abbrev pub skipping : List ℕ
skipping =
    blank_sectors 4
    ++ sector (bytes "ERMAP 010 020")
    ++ sector []
    ++ sector (bytes "VOL1DEMO01                                                             A       3020801  1")
    ++ sector (bytes "HDR1 CYLINDERS        00002 01001 02001F   2         0002                 03001")
    ++ sector (bytes "01")
    ++ sector (bytes "02")
    ++ sector (bytes "03")
    ++ sector (bytes "04")
    ++ sector (bytes "05")

abbrev pub skipping_volume : Geometry
skipping_volume = record { L = 2; I = 8; D = 1; k = 0; P = 128; S = 1; d1 = 1; d2 = 2 }

-- it is accepted, and its records are those of cylinders 3 and 4
pub skipping_heard : (judged skipping ≡ Ok skipping_volume)
    × (following 3 plain skipping 1 (replicate 2 255) start ≡ told (bytes "03") ∷ told (bytes "04") ∷ done ∷ [])
    × (following 3 salvage skipping 1 (replicate 2 255) start ≡ told (bytes "03") ∷ told (bytes "04") ∷ done ∷ [])
unfolding one_of same every a_set is_digit digit_value number_from spaces_or_number is_hex hex_value hex_from given_when in_order or_else lowest_fault ordinal_at sector_count k_at body_size kind_offset body_offset image_length kind_at body_at first_byte valid_mark incorrect_mark check_failed index_kind index_body slot_count slot_ordinal label_offset label_at vol1_rules ermap_rules ermap_rule7 ermap_rule11 rule41 rule42 rule43 rule45 rule64 rule73 skip_one physical five_digits address_in five_read legal rank before stepped past_last is_address is_data_end ordinal known_level another_level format_of record_length unused_count rule44 rule6 rule29 rule35 rule40 rule23 rule63 rule46 spaces_or_date rule48 rule67 rule54 rule58 rule75 hdr1_rules label_fault is_label is_deleted is_unreadable slot_refusal slots_from has_label numbers_in legal_kind kinds_from clashes_below clashes_from overlap shares same_name namesake volume_refusal judged addresses_from extent_size extent is_defective good_among good_records records_to_block good_before data_end_at_start data_end_in_extent blocks_held block_count is_wrong wrong_among splits_block count_refusal counted open_refusal any_failed bytes_of block_of blocks_from file_in file_at first_met step in_file read_on enough read_all join listed number4 role_of look_f look_v look_s look walk pieces in_block in_blocks ahead reply_in reply laid_over following
skipping_heard = (refl, refl, refl)

-- THE BLOCKS NEEDED, counted from the lengths alone: those of examples 8, 9 and 12
pub needed_examples : (needed_from variable true 30 0 0 (10 ∷ 10 ∷ 10 ∷ []) ≡ 2)
    × (needed_from spanned true 20 0 0 (8 ∷ 12 ∷ 3 ∷ []) ≡ 3)
    × (needed_from spanned true 20 0 0 (20 ∷ 20 ∷ []) ≡ 3)
unfolding needed_from spread_to
needed_examples = (refl, refl, refl)
