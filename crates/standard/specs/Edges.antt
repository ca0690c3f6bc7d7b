-- The edges of the rules, each computed: what a sentence of document 01 decides where two readings of it would differ.
-- Assumes nothing.
use Rattle.std.specs.Prelude.{ℕ, ◌-◌, ◌^◌, ◌≡◌, refl, Bool, true, false, length, take, replicate, Some, None}
use Prim.Native.String.{String}
use mathlib.Core.List.{List, [], ◌∷◌, ◌++◌, map, flatten}
use Rattle.standard.specs.Characters.{bytes, byte, one_of, same, every, a_set, is_digit, digit_value, number_from, spaces_or_number, is_hex, hex_value, hex_from, padded, shown_by, shown}
use Rattle.standard.specs.Addresses.{address_of, first_address, five_digits, address_in, legal, rank, before, past_last, is_address, is_data_end, five_bytes}
use Rattle.standard.specs.Labels.{known_level, another_level, record_length, unused_count, rule44, rule6, rule29, rule35, rule40, rule23, rule63, rule41, rule42, rule43, rule45, rule46, spaces_or_date, rule48, rule67, rule54, rule58, rule64, rule73, rule75, hdr1_rules, label_fault, fixed, variable, spanned}
use Rattle.standard.specs.Layout.{k_at, kind_offset, body_offset, kind_at, first_byte, valid_mark, incorrect_mark, slot_count, slot_ordinal, label_offset, label_at}
use Rattle.standard.specs.Slots.{is_label, is_deleted}
use Rattle.standard.specs.Free.{in_extent, taken}
use Rattle.standard.specs.Creating.{proposed, proposed_rules, proposal_fault, deleted_from, lowest_deleted, free_run, run_from, lowest_run, store_slot, image_created, image_without}
use Rattle.standard.specs.Judgement.{overlap}
use Rattle.standard.specs.Pieces.{Block, lost_block, held, number4, role_of, look_f, look_v, look_s, look, walk, pieces, in_block, in_blocks, ahead}
use Rattle.standard.specs.Records.{plain, salvage, File, FileRecord, took, ended, refused, gapped, first_met, step}
use Rattle.standard.specs.Places.{next_block, after_gap}
use Rattle.standard.specs.Listed.{rec, gap, end, no, enough, read_on, read_all}
use Rattle.standard.specs.Packing.{Packing, unused_in, lay_f, record_v, lay_one, lay_v, segment, spread, lay_s, pack}
use Rattle.standard.specs.Writing.{splice, unused_field}
use Rattle.standard.specs.Rules.{lowest_fault}
use Rattle.standard.specs.Volume.{vol1_rules}
use Rattle.standard.specs.Defects.{ermap_rule7, ermap_rule11, ermap_rules, skip_one, physical}
use Rattle.standard.specs.Skips.{good_cylinder, good_up_to, walk_on, walked}
use Rattle.standard.specs.declared.Geometry.{Geometry}
use Rattle.standard.specs.declared.Place.{Place}
use Rattle.standard.specs.declared.Refusal.{Refusal}

-- files of V with R = 8, of S with some R, of F with some R; a block of a text and so many bytes of fill behind it
abbrev of_v : Bool → List Block → File
of_v blocked blocks = record { params = record { format = variable; R = 8; blocked = blocked }; blocks = blocks }

abbrev of_s : ℕ → List Block → File
of_s R blocks = record { params = record { format = spanned; R = R; blocked = true }; blocks = blocks }

abbrev of_f : ℕ → List Block → File
of_f R blocks = record { params = record { format = fixed; R = R; blocked = true }; blocks = blocks }

abbrev text : String → ℕ → Block
text s fill = held (bytes s ++ replicate fill 0)

abbrev place : ℕ → ℕ → Bool → Place
place b o mark = record { block = b; offset = o; mark = mark }

abbrev body : String → ℕ → ℕ → FileRecord
body s from to = record { body = bytes s; first_block = from; last_block = to }

-- a refusal by its number and places, as the paper's table has them
abbrev numbered : ℕ → ℕ → ℕ → Refusal
numbered number first second = record { number = number; first = first; second = second; third = 0 }

-- V, two records to a block
abbrev two_v : Block
two_v = text "0006AB0005C" 0

pub edges_v :
    -- "Reading a place gives the record and the place right behind it."
    (step plain (of_v true (two_v ∷ [])) (place 0 6 false) ≡ took (body "C" 0 0) (place 0 11 false))
    -- "A place at the end of a block's content goes on in the next block"
    × (step plain (of_v true (two_v ∷ text "0006AB" 0 ∷ [])) (place 0 11 false) ≡ took (body "AB" 1 1) (place 1 6 false))
    -- "but any place of a lost block, its end included, meets that block."
    × (step plain (of_v true (lost_block 11 ∷ text "0006AB" 0 ∷ [])) (place 0 11 false) ≡ refused (numbered 20 0 0))
    -- "if unblocked, at offsets above 0 only fill"
    × (step plain (of_v false (two_v ∷ [])) (place 0 6 false) ≡ refused (numbered 21 0 6))
    -- "four digits, from 4 to R"; "inside the content"
    × (step plain (of_v true (text "0009ABCDE" 0 ∷ [])) (place 0 0 false) ≡ refused (numbered 21 0 0))
    × (step plain (of_v true (text "0008ABC" 0 ∷ [])) (place 0 0 false) ≡ refused (numbered 21 0 0))
    -- "with fewer than 4 bytes left [..] the rest must be fill"
    × (step plain (of_v true (text "0006AB0" 0 ∷ [])) (place 0 6 false) ≡ refused (numbered 21 0 6))
    × (step plain (of_v true (text "0006AB" 3 ∷ [])) (place 0 6 false) ≡ ended)
    -- "or at a byte 00"
    × (step plain (of_v true (held (bytes "0006AB" ++ 0 ∷ bytes "0005C") ∷ [])) (place 0 6 false) ≡ refused (numbered 21 0 6))
    × (step plain (of_v true (text "0006AB" 9 ∷ [])) (place 0 6 false) ≡ ended)
    -- "block = count only with offset 0, and answers End"
    × (step plain (of_v true (two_v ∷ [])) (place 1 0 false) ≡ ended)
unfolding is_digit digit_value number4 look_v look walk pieces in_block in_blocks ahead first_met step
edges_v = (refl, refl, refl, refl, refl, refl, refl, refl, refl, refl, refl)

-- S, a record over blocks 0 to 3, one of them fill alone
abbrev long_s : List Block
long_s = text "10007AB" 3 ∷ text "" 10 ∷ text "20007CD" 0 ∷ text "30007EF00005" 0 ∷ []

pub edges_s :
    -- "A block of fill alone holds nothing."
    (read_all plain (of_s 0 long_s) ≡ rec (body "ABCDEF" 0 3) ∷ rec (body "" 3 3) ∷ end ∷ [])
    -- "A body over R (unless 0000) breaks the rule at the segment where it first exceeds."
    × (read_all plain (of_s 3 long_s) ≡ no (numbered 21 2 0) ∷ [])
    -- "After 1 or 2 the rest of the block is fill": 21 names the rest; a body over R is named first, at its segment
    × (read_all plain (of_s 0 (text "10007AB00005" 0 ∷ [])) ≡ no (numbered 21 0 7) ∷ [])
    × (read_all plain (of_s 1 (text "10007AB00005" 0 ∷ [])) ≡ no (numbered 21 0 0) ∷ [])
    -- "the next segment must be 2 or 3; otherwise it must be 0 or 1"
    × (read_all plain (of_s 0 (text "10007AB" 0 ∷ text "10007CD" 0 ∷ [])) ≡ no (numbered 21 1 0) ∷ [])
    × (read_all plain (of_s 0 (text "30007AB" 0 ∷ [])) ≡ no (numbered 21 0 0) ∷ [])
    -- "`0`-`3`, four digits from 5, inside the content"
    × (read_all plain (of_s 0 (text "40007AB" 0 ∷ [])) ≡ no (numbered 21 0 0) ∷ [])
    × (read_all plain (of_s 0 (text "00004" 2 ∷ [])) ≡ no (numbered 21 0 0) ∷ [])
    × (read_all plain (of_s 0 (text "00008AB" 0 ∷ [])) ≡ no (numbered 21 0 0) ∷ [])
    -- 22 "file ends after a 1 or 2 not dropped", in salvage too
    × (read_all plain (of_s 0 (text "10007AB" 0 ∷ [])) ≡ no (numbered 22 0 0) ∷ [])
    × (read_all salvage (of_s 0 (text "10007AB" 0 ∷ [])) ≡ no (numbered 22 0 0) ∷ [])
unfolding is_digit digit_value number4 role_of look_s look walk pieces in_block in_blocks ahead first_met step enough read_on read_all
edges_s = (refl, refl, refl, refl, refl, refl, refl, refl, refl, refl, refl)

pub edges_gap :
    -- "a 2 is dropped, unmeasured by R, and the mark stays; a 3 is dropped likewise and reading goes on without it. A block of fill keeps it."
    (read_all salvage (of_s 1 (lost_block 11 ∷ text "" 10 ∷ text "20007AB" 0 ∷ text "30007CD00006E" 0 ∷ []))
    ≡ gap 0 ∷ rec (body "E" 3 3) ∷ end ∷ [])
    -- "a 3 is dropped [..] and reading goes on without [the mark]": a second 3 breaks the rule
    × (read_all salvage (of_s 0 (lost_block 11 ∷ text "30007AB30007CD" 0 ∷ [])) ≡ gap 0 ∷ no (numbered 21 1 7) ∷ [])
    -- a dropped 2 still has fill behind it; after it "0 to 3 may come first" again, and the file may end
    × (read_all salvage (of_s 0 (lost_block 11 ∷ text "20007AB0" 0 ∷ [])) ≡ gap 0 ∷ no (numbered 21 1 7) ∷ [])
    × (read_all salvage (of_s 0 (lost_block 11 ∷ text "20007AB" 0 ∷ text "00006C" 0 ∷ [])) ≡ gap 0 ∷ rec (body "C" 2 2) ∷ end ∷ [])
    × (read_all salvage (of_s 0 (lost_block 11 ∷ lost_block 11 ∷ text "20007AB" 0 ∷ [])) ≡ gap 0 ∷ gap 1 ∷ end ∷ [])
    -- "Meeting it, also midway in a spanned record, gives one gap"
    × (read_all salvage (of_s 0 (text "10007AB" 0 ∷ lost_block 7 ∷ text "30007CD" 0 ∷ [])) ≡ gap 1 ∷ end ∷ [])
    -- "In plain reading, at offsets above 0, and in F and V, the mark counts as absent."
    × (step salvage (of_s 0 (lost_block 11 ∷ text "30007AB00005" 0 ∷ [])) (place 1 0 true) ≡ took (body "" 1 1) (place 1 12 false))
    × (step salvage (of_s 0 (lost_block 11 ∷ text "30007AB00005" 0 ∷ [])) (place 1 0 false) ≡ refused (numbered 21 1 0))
    × (step plain (of_s 0 (lost_block 11 ∷ text "30007AB00005" 0 ∷ [])) (place 1 0 true) ≡ refused (numbered 21 1 0))
unfolding is_digit digit_value number4 role_of look_s look walk pieces in_block in_blocks ahead first_met step enough read_on read_all
edges_gap = (refl, refl, refl, refl, refl, refl, refl, refl, refl)

-- the moves of a place: "goes on in the next block"; "at offsets above 0 .. the mark counts as absent"; "A block of fill keeps it"; behind the last block the
-- number stays. What is read at a place that goes on is what is read where it goes
abbrev ended6 : File
ended6 = of_s 0 (text "00006A" 0 ∷ text "30007AB" 0 ∷ [])

pub edges_moves :
    (next_block 2 (place 0 6 false) ≡ place 1 0 false)
    × (next_block 2 (place 0 6 true) ≡ place 1 0 false)
    × (next_block 2 (place 0 0 true) ≡ place 1 0 true)
    × (next_block 2 (place 2 0 true) ≡ place 2 0 true)
    × (step salvage ended6 (place 0 6 true) ≡ refused (numbered 21 1 0))
    × (step salvage ended6 (next_block 2 (place 0 6 true)) ≡ refused (numbered 21 1 0))
    × (step salvage ended6 (after_gap (place 1 0 false)) ≡ ended)
    × (step salvage (of_s 0 (lost_block 6 ∷ [])) (place 0 6 true) ≡ gapped 0 (place 1 0 true))
unfolding is_digit digit_value number4 role_of look_s look walk pieces in_block in_blocks ahead next_block first_met step
edges_moves = (refl, refl, refl, refl, refl, refl, refl, refl)

pub edges_f :
    -- F has no fill: a block of 00 holds records of 00
    (read_all plain (of_f 2 (text "AB" 2 ∷ text "CD" 0 ∷ []))
    ≡ rec (body "AB" 0 0) ∷ rec (record { body = 0 ∷ 0 ∷ []; first_block = 0; last_block = 0 }) ∷ rec (body "CD" 1 1) ∷ end ∷ [])
    × (read_all salvage (of_f 2 (text "AB" 0 ∷ lost_block 2 ∷ text "CD" 0 ∷ [])) ≡ rec (body "AB" 0 0) ∷ gap 1 ∷ rec (body "CD" 2 2) ∷ end ∷ [])
unfolding look_f look walk pieces in_block in_blocks ahead first_met step enough read_on read_all
edges_f = (refl, refl)

-- "F: B/R to a block", the last with what is left; B = 6, R = 2
abbrev pack_f : List (List ℕ) → Packing
pack_f = pack (record { format = fixed; R = 2; blocked = true }) 6

pub edges_pack_f :
    (pack_f (bytes "AA" ∷ bytes "BB" ∷ bytes "CC" ∷ bytes "DD" ∷ []) ≡ record { contents = bytes "AABBCC" ∷ bytes "DD" ∷ []; U = 4 })
    × (pack_f (bytes "AA" ∷ bytes "BB" ∷ bytes "CC" ∷ []) ≡ record { contents = bytes "AABBCC" ∷ []; U = 0 })
    × (pack_f [] ≡ record { contents = []; U = 0 })
unfolding flatten unused_in lay_f pack
edges_pack_f = (refl, refl, refl)

-- "V unblocked: one to a block; blocked: into the current block if it fits, else the next"; "Unblocked files get U = 0"; B = 12
abbrev pack_v : Bool → List (List ℕ) → Packing
pack_v blocked = pack (record { format = variable; R = 12; blocked = blocked }) 12

pub edges_pack_v :
    (pack_v true (bytes "AA" ∷ bytes "BB" ∷ []) ≡ record { contents = bytes "0006AA0006BB" ∷ []; U = 0 })
    × (pack_v true (bytes "AA" ∷ bytes "BBB" ∷ []) ≡ record { contents = (bytes "0006AA" ++ replicate 6 0) ∷ bytes "0007BBB" ∷ []; U = 5 })
    × (pack_v false (bytes "AA" ∷ bytes "BB" ∷ []) ≡ record { contents = (bytes "0006AA" ++ replicate 6 0) ∷ (bytes "0006BB" ++ replicate 6 0) ∷ []; U = 0 })
    × (pack_v true [] ≡ record { contents = []; U = 0 })
unfolding padded record_v unused_in lay_one lay_v pack
edges_pack_v = (refl, refl, refl, refl)

-- S, B = 10, R = 0000: "a segment starts where 6 bytes are left (5 for an empty record)"
abbrev pack_s : List (List ℕ) → Packing
pack_s = pack (record { format = spanned; R = 0; blocked = true }) 10

pub edges_pack :
    (pack_s (bytes "" ∷ bytes "A" ∷ []) ≡ record { contents = (bytes "00005" ++ replicate 5 0) ∷ bytes "00006A" ∷ []; U = 4 })
    × (pack_s (bytes "" ∷ bytes "" ∷ []) ≡ record { contents = bytes "0000500005" ∷ []; U = 0 })
    × (pack_s (bytes "ABCDEFGHIJKL" ∷ []) ≡ record { contents = bytes "10010ABCDE" ∷ bytes "20010FGHIJ" ∷ bytes "30007KL" ∷ []; U = 3 })
    -- no records, no blocks
    × (pack_s [] ≡ record { contents = []; U = 0 })
unfolding padded segment spread lay_s pack
edges_pack = (refl, refl, refl, refl)

-- 11 "extent shares a record with a lower slot's": labels of which only start (29-33) and end (35-39) are read, against one of 02001 to 02004
abbrev extent_of : String → String → List ℕ
extent_of from to = replicate 28 (byte " ") ++ (bytes from ++ bytes " " ++ bytes to)

abbrev volume : Geometry
volume = record { L = 5; I = 8; D = 8; k = 0; P = 128; S = 2; d1 = 0; d2 = 0 }

abbrev shared : String → String → Bool
shared from to = overlap volume (extent_of from to) (extent_of "02001" "02004")

pub edges_overlap :
    (shared "02004" "02008" ≡ true)
    × (shared "02005" "02008" ≡ false)
    × (shared "01108" "02001" ≡ true)
    × (shared "01101" "01108" ≡ false)
    × (shared "01001" "05108" ≡ true)
    × (shared "02002" "02003" ≡ true)
unfolding digit_value address_in rank overlap
edges_overlap = (refl, refl, refl, refl, refl, refl)

-- VOL1 of its fields: 5-10 and 11, 38-51, 72, 76, 77-78, then 79-80 as bytes, then 81-89; what is reserved has spaces. And the position at fault, 0 for none
abbrev vol1 : String → String → String → String → String → List ℕ → String → List ℕ
vol1 name owner type size order version numbers =
    bytes "VOL1" ++ (bytes name ++ (replicate 26 (byte " ") ++ (bytes owner ++ (replicate 20 (byte " ") ++ (bytes type ++ (replicate 3 (byte " ")
    ++ (bytes size ++ (bytes order ++ (version ++ (bytes numbers ++ replicate 39 (byte " ")))))))))))

-- of 77 to 89; of 79-80 alone; of 76 to 89
abbrev besides : String → List ℕ → String → ℕ
besides order f numbers = lowest_fault (vol1_rules (vol1 "DEMO01 " "              " "A" " " order f numbers))

abbrev version : List ℕ → ℕ
version f = besides "  " f "050A08  1"

abbrev numbers : String → String → String → ℕ
numbers size order f = lowest_fault (vol1_rules (vol1 "DEMO01 " "              " "A" size order (bytes " 3") f))

-- of 5-11, 38-51 and 72
abbrev names : String → String → String → ℕ
names name owner type = lowest_fault (vol1_rules (vol1 name owner type " " "  " (bytes " 3") "050A08  1"))

pub edges_vol1 :
    -- 2026-02: "Position 80 must be `3`": it alone, a space is none, and there is no "either place"
    (version (bytes " 3") ≡ 0)
    × (version (bytes "3 ") ≡ 80)
    × (version (bytes "  ") ≡ 80)
    × (version (bytes " 2") ≡ 80)
    × (version (32 ∷ 3 ∷ []) ≡ 80)
    -- "79 becomes reserved and is not judged"
    × (version (bytes "33") ≡ 0)
    × (version (bytes "X3") ≡ 0)
    × (version (0 ∷ bytes "3") ≡ 0)
    × (version (255 ∷ bytes "3") ≡ 0)
    -- "the lowest first"
    × (besides "14" (bytes "3 ") "050A08  1" ≡ 77)
    × (besides "13" (bytes "3 ") "000A08  1" ≡ 80)
    × (besides "13" (bytes " 3") "000008  0" ≡ 81)
    -- "5-10, 11, 38-51 in the a-set; 72 `A`": 11 may be any such character here, and 4 asks for a space
    × (names "DEMO01X" "OWNER         " "A" ≡ 0)
    × (names "demo01 " "              " "A" ≡ 5)
    × (names "DEMO01a" "              " "B" ≡ 11)
    × (names "DEMO01 " "             #" " " ≡ 38)
    × (names "DEMO01 " "              " "1" ≡ 72)
    -- "76 space, 1, 2, 3"; "77-78 spaces or 01-13"
    × (numbers "3" "13" "050A08  1" ≡ 0)
    × (numbers "0" "00" "050A08  1" ≡ 76)
    × (numbers "4" "13" "050A08  1" ≡ 76)
    × (numbers " " "00" "050A08  1" ≡ 77)
    × (numbers " " " 1" "050A08  1" ≡ 77)
    -- "81-82 hex L, 1-96; 83-84 hex I, 8-26; 85-86 hex D, 1-26; 89 hex S, 1-2", at their bounds and one beyond; "Hex digits are 0-9, A-F"
    × (numbers " " "  " "010801  1" ≡ 0)
    × (numbers " " "  " "601A1A  2" ≡ 0)
    × (numbers " " "  " "000801  1" ≡ 81)
    × (numbers " " "  " "611A1A  2" ≡ 81)
    × (numbers " " "  " "0a1A1A  2" ≡ 81)
    × (numbers " " "  " "600700  0" ≡ 83)
    × (numbers " " "  " "601B1B  3" ≡ 83)
    × (numbers " " "  " "600800  0" ≡ 85)
    × (numbers " " "  " "601A1B  3" ≡ 85)
    × (numbers " " "  " "601A1A  0" ≡ 89)
    × (numbers " " "  " "601A1A  3" ≡ 89)
    -- "87-88 cannot hold 256, so 76 decides; they [..] are not judged"
    × (numbers "1" "  " "601A1A##2" ≡ 0)
unfolding one_of same every a_set is_digit digit_value number_from spaces_or_number is_hex hex_value hex_from lowest_fault vol1_rules
edges_vol1 =
    (refl, refl, refl, refl, refl, refl, refl, refl, refl, refl, refl, refl, refl, refl, refl, refl, refl, refl, refl, refl, refl, refl, refl, refl, refl, refl, refl, refl, refl, refl, refl, refl, refl, refl)

-- ERMAP of a volume with so many data cylinders, positions 7-9 and 11-13 as given: the position at fault
abbrev ermap : ℕ → String → String → ℕ
ermap L first second = lowest_fault (ermap_rules L (bytes "ERMAP " ++ (bytes first ++ (bytes " " ++ bytes second))))

pub edges_ermap :
    -- "7-9 spaces, or a cylinder d1 in 01..L and `0`"
    (ermap 73 "   " "   " ≡ 0)
    × (ermap 73 "010" "   " ≡ 0)
    × (ermap 73 "730" "   " ≡ 0)
    × (ermap 73 "740" "   " ≡ 7)
    × (ermap 73 "000" "   " ≡ 7)
    × (ermap 73 "051" "   " ≡ 7)
    × (ermap 73 "5 0" "   " ≡ 7)
    -- "11-13 spaces, or d2 and `0`, where d1 is present and d1 < d2 ≤ L+1"
    × (ermap 73 "010" "020" ≡ 0)
    × (ermap 73 "730" "740" ≡ 0)
    × (ermap 73 "730" "750" ≡ 11)
    × (ermap 73 "   " "050" ≡ 11)
    × (ermap 73 "050" "050" ≡ 11)
    × (ermap 73 "110" "100" ≡ 11)
    × (ermap 73 "050" "000" ≡ 11)
    -- "the lowest first"
    × (ermap 73 "000" "000" ≡ 7)
    × (ermap 1 "010" "020" ≡ 0)
unfolding one_of same every is_digit digit_value number_from lowest_fault ermap_rule7 ermap_rule11 ermap_rules
edges_ermap =
    (refl, refl, refl, refl, refl, refl, refl, refl, refl, refl, refl, refl, refl, refl, refl, refl)

-- Request 2026-03. A volume with these defective cylinders, 0 for none
abbrev defects : ℕ → ℕ → Geometry
defects d1 d2 = record { L = 73; I = 8; D = 8; k = 0; P = 128; S = 1; d1 = d1; d2 = d2 }

pub edges_walk :
    -- examples 4 and 5, by "the code walks cylinders counting good ones"
    (map (walked (defects 10 11)) (9 ∷ 10 ∷ []) ≡ 9 ∷ 12 ∷ [])
    × (map (walked (defects 73 74)) (72 ∷ 73 ∷ []) ≡ 72 ∷ 75 ∷ [])
    -- none; the first; the first two; one good one between them
    × (map (walked (defects 0 0)) (1 ∷ 2 ∷ 73 ∷ []) ≡ 1 ∷ 2 ∷ 73 ∷ [])
    × (map (walked (defects 1 0)) (1 ∷ 2 ∷ []) ≡ 2 ∷ 3 ∷ [])
    × (map (walked (defects 1 2)) (1 ∷ 2 ∷ []) ≡ 3 ∷ 4 ∷ [])
    × (map (walked (defects 10 12)) (9 ∷ 10 ∷ 11 ∷ []) ≡ 9 ∷ 11 ∷ 13 ∷ [])
    -- a defective one does not count
    × (map (good_up_to (defects 10 11)) (0 ∷ 1 ∷ 9 ∷ 10 ∷ 11 ∷ 12 ∷ []) ≡ 0 ∷ 1 ∷ 9 ∷ 9 ∷ 9 ∷ 10 ∷ [])
unfolding good_cylinder good_up_to walk_on walked
edges_walk = (refl, refl, refl, refl, refl, refl, refl)

pub edges_part :
    -- "d1 < d2": with one cylinder named twice, or the two exchanged, the walk and the two comparisons part. ERMAP lets neither pass (`edges_ermap`, 11).
    ((walked (defects 5 5) 5 ≡ 6) × (physical (defects 5 5) 5 ≡ 7))
    × ((walked (defects 11 10) 10 ≡ 12) × (physical (defects 11 10) 10 ≡ 11))
unfolding skip_one physical good_cylinder walk_on walked
edges_part = ((refl, refl), (refl, refl))

-- HDR1 of a file from 02001 to 03008 with the data end at its start: format, level, B, R, U and position 63 as given
abbrev label : String → String → String → String → String → String → List ℕ
label format level B R U blocked =
    bytes "HDR1 LOG              " ++ (bytes B ++ (bytes " 02001 03008" ++ (bytes format ++ (bytes "   " ++ (bytes level ++ (replicate 9 (byte " ")
    ++ (bytes R ++ (bytes U ++ (bytes blocked ++ (replicate 11 (byte " ") ++ bytes "02001"))))))))))

abbrev fault_of : String → String → String → String → String → String → ℕ
fault_of format level B R U blocked = label_fault volume (label format level B R U blocked)

abbrev large : Geometry
large = record { L = 5; I = 8; D = 26; k = 3; P = 1024; S = 2; d1 = 0; d2 = 0 }

pub edges_rules :
    (fault_of "V" "2" "00256" "0100" "     " "B" ≡ 0)
    -- "A part of a rule that reads another field is not applied while that field is itself at fault": 23 reads 40, which is at fault at level 1
    × (fault_of "V" "1" "00003" "    " "     " " " ≡ 40)
    × (fault_of "V" "2" "00003" "    " "     " " " ≡ 23)
    -- "at least 1, 4, 5 for F, V, S" is one part: without a format it says nothing
    × (fault_of "X" "2" "00000" "    " "     " " " ≡ 40)
    -- "equal to B if unblocked, else a divisor of B" is one part, and reads 63; "1 to B" does not
    × (fault_of "F" "2" "00030" "0007" "     " "X" ≡ 63)
    × (fault_of "F" "2" "00030" "0031" "     " "X" ≡ 54)
    -- "0 if unblocked" reads 63, which S needs to be B
    × (fault_of "S" "2" "00256" "0000" "00001" " " ≡ 63)
    -- level space: 63 is at fault, and "for F a multiple of R" still applies
    × (fault_of " " " " "00128" "    " "00001" "B" ≡ 58)
    -- "With 44 outside the a-set every field is judged, without the parts that name a level"
    × (fault_of "V" "#" "00256" "0100" "     " "B" ≡ 44)
    × (fault_of "X" "#" "00256" "0100" "     " "B" ≡ 40)
    -- "Another level has only 1-4, 29-33, 35-39 and 44 judged."
    × (fault_of "X" "3" "?????" "    " "     " "?" ≡ 0)
    -- "above P a multiple of P; level space at most P"; "level space R = B"
    × (fault_of "F" "2" "00257" "    " "     " " " ≡ 23)
    × (fault_of "F" "1" "00256" "    " "     " " " ≡ 0)
    × (fault_of " " " " "00256" "    " "     " " " ≡ 23)
    × (fault_of " " " " "00128" "0064" "     " " " ≡ 54)
    -- "at most D·P"; "V and S at most 9,999 (house)", with D = 26 and P = 1024
    × (fault_of "V" "2" "01024" "0100" "     " "B" ≡ 0)
    × (fault_of "V" "2" "01152" "0100" "     " "B" ≡ 23)
    × (label_fault large (label "V" "2" "09216" "0100" "     " "B") ≡ 0)
    × (label_fault large (label "V" "2" "10240" "0100" "     " "B") ≡ 23)
    × (label_fault large (label "F" "2" "10240" "    " "     " " ") ≡ 0)
unfolding one_of same every a_set is_digit digit_value number_from spaces_or_number lowest_fault five_digits address_in legal rank before past_last is_address is_data_end known_level another_level record_length unused_count rule44 rule6 rule29 rule35 rule40 rule23 rule63 rule41 rule42 rule43 rule45 rule46 spaces_or_date rule48 rule67 rule54 rule58 rule64 rule73 rule75 hdr1_rules label_fault
edges_rules = (refl, refl, refl, refl, refl, refl, refl, refl, refl, refl, refl, refl, refl, refl, refl, refl, refl, refl, refl, refl)

pub edges_fields :
    -- "Then U (spaces for 0)"
    (unused_field 0 ≡ bytes "     ")
    × (unused_field 56 ≡ bytes "00056")
    -- "Addresses have five digits, other numbers no leading zeros."
    × (five_bytes (address_in (bytes "01104")) ≡ bytes "01104")
    × (map shown (0 ∷ 10 ∷ 9546 ∷ []) ≡ bytes "0" ∷ bytes "10" ∷ bytes "9546" ∷ [])
unfolding digit_value padded shown_by address_in
edges_fields = (refl, refl, refl, refl)

-- Request 2026-01. The 29 bytes of label fields; the position at fault of the label to be made of them, with so many physical records
abbrev wanted : String → String → String → String → String → String → List ℕ
wanted name B format level R blocked = bytes name ++ (bytes B ++ (bytes format ++ (bytes level ++ (bytes R ++ bytes blocked))))

abbrev proposal : String → String → String → String → String → ℕ → ℕ
proposal B format level R blocked n = proposal_fault volume (wanted "TEST             " B format level R blocked) n

abbrev proposal# : String → String → ℕ → ℕ
proposal# B level n = proposal_fault volume (wanted "T#               " B "F" level "    " " ") n

-- the 29 bytes of the first example, and so many of them; one more
abbrev right : List ℕ
right = wanted "TEST             " "00128" " " " " "    " " "

pub edges_proposed :
    (proposal_fault volume right 8 ≡ 0)
    × (proposal "00256" "V" "2" "0100" "B" (2 ^ 64 - 1) ≡ 0)
    -- "other than 29 bytes at 6", n = 0 or not
    × (proposal_fault volume (take 28 right) 0 ≡ 6)
    × (proposal_fault volume [] 8 ≡ 6)
    × (proposal_fault volume (right ++ bytes " ") 8 ≡ 6)
    -- "n = 0 at 35", in its place among the positions
    × (proposal_fault volume right 0 ≡ 35)
    × (proposal# "00128" "2" 0 ≡ 6)
    × (proposal "00000" "F" "2" "    " " " 0 ≡ 23)
    × (proposal "00128" "X" "2" "    " " " 0 ≡ 35)
    × (proposal "00128" "X" "2" "    " " " 1 ≡ 40)
    × (proposal "00030" "F" "2" "0031" " " 0 ≡ 35)
    × (proposal "00030" "F" "2" "0031" " " 1 ≡ 54)
    -- a divisor is asked of 63; "level space needs space"
    × (proposal "00030" "F" "2" "0007" "X" 1 ≡ 63)
    × (proposal "00128" " " " " "    " "B" 1 ≡ 63)
    -- "a level other than space, 1, 2 counts at 44", and has only 29, 35 and 44 judged
    × (proposal# "?????" "3" 8 ≡ 44)
    × (proposal# "?????" "3" 0 ≡ 35)
    -- "With 44 outside the a-set every field is judged, without the parts that name a level"
    × (proposal "00128" "X" "#" "    " " " 8 ≡ 40)
    × (proposal "00128" "F" "#" "    " " " 8 ≡ 44)
unfolding one_of same every a_set is_digit digit_value number_from spaces_or_number padded lowest_fault five_digits address_in legal rank before past_last is_address is_data_end known_level another_level record_length unused_count rule44 rule6 rule29 rule35 rule40 rule23 rule63 rule41 rule42 rule43 rule45 rule46 spaces_or_date rule48 rule67 rule54 rule58 rule64 rule73 rule75 hdr1_rules label_fault proposed proposed_rules proposal_fault
edges_proposed = (refl, refl, refl, refl, refl, refl, refl, refl, refl, refl, refl, refl, refl, refl, refl, refl, refl, refl)

-- The label to be made, all of it: "Other fields are spaces, the data end is the start."
pub edges_label :
    (proposed right (address_in (bytes "04001")) (address_in (bytes "04008"))
    ≡ bytes "HDR1 TEST             00128 04001 04008                                   04001" ++ replicate 49 (byte " "))
    × (length (proposed right first_address first_address) ≡ 128)
unfolding digit_value address_in padded proposed
edges_label = (refl, refl)

-- The index cylinder of the listing's sample: slot 1 `PARTS` 01001-01008, slot 2 deleted, slot 3 `LOG` 02001-03008
abbrev small : Geometry
small = record { L = 5; I = 10; D = 8; k = 0; P = 128; S = 1; d1 = 0; d2 = 0 }

abbrev sector : ℕ → String → List ℕ
sector kind s = kind ∷ (bytes s ++ replicate (128 - length (bytes s)) (byte " "))

abbrev index : List ℕ
index =
    replicate 903 (byte " ")
    ++ (sector 0 "HDR1 PARTS            00128 01001 01008                                   01004"
    ++ (sector 16 "DDR1 OLD              00128 01001 05008                                   01004"
    ++ sector 0 "HDR1 LOG              00256 02001 03008V   2         010000056B           02005"))

abbrev without1 : List ℕ
without1 = image_without small 1 index

-- "the lowest deleted slot"; "the lowest free run of n consecutive data addresses", extents of deleted slots not counted; "29 no run"
pub edges_room :
    (lowest_deleted small index ≡ 2)
    × (map (lowest_run small index) (1 ∷ 8 ∷ 16 ∷ 17 ∷ 40 ∷ 41 ∷ (2 ^ 64 - 1) ∷ []) ≡ Some 24 ∷ Some 24 ∷ Some 24 ∷ None ∷ None ∷ None ∷ None ∷ [])
    × (map (address_of small) (0 ∷ 24 ∷ 31 ∷ 39 ∷ []) ≡ map address_in (bytes "01001" ∷ bytes "04001" ∷ bytes "04008" ∷ bytes "05008" ∷ []))
    × (map (address_of volume) (7 ∷ 8 ∷ 16 ∷ []) ≡ map address_in (bytes "01008" ∷ bytes "01101" ∷ bytes "02001" ∷ []))
unfolding same digit_value address_of address_in rank k_at kind_offset body_offset kind_at first_byte valid_mark incorrect_mark slot_count slot_ordinal label_offset label_at is_label is_deleted in_extent taken deleted_from lowest_deleted free_run run_from lowest_run
edges_room = (refl, refl, refl, refl)

-- "Deleting gives the slot the incorrect mark and first byte `D`, nothing else." "Room freed by a delete is used again."
pub edges_delete :
    (without1
    ≡ replicate 903 (byte " ")
    ++ (sector 16 "DDR1 PARTS            00128 01001 01008                                   01004"
    ++ (sector 16 "DDR1 OLD              00128 01001 05008                                   01004"
    ++ sector 0 "HDR1 LOG              00256 02001 03008V   2         010000056B           02005")))
    × (lowest_deleted small without1 ≡ 1)
    × (map (lowest_run small without1) (8 ∷ 9 ∷ []) ≡ Some 0 ∷ Some 24 ∷ [])
unfolding same digit_value address_in rank k_at kind_offset body_offset kind_at first_byte valid_mark incorrect_mark slot_count slot_ordinal label_offset label_at is_label is_deleted in_extent taken splice deleted_from lowest_deleted free_run run_from lowest_run store_slot
edges_delete = (refl, refl, refl)

-- the slot gets the valid mark and the whole label
pub edges_create :
    image_created small index right 8
    ≡ replicate 903 (byte " ")
    ++ (sector 0 "HDR1 PARTS            00128 01001 01008                                   01004"
    ++ (sector 0 "HDR1 TEST             00128 04001 04008                                   04001"
    ++ sector 0 "HDR1 LOG              00256 02001 03008V   2         010000056B           02005"))
unfolding same digit_value padded address_of address_in rank k_at kind_offset body_offset kind_at first_byte valid_mark incorrect_mark slot_count slot_ordinal label_offset label_at is_label is_deleted in_extent taken splice proposed deleted_from lowest_deleted free_run run_from lowest_run store_slot image_created
edges_create = refl
