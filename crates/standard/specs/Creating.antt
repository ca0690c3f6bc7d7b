-- Request 2026-01, "Make and drop files on the box": creating a file and deleting one; refusals 28 and 29.
-- Assumes nothing.
use Rattle.std.specs.Prelude.{ℕ, zero, suc, ◌+◌, ◌-◌, Bool, true, cond, not, ◌&&◌, List, [], ◌∷◌, ◌++◌, map, length, take, drop, replicate, ltb, eqb, Result, Option, Ok, Err, Some, None, ⊤}
use Rattle.standard.specs.Characters.{bytes, byte}
use Rattle.standard.specs.Refusals.{refuse, refuse_at, given_when, in_order}
use Rattle.standard.specs.Rules.{Row, row, lowest_fault}
use Rattle.standard.specs.Layout.{k_at, kind_offset, slot_count, slot_ordinal, label_offset, label_at}
use Rattle.standard.specs.Addresses.{address_count, address_of, first_address, five_bytes}
use Rattle.standard.specs.Labels.{known_level, hdr1_rules}
use Rattle.standard.specs.Slots.{is_deleted}
use Rattle.standard.specs.Judgement.{judged, on_volume}
use Rattle.standard.specs.Finding.{found_from}
use Rattle.standard.specs.Files.{refusal13, refusal14, extent_size}
use Rattle.standard.specs.Writing.{splice, refusal24}
use Rattle.standard.specs.Free.{taken}
use Rattle.standard.specs.declared.Geometry.{Geometry}
use Rattle.standard.specs.declared.Address.{Address}
use Rattle.standard.specs.declared.Found.{Found}
use Rattle.standard.specs.declared.Refusal.{Refusal}
use Rattle.standard.specs.declared.Created.{Created}

-- "Creating takes the 29 bytes of label fields 6-22, 23-27, 40, 44, 54-57, 63": joined in this order, as they will stand. "Other fields are spaces, the data
-- end is the start." The label of the 29 bytes with an extent from a start to an end; 1-4 make it a label (valid mark, `HDR1`).
abbrev pub blank : ℕ → List ℕ
blank n = replicate n (byte " ")

unfoldable pub proposed : List ℕ → Address → Address → List ℕ
proposed w start end =
    bytes "HDR1" ++ (blank 1
    ++ (take 22 w ++ (blank 1
    ++ (five_bytes start ++ (blank 1
    ++ (five_bytes end
    ++ (take 1 (drop 22 w) ++ (blank 3
    ++ (take 1 (drop 23 w) ++ (blank 9
    ++ (take 4 (drop 24 w) ++ (blank 5
    ++ (take 1 (drop 28 w) ++ (blank 11
    ++ (five_bytes start ++ blank 49)))))))))))))))

-- the name among the 29 bytes
abbrev pub name_in : List ℕ → List ℕ
name_in w = take 17 w

-- "10 for the proposed label, with slot 0 (a level other than space, 1, 2 counts at 44, n = 0 at 35, other than 29 bytes at 6)". The table of HDR1 with three
-- conditions more. 28 and 29 come later, so that the run is not known yet: whichever addresses start and end become, they are legal and in order, as 01001 is.
abbrev pub also : ℕ → Bool → Row → Row
also position test r = cond (eqb r.position position) (row r.position (r.holds && test)) r

abbrev pub bracket : List ℕ → ℕ → List ℕ → Row → Row
bracket w n h r = also 6 (eqb (length w) 29) (also 35 (ltb 0 n) (also 44 (known_level h) r))

-- the label that is judged
abbrev pub draft : List ℕ → List ℕ
draft w = proposed w first_address first_address

unfoldable pub proposed_rules : Geometry → List ℕ → ℕ → List Row
proposed_rules g w n = map (bracket w n (draft w)) (hdr1_rules g (draft w))

-- the position at fault, 0 for none
unfoldable pub proposal_fault : Geometry → List ℕ → ℕ → ℕ
proposal_fault g w n = lowest_fault (proposed_rules g w n)

abbrev pub refusal10for : Geometry → List ℕ → ℕ → Result ⊤ Refusal
refusal10for g w n = given_when (ltb 0 (proposal_fault g w n)) (refuse_at 10 0 (proposal_fault g w n))

-- "12 for a name in use, with the slot that has it"
abbrev pub name_used : Result Found Refusal → Result ⊤ Refusal
name_used (Err r) = Ok tt
name_used (Ok f) = Err (refuse 12 f.slot)

abbrev pub refusal12for : Geometry → List ℕ → List ℕ → Result ⊤ Refusal
refusal12for g image w = name_used (found_from g image (name_in w) (slot_count g) 1)

-- "the lowest deleted slot": the first of `left` slots from `slot` on, 0 for none. "28 no deleted slot"
unfoldable pub deleted_from : Geometry → List ℕ → ℕ → ℕ → ℕ
deleted_from g image zero slot = 0
deleted_from g image (suc left) slot = cond (is_deleted g image slot) slot (deleted_from g image left (slot + 1))

unfoldable pub lowest_deleted : Geometry → List ℕ → ℕ
lowest_deleted g image = deleted_from g image (slot_count g) 1

abbrev pub refusal28 : Geometry → List ℕ → Result ⊤ Refusal
refusal28 g image = given_when (eqb (lowest_deleted g image) 0) (refuse 28 0)

-- "the lowest free run of n consecutive data addresses": an address is meant by its number from 0 (`rank`), and it is free if no label's extent has it. n
-- addresses from the i-th on are free; the first such start of `left` starts from `i` on. Starts with i + n past the last address are none, and with n above
-- the number of addresses there is no start at all. "29 no run"
unfoldable pub free_run : Geometry → List ℕ → ℕ → ℕ → Bool
free_run g image zero i = true
free_run g image (suc n) i = not (taken g image i (slot_count g)) && free_run g image n (i + 1)

unfoldable pub run_from : Geometry → List ℕ → ℕ → ℕ → ℕ → Option ℕ
run_from g image n zero i = None
run_from g image n (suc left) i = cond (free_run g image n i) (Some i) (run_from g image n left (i + 1))

unfoldable pub lowest_run : Geometry → List ℕ → ℕ → Option ℕ
lowest_run g image n = run_from g image n (suc (address_count g) - n) 0

abbrev pub no_room : Option ℕ → Result ⊤ Refusal
no_room None = Err (refuse 29 0)
no_room (Some i) = Ok tt

abbrev pub run_start : Option ℕ → ℕ
run_start None = 0
run_start (Some i) = i

abbrev pub refusal29 : Geometry → List ℕ → ℕ → Result ⊤ Refusal
refusal29 g image n = no_room (lowest_run g image n)

-- "Refusals: after 1-12 on the volume, 10 for the proposed label [..], 12 for a name in use [..], then 28 no deleted slot, 29 no run"
abbrev pub create_list : Geometry → List ℕ → List ℕ → ℕ → List (Result ⊤ Refusal)
create_list g image w n =
    refusal10for g w n
    ∷ refusal12for g image w
    ∷ refusal28 g image
    ∷ refusal29 g image n
    ∷ []

unfoldable pub create_refusal : Geometry → List ℕ → List ℕ → ℕ → Result ⊤ Refusal
create_refusal g image w n = in_order (create_list g image w n)

-- "A slot is a label (valid mark, `HDR1`) or deleted (incorrect mark, first byte `D`)": what both calls do to the image, one store to a slot's sector. Its kind
-- becomes the mark's (0 the valid one, 16 the incorrect one) with the k of the sector, and bytes are laid from the label's first on. No other byte changes.
unfoldable pub store_slot : Geometry → ℕ → ℕ → List ℕ → List ℕ → List ℕ
store_slot g slot mark new image =
    splice (label_offset g slot) new (splice (kind_offset g (slot_ordinal slot)) ((mark + k_at g (slot_ordinal slot)) ∷ []) image)

-- the slot gets the valid mark and the label
abbrev pub image_with_label : Geometry → ℕ → List ℕ → List ℕ → List ℕ
image_with_label g slot label image = store_slot g slot 0 label image

-- start and end of the new file, its label, and the image
abbrev pub created_start : Geometry → List ℕ → ℕ → Address
created_start g image n = address_of g (run_start (lowest_run g image n))

abbrev pub created_end : Geometry → List ℕ → ℕ → Address
created_end g image n = address_of g (run_start (lowest_run g image n) + (n - 1))

abbrev pub created_label : Geometry → List ℕ → List ℕ → ℕ → List ℕ
created_label g image w n = proposed w (created_start g image n) (created_end g image n)

unfoldable pub image_created : Geometry → List ℕ → List ℕ → ℕ → List ℕ
image_created g image w n = image_with_label g (lowest_deleted g image) (created_label g image w n) image

-- a file made: the slot of its label, and its start
abbrev pub file_made : ℕ → Address → Result Created Refusal
file_made slot start = Ok (record { slot = slot; start = start })

-- THE ANSWER to creating, and the image afterwards. "A refusal returns number and place, and all lent bytes stay."
pub record Creation : Type 0 where
  pub answer : Result Created Refusal
  pub image : List ℕ

abbrev pub create_unless : Result ⊤ Refusal → List ℕ → Creation → Creation
create_unless (Ok _) image done = done
create_unless (Err r) image done = record { answer = Err r; image = image }

unfoldable pub creation : List ℕ → List ℕ → ℕ → Creation
creation image w n =
    on_volume (judged image) (λ r. record { answer = Err r; image = image })
    (λ g. create_unless (create_refusal g image w n) image
    (record { answer = file_made (lowest_deleted g image) (created_start g image n); image = image_created g image w n }))

abbrev pub created : List ℕ → List ℕ → ℕ → Result Created Refusal
created image w n = (creation image w n).answer

abbrev pub image_after_create : List ℕ → List ℕ → ℕ → List ℕ
image_after_create image w n = (creation image w n).image

-- "delete gives 13, 14, 24"
abbrev pub delete_list : Geometry → List ℕ → ℕ → List (Result ⊤ Refusal)
delete_list g image slot =
    let h = label_at g image slot in
    refusal13 g image slot
    ∷ refusal14 h slot
    ∷ refusal24 h slot
    ∷ []

unfoldable pub delete_refusal : Geometry → List ℕ → ℕ → Result ⊤ Refusal
delete_refusal g image slot = in_order (delete_list g image slot)

-- "Deleting gives the slot the incorrect mark and first byte `D`, nothing else."
abbrev pub image_without : Geometry → ℕ → List ℕ → List ℕ
image_without g slot image = store_slot g slot 16 (byte "D" ∷ []) image

-- THE ANSWER to deleting, the number of physical records that are free again, and the image afterwards
pub record Deletion : Type 0 where
  pub answer : Result ℕ Refusal
  pub image : List ℕ

abbrev pub delete_unless : Result ⊤ Refusal → List ℕ → Deletion → Deletion
delete_unless (Ok _) image done = done
delete_unless (Err r) image done = record { answer = Err r; image = image }

unfoldable pub deletion : List ℕ → ℕ → Deletion
deletion image slot =
    on_volume (judged image) (λ r. record { answer = Err r; image = image })
    (λ g. delete_unless (delete_refusal g image slot) image
    (record { answer = Ok (extent_size g (label_at g image slot)); image = image_without g slot image }))

abbrev pub deleted : List ℕ → ℕ → Result ℕ Refusal
deleted image slot = (deletion image slot).answer

abbrev pub image_after_delete : List ℕ → ℕ → List ℕ
image_after_delete image slot = (deletion image slot).image
