-- DEMAND 2 OF FUNCTIONS THAT WRITE, for a reader who proves nothing. As Readers does for those that read: the contract says no more than that the answer is
-- `written`, and the image afterwards `image_after`; here the promises are said of any function that meets it, whatever its code, and the wrong programs that
-- document 01 names are shown to meet it not. What is read of an image afterwards is read by any function that meets the contract of reading, what is counted
-- or found by any that meets that. The lines behind `=` only name the proof. `A → B`: if A then B; `A × B`: both; `A ⊎ B`: one of them; `A → ⊥`: not A.
-- Assumes nothing.
use Prim.Native.Nat.{ℕ, zero, suc, ◌+◌, ◌-◌, ◌*◌, ◌<◌, ◌≤◌}
use Rattle.std.specs.Prelude.{◌≡◌, Bool, true, false, ◌⊎◌, length, get_or, replicate, take, drop, Result, Ok, Err}
use Rattle.std.proofs.Math.Path.{refl}
use Rattle.std.proofs.Common.{sym, ap, subst, ◌∙◌, inl, inr, arith, lt-ltb, le-ltb, le-leb}
use mathlib.Core.List.{List, [], ◌∷◌, ◌++◌, map}
use Rattle.standard.specs.Characters.{bytes, field, is_digit, digit_value}
use Rattle.standard.specs.Layout.{k_at, body_size, kind_offset, body_offset, slot_count, slot_ordinal, label_offset, label_at}
use Rattle.standard.specs.Skips.{walked_ordinal}
use Rattle.standard.specs.Addresses.{legal, rank, ordinal, stepped, first_address, five_bytes, address_in}
use Rattle.standard.specs.Labels.{start_of, end_of, data_end_of}
use Rattle.standard.specs.Judgement.{judged}
use Rattle.standard.specs.Finding.{found, found_at}
use Rattle.standard.specs.Free.{free_count}
use Rattle.standard.specs.Files.{addresses_from, is_defective, good_records, records_to_block, blocks_held, counted}
use Rattle.standard.specs.Records.{Mode, plain, salvage}
use Rattle.standard.specs.Places.{start}
use Rattle.standard.specs.Reading.{read_answer, output_after}
use Rattle.standard.specs.Writing.{parted, needed, packing, filled_to, write_list, write_refusal, unused_field, next_data_end, data_end_after, written, image_after}
use Rattle.standard.specs.declared.Geometry.{Geometry}
use Rattle.standard.specs.declared.Address.{Address}
use Rattle.standard.specs.declared.Place.{Place}
use Rattle.standard.specs.declared.Refusal.{Refusal}
use Rattle.standard.specs.declared.Found.{Found}
use Rattle.promises.specs.Ground.Basics.{never, either, eq_or_not}
use Rattle.promises.specs.Images.AddressLaws.{parts, step_rank}
use Rattle.promises.specs.Volumes.AcceptedLaws.{InRange, has_slot}
use Rattle.promises.proofs.Writing.ReadBack.{enough_records}
use Rattle.promises.proofs.Writing.AcceptedWrite.{passing, label_range, after_is}
use Rattle.promises.proofs.Writing.WrittenLabel.{records_some, new_end}
use Rattle.promises.proofs.Writing.WriteEnds.{end_of_none, end_of_some, end_of_all, end_behind, written_sector}
use Rattle.promises.proofs.Writing.WritingPromises.{joined, answers, labels_stay, needing_again}
use Rattle.promises.proofs.Writing.WrittenHeard.{RoomFor, told_in, written_heard_in, written_whole}
use Rattle.promises.specs.Images.Sectors.{sector_at}
use Rattle.promises.proofs.Images.ByteSectors.{InSector, MayChange}
use Rattle.promises.proofs.Extents.DefectsApart.{OnDefect}
use Rattle.promises.specs.Refusals.Refusing.{Exactly, order_first, first_order, accepted_write}
use Rattle.promises.specs.Reading.Following.{told, done, following}
use Rattle.promises.specs.Salvage.Failing.{Failed, Spares, OfBlocks, ReadsWhole}
use Rattle.promises.proofs.Demands.{write_list_lem, write_counts, write_reads_back, write_changes_no_more, writing_past_defects, write_sets, write_stays_accepted, others_stay, finding_stays}
use Rattle.promises.proofs.Requested.{stands_where_walked}
use Rattle.promises.proofs.Instances.{demo, demo_volume, demo_bodies, demo_lengths, demo_accepted, demo_heard}
use Rattle.demanded.specs.Calls.{Response, Meets, ByName, InSlot, named, in_slot, ask, give, judge, find, find_slot, free, count, read, write, contract}
use Rattle.demanded.specs.Called.{alike, answered, refuses_exactly}
use Rattle.demanded.specs.Readers.{Reader, Reads, as_defined, followed, SalvagedAs}
use Rattle.demanded.proofs.Readers.{followed_is, salvager_gives, salvager_gives_demanded}
use Rattle.demanded.specs.CarryLaws.{last_between, end_behind_last, defects_between, goes_on_inside, goes_on_end, needed_some, needed_none, no_record_heard}
use Rattle.demanded.specs.Writers.{Writer, Writes, NextTrack}

-- ======== THE STEP AT THE LAST SECTOR OF A TRACK
-- "Sector counts fastest, then side, then cylinder." The next side's sector 01, if there is one:
pub track_carries : (g : Geometry) (a : Address) → a.sector ≡ g.D → a.side + 1 < g.S
    → stepped g a ≡ record { cylinder = a.cylinder; side = a.side + 1; sector = 1 }
unfolding stepped
track_carries g a last l = rw (le-ltb a.sector g.D (omega (arith, last)), lt-ltb (a.side + 1) g.S l)

-- else side 0, sector 01 of the next cylinder:
pub cylinder_carries : (g : Geometry) (a : Address) → a.sector ≡ g.D → g.S ≤ a.side + 1 → a.cylinder ≤ g.L
    → stepped g a ≡ record { cylinder = a.cylinder + 1; side = 0; sector = 1 }
unfolding stepped
cylinder_carries g a last l k =
    rw (le-ltb a.sector g.D (omega (arith, last)), le-ltb (a.side + 1) g.S l, le-leb a.cylinder g.L k)

carries : (g : Geometry) (a e : Address) → a.sector ≡ g.D → a.cylinder ≤ g.L → e ≡ stepped g a → NextTrack g a e
carries g a e last k h = ((λ l. h ∙ track_carries g a last l), (λ l. h ∙ cylinder_carries g a last l k))

-- THE SAME IN NUMBERS, of volumes with D = 8 and S sides, L = 5: the step; and the data end of n blocks of one record each in an extent from 01001, all good
abbrev sides : ℕ → Geometry
sides S = record { L = 5; I = 8; D = 8; k = 0; P = 128; S = S; d1 = 0; d2 = 0 }

abbrev end_of_blocks : ℕ → List ℕ → ℕ → ℕ → Address
end_of_blocks S end size n = next_data_end (sides S) (address_in (bytes "01001")) (address_in end) 1 (addresses_from (sides S) size (address_in (bytes "01001"))) n

pub carried :
    -- S=2: 01008 to 01101, 01108 to 02001; S=1: 01008 to 02001, not to 01001
    (stepped (sides 2) (address_in (bytes "01008")) ≡ address_in (bytes "01101"))
    × (stepped (sides 2) (address_in (bytes "01108")) ≡ address_in (bytes "02001"))
    × (stepped (sides 1) (address_in (bytes "01008")) ≡ address_in (bytes "02001"))
    × (stepped (sides 1) (address_in (bytes "01008")) ≡ address_in (bytes "01001") → ⊥)
    -- 8 and 16 blocks of an extent 01001 to 02108, S=2; 8 of 01001 to 02008, S=1
    × (end_of_blocks 2 (bytes "02108") 32 8 ≡ address_in (bytes "01101"))
    × (end_of_blocks 2 (bytes "02108") 32 16 ≡ address_in (bytes "02001"))
    × (end_of_blocks 1 (bytes "02008") 16 8 ≡ address_in (bytes "02001"))
    -- all 8 of an extent 01001 to 01008: past it, S=2 and S=1
    × (end_of_blocks 2 (bytes "01008") 8 8 ≡ address_in (bytes "01101"))
    × (end_of_blocks 1 (bytes "01008") 8 8 ≡ address_in (bytes "02001"))
unfolding is_digit digit_value address_in stepped addresses_from next_data_end
carried = (refl, refl, refl, (λ h. absurd (omega (arith, ap (λ (a : Address). a.cylinder) h))), refl, refl, refl, refl, refl)

module _ (w : Writer) (meets : Writes w) where
  -- ======== WHAT IS ACCEPTED
  module _ (image : List ℕ) (slot : ℕ) (bodies lengths : List ℕ) where
    agreed : (a : Result ℕ Refusal) → (w (give image slot bodies lengths)).answer ≡ a → written image slot bodies lengths ≡ a
    agreed a h = sym (meets (give image slot bodies lengths)).0 ∙ h

    -- Exactly what no refusal of the list is given for (`refuses_exactly`, in Called): the answer is then the number of blocks that the list needs
    pub accepts_by_the_list : (g : Geometry) (n : ℕ) → judged image ≡ Ok g
        → Exactly ((w (give image slot bodies lengths)).answer ≡ Ok n)
        ((write_refusal g image slot bodies lengths ≡ Ok tt) × (n ≡ needed (label_at g image slot) bodies lengths))
    accepts_by_the_list g n accepted = (
      (λ h. (accepted_write image g accepted slot bodies lengths n (agreed (Ok n) h), (write_counts image g slot bodies lengths n accepted (agreed (Ok n) h)).0)),
      (λ p. (meets (give image slot bodies lengths)).0 ∙ answers image g slot bodies lengths accepted p.0 ∙ ap Ok (sym p.1)),
    )

  -- ======== DEMAND 2
  -- "an accepted write reads back as its list and changes no byte but the sectors it fills and two fields of the label." A write is accepted where it answers
  -- with a number of blocks, n. `parted bodies lengths`: the list, record by record.
  module _ (image : List ℕ) (g : Geometry) (slot : ℕ) (bodies lengths : List ℕ) (n : ℕ) (accepted : judged image ≡ Ok g)
      (success : (w (give image slot bodies lengths)).answer ≡ Ok n) where
    abbrev after : List ℕ
    after = (w (give image slot bodies lengths)).after

    abbrev label : List ℕ
    label = label_at g image slot

    left : after ≡ image_after image slot bodies lengths
    left = (meets (give image slot bodies lengths)).1

    so : written image slot bodies lengths ≡ Ok n
    so = agreed image slot bodies lengths (Ok n) success

    passed : write_refusal g image slot bodies lengths ≡ Ok tt
    passed = accepted_write image g accepted slot bodies lengths n so

    needs : n ≡ needed label bodies lengths
    needs = (write_counts image g slot bodies lengths n accepted so).0

    -- the list is the bodies lent, each of its length
    pub list_is : (map length (parted bodies lengths) ≡ lengths) × (joined (parted bodies lengths) ≡ bodies)
    list_is = write_list_lem image g slot bodies lengths n accepted so

    -- the number answered is that of the blocks which the list needs, and which the file has afterwards
    counted_after : counted after slot ≡ Ok n
    counted_after = ap (λ (s : List ℕ). counted s slot) left ∙ (write_counts image g slot bodies lengths n accepted so).1

    pub blocks_are : (n ≡ needed label bodies lengths)
        × ((counter : InSlot → Response (Result ℕ Refusal)) → Meets (contract count) counter → (counter (in_slot after slot)).answer ≡ Ok n)
    blocks_are = (needs, (λ counter counts. (counts (in_slot after slot)).0 ∙ counted_after))

    -- "changes no byte but the sectors it fills and two fields of the label": the length stays, and every byte is as before or `MayChange`, that is, in a
    -- sector of the n blocks filled, or in positions 58-62 or 75-79 of the label
    pub changes_no_more : (length after ≡ length image) × ((i : ℕ) → (get_or after i 0 ≡ get_or image i 0) ⊎ MayChange g image slot n i)
    changes_no_more =
        let c = write_changes_no_more image g slot bodies lengths n accepted so in (
          ap length left ∙ c.0,
          (λ i.
              subst (λ (s : List ℕ). (get_or s i 0 ≡ get_or image i 0) ⊎ MayChange g image slot n i) (sym left)
              (subst (λ (k : ℕ). (get_or (image_after image slot bodies lengths) i 0 ≡ get_or image i 0) ⊎ MayChange g image slot k i) (sym needs) (c.1 i))),
        )

    -- "data skip them (house)": no byte of a defective cylinder changes. `InSector g i s`: byte i is in sector s; `OnDefect g s`: that is on a defective cylinder
    pub leaves_defects : (i s : ℕ) → InSector g i s → OnDefect g s → get_or after i 0 ≡ get_or image i 0
    leaves_defects i s at d = ap (λ (x : List ℕ). get_or x i 0) left ∙ writing_past_defects image g accepted slot bodies lengths n i s so at d

    -- the image is accepted again, as the same volume
    pub stays_accepted : judged after ≡ Ok g
    stays_accepted = ap judged left ∙ write_stays_accepted image g slot bodies lengths n accepted so

    -- "Then U (spaces for 0) and the data end are set"
    pub sets_fields : (field (label_at g after slot) 58 62 ≡ unused_field (packing label bodies lengths).U)
        × (field (label_at g after slot) 75 79 ≡ five_bytes (data_end_after g image label n))
    sets_fields =
        let s = write_sets image g slot bodies lengths n accepted so in (
          ap (λ (t : List ℕ). field (label_at g t slot) 58 62) left ∙ s.0,
          ap (λ (t : List ℕ). field (label_at g t slot) 75 79) left ∙ s.1 ∙ ap (λ (k : ℕ). five_bytes (data_end_after g image label k)) (sym needs),
        )

    -- "an accepted write reads back as its list": whoever reads it afterwards, plainly or by salvage, from Start and on, hears the list and then End. (The output
    -- has room for every record, `RoomFor`, and there is one reading more than there are records. `told body`: a record with these bytes is heard; `done`: End is.)
    pub reads_back : (m : Mode) (r : Reader) → Reads m r → (readings : ℕ) (out : List ℕ) → RoomFor (length out) lengths → length lengths + 1 ≤ readings
        → followed readings r after slot out start ≡ map told (parted bodies lengths) ++ (done ∷ [])
    reads_back m r reads readings out room enough =
        followed_is m r reads readings after slot out start
        ∙ ap (λ (s : List ℕ). following readings m s slot out start) left
        ∙ write_reads_back image g slot bodies lengths n accepted so m readings out room enough

    -- and with any number of readings and any output: so much of it, up to the first record that is too long for the output, where 23 is heard (`told_in`)
    pub reads_back_in : (m : Mode) (r : Reader) → Reads m r → (readings : ℕ) (out : List ℕ)
        → followed readings r after slot out start ≡ take readings (told_in (length out) (parted bodies lengths))
    reads_back_in m r reads readings out =
        followed_is m r reads readings after slot out start
        ∙ ap (λ (s : List ℕ). following readings m s slot out start) left
        ∙ written_heard_in image g slot bodies lengths accepted passed m readings out

    -- and after any sectors fail in which a block of the file lies, as demand 3 has it, salvage gives of the records written every one no block of which is lost,
    -- and one gap for each lost block; so it does, more than is demanded, after any fail but those that `Spares` (in Failing) excepts
    whole_again : ReadsWhole after slot (parted bodies lengths)
    whole_again = subst (λ (s : List ℕ). ReadsWhole s slot (parted bodies lengths)) (sym left) (written_whole image g slot bodies lengths accepted passed)

    heard_again : followed whole_again.readings (as_defined plain) after slot whole_again.out start ≡ map told (parted bodies lengths) ++ (done ∷ [])
    heard_again = followed_is plain (as_defined plain) (answered (contract (read plain))) whole_again.readings after slot whole_again.out start ∙ whole_again.hears

    module _ (salvager : Reader) (salvages : Reads salvage salvager) (image' : List ℕ) (hit : ℕ → Bool) (fail : Failed g hit after image') where
      pub salvages_back_demanded : OfBlocks g hit after (label_at g after slot) → SalvagedAs salvager g hit after image' slot (parted bodies lengths)
      salvages_back_demanded =
          salvager_gives_demanded (as_defined plain) salvager (answered (contract (read plain))) salvages after image' g slot (parted bodies lengths) hit stays_accepted
          whole_again.readings whole_again.out heard_again fail

      pub salvages_back : Spares g hit after (label_at g after slot) → SalvagedAs salvager g hit after image' slot (parted bodies lengths)
      salvages_back =
          salvager_gives (as_defined plain) salvager (answered (contract (read plain))) salvages after image' g slot (parted bodies lengths) hit stays_accepted
          whole_again.readings whole_again.out heard_again fail

    -- Every other file is as before: every reading of it by whatever function, its count, its label.
    pub others_read_as_before : (other : ℕ) → (other ≡ slot → ⊥) → (m : Mode) (r : Reader) → Reads m r → (pl : Place) (out : List ℕ)
        → ((r (ask after other pl out)).answer ≡ (r (ask image other pl out)).answer) × ((r (ask after other pl out)).after ≡ (r (ask image other pl out)).after)
    others_read_as_before other ne m r reads pl out =
        let o = others_stay image g slot bodies lengths n accepted so other ne in (
          (reads (ask after other pl out)).0
              ∙ ap (λ (s : List ℕ). read_answer m s other pl out) left
              ∙ o.0 m pl out
              ∙ sym (reads (ask image other pl out)).0,
          (reads (ask after other pl out)).1
              ∙ ap (λ (s : List ℕ). output_after m s other pl out) left
              ∙ o.1 m pl out
              ∙ sym (reads (ask image other pl out)).1,
        )

    pub others_counted_as_before : (other : ℕ) → (other ≡ slot → ⊥) → (counter : InSlot → Response (Result ℕ Refusal)) → Meets (contract count) counter
        → (counter (in_slot after other)).answer ≡ (counter (in_slot image other)).answer
    others_counted_as_before other ne counter counts =
        alike (contract count) counter counts (in_slot after other) (in_slot image other)
        (ap (λ (s : List ℕ). counted s other) left ∙ (others_stay image g slot bodies lengths n accepted so other ne).2)

    pub other_labels_stay : (other : ℕ) → (other ≡ slot → ⊥) → 1 ≤ other → other ≤ slot_count g → label_at g after other ≡ label_at g image other
    other_labels_stay other ne low high =
        ap (λ (s : List ℕ). label_at g s other) left ∙ labels_stay image g slot bodies lengths accepted passed other ne low high

    -- and so is the volume, what is found by every name and in every slot, and the number of free records
    pub judged_as_before : (judger : List ℕ → Response (Result Geometry Refusal)) → Meets (contract judge) judger → (judger after).answer ≡ (judger image).answer
    judged_as_before judger judges = alike (contract judge) judger judges after image (stays_accepted ∙ sym accepted)

    pub found_as_before : (finder : ByName → Response (Result Found Refusal)) → Meets (contract find) finder → (name : List ℕ)
        → (finder (named after name)).answer ≡ (finder (named image name)).answer
    found_as_before finder finds name =
        alike (contract find) finder finds (named after name) (named image name)
        (ap (λ (s : List ℕ). found s name) left ∙ (finding_stays image g slot bodies lengths n accepted so).0 name)

    pub found_in_slot_as_before : (finder : InSlot → Response (Result Found Refusal)) → Meets (contract find_slot) finder → (s : ℕ)
        → (finder (in_slot after s)).answer ≡ (finder (in_slot image s)).answer
    found_in_slot_as_before finder finds s =
        alike (contract find_slot) finder finds (in_slot after s) (in_slot image s)
        (ap (λ (t : List ℕ). found_at t s) left ∙ (finding_stays image g slot bodies lengths n accepted so).1 s)

    pub free_as_before : (counter : List ℕ → Response (Result ℕ Refusal)) → Meets (contract free) counter → (counter after).answer ≡ (counter image).answer
    free_as_before counter counts =
        alike (contract free) counter counts after image (ap free_count left ∙ (finding_stays image g slot bodies lengths n accepted so).2)

    -- A further write, to this file or another, is refused as it would have been before, or not refused.
    refusing_stays : (s : ℕ) (b l : List ℕ) → write_refusal g after s b l ≡ write_refusal g image s b l
    refusing_stays s b l =
        ap (λ (t : List ℕ). write_refusal g t s b l) left
        ∙ either (eq_or_not s slot)
        (λ (e : s ≡ slot).
        subst (λ (k : ℕ). write_refusal g (image_after image slot bodies lengths) k b l ≡ write_refusal g image k b l) (sym e)
        ((finding_stays image g slot bodies lengths n accepted so).3 b l))
        (λ (ne : s ≡ slot → ⊥). (others_stay image g slot bodies lengths n accepted so s ne).3 b l)

    pub refused_as_before : (s : ℕ) (b l : List ℕ) (x : Refusal) → Exactly ((w (give after s b l)).answer ≡ Err x) ((w (give image s b l)).answer ≡ Err x)
    unfolding write_refusal
    refused_as_before s b l x =
        let now = refuses_exactly write g (give after s b l) (w (give after s b l)).answer (w (give after s b l)).after x stays_accepted (meets (give after s b l)) in
        let then = refuses_exactly write g (give image s b l) (w (give image s b l)).answer (w (give image s b l)).after x accepted (meets (give image s b l)) in
        let same = refusing_stays s b l in (
          (λ h. then.1 (order_first (write_list g image s b l) x (sym same ∙ first_order (write_list g after s b l) x (now.0 h)))),
          (λ h. now.1 (order_first (write_list g after s b l) x (same ∙ first_order (write_list g image s b l) x (then.0 h)))),
        )

    -- and where it is not refused, it is answered as it would have been
    needing_stays : (s : ℕ) (b l : List ℕ) → write_refusal g image s b l ≡ Ok tt → needed (label_at g image s) b l ≡ needed (label_at g after s) b l
    needing_stays s b l unrefused =
        either (eq_or_not s slot)
        (λ (e : s ≡ slot).
        subst (λ (k : ℕ). needed (label_at g image k) b l ≡ needed (label_at g after k) b l) (sym e)
        (sym (ap (λ (t : List ℕ). needed (label_at g t slot) b l) left ∙ needing_again image g slot bodies lengths accepted passed b l)))
        (λ (ne : s ≡ slot → ⊥).
        let inside = has_slot g image s (passing g image s b l unrefused).labelled in
        ap (λ (h : List ℕ). needed h b l) (sym (other_labels_stay s ne inside.0 inside.1)))

    pub answered_as_before : (s : ℕ) (b l : List ℕ) → (w (give after s b l)).answer ≡ (w (give image s b l)).answer
    answered_as_before s b l = on (w (give image s b l)).answer refl
      where
        on : (a : Result ℕ Refusal) → (w (give image s b l)).answer ≡ a → (w (give after s b l)).answer ≡ (w (give image s b l)).answer
        on (Err x) e = (refused_as_before s b l x).1 e ∙ sym e
        on (Ok k) e =
            let p = (accepts_by_the_list image s b l g k accepted).0 e in
            (accepts_by_the_list after s b l g k stays_accepted).1 (refusing_stays s b l ∙ p.0, p.1 ∙ needing_stays s b l p.0) ∙ sym e

    -- ======== THE SECTORS FILLED
    -- "blocks take m good records in turn"; "Written records get the valid mark"; "Content left, and physical records' ends, are filled with 00": what stands in the
    -- i-th record of block b, its kind and its P bytes
    abbrev m : ℕ
    m = records_to_block g label

    abbrev good : List Address
    good = good_records g image label

    pub fills_sectors : (b i : ℕ) → b < n → i < m
        → let record' = ordinal g (get_or good (b * m + i) first_address) in
        sector_at g after record' ≡ k_at g record' ∷ filled_to g.P (take g.P (drop (i * g.P) (get_or (packing label bodies lengths).contents b [])))
    fills_sectors b i l u =
        ap (λ (s : List ℕ). sector_at g s (ordinal g (get_or good (b * m + i) first_address))) left
        ∙ written_sector image g slot bodies lengths accepted passed b i (omega (arith, needs, l)) u

    -- request 2026-03: and they stand where a walk that counts good cylinders leads (`walked_ordinal`)
    pub fills_where_walked : (b i : ℕ) → b < n → i < m
        → let record' = walked_ordinal g (get_or good (b * m + i) first_address) in
        sector_at g after record' ≡ k_at g record' ∷ filled_to g.P (take g.P (drop (i * g.P) (get_or (packing label bodies lengths).contents b [])))
    fills_where_walked b i l u =
        subst (λ (o : ℕ). sector_at g after o ≡ k_at g o ∷ filled_to g.P (take g.P (drop (i * g.P) (get_or (packing label bodies lengths).contents b []))))
        (stands_where_walked image g accepted (get_or good (b * m + i) first_address)) (fills_sectors b i l u)

    -- ======== THE CARRY OF THE DATA END
    -- "after a write that ends at the last sector of a track, side or cylinder the data end is the next track's first address (or the step past the extent),
    -- never the extent's start unless the list is empty." The data end is the address that field 75-79 of the label spells afterwards. The last record
    -- written: "blocks take m good records in turn", so it is the last of the first n·m good ones.
    abbrev data_end : Address
    data_end = data_end_of (label_at g after slot)

    abbrev last_written : Address
    last_written = get_or good (n * m - 1) first_address

    pub data_end_spelled : (field (label_at g after slot) 75 79 ≡ five_bytes data_end) × (data_end ≡ data_end_after g image label n)
    data_end_spelled =
        let e : data_end ≡ data_end_after g image label n =
        ap (λ (s : List ℕ). data_end_of (label_at g s slot)) (left ∙ after_is image g slot bodies lengths accepted passed)
        ∙ new_end image g slot bodies lengths accepted passed
        ∙ ap (data_end_after g image label) (sym needs) in
        (sets_fields.1 ∙ ap five_bytes (sym e), e)

    range : InRange g label
    range = label_range image g slot bodies lengths accepted passed

    m_some : 1 ≤ m
    m_some = records_some image g slot bodies lengths accepted passed

    enough_good : n * m ≤ length good
    enough_good = omega (arith, enough_records image g slot bodies lengths accepted passed, ap (λ (x : ℕ). x * m) needs)

    -- "start for 0 blocks"
    pub none_ends_at_the_start : n ≡ 0 → data_end ≡ start_of label
    none_ends_at_the_start e = data_end_spelled.1 ∙ ap (data_end_after g image label) e ∙ end_of_none g image label

    module _ (some : 0 < n) where
      -- "the first good record of the next block if a whole one is left": between the last record written and it there are defective records only
      pub at_the_next_block : n < blocks_held g image label
          → (data_end ≡ get_or good (n * m) first_address)
          × ((a : Address) → legal g a ≡ true → rank g last_written < rank g a → rank g a < rank g data_end → is_defective g image a ≡ true)
      at_the_next_block l = (
        data_end_spelled.1 ∙ end_of_some g image label n some l,
        (λ a la low high. defects_between g image label range m_some n some enough_good l a la low (omega (arith, high, ap (rank g) data_end_spelled.1))),
      )

      -- "else the step past the extent's end": not "a data end inside the extent when no whole block is left"
      pub past_the_extent : blocks_held g image label ≤ n → (data_end ≡ stepped g (end_of label)) × (rank g (end_of label) < rank g data_end)
      past_the_extent l =
          let e : data_end ≡ stepped g (end_of label) = data_end_spelled.1 ∙ end_of_all g image label n some l in
          (e, omega (arith, ap (rank g) e, step_rank g (end_of label) range.end_legal))

      -- NEVER THE START, and never a record written: it is behind both
      pub never_the_start : (rank g (start_of label) < rank g data_end) × (rank g last_written < rank g data_end)
      never_the_start = (
        subst (λ (e : Address). rank g (start_of label) < rank g e) (sym data_end_spelled.1) (end_behind g image label range m_some n some),
        subst (λ (e : Address). rank g last_written < rank g e) (sym data_end_spelled.1) (end_behind_last g image label range m_some n some enough_good),
      )

      -- THE ADDRESS BEHIND THE LAST RECORD WRITTEN, where a whole block is left and the record at that address is not defective; or where the last record
      -- written is the extent's end
      abbrev GoesOn : Type 0
      GoesOn = ((n < blocks_held g image label) × (is_defective g image (stepped g last_written) ≡ false)) ⊎ (last_written ≡ end_of label)

      pub next_address : GoesOn → data_end ≡ stepped g last_written
      next_address (inl p) = data_end_spelled.1 ∙ goes_on_inside g image label range m_some n some enough_good p.0 p.1
      next_address (inr e) = data_end_spelled.1 ∙ goes_on_end g image label range m_some n some enough_good e

      -- AT THE LAST SECTOR OF A TRACK: the first address of the next track
      pub next_track : GoesOn → last_written.sector ≡ g.D → NextTrack g last_written data_end
      next_track h last =
          carries g last_written data_end last (parts g last_written (last_between g image label range m_some n some enough_good).0).cylinder_high (next_address h)

      -- and where no whole block is left in an extent that ends at the last sector of a track, the first address of the track behind the extent
      pub past_the_track : blocks_held g image label ≤ n → (end_of label).sector ≡ g.D → NextTrack g (end_of label) data_end
      past_the_track l last = carries g (end_of label) data_end last (parts g (end_of label) range.end_legal).cylinder_high (past_the_extent l).0

    -- THE START exactly where the list is empty
    pub the_start_exactly_if_empty : Exactly (data_end ≡ start_of label) (lengths ≡ [])
    the_start_exactly_if_empty = (
      (λ h. from lengths refl h),
      (λ e. none_ends_at_the_start (needs ∙ ap (needed label bodies) e ∙ needed_none label bodies)),
    )
      where
        from : (ls : List ℕ) → lengths ≡ ls → data_end ≡ start_of label → lengths ≡ []
        from [] e h = e
        from (x ∷ xs) e h =
            let c : n ≡ needed label bodies (x ∷ xs) = needs ∙ ap (needed label bodies) e in
            let p : 0 < n = omega (arith, c, needed_some label bodies x xs) in
            absurd (omega (arith, (never_the_start p).0, ap (rank g) h))

    -- ======== "a write that reports success and stores nothing (read-back)" has to be rejected
    -- If a reader did not hear this list of the file before, it does not hear after the write what it heard before, and so the image is another
    pub no_storing_nothing : (r : Reader) → Reads plain r → (readings : ℕ) (out : List ℕ) → RoomFor (length out) lengths → length lengths + 1 ≤ readings
        → (followed readings r image slot out start ≡ map told (parted bodies lengths) ++ (done ∷ []) → ⊥)
        → (followed readings r after slot out start ≡ followed readings r image slot out start → ⊥) × (after ≡ image → ⊥)
    no_storing_nothing r reads readings out room enough otherwise =
        let heard = reads_back plain r reads readings out room enough in (
          (λ same. otherwise (sym same ∙ heard)),
          (λ same. otherwise (ap (λ (s : List ℕ). followed readings r s slot out start) (sym same) ∙ heard)),
        )

    -- so of a file that had no block before, and any list with a record: no reader hears the same as before, and the image is another
    unheard : (r : Reader) → Reads plain r → data_end_of label ≡ start_of label → (out ls : List ℕ) (k : ℕ) → (ls ≡ [] → ⊥) → length ls + 1 ≤ k
        → followed k r image slot out start ≡ map told (parted bodies ls) ++ (done ∷ []) → ⊥
    unfolding parted
    unheard r reads empty out [] k filled enough h = filled refl
    unheard r reads empty out (x ∷ xs) zero filled enough h = absurd (omega arith)
    unheard r reads empty out (x ∷ xs) (suc k) filled enough h =
        no_record_heard image g slot accepted empty plain k out (take x bodies) _ (sym (followed_is plain r reads (suc k) image slot out start) ∙ h)

    pub no_storing_nothing_first : data_end_of label ≡ start_of label → (lengths ≡ [] → ⊥)
        → (r : Reader) → Reads plain r → (readings : ℕ) (out : List ℕ) → RoomFor (length out) lengths → length lengths + 1 ≤ readings
        → (followed readings r after slot out start ≡ followed readings r image slot out start → ⊥) × (after ≡ image → ⊥)
    no_storing_nothing_first empty filled r reads readings out room enough =
        no_storing_nothing r reads readings out room enough (unheard r reads empty out lengths readings filled enough)

-- ======== WHAT HAS TO BE REJECTED
-- "These programs have to be rejected: one refusing everything ..; a write that reports success and stores nothing (read-back)". Of a small volume with an
-- empty file (`demo`, in Instances) and the list `PARTS`, `LOG`, any function that meets the contract answers one block, and whoever reads the file afterwards
-- hears both records:
pub writer_answers : (w : Writer) → Writes w → (w (give demo 1 demo_bodies demo_lengths)).answer ≡ Ok 1
writer_answers w meets = (meets (give demo 1 demo_bodies demo_lengths)).0 ∙ demo_accepted.3

pub writer_heard : (w : Writer) → Writes w → (r : Reader) → Reads plain r
    → followed 3 r (w (give demo 1 demo_bodies demo_lengths)).after 1 (replicate 5 255) start ≡ told (bytes "PARTS") ∷ told (bytes "LOG") ∷ done ∷ []
writer_heard w meets r reads =
    ap (λ (s : List ℕ). followed 3 r s 1 (replicate 5 255) start) (meets (give demo 1 demo_bodies demo_lengths)).1
    ∙ followed_is plain r reads 3 (image_after demo 1 demo_bodies demo_lengths) 1 (replicate 5 255) start
    ∙ demo_heard

-- the file of `demo` has no block yet: its data end is its start
demo_empty : data_end_of (label_at demo_volume demo 1) ≡ start_of (label_at demo_volume demo 1)
unfolding k_at body_size kind_offset body_offset slot_ordinal label_offset label_at is_digit digit_value address_in
demo_empty = refl

module _ (w : Writer) (meets : Writes w) where
  -- one that refuses everything: it would refuse this write
  pub no_refusing_writes : (x : Refusal) → (w (give demo 1 demo_bodies demo_lengths)).answer ≡ Err x → ⊥
  no_refusing_writes x h = let e = sym (writer_answers w meets) ∙ h in never (cc)

  -- one that stores nothing: every reader would hear what it heard before, and the image would be the one before
  stored_something : (r : Reader) → Reads plain r
      → (followed 3 r (w (give demo 1 demo_bodies demo_lengths)).after 1 (replicate 5 255) start ≡ followed 3 r demo 1 (replicate 5 255) start → ⊥)
      × ((w (give demo 1 demo_bodies demo_lengths)).after ≡ demo → ⊥)
  stored_something r reads =
      no_storing_nothing_first w meets demo demo_volume 1 demo_bodies demo_lengths 1 demo_accepted.1 (writer_answers w meets) demo_empty (λ e. never (cc)) r reads
      3 (replicate 5 255) (omega arith, (omega arith, tt)) (omega arith)

  pub no_sounding_as_before : (r : Reader) → Reads plain r
      → followed 3 r (w (give demo 1 demo_bodies demo_lengths)).after 1 (replicate 5 255) start ≡ followed 3 r demo 1 (replicate 5 255) start → ⊥
  no_sounding_as_before r reads = (stored_something r reads).0

  pub no_keeping_the_image : (w (give demo 1 demo_bodies demo_lengths)).after ≡ demo → ⊥
  no_keeping_the_image = (stored_something (as_defined plain) (answered (contract (read plain)))).1

  -- or one that stores no record, or only the first, as a reader hears it
  pub no_losing_all : (r : Reader) → Reads plain r → followed 3 r (w (give demo 1 demo_bodies demo_lengths)).after 1 (replicate 5 255) start ≡ done ∷ [] → ⊥
  no_losing_all r reads h = let e = sym (writer_heard w meets r reads) ∙ h in never (cc)

  pub no_losing_the_rest : (r : Reader) → Reads plain r → (body : List ℕ)
      → followed 3 r (w (give demo 1 demo_bodies demo_lengths)).after 1 (replicate 5 255) start ≡ told body ∷ done ∷ [] → ⊥
  no_losing_the_rest r reads body h = let e = sym (writer_heard w meets r reads) ∙ h in never (cc)
