-- WRITING, as promised: the theorems on a write in one place.
-- Assumes nothing.
use Rattle.std.specs.Prelude.{◌<◌, ℕ, ◌+◌, ◌≤◌, ◌≡◌, refl, length, drop, Ok}
use Rattle.std.proofs.Common.{subst, sym, ◌∙◌, length-drop, take-append-drop, length-take-le, arith}
use Rattle.std.proofs.Math.Path.{ap}
use mathlib.Core.List.{List, [], ◌∷◌, map, flatten}
use Rattle.std.proofs.Math.ListN.{get_or}
use Rattle.standard.specs.Files.{good_records, records_to_block, block_count, count_refusal, counted, open_refusal, file_in, file_at}
use Rattle.standard.specs.Writing.{image_with, total, parted, needed, packing, write_refusal, unused_field, data_end_after, Outcome, written, image_after}
use Rattle.standard.specs.Characters.{field}
use Rattle.standard.specs.Layout.{kind_offset, slot_count, label_offset, label_at}
use Rattle.standard.specs.Addresses.{ordinal, five_bytes}
use Rattle.standard.specs.Labels.{params_of}
use Rattle.standard.specs.Judgement.{judged}
use Rattle.standard.specs.Finding.{found, found_at}
use Rattle.standard.specs.Free.{free_count}
use Rattle.standard.specs.Records.{Mode, plain, salvage}
use Rattle.standard.specs.Listed.{read_all}
use Rattle.standard.specs.Packing.{Packing, file_of}
use Rattle.standard.specs.Reading.{reply}
use Rattle.standard.specs.declared.Geometry.{Geometry}
use Rattle.standard.specs.declared.Place.{Place}
use Rattle.promises.specs.Ground.Lists.{Every, every_both}
use Rattle.promises.specs.Ground.Splices.{Outside}
use Rattle.promises.specs.Images.AddressLaws.{Legal}
use Rattle.promises.specs.Images.Tiling.{lengths}
use Rattle.promises.specs.Volumes.Judging.{order_each, order_all, judged_from}
use Rattle.promises.specs.Volumes.AcceptedLaws.{image_length_lem}
use Rattle.promises.specs.Volumes.VolumeNumbers.{numbers_of_lem}
use Rattle.promises.specs.Volumes.IndexLaws.{SameViews, same_label}
use Rattle.promises.specs.Volumes.IndexReads.{views_found, views_found_at, views_free}
use Rattle.promises.proofs.Locality.{SameFile, write_same, reply_same, counted_same}
use Rattle.promises.specs.Volumes.VolumePromises.{file_at_lem}
use Rattle.promises.specs.Reading.ReadingLaws.{Reads}
use Rattle.promises.specs.Salvage.NoneLost.{salvage_alike}
use Rattle.promises.proofs.Writing.Storing.{blocks_outside}
use Rattle.promises.proofs.Writing.SettingLabel.{set_outside}
use Rattle.promises.proofs.Writing.AcceptedWrite.{passing, outcome_is, taken_by, stored, slot_inside, taken_legal, stored_whole, after_is}
use Rattle.promises.proofs.Writing.WrittenImage.{result, result_whole, result_unused, result_end}
use Rattle.promises.proofs.Writing.WrittenLabel.{packing_right}
use Rattle.promises.proofs.Writing.AcceptedAgain.{other_sector, views, again}
use Rattle.promises.proofs.Writing.ReadBack.{count_back, opens_back, file_back, packed_same, written_again}
use Rattle.promises.proofs.Writing.OtherFiles.{other_same}

-- "Writing takes all record bodies joined, and their lengths." What is parted is the bodies, each of its length.
abbrev pub joined : List (List ℕ) → List ℕ
joined xs = flatten xs

pub parted_lengths : (lengths bodies : List ℕ) → total lengths ≡ length bodies → map length (parted bodies lengths) ≡ lengths
unfolding total parted
parted_lengths [] bodies e = refl
parted_lengths (n ∷ lengths) bodies e =
    rw (length-take-le n bodies (omega arith), parted_lengths lengths (drop n bodies) (omega (arith, length-drop n bodies)))

pub parted_joined : (lengths bodies : List ℕ) → total lengths ≡ length bodies → joined (parted bodies lengths) ≡ bodies
unfolding flatten total parted
parted_joined [] [] e = refl
parted_joined [] (x ∷ bodies) e = absurd (omega (arith, e))
parted_joined (n ∷ lengths) bodies e =
    rw (parted_joined lengths (drop n bodies) (omega (arith, length-drop n bodies))) (take-append-drop n bodies)

-- a file that opens is counted
open_counts : (g : Geometry) (s : List ℕ) (slot : ℕ) → open_refusal g s slot ≡ Ok tt → count_refusal g s slot ≡ Ok tt
unfolding open_refusal count_refusal
open_counts g s slot h =
    let (r13, (r14, (r15, (r16, (r17, (r18, _)))))) = order_each _ h in
    order_all _ (r13, (r14, (r17, (r18, tt))))

-- AN ACCEPTED WRITE. (A refused one: Refusing.)
module _ (image : List ℕ) (g : Geometry) (slot : ℕ) (bodies lengths : List ℕ) (j : judged image ≡ Ok g)
    (w : write_refusal g image slot bodies lengths ≡ Ok tt) where
  abbrev label : List ℕ
  label = label_at g image slot

  abbrev blocks : ℕ
  blocks = needed label bodies lengths

  abbrev after : List ℕ
  after = image_after image slot bodies lengths

  abbrev t : List ℕ
  t = result image g slot bodies lengths j w

  after_t : after ≡ t
  after_t = after_is image g slot bodies lengths j w

  pub answers : written image slot bodies lengths ≡ Ok blocks
  answers = ap (λ (o : Outcome). o.answer) (outcome_is image g slot bodies lengths j w)

  -- 1. THE FRAME
  pub length_stays : length after ≡ length image
  length_stays = ap length after_t ∙ result_whole image g slot bodies lengths j w ∙ sym (image_length_lem image g j)

  pub bytes_stay : (i : ℕ) → Every (λ a. Outside i (kind_offset g (ordinal g a)) (g.P + 1)) (taken_by g image label blocks)
      → Outside i (label_offset g slot + 57) 5 → Outside i (label_offset g slot + 74) 5 → get_or after i 0 ≡ get_or image i 0
  unfolding image_with
  bytes_stay i h a b =
      ap (λ (s : List ℕ). get_or s i 0) after_t
      ∙ (set_outside g (numbers_of_lem image g j) slot (slot_inside image g slot bodies lengths j w) (packing label bodies lengths).U (data_end_after g image label blocks) (stored image g slot bodies lengths j w)
      (stored_whole image g slot bodies lengths j w) i a b
      ∙ blocks_outside g (records_to_block g label) (packing label bodies lengths).contents (good_records g image label) image (image_length_lem image g j) i
      (every_both (Legal g) (λ x. Outside i (kind_offset g (ordinal g x)) (g.P + 1)) (taken_by g image label blocks) (taken_legal image g slot bodies lengths j w) h))

  -- 2. ACCEPTED AGAIN
  pub accepted_still : judged after ≡ Ok g
  accepted_still = ap judged after_t ∙ judged_from t g (again image g slot bodies lengths j w)

  -- 3. THE TWO FIELDS OF THE LABEL, AND THE READ-BACK
  pub unused_set : field (label_at g after slot) 58 62 ≡ unused_field (packing label bodies lengths).U
  unused_set = ap (λ (s : List ℕ). field (label_at g s slot) 58 62) after_t ∙ result_unused image g slot bodies lengths j w

  pub end_set : field (label_at g after slot) 75 79 ≡ five_bytes (data_end_after g image label blocks)
  end_set = ap (λ (s : List ℕ). field (label_at g s slot) 75 79) after_t ∙ result_end image g slot bodies lengths j w

  pub opens : open_refusal g after slot ≡ Ok tt
  opens = ap (λ (s : List ℕ). open_refusal g s slot) after_t ∙ opens_back image g slot bodies lengths j w

  pub counts : counted after slot ≡ Ok blocks
  unfolding counted
  counts =
      let c : block_count g after (label_at g after slot) ≡ blocks =
      ap (λ (s : List ℕ). block_count g s (label_at g s slot)) after_t ∙ count_back image g slot bodies lengths j w in
      rw accepted_still (rw (open_counts g after slot opens, c))

  pub file_packed : file_at after slot ≡ file_of (params_of label) (packing label bodies lengths).contents
  file_packed =
      file_at_lem after g slot accepted_still ∙ ap (λ (s : List ℕ). file_in g s (label_at g s slot)) after_t ∙ file_back image g slot bodies lengths j w

  pub reads : Reads (read_all plain (file_at after slot)) (parted bodies lengths)
  unfolding packing
  reads = rw file_packed (packing_right image g slot bodies lengths j w).reads

  pub salvages : Reads (read_all salvage (file_at after slot)) (parted bodies lengths)
  salvages = rw (file_packed, salvage_alike) (rw file_packed at reads)

  pub records_are : (map length (parted bodies lengths) ≡ lengths) × (joined (parted bodies lengths) ≡ bodies)
  records_are =
      let e = (passing g image slot bodies lengths w).sum in
      (parted_lengths lengths bodies e, parted_joined lengths bodies e)

  -- 4. EVERY OTHER FILE
  room : 0 < g.P
  room = (numbers_of_lem image g j).size_low

  same_other : (other : ℕ) → (other ≡ slot → ⊥) → SameFile g image after other
  same_other other ne = subst (λ (s : List ℕ). SameFile g image s other) (sym after_t) (other_same image g slot bodies lengths j w other ne)

  same_views : SameViews g image after
  same_views = subst (λ (s : List ℕ). SameViews g image s) (sym after_t) (views image g slot bodies lengths j w)

  pub labels_stay : (other : ℕ) → (other ≡ slot → ⊥) → 1 ≤ other → other ≤ slot_count g → label_at g after other ≡ label_at g image other
  labels_stay other ne l m =
      ap (λ (s : List ℕ). label_at g s other) after_t
      ∙ sym (same_label g image t (numbers_of_lem image g j) other m (other_sector image g slot bodies lengths j w other m ne))

  pub readings_stay : (other : ℕ) → (other ≡ slot → ⊥) → (m : Mode) (pl : Place) (size : ℕ) → reply m after other pl size ≡ reply m image other pl size
  readings_stay other ne m pl size = sym (reply_same g image after other room (same_other other ne) j accepted_still m pl size)

  pub counts_stay : (other : ℕ) → (other ≡ slot → ⊥) → counted after other ≡ counted image other
  counts_stay other ne = sym (counted_same g image after other room (same_other other ne) j accepted_still)

  -- names, slots and free records
  pub names_stay : (name : List ℕ) → found after name ≡ found image name
  names_stay name = sym (views_found g image after same_views j accepted_still name)

  pub slots_stay : (s : ℕ) → found_at after s ≡ found_at image s
  slots_stay s = sym (views_found_at g image after same_views j accepted_still s)

  pub free_stays : free_count after ≡ free_count image
  free_stays = sym (views_free g image after same_views j accepted_still)

  -- 5. EVERY FURTHER WRITE: refused or not as before
  pub writing_again : (b l : List ℕ) → write_refusal g after slot b l ≡ write_refusal g image slot b l
  writing_again b l = ap (λ (s : List ℕ). write_refusal g s slot b l) after_t ∙ written_again image g slot bodies lengths j w b l

  -- and it needs as many blocks: the label says of B, R and the format what it said
  pub needing_again : (b l : List ℕ) → needed (label_at g after slot) b l ≡ needed label b l
  needing_again b l =
      ap (λ (s : List ℕ). needed (label_at g s slot) b l) after_t ∙ ap (λ (p : Packing). length p.contents) (packed_same image g slot bodies lengths j w b l)

  pub writing_stays : (other : ℕ) → (other ≡ slot → ⊥) → (b l : List ℕ) → write_refusal g after other b l ≡ write_refusal g image other b l
  writing_stays other ne b l = sym (write_same g image after other room (same_other other ne) b l)
