-- Two accepted images that are equal but for the bodies of check-failed sectors, and for positions that are not judged: the same labels, the same files; every
-- question is answered alike.
-- Assumes nothing.
use Prim.Native.Nat.{ℕ, zero, suc, ◌+◌, ◌≤◌}
use Rattle.std.specs.Prelude.{◌≡◌, false, List, length, Result, Ok, Err}
use Rattle.std.proofs.Math.Path.{refl}
use Rattle.std.proofs.Common.{sym, subst, ◌∙◌}
use native.Mathlib.Omega.{arith}
use Rattle.standard.specs.Layout.{check_failed, slot_count, slot_ordinal, label_at}
use Rattle.standard.specs.Addresses.{ordinal, address_count}
use Rattle.standard.specs.Slots.{is_unreadable, slot_refusal}
use Rattle.standard.specs.Judgement.{judged}
use Rattle.standard.specs.Finding.{found, found_at, label_named, label_in_slot}
use Rattle.standard.specs.Free.{free_count}
use Rattle.standard.specs.Files.{extent, counted}
use Rattle.standard.specs.Records.{Mode}
use Rattle.standard.specs.Reading.{reply}
use Rattle.standard.specs.Listing.{volume_line, known_line, label_line, lines_from, listing}
use Rattle.standard.specs.declared.Geometry.{Geometry}
use Rattle.standard.specs.declared.Place.{Place}
use Rattle.standard.specs.declared.Refusal.{Refusal}
use Rattle.promises.specs.Ground.Basics.{or_l}
use Rattle.promises.specs.Ground.Lists.{every_map}
use Rattle.promises.specs.Images.AddressLaws.{Legal, ordinal_ge}
use Rattle.promises.specs.Images.Sectors.{sector_at}
use Rattle.promises.proofs.Images.Alike.{Loose, NoneJudged, SameOrFailed, SameOrLoose, or_failed, FrontAlike, SectorsKnown, EqualBut, unfailed_same}
use Rattle.promises.specs.Volumes.Judging.{accepted, order_all, order_each, not_given, slots_each}
use Rattle.promises.specs.Volumes.AcceptedLaws.{has_slot, label_in_range}
use Rattle.promises.specs.Volumes.VolumeNumbers.{Numbers, numbers_of_lem, index_sectors_lem}
use Rattle.promises.specs.Volumes.IndexLaws.{SameViews, same_label, same_view, same_has_label}
use Rattle.promises.specs.Volumes.IndexReads.{free_same, views_found, views_found_at, views_free, labels_named, labels_in}
use Rattle.promises.specs.Extents.ExtentAddresses.{extent_legal}
use Rattle.promises.proofs.Extents.ExtentReads.{AlikeRecord}
use Rattle.promises.proofs.Locality.{SameFile, count_in_same, counted_same, reply_same}
use Rattle.promises.proofs.Unseen.JudgedAlike.{judged_alike, all_alike, name_alike}

-- what `EqualBut` is of an accepted image, whose sectors are known
pub record AlikeOn (loose : Loose) (g : Geometry) (image image' : List ℕ) : Type 0 where
  pub same_length : length image ≡ length image'
  pub front : (sector : ℕ) → 1 ≤ sector → sector ≤ 7 → FrontAlike loose image image' sector
  pub sectors : (n : ℕ) → 7 ≤ n → SameOrLoose loose g image image' n

pub known_sectors : (image : List ℕ) (g : Geometry) → judged image ≡ Ok g → SectorsKnown image
known_sectors image g j =
    let a = accepted image g j in
    order_all _ (a.long, (a.readable, (a.vol1, (a.open_access, (rw a.numbers a.size, tt)))))

pub alike_on : (loose : Loose) → NoneJudged loose → (image image' : List ℕ) (g : Geometry) → judged image ≡ Ok g → EqualBut loose image image'
    → AlikeOn loose g image image'
alike_on loose u image image' g j e =
    let all = all_alike loose u image image' e (known_sectors image g j) in
    record {
      same_length = e.same_length;
      front = e.front;
      sectors = subst (λ (x : Geometry). (n : ℕ) → 7 ≤ n → SameOrLoose loose x image image' n) (accepted image g j).numbers all;
    }

module _ (loose : Loose) (u : NoneJudged loose) (image image' : List ℕ) (g : Geometry) (j : judged image ≡ Ok g) (e : EqualBut loose image image') where
  ns : Numbers g
  ns = numbers_of_lem image g j

  pub also_accepted : judged image' ≡ Ok g
  also_accepted = sym (judged_alike loose u image image' e) ∙ j

  abbrev alike : AlikeOn loose g image image'
  alike = alike_on loose u image image' g j e

  sector_alike : (n : ℕ) → 7 ≤ n → SameOrFailed g image image' n
  sector_alike n behind = or_failed loose g image image' n (alike.sectors n behind)

  -- no slot of an accepted volume is check-failed
  pub slot_unfailed : (slot : ℕ) → 1 ≤ slot → slot ≤ slot_count g → check_failed g image (slot_ordinal slot) ≡ false
  unfolding slot_refusal is_unreadable
  slot_unfailed slot low l =
      let (r8, _) = order_each _ (slots_each g image (accepted image g j).slots slot low l) in
      or_l (check_failed g image (slot_ordinal slot)) _ (not_given (is_unreadable g image slot) _ r8)

  -- THE LABELS
  pub slot_same : (slot : ℕ) → 1 ≤ slot → slot ≤ slot_count g → sector_at g image (slot_ordinal slot) ≡ sector_at g image' (slot_ordinal slot)
  unfolding slot_ordinal
  slot_same slot low l = unfailed_same g image image' (slot_ordinal slot) (sector_alike (slot_ordinal slot) (omega arith)) (slot_unfailed slot low l)

  pub label_same : (slot : ℕ) → 1 ≤ slot → slot ≤ slot_count g → label_at g image slot ≡ label_at g image' slot
  label_same slot low l = same_label g image image' ns slot l (slot_same slot low l)

  pub views : SameViews g image image'
  views slot low l = same_view g image image' ns slot l (slot_same slot low l)

  -- THE FILES
  pub file_alike : (slot : ℕ) → SameFile g image image' slot
  file_alike slot =
      record {
        has = same_has_label g image image' views slot;
        label = λ h. label_same slot (has_slot g image slot h).0 (has_slot g image slot h).1;
        sectors = λ h.
            every_map (Legal g) (AlikeRecord g image image')
            (λ a l. sector_alike (ordinal g a) (omega (arith, ordinal_ge g a l, index_sectors_lem g ns)))
            (extent g (label_at g image slot)) (extent_legal g (label_at g image slot) (label_in_range image g slot j h));
      }

  -- THE LISTING
  line_alike : (slot : ℕ) (h : List ℕ) → label_line g image slot h ≡ label_line g image' slot h
  unfolding label_line known_line
  line_alike slot h = rw (count_in_same g image image' slot ns.size_low (file_alike slot))

  lines_alike : (left slot : ℕ) → 1 ≤ slot → slot + left ≤ slot_count g + 1 → lines_from g image left slot ≡ lines_from g image' left slot
  unfolding lines_from
  lines_alike zero slot low l = refl
  lines_alike (suc left) slot low l =
      let i : slot ≤ slot_count g = omega arith in
      rw (
        (views slot low i).is_label_lem,
        line_alike slot (label_at g image slot),
        label_same slot low i,
        lines_alike left (slot + 1) (omega arith) (omega arith),
      )

  volume_line_alike : volume_line g image ≡ volume_line g image'
  unfolding volume_line
  volume_line_alike = rw (name_alike loose u image image' e (accepted image g j).readable, free_same g image image' views (address_count g) 0)

-- ---- ANY TWO IMAGES: refused alike, or accepted and answered alike
module _ (loose : Loose) (u : NoneJudged loose) (image image' : List ℕ) (e : EqualBut loose image image') where
  pub by_judgement : {C : Type 0} → ((r : Refusal) → judged image ≡ Err r → judged image' ≡ Err r → C)
      → ((g : Geometry) → judged image ≡ Ok g → judged image' ≡ Ok g → C) → C
  by_judgement {C = C} refused on = go (judged image) refl
    where
      go : (v : Result Geometry Refusal) → judged image ≡ v → C
      go (Err r) j = refused r j (sym (judged_alike loose u image image' e) ∙ j)
      go (Ok g) j = on g j (also_accepted loose u image image' g j e)

  pub found_alike : (name : List ℕ) → found image name ≡ found image' name
  unfolding found
  found_alike name =
      by_judgement
      (λ r (j : judged image ≡ Err r) (j' : judged image' ≡ Err r). rw (j, j'))
      (λ g j j'. views_found g image image' (views loose u image image' g j e) j j' name)

  pub found_at_alike : (slot : ℕ) → found_at image slot ≡ found_at image' slot
  unfolding found_at
  found_at_alike slot =
      by_judgement
      (λ r (j : judged image ≡ Err r) (j' : judged image' ≡ Err r). rw (j, j'))
      (λ g j j'. views_found_at g image image' (views loose u image image' g j e) j j' slot)

  pub label_named_alike : (name : List ℕ) → label_named image name ≡ label_named image' name
  unfolding label_named
  label_named_alike name =
      by_judgement
      (λ r (j : judged image ≡ Err r) (j' : judged image' ≡ Err r). rw (j, j'))
      (λ g j j'. labels_named g image image' (views loose u image image' g j e) (label_same loose u image image' g j e) j j' name)

  pub label_in_alike : (slot : ℕ) → label_in_slot image slot ≡ label_in_slot image' slot
  unfolding label_in_slot
  label_in_alike slot =
      by_judgement
      (λ r (j : judged image ≡ Err r) (j' : judged image' ≡ Err r). rw (j, j'))
      (λ g j j'. labels_in g image image' (views loose u image image' g j e) (label_same loose u image image' g j e) j j' slot)

  pub free_alike : free_count image ≡ free_count image'
  unfolding free_count
  free_alike =
      by_judgement
      (λ r (j : judged image ≡ Err r) (j' : judged image' ≡ Err r). rw (j, j'))
      (λ g j j'. views_free g image image' (views loose u image image' g j e) j j')

  pub counted_alike : (slot : ℕ) → counted image slot ≡ counted image' slot
  unfolding counted
  counted_alike slot =
      by_judgement
      (λ r (j : judged image ≡ Err r) (j' : judged image' ≡ Err r). rw (j, j'))
      (λ g j j'. counted_same g image image' slot (numbers_of_lem image g j).size_low (file_alike loose u image image' g j e slot) j j')

  -- both modes, every place, every size of the output: the answer, and the body that stands in the output
  pub reply_alike : (m : Mode) (slot : ℕ) (pl : Place) (room : ℕ) → reply m image slot pl room ≡ reply m image' slot pl room
  unfolding reply
  reply_alike m slot pl room =
      by_judgement
      (λ r (j : judged image ≡ Err r) (j' : judged image' ≡ Err r). rw (j, j'))
      (λ g j j'. reply_same g image image' slot (numbers_of_lem image g j).size_low (file_alike loose u image image' g j e slot) j j' m pl room)

  pub listing_alike : listing image ≡ listing image'
  unfolding listing
  listing_alike =
      by_judgement
      (λ r (j : judged image ≡ Err r) (j' : judged image' ≡ Err r). rw (e.same_length, j, j'))
      (λ g (j : judged image ≡ Ok g) (j' : judged image' ≡ Ok g).
      rw (e.same_length, j, j', volume_line_alike loose u image image' g j e, lines_alike loose u image image' g j e (slot_count g) 1 (omega arith) (omega arith)))
