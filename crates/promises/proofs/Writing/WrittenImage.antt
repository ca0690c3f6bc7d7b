-- The image after an accepted write: its sectors and its labels beside those of the image before.
-- Assumes nothing.
use Rattle.std.specs.Prelude.{ℕ, ◌+◌, ◌<◌, ◌≤◌, ◌≡◌, true, take, drop, Ok}
use Rattle.std.proofs.Math.Path.{ap, sym}
use Rattle.std.proofs.Common.{subst, ◌∙◌, length-take, length-drop, get_or-take, get_or-drop, arith}
use Rattle.std.proofs.Math.Logic.{inl, inr}
use mathlib.Core.List.{List}
use Rattle.std.proofs.Math.ListN.{get_or, get_or-eq_default}
use Rattle.standard.specs.Characters.{field}
use Rattle.standard.specs.Layout.{index_sectors, kind_at, slot_count, slot_ordinal, label_offset, label_at}
use Rattle.standard.specs.Addresses.{ordinal, five_bytes}
use Rattle.standard.specs.Judgement.{judged, legal_kind}
use Rattle.standard.specs.Files.{good_records, records_to_block}
use Rattle.standard.specs.Writing.{needed, packing, write_refusal, data_end_after, image_with, unused_field}
use Rattle.standard.specs.declared.Geometry.{Geometry}
use Rattle.standard.specs.declared.Address.{Address}
use Rattle.promises.specs.Ground.Basics.{either, lt_or_le, eq_or_not}
use Rattle.promises.specs.Ground.Lists.{Every, every_map}
use Rattle.promises.specs.Ground.Splices.{Outside, part_part}
use Rattle.promises.specs.Images.AddressLaws.{Legal, ordinal_ge}
use Rattle.promises.specs.Images.Sectors.{sector_at}
use Rattle.promises.specs.Images.SectorLaws.{kind_legal, same_kind, same_legal_kind}
use Rattle.promises.specs.Volumes.AcceptedLaws.{image_length_lem}
use Rattle.promises.specs.Volumes.VolumeNumbers.{Numbers, numbers_of_lem, slot_in_index}
use Rattle.promises.specs.Volumes.IndexLaws.{same_label}
use Rattle.promises.proofs.Writing.Storing.{WholeImage, NotOf, blocks_other, blocks_legal}
use Rattle.promises.proofs.Writing.SettingLabel.{set_length, set_outside, set_end, set_unused, set_other, set_kind}
use Rattle.promises.proofs.Writing.AcceptedWrite.{taken_by, stored, slot_inside, taken_legal, stored_whole}
use Rattle.promises.specs.Writing.AlikeLabels.{Alike}

-- the bytes of a label
label_byte : (g : Geometry) (t : List ℕ) (slot i : ℕ) → i < 128 → get_or (label_at g t slot) i 0 ≡ get_or t (label_offset g slot + i) 0
unfolding label_at
label_byte g t slot i l = get_or-take 128 (drop (label_offset g slot) t) i 0 l ∙ get_or-drop (label_offset g slot) t i 0

label_beyond : (g : Geometry) (t : List ℕ) (slot i : ℕ) → 128 ≤ i → get_or (label_at g t slot) i 0 ≡ 0
unfolding label_at
label_beyond g t slot i l =
    get_or-eq_default (take 128 (drop (label_offset g slot) t)) 0 (omega (arith, length-take 128 (drop (label_offset g slot) t)))

module _ (image : List ℕ) (g : Geometry) (slot : ℕ) (bodies lengths : List ℕ) (j : judged image ≡ Ok g)
    (w : write_refusal g image slot bodies lengths ≡ Ok tt) where
  abbrev old : List ℕ
  old = label_at g image slot

  abbrev pub unused : ℕ
  unused = (packing (label_at g image slot) bodies lengths).U

  abbrev pub data_end : Address
  data_end = data_end_after g image (label_at g image slot) (needed (label_at g image slot) bodies lengths)

  abbrev pub result : List ℕ
  result = image_with g image slot (packing (label_at g image slot) bodies lengths)

  abbrev st : List ℕ
  st = stored image g slot bodies lengths j w

  ns : Numbers g
  ns = numbers_of_lem image g j

  inside : slot ≤ slot_count g
  inside = slot_inside image g slot bodies lengths j w

  pub result_whole : WholeImage g result
  unfolding image_with
  result_whole =
      set_length g ns slot inside unused data_end st (stored_whole image g slot bodies lengths j w)
      ∙ stored_whole image g slot bodies lengths j w

  -- every sector that is not taken and not this label's
  stored_sector : (n : ℕ) → Every (NotOf g n) (taken_by g image old (needed old bodies lengths)) → sector_at g image n ≡ sector_at g st n
  stored_sector n h =
      blocks_other g image (image_length_lem image g j) n (records_to_block g old) (packing old bodies lengths).contents (good_records g image old) h

  pub result_sector : (n : ℕ) → Every (NotOf g n) (taken_by g image old (needed old bodies lengths)) → (n ≡ slot_ordinal slot → ⊥)
      → sector_at g image n ≡ sector_at g result n
  unfolding image_with
  result_sector n h ne = stored_sector n h ∙ set_other g ns slot inside unused data_end st (stored_whole image g slot bodies lengths j w) n ne

  index_untaken : (n : ℕ) → n < index_sectors g → Every (NotOf g n) (taken_by g image old (needed old bodies lengths))
  index_untaken n l =
      every_map (Legal g) (NotOf g n) (λ a h. (h, λ (e : n ≡ ordinal g a). omega (arith, ordinal_ge g a h)))
      (taken_by g image old (needed old bodies lengths)) (taken_legal image g slot bodies lengths j w)

  pub result_index : (n : ℕ) → n < index_sectors g → (n ≡ slot_ordinal slot → ⊥) → sector_at g image n ≡ sector_at g result n
  result_index n l ne = result_sector n (index_untaken n l) ne

  -- this label's sector, but for two fields
  pub stored_slot : sector_at g image (slot_ordinal slot) ≡ sector_at g st (slot_ordinal slot)
  stored_slot = stored_sector (slot_ordinal slot) (index_untaken (slot_ordinal slot) (slot_in_index g slot ns inside))

  result_byte : (i : ℕ) → i < 128 → Outside i 57 5 → Outside i 74 5 → get_or (label_at g result slot) i 0 ≡ get_or (label_at g image slot) i 0
  unfolding image_with
  result_byte i l a b =
      label_byte g result slot i l
      ∙ set_outside g ns slot inside unused data_end st (stored_whole image g slot bodies lengths j w) (label_offset g slot + i) (shift 57 a) (shift 74 b)
      ∙ sym (label_byte g st slot i l)
      ∙ ap (λ (h : List ℕ). get_or h i 0) (sym (same_label g image st ns slot inside stored_slot))
    where
      shift : (p : ℕ) → Outside i p 5 → Outside (label_offset g slot + i) (label_offset g slot + p) 5
      shift p (inl x) = inl (omega arith)
      shift p (inr x) = inr (omega arith)

  pub result_kind : kind_at g image (slot_ordinal slot) ≡ kind_at g result (slot_ordinal slot)
  unfolding image_with
  result_kind =
      same_kind g image st (slot_ordinal slot) stored_slot
      ∙ set_kind g ns slot inside unused data_end st (stored_whole image g slot bodies lengths j w)

  -- THE LABEL AFTERWARDS
  pub result_label : Alike (label_at g image slot) (label_at g result slot)
  result_label =
      record {
        size = unfold label_at in simp (length-take, length-drop) (omega (arith, result_whole, image_length_lem image g j));
        outside = λ i a b.
            either (lt_or_le i 128)
            (λ (l : i < 128). result_byte i l a b)
            (λ (l : 128 ≤ i). label_beyond g result slot i l ∙ sym (label_beyond g image slot i l));
      }

  pub result_unused : field (label_at g result slot) 58 62 ≡ unused_field unused
  unfolding image_with label_at
  result_unused =
      part_part result (label_offset g slot) 57 5 128 (omega arith)
      ∙ set_unused g ns slot inside unused data_end st (stored_whole image g slot bodies lengths j w)

  pub result_end : field (label_at g result slot) 75 79 ≡ five_bytes data_end
  unfolding image_with label_at
  result_end =
      part_part result (label_offset g slot) 74 5 128 (omega arith)
      ∙ set_end g ns slot inside unused data_end st (stored_whole image g slot bodies lengths j w)

  -- every kind stays legal
  pub result_legal : (n : ℕ) → legal_kind g image n ≡ true → legal_kind g result n ≡ true
  unfolding image_with
  result_legal n h =
      let b = blocks_legal g n (records_to_block g old) (packing old bodies lengths).contents (good_records g image old) image
      (taken_legal image g slot bodies lengths j w) (image_length_lem image g j) h in
      either (eq_or_not n (slot_ordinal slot))
      (λ (e : n ≡ slot_ordinal slot).
      sym (kind_legal g st result n (subst (λ (k : ℕ). kind_at g st k ≡ kind_at g result k) (sym e)
      (set_kind g ns slot inside unused data_end st (stored_whole image g slot bodies lengths j w)))) ∙ b)
      (λ (ne : n ≡ slot_ordinal slot → ⊥).
      sym (same_legal_kind g st result n (set_other g ns slot inside unused data_end st (stored_whole image g slot bodies lengths j w) n ne)) ∙ b)
