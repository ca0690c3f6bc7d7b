-- What an accepted write says: the rules it passed, the records it takes, the image it leaves.
-- Assumes nothing.
use Rattle.std.specs.Prelude.{ℕ, ◌≤◌, ◌*◌, ◌≡◌, true, not, false, List, length, take, ltb, eqb, Ok}
use Rattle.std.proofs.Common.{ap, ltb-false, eqb-true}
use Rattle.std.proofs.lemmas.Bool.{not-false}
use Rattle.standard.specs.Characters.{at, is_space}
use Rattle.standard.specs.Layout.{label_at, slot_count}
use Rattle.standard.specs.Labels.{known_level}
use Rattle.standard.specs.Slots.{has_label}
use Rattle.standard.specs.Judgement.{judged}
use Rattle.standard.specs.Files.{refusal17, blocks_held, good_records, records_to_block, is_defective, extent}
use Rattle.standard.specs.Writing.{total, lengths_from, needed, packing, write_refusal, image_with, outcome, store_blocks, image_after, Outcome}
use Rattle.standard.specs.declared.Geometry.{Geometry}
use Rattle.standard.specs.declared.Address.{Address}
use Rattle.promises.specs.Ground.Lists.{Every, every_take}
use Rattle.promises.specs.Images.AddressLaws.{Legal}
use Rattle.promises.specs.Images.Tiling.{lengths}
use Rattle.promises.specs.Volumes.Judging.{order_each, not_given}
use Rattle.promises.specs.Volumes.AcceptedLaws.{image_length_lem, has_slot, InRange, label_in_range}
use Rattle.promises.specs.Extents.ExtentAddresses.{good_sound, good_legal}
use Rattle.promises.proofs.Writing.Storing.{WholeImage, blocks_length}

pub record Passing (g : Geometry) (image : List ℕ) (slot : ℕ) (bodies lengths : List ℕ) : Type 0 where
  pub labelled : has_label g image slot ≡ true
  pub known : known_level (label_at g image slot) ≡ true
  pub plain42 : is_space (at (label_at g image slot) 42) ≡ true
  pub plain45 : is_space (at (label_at g image slot) 45) ≡ true
  pub right : refusal17 g image (label_at g image slot) ≡ Ok tt
  pub sum : total lengths ≡ length bodies
  pub fits : lengths_from (label_at g image slot) 0 lengths ≡ Ok tt
  pub held : needed (label_at g image slot) bodies lengths ≤ blocks_held g image (label_at g image slot)

pub passing : (g : Geometry) (image : List ℕ) (slot : ℕ) (bodies lengths : List ℕ) → write_refusal g image slot bodies lengths ≡ Ok tt
    → Passing g image slot bodies lengths
unfolding write_refusal
passing g image slot bodies lengths p =
    let h = label_at g image slot in
    let (r13, (r14, (r15, (r16, (r24, (r17, (r25, (r26, (r27, _))))))))) = order_each _ p in
    record {
      labelled = not-false _ (not_given (not (has_label g image slot)) _ r13);
      known = not-false _ (not_given (not (known_level h)) _ r14);
      plain42 = not-false _ (not_given (not (is_space (at h 42))) _ r15);
      plain45 = not-false _ (not_given (not (is_space (at h 45))) _ r16);
      right = r17;
      sum = eqb-true (total lengths) (length bodies) (not-false _ (not_given (not (eqb (total lengths) (length bodies))) _ r25));
      fits = r26;
      held = ltb-false (blocks_held g image h) (needed h bodies lengths) (not_given (ltb (blocks_held g image h) (needed h bodies lengths)) _ r27);
    }

-- THE IMAGE AFTER AN ACCEPTED WRITE, and its answer
pub outcome_is : (image : List ℕ) (g : Geometry) (slot : ℕ) (bodies lengths : List ℕ) → judged image ≡ Ok g → write_refusal g image slot bodies lengths ≡ Ok tt
    → outcome image slot bodies lengths
    ≡ record {
      answer = Ok (needed (label_at g image slot) bodies lengths);
      image = image_with g image slot (packing (label_at g image slot) bodies lengths);
    }
unfolding outcome
outcome_is image g slot bodies lengths j w = rw (j, w)

-- the good records that so many blocks take
abbrev pub taken_by : Geometry → List ℕ → List ℕ → ℕ → List Address
taken_by g image h blocks = take (blocks * records_to_block g h) (good_records g image h)

module _ (image : List ℕ) (g : Geometry) (slot : ℕ) (bodies lengths : List ℕ) (j : judged image ≡ Ok g)
    (w : write_refusal g image slot bodies lengths ≡ Ok tt) where
  abbrev pub label : List ℕ
  label = label_at g image slot

  abbrev pub blocks : ℕ
  blocks = needed label bodies lengths

  abbrev pub stored : List ℕ
  stored = store_blocks g (records_to_block g label) (packing label bodies lengths).contents (good_records g image label) image

  pub label_range : InRange g label
  label_range = label_in_range image g slot j (passing g image slot bodies lengths w).labelled

  pub slot_inside : slot ≤ slot_count g
  slot_inside = (has_slot g image slot (passing g image slot bodies lengths w).labelled).1

  pub taken_legal : Every (Legal g) (taken_by g image label blocks)
  taken_legal =
      every_take (Legal g) (blocks * records_to_block g label) (good_records g image label)
      (good_legal g label label_range image)

  pub taken_good : Every (λ a. is_defective g image a ≡ false) (taken_by g image label blocks)
  unfolding good_records
  taken_good = every_take (λ a. is_defective g image a ≡ false) (blocks * records_to_block g label) (good_records g image label) (good_sound g image (extent g label))

  pub stored_whole : WholeImage g stored
  stored_whole = blocks_length g image (image_length_lem image g j) (records_to_block g label) (packing label bodies lengths).contents (good_records g image label) taken_legal

  pub after_is : image_after image slot bodies lengths ≡ image_with g image slot (packing label bodies lengths)
  after_is = ap (λ (o : Outcome). o.image) (outcome_is image g slot bodies lengths j w)
