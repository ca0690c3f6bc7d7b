-- The plan carried out is the image afterwards.
-- Assumes nothing.
use Rattle.std.specs.Prelude.{Result, Ok, Err, ⊤}
use Prim.Native.Nat.{ℕ, ◌*◌, ◌<◌, ◌≤◌}
use mathlib.Core.Path.{◌≡◌, refl, sym, ap, subst, ◌∙◌}
use mathlib.Core.Bool.{true}
use mathlib.Core.List.{List, [], ◌∷◌}
use lib.ListN.{length}
use native.Mathlib.Omega.{arith}
use native.Mathlib.Nat.{mul-le-mul_right}
use Rattle.standard.specs.Layout.{label_at}
use Rattle.standard.specs.Labels.{Format, format_of, is_blocked, block_length, record_length}
use Rattle.standard.specs.Files.{extent, good_records, records_to_block}
use Rattle.standard.specs.Judgement.{judged}
use Rattle.standard.specs.Packing.{pack_in, pack}
use Rattle.standard.specs.Writing.{Outcome, lengths_from, total, parted, packing, write_refusal, set_label, image_with, outcome, written, image_after}
use Rattle.standard.specs.declared.Geometry.{Geometry}
use Rattle.standard.specs.declared.Address.{Address}
use Rattle.standard.specs.declared.Refusal.{Refusal}
use Rattle.promises.specs.Ground.Basics.{never}
use Rattle.promises.specs.Volumes.LabelRules.{Rules, block_fits}
use Rattle.promises.specs.Ground.Lists.{Every}
use Rattle.promises.specs.Volumes.AcceptedLaws.{image_length_lem}
use Rattle.promises.proofs.Writing.AcceptedWrite.{passing, outcome_is, label_range, stored, stored_whole}
use Rattle.promises.specs.Volumes.VolumeNumbers.{numbers_of_lem}
use Rattle.promises.specs.Extents.FullBlocks.{records_few}
use Rattle.promises.specs.Writing.PackedRecords.{Sized as SizedBlocks}
use Rattle.promises.proofs.Writing.StoredBlocks.{sizes_fitting}
use Rattle.promises.proofs.Writing.WrittenLabel.{old_rules, packing_right, records_some}
use Rattle.promises.specs.Writing.NeededLaws.{EachFits, Tiled}
use Rattle.promises.proofs.Writing.NeededLaws.{each_fits, tiled}
use Rattle.promises.specs.Extents.ExtentAddresses.{good_legal}
use Rattle.labels.specs.declared.Form.TheVariants.{Fixed}
use Rattle.labels.specs.Forms.{form_in, format_for, format_back}
use Rattle.layout.specs.Room.{Room, Sized}
use Rattle.extents.specs.Cursors.{legal_at, good_from, standing}
use Rattle.extents.specs.declared.Cursor.{Cursor}
use Rattle.volume.proofs.NumberLaws.{slotted_of}
use Rattle.finding.proofs.FindLaws.{room_there}
use Rattle.files.proofs.Blocks.{extent_on}
use Rattle.filling.specs.Poured.{poured, flat}
use Rattle.filling.proofs.BlockLaws.{pour_blocks}
use Rattle.ending.proofs.EndSizes.{end_small}
use Rattle.writing.specs.Plans.{plan_for, plan_of, plan_or, plan_in, Accepted}
use Rattle.writing.specs.declared.Plan.{Plan}
use Rattle.writing.proofs.PlanLaws.{low}

-- F: every record has R bytes, "a divisor of B"
tiled_form : (g : Geometry) (h lengths : List ℕ) → Rules g h → lengths_from h 0 lengths ≡ Ok tt → form_in (format_of h) ≡ Fixed
    → Tiled (record_length h) (block_length h) lengths
tiled_form g h lengths r p e = tiled g h lengths r p (sym (format_back (format_of h)) ∙ ap format_for e)

-- ---- AN ACCEPTED WRITE
module _ (g : Geometry) (image : List ℕ) (slot : ℕ) (bodies lengths : List ℕ) (j : judged image ≡ Ok g) (w : write_refusal g image slot bodies lengths ≡ Ok tt) where
  abbrev the_label : List ℕ
  the_label = label_at g image slot

  abbrev the_plan : Plan
  the_plan = plan_of g image slot bodies lengths

  first_legal : legal_at g the_plan.first ≡ true
  unfolding plan_for
  first_legal = extent_on g the_label (label_range image g slot bodies lengths j w)

  first_good : good_from g image the_plan.first.left the_plan.first.at ≡ good_records g image the_label
  unfolding plan_for good_records extent
  first_good = refl

  sized : Sized g image
  sized = (image_length_lem image g j, (numbers_of_lem image g j).size_low)

  -- what the layers below ask
  abbrev Storable : Plan → Type 0
  Storable p =
      (1 ≤ p.m) × (p.B ≤ p.m * g.P) × (p.m * g.P < 4294967296) × EachFits (format_for p.form) p.B lengths × (p.form ≡ Fixed → Tiled (record_length the_label) p.B lengths) × (total lengths ≡ length bodies)

  storable : Storable the_plan
  unfolding plan_for
  storable =
      let r = old_rules image g slot bodies lengths j w in
      let k = passing g image slot bodies lengths w in (
        records_some image g slot bodies lengths j w,
        block_fits g the_label r,
        omega (arith, mul-le-mul_right g.P (records_few g the_label (low image g slot j k.labelled k.known)), (numbers_of_lem image g j).size_high),
        subst (λ (f : Format). EachFits f (block_length the_label) lengths) (sym (format_back (format_of the_label))) (each_fits g the_label r 0 lengths k.fits),
        tiled_form g the_label lengths r k.fits,
        k.sum,
      )

  contents_fit : Every (λ c. length c ≤ records_to_block g the_label * g.P) (packing the_label bodies lengths).contents
  unfolding packing
  contents_fit = go (packing the_label bodies lengths).contents (packing_right image g slot bodies lengths j w).sized
    where
      go : (ds : List (List ℕ)) → SizedBlocks (block_length the_label) (packing the_label bodies lengths).U ds → Every (λ c. length c ≤ records_to_block g the_label * g.P) ds
      go [] z = tt
      go (d ∷ ds) z =
          sizes_fitting (block_length the_label) (packing the_label bodies lengths).U d ds (records_to_block g the_label * g.P) z (block_fits g the_label (old_rules image g slot bodies lengths j w))

  -- the blocks over the good records
  laid_stored : (c : Cursor) (after : List ℕ) → standing g image c ≡ good_from g image the_plan.first.left the_plan.first.at
      → after ≡ poured g (standing g image c) (flat (the_plan.m * g.P) (pack_in (format_for the_plan.form) (record_length the_label) the_plan.blocked the_plan.B (parted bodies lengths)).contents) image
      → after ≡ stored image g slot bodies lengths j w
  unfolding plan_for packing pack
  laid_stored c after es h =
      let m = records_to_block g the_label in
      h
      ∙ (ap (λ (more : List Address). poured g more (flat (m * g.P) (pack_in (format_for (form_in (format_of the_label))) (record_length the_label) (is_blocked the_label) (block_length the_label) (parted bodies lengths)).contents) image) (es ∙ first_good)
      ∙ (ap (λ (f : Format). poured g (good_records g image the_label) (flat (m * g.P) (pack_in f (record_length the_label) (is_blocked the_label) (block_length the_label) (parted bodies lengths)).contents) image) (format_back (format_of the_label))
      ∙ pour_blocks g m (packing the_label bodies lengths).contents (good_records g image the_label) image sized (good_legal g the_label (label_range image g slot bodies lengths j w) image)
      (records_some image g slot bodies lengths j w) contents_fit))

  stored_room : Room g (stored image g slot bodies lengths j w) slot
  stored_room =
      let r = room_there g image slot (slotted_of image g j) (passing g image slot bodies lengths w).labelled in
      record { small = r.small; indexed = r.indexed; inside = omega (arith, r.inside, stored_whole image g slot bodies lengths j w, image_length_lem image g j) }

  labelled : (after : List ℕ) → after ≡ set_label g slot the_plan.U the_plan.end (stored image g slot bodies lengths j w)
      → after ≡ image_with g image slot (packing the_label bodies lengths)
  unfolding plan_for image_with
  labelled after h = h

module _ (g : Geometry) (image : List ℕ) (slot : ℕ) (bodies lengths : List ℕ) (j : judged image ≡ Ok g) (w : write_refusal g image slot bodies lengths ≡ Ok tt) where
  plan_end_small : ((plan_of g image slot bodies lengths).end.cylinder < 3000) × ((plan_of g image slot bodies lengths).end.side < 256) × ((plan_of g image slot bodies lengths).end.sector < 3000)
  unfolding plan_for
  plan_end_small = end_small image g slot bodies lengths j w

-- the same, of a plan that is known to be that one
module _ (g : Geometry) (image : List ℕ) (slot : ℕ) (bodies lengths : List ℕ) (p : Plan) (a : Accepted g image slot bodies lengths p) where
  pub plan_legal : legal_at g p.first ≡ true
  plan_legal = subst (λ (q : Plan). legal_at g q.first ≡ true) (sym a.2) (first_legal g image slot bodies lengths a.0 a.1)

  pub plan_sized : Sized g image
  plan_sized = sized g image slot bodies lengths a.0 a.1

  pub plan_storable : Storable g image slot bodies lengths a.0 a.1 p
  plan_storable = subst (Storable g image slot bodies lengths a.0 a.1) (sym a.2) (storable g image slot bodies lengths a.0 a.1)

  -- THE IMAGE AFTERWARDS, from the cursor, what was laid, and what was set
  module _ (c : Cursor) (after : List ℕ) (es : standing g image c ≡ good_from g image p.first.left p.first.at)
      (h : (R : ℕ) → (p.form ≡ Fixed → Tiled R p.B lengths)
      → after ≡ poured g (standing g image c) (flat (p.m * g.P) (pack_in (format_for p.form) R p.blocked p.B (parted bodies lengths)).contents) image) where
    abbrev Laid : Plan → Type 0
    Laid q =
        standing g image c ≡ good_from g image q.first.left q.first.at
        → after ≡ poured g (standing g image c) (flat (q.m * g.P) (pack_in (format_for q.form) (record_length (label_at g image slot)) q.blocked q.B (parted bodies lengths)).contents) image
        → after ≡ stored image g slot bodies lengths a.0 a.1

    plan_laid : after ≡ stored image g slot bodies lengths a.0 a.1
    plan_laid = subst Laid (sym a.2) (laid_stored g image slot bodies lengths a.0 a.1 c after) es (h (record_length (label_at g image slot)) plan_storable.4)

    pub plan_room : (Room g after slot) × (p.end.cylinder < 3000) × (p.end.side < 256) × (p.end.sector < 3000)
    plan_room =
        let small : (p.end.cylinder < 3000) × (p.end.side < 256) × (p.end.sector < 3000) =
        subst (λ (q : Plan). (q.end.cylinder < 3000) × (q.end.side < 256) × (q.end.sector < 3000)) (sym a.2) (plan_end_small g image slot bodies lengths a.0 a.1) in
        (subst (λ (s : List ℕ). Room g s slot) (sym plan_laid) (stored_room g image slot bodies lengths a.0 a.1), small.0, small.1, small.2)

    pub plan_done : (last : List ℕ) → last ≡ set_label g slot p.U p.end after → last ≡ image_with g image slot (packing (label_at g image slot) bodies lengths)
    plan_done last k =
        labelled g image slot bodies lengths a.0 a.1 last
        (k ∙ (ap (set_label g slot p.U p.end) plan_laid ∙ ap (λ (q : Plan). set_label g slot q.U q.end (stored image g slot bodies lengths a.0 a.1)) a.2))

-- ---- THE ANSWER
abbrev pub Ends : List ℕ → ℕ → List ℕ → List ℕ → Result ℕ Refusal → List ℕ → Type 0
Ends image slot bodies lengths r after = (r ≡ written image slot bodies lengths) × (after ≡ image_after image slot bodies lengths)

ended_with : (image : List ℕ) (slot : ℕ) (bodies lengths : List ℕ) (o : Outcome) → outcome image slot bodies lengths ≡ o → Ends image slot bodies lengths o.answer o.image
ended_with image slot bodies lengths o e = (sym (ap (λ (x : Outcome). x.answer) e), sym (ap (λ (x : Outcome). x.image) e))

abbrev unwritten : List ℕ → Refusal → Outcome
unwritten image r = record { answer = Err r; image = image }

-- "A file call stops at the first refusal of the volume."
volume_stopped : (image : List ℕ) (slot : ℕ) (bodies lengths : List ℕ) (r : Refusal) → judged image ≡ Err r → outcome image slot bodies lengths ≡ unwritten image r
unfolding outcome
volume_stopped image slot bodies lengths r j = rw j

pub write_stopped : (image : List ℕ) (slot : ℕ) (bodies lengths : List ℕ) (r : Refusal) → judged image ≡ Err r → Ends image slot bodies lengths (Err r) image
write_stopped image slot bodies lengths r j = ended_with image slot bodies lengths (unwritten image r) (volume_stopped image slot bodies lengths r j)

-- what a plan says of the refusals before it
abbrev refusal_in : Result Plan Refusal → Refusal → Refusal
refusal_in (Err r) other = r
refusal_in (Ok p) other = other

abbrev plan_within : Result Plan Refusal → Plan → Plan
plan_within (Err r) other = other
plan_within (Ok p) other = p

planned_stop : (c : Result ⊤ Refusal) (p : Plan) (r : Refusal) → plan_or c p ≡ Err r → c ≡ Err r
planned_stop (Ok _) p r e = never (cc)
planned_stop (Err s) p r e = ap Err (ap (λ (k : Result Plan Refusal). refusal_in k r) e)

planned_go : (c : Result ⊤ Refusal) (p q : Plan) → plan_or c p ≡ Ok q → (c ≡ Ok tt) × (q ≡ p)
planned_go (Ok _) p q e = (refl, sym (ap (λ (k : Result Plan Refusal). plan_within k p) e))
planned_go (Err s) p q e = never (cc)

module _ (image : List ℕ) (g : Geometry) (slot : ℕ) (bodies lengths : List ℕ) (j : judged image ≡ Ok g) where
  list_stopped : (r : Refusal) → write_refusal g image slot bodies lengths ≡ Err r → outcome image slot bodies lengths ≡ unwritten image r
  unfolding outcome
  list_stopped r w = rw (j, w)

  pub write_refused : (r : Refusal) → plan_in g image slot bodies lengths ≡ Err r → Ends image slot bodies lengths (Err r) image
  unfolding plan_in
  write_refused r e =
      ended_with image slot bodies lengths (unwritten image r)
      (list_stopped r (planned_stop (write_refusal g image slot bodies lengths) (plan_of g image slot bodies lengths) r e))

  pub write_accepted : (p : Plan) → plan_in g image slot bodies lengths ≡ Ok p → Accepted g image slot bodies lengths p
  unfolding plan_in
  write_accepted p e =
      let k = planned_go (write_refusal g image slot bodies lengths) (plan_of g image slot bodies lengths) p e in
      (j, k.0, k.1)

  pub write_done : (p : Plan) (after : List ℕ) → Accepted g image slot bodies lengths p → after ≡ image_with g image slot (packing (label_at g image slot) bodies lengths)
      → Ends image slot bodies lengths (Ok p.blocks) after
  unfolding plan_for
  write_done p after a h =
      let o = outcome_is image g slot bodies lengths j a.1 in
      (ap (λ (q : Plan). Ok q.blocks) a.2 ∙ sym (ap (λ (x : Outcome). x.answer) o), h ∙ sym (ap (λ (x : Outcome). x.image) o))
