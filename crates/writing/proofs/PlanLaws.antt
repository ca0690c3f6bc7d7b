-- From what the parts say to the plan, and from the plan to the image afterwards.
-- Assumes nothing.
use Rattle.std.specs.Prelude.{Result, Ok, Err, ⊤}
use Prim.Native.Nat.{ℕ, ◌/◌, ◌<◌, ◌≤◌}
use mathlib.Core.Path.{◌≡◌, refl, sym, ap, ◌∙◌}
use mathlib.Core.Bool.{Bool, true, false, cond, not}
use mathlib.Core.List.{List, [], ◌∷◌}
use lib.ListN.{length}
use lib.Dec.{ltb, eqb}
use native.Mathlib.Omega.{arith}
use borrow.Author.Tests.{lt-ltb, le-ltb, eqb-true, not-false}
use Rattle.standard.specs.Refusals.{refuse, given_when, in_order, or_else}
use Rattle.standard.specs.Layout.{label_at}
use Rattle.standard.specs.Labels.{Format, known_level, format_of, is_blocked, block_length, record_length, end_of}
use Rattle.standard.specs.Slots.{has_label}
use Rattle.standard.specs.Files.{addresses_from, extent, good_records, blocks_held, refusal13, refusal14, refusal15, refusal16, refusal17}
use Rattle.standard.specs.Judgement.{judged}
use Rattle.standard.specs.Writing.{total, packing, needed, lengths_from, next_data_end, data_end_after, refusal24, refusal25, refusal26, refusal27, write_refusal}
use Rattle.standard.specs.declared.Geometry.{Geometry}
use Rattle.standard.specs.declared.Address.{Address}
use Rattle.standard.specs.declared.Refusal.{Refusal}
use Rattle.promises.specs.Volumes.Judging.{order_append, else_both, not_given}
use Rattle.promises.specs.Volumes.LabelRules.{Rules, label_rules}
use Rattle.promises.specs.Volumes.VolumeNumbers.{numbers_of_lem}
use Rattle.promises.specs.Extents.FullBlocks.{block_low}
use Rattle.promises.specs.Writing.NeededLaws.{level_from, EachFits}
use Rattle.promises.proofs.Writing.NeededLaws.{each_fits, unused_counted, needed_level_is}
use Rattle.labels.specs.Forms.{form_in, format_for, format_back}
use Rattle.labels.specs.declared.Form.{Form}
use Rattle.extents.specs.Cursors.{good_from}
use Rattle.extents.specs.Surveys.{surveyed}
use Rattle.extents.proofs.SurveyLaws.{says}
use Rattle.files.specs.Numbers.{numbers_of}
use Rattle.files.specs.declared.Numbers.{Numbers}
use Rattle.opening.specs.Opened.{usable_in}
use Rattle.opening.proofs.OpenLaws.{usable_facts}
use Rattle.sizing.specs.Lists.{wrong_from, Stands}
use Rattle.sizing.specs.declared.Level.{Level as CodeLevel}
use Rattle.sizing.proofs.LevelLaws.{wrong_is}
use Rattle.writing.specs.Plans.{plan_for, plan_of, plan_or, plan_in, fitted_by, level_on, wrong_by, fault_by, draft_refusal}
use Rattle.writing.specs.declared.Plan.{Plan}

-- ---- 25 AND 26
pub fault_sum : (f : Format) (B R size : ℕ) (lengths : List ℕ) → eqb (total lengths) size ≡ false → Err (refuse 25 0) ≡ fault_by f B R size lengths
unfolding fault_by given_when or_else
fault_sum f B R size lengths e = rw e

pub fault_rest : (f : Format) (B R size : ℕ) (lengths : List ℕ) → eqb (total lengths) size ≡ true → wrong_from f B R 0 lengths ≡ fault_by f B R size lengths
unfolding fault_by given_when or_else
fault_rest f B R size lengths e = rw e

-- ---- 17: what a walk found
wrong_by_lem : (g : Geometry) (image : List ℕ) (h : List ℕ) → wrong_by (surveyed g image false (extent g h)) ≡ refusal17 g image h
wrong_by_lem g image h = go (surveyed g image false (extent g h)) refl
  where
    go : (k : Result Bool Refusal) → surveyed g image false (extent g h) ≡ k → wrong_by k ≡ refusal17 g image h
    go (Err r) e = sym ((says g image false (extent g h)).wrong r e)
    go (Ok true) e = sym ((says g image false (extent g h)).whole e).1
    go (Ok false) e = sym ((says g image false (extent g h)).holes e)

-- ---- the first refusal of a row
order_cut : (a b c d : Result ⊤ Refusal) → in_order (a ∷ b ∷ c ∷ d ∷ []) ≡ or_else (or_else a (or_else b c)) d
unfolding or_else in_order
order_cut (Err r) b c d = refl
order_cut (Ok _) (Err r) c d = refl
order_cut (Ok _) (Ok _) (Err r) d = refl
order_cut (Ok _) (Ok _) (Ok _) (Ok _) = refl
order_cut (Ok _) (Ok _) (Ok _) (Err r) = refl

plan_when : (t : Bool) (r : Refusal) (p : Plan) → plan_or (given_when t r) p ≡ cond t (Err r) (Ok p)
unfolding given_when
plan_when true r p = refl
plan_when false r p = refl

-- a label that passed 13 and 14
module _ (image : List ℕ) (g : Geometry) (slot : ℕ) (j : judged image ≡ Ok g) (l : has_label g image slot ≡ true) (kn : known_level (label_at g image slot) ≡ true) where
  abbrev the_label : List ℕ
  the_label = label_at g image slot

  the_rules : Rules g the_label
  the_rules = label_rules image g slot j l kn

  pub low : block_length the_label ≤ 26624
  low = block_low g the_label (numbers_of_lem image g j) the_rules

  module _ (bodies lengths : List ℕ) where
    -- what is asked before 27, in order
    abbrev faults : Result ⊤ Refusal
    faults = or_else (refusal17 g image the_label) (fault_by (format_of the_label) (block_length the_label) (record_length the_label) (length bodies) lengths)

    draft_cut : draft_refusal g image slot bodies lengths ≡ or_else faults (refusal27 g image the_label bodies lengths)
    unfolding draft_refusal fault_by
    draft_cut =
        order_cut (refusal17 g image the_label) (refusal25 bodies lengths) (refusal26 the_label lengths) (refusal27 g image the_label bodies lengths)
        ∙ ap (λ (c : Result ⊤ Refusal). or_else (or_else (refusal17 g image the_label) (or_else (refusal25 bodies lengths) c)) (refusal27 g image the_label bodies lengths)) (wrong_is the_label 0 lengths)

    pub draft_stop : (r : Refusal) → faults ≡ Err r → (p : Plan) → Err r ≡ plan_or (draft_refusal g image slot bodies lengths) p
    unfolding or_else
    draft_stop r e p = sym (ap (λ (c : Result ⊤ Refusal). plan_or c p) (draft_cut ∙ ap (λ (c : Result ⊤ Refusal). or_else c (refusal27 g image the_label bodies lengths)) e))

    -- what 25 and 26 leave
    list_right : faults ≡ Ok tt → (given_when (not (eqb (total lengths) (length bodies))) (refuse 25 0) ≡ Ok tt) × (lengths_from the_label 0 lengths ≡ Ok tt)
    unfolding fault_by
    list_right e =
        let b = else_both _ _ (else_both _ _ e).1 in
        (b.0, wrong_is the_label 0 lengths ∙ b.1)

    pub sum_right : faults ≡ Ok tt → total lengths ≡ length bodies
    sum_right e = eqb-true (total lengths) (length bodies) (not-false _ (not_given (not (eqb (total lengths) (length bodies))) _ (list_right e).0))

    pub fits_each : faults ≡ Ok tt → EachFits (format_of the_label) (block_length the_label) lengths
    fits_each e = each_fits g the_label the_rules 0 lengths (list_right e).1

    -- 27, or the plan
    pub draft_on : faults ≡ Ok tt → fitted_by g image slot (level_on the_label lengths) ≡ plan_or (draft_refusal g image slot bodies lengths) (plan_of g image slot bodies lengths)
    unfolding or_else fitted_by
    draft_on e =
        let n : needed the_label bodies lengths ≡ (level_on the_label lengths).blocks = needed_level_is g the_label bodies lengths the_rules (sum_right e) (list_right e).1 in
        let u : (packing the_label bodies lengths).U ≡ (level_on the_label lengths).room = unused_counted g the_label bodies lengths the_rules (sum_right e) (list_right e).1 in
        sym (ap (λ (c : Result ⊤ Refusal). plan_or c (plan_of g image slot bodies lengths)) (draft_cut ∙ ap (λ (c : Result ⊤ Refusal). or_else c (refusal27 g image the_label bodies lengths)) e)
        ∙ (plan_when (ltb (blocks_held g image the_label) (needed the_label bodies lengths)) (refuse 27 (needed the_label bodies lengths)) (plan_of g image slot bodies lengths)
        ∙ rw (n, u)))

    -- ---- the numbers that the code has are the label's
    module _ (n : Numbers) (en : n ≡ numbers_of g the_label) where
      walk_is : (found : Result Bool Refusal) → found ≡ surveyed g image false (addresses_from g n.size n.start) → wrong_by found ≡ refusal17 g image the_label
      unfolding numbers_of extent
      walk_is found e = ap wrong_by (e ∙ ap (λ (k : Numbers). surveyed g image false (addresses_from g k.size k.start)) en) ∙ wrong_by_lem g image the_label

      pub whole_is : (found : Result Bool Refusal) → found ≡ surveyed g image false (addresses_from g n.size n.start) → found ≡ Ok true
          → good_from g image n.size n.start ≡ addresses_from g n.size n.start
      whole_is found e w = ((says g image false (addresses_from g n.size n.start)).whole (sym e ∙ w)).2

      -- the walk stops it
      pub walk_stops : (found : Result Bool Refusal) (r : Refusal) → found ≡ surveyed g image false (addresses_from g n.size n.start) → found ≡ Err r → faults ≡ Err r
      unfolding or_else
      walk_stops found r e k = rw (sym (walk_is found e) ∙ ap wrong_by k)

      -- the walk does not, and 25 and 26 are left
      pub faults_are : (found : Result Bool Refusal) (w : Bool) (form : Form) (size : ℕ) → found ≡ surveyed g image false (addresses_from g n.size n.start) → found ≡ Ok w
          → form ≡ form_in (format_of the_label) → size ≡ length bodies → fault_by (format_for form) n.B n.R size lengths ≡ faults
      unfolding numbers_of or_else
      faults_are found w form size e k ef es =
          let back : format_for form ≡ format_of the_label = ap format_for ef ∙ format_back (format_of the_label) in
          rw (sym (walk_is found e) ∙ ap wrong_by k, back, es, en)

  -- ---- 27, or the plan, by what the code has: the label, its numbers, whether and how its records are blocked, and the list's lengths
  module _ (h : List ℕ) (eh : h ≡ the_label) (n : Numbers) (en : n ≡ numbers_of g h) (form : Form) (ef : form ≡ form_in (format_of h)) (blocked : Bool) (eb : blocked ≡ is_blocked h)
      (lengths : List ℕ) where
    format_is : format_for form ≡ format_of h
    format_is = ap format_for ef ∙ format_back (format_of h)

    pub level_ready : EachFits (format_of h) (block_length h) lengths → EachFits (format_for form) n.B lengths × (n.B < 65536)
    unfolding numbers_of
    level_ready f = (rw (format_is, en) f, rw (en, eh) (omega (arith, low)))

    -- the level behind the list, and the good records
    module _ (v : CodeLevel) (ev : Stands v (level_from (format_for form) blocked n.B 0 0 lengths)) (good : ℕ) (eg : good ≡ length (good_from g image n.size n.start)) where
      level_is : Stands v (level_on the_label lengths)
      unfolding numbers_of
      level_is = rw (format_is, eb, en, eh) at ev

      held_is : good / n.m ≡ blocks_held g image the_label
      unfolding numbers_of blocks_held good_records extent
      held_is = rw (eg, en, eh)

      pub fit_stop : good / n.m < v.blocks → Err (refuse 27 v.blocks) ≡ fitted_by g image slot (level_on the_label lengths)
      unfolding fitted_by
      fit_stop t = rw (lt-ltb (blocks_held g image the_label) (level_on the_label lengths).blocks (omega (arith, level_is.1, held_is)), level_is.1)

      pub fit_go : v.blocks ≤ good / n.m → (last end : Address) → last ≡ end_of h → end ≡ next_data_end g n.start last n.m (good_from g image n.size n.start) v.blocks
          → Ok (record { first = record { at = n.start; left = n.size }; form = form; blocked = blocked; B = n.B; m = n.m; blocks = v.blocks; U = v.room; end = end })
          ≡ fitted_by g image slot (level_on the_label lengths)
      unfolding fitted_by plan_for numbers_of data_end_after good_records extent
      fit_go t last end el ee =
          rw (le-ltb (blocks_held g image the_label) (level_on the_label lengths).blocks (omega (arith, level_is.1, held_is)), ee, el, ef, eb, level_is.0, level_is.1, en, eh)

-- ---- 13 TO 16 AND 24, AND THE REST
order_more : (asked c : Result ⊤ Refusal) (rest : List (Result ⊤ Refusal)) → or_else asked (in_order (c ∷ rest)) ≡ or_else (or_else asked c) (in_order rest)
unfolding in_order or_else
order_more (Ok _) (Ok _) rest = refl
order_more (Ok _) (Err r) rest = refl
order_more (Err r) c rest = refl

-- by what was asked: u of the slot, then w with 24
module _ (g : Geometry) (image : List ℕ) (slot : ℕ) (u w : Result ⊤ Refusal) (eu : u ≡ usable_in g image slot) (ew : w ≡ or_else u (refusal24 (label_at g image slot) slot)) where
  abbrev h : List ℕ
  h = label_at g image slot

  asked : (c : Result ⊤ Refusal) → w ≡ c → or_else (usable_in g image slot) (refusal24 h slot) ≡ c
  asked c e = ap (λ (k : Result ⊤ Refusal). or_else k (refusal24 h slot)) (sym eu) ∙ sym ew ∙ e

  pub plan_facts : w ≡ Ok tt → (has_label g image slot ≡ true) × (known_level h ≡ true)
  plan_facts e =
      let f = usable_facts g image slot (else_both (usable_in g image slot) (refusal24 h slot) (asked (Ok tt) e)).0 in
      (f.0, f.1)

  module _ (bodies lengths : List ℕ) where
    abbrev from17 : List (Result ⊤ Refusal)
    from17 = refusal17 g image h ∷ refusal25 bodies lengths ∷ refusal26 h lengths ∷ refusal27 g image h bodies lengths ∷ []

    row_cut : (c : Result ⊤ Refusal) → w ≡ c → write_refusal g image slot bodies lengths ≡ or_else c (in_order from17)
    unfolding write_refusal usable_in
    row_cut c e =
        order_append (refusal13 g image slot ∷ refusal14 h slot ∷ refusal15 h slot ∷ refusal16 h slot ∷ []) (refusal24 h slot ∷ from17)
        ∙ order_more (usable_in g image slot) (refusal24 h slot) from17
        ∙ ap (λ (k : Result ⊤ Refusal). or_else k (in_order from17)) (asked c e)

    planned : (c : Result ⊤ Refusal) → write_refusal g image slot bodies lengths ≡ c → plan_or c (plan_of g image slot bodies lengths) ≡ plan_in g image slot bodies lengths
    unfolding plan_in
    planned c e = sym (ap (λ (k : Result ⊤ Refusal). plan_or k (plan_of g image slot bodies lengths)) e)

    pub plan_stop : (r : Refusal) → w ≡ Err r → Err r ≡ plan_in g image slot bodies lengths
    unfolding or_else
    plan_stop r e = planned (Err r) (row_cut (Err r) e)

    pub plan_on : w ≡ Ok tt → plan_or (draft_refusal g image slot bodies lengths) (plan_of g image slot bodies lengths) ≡ plan_in g image slot bodies lengths
    unfolding or_else draft_refusal
    plan_on e = planned (in_order from17) (row_cut (Ok tt) e)
