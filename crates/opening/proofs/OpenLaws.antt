-- The exits of opening, and of what is asked of a slot first.
-- Assumes nothing.
use Rattle.std.specs.Prelude.{Result, Ok, Err, ⊤}
use Prim.Native.Nat.{ℕ}
use mathlib.Core.Path.{◌≡◌, refl, sym, ap, ◌∙◌}
use mathlib.Core.Bool.{Bool, true, false, not}
use mathlib.Core.List.{List, [], ◌∷◌}
use borrow.Author.Tests.{not-false}
use Rattle.standard.specs.Characters.{at, is_space}
use Rattle.standard.specs.Refusals.{refuse, given_when, in_order, or_else}
use Rattle.standard.specs.Layout.{label_at}
use Rattle.standard.specs.Labels.{known_level, format_of, is_blocked}
use Rattle.standard.specs.Slots.{has_label}
use Rattle.standard.specs.Files.{addresses_from, extent, block_count, refusal13, refusal14, refusal15, refusal16, refusal17, refusal18, count_or, open_refusal}
use Rattle.standard.specs.Judgement.{judged}
use Rattle.standard.specs.declared.Geometry.{Geometry}
use Rattle.standard.specs.declared.Refusal.{Refusal}
use Rattle.promises.specs.Ground.Basics.{never}
use Rattle.promises.specs.Volumes.Judging.{order_each, order_append, not_given}
use Rattle.promises.specs.Volumes.AcceptedLaws.{label_in_range}
use Rattle.labels.specs.Forms.{form_in}
use Rattle.finding.specs.Slot.{known_file}
use borrow.Author.Tests.{eq-eqb, ne_eqb}
use Rattle.finding.proofs.AskLaws.{known_stops, known_passes}
use Rattle.labels.specs.declared.Form.{Form}
use Rattle.extents.specs.Surveys.{surveyed}
use Rattle.files.specs.Numbers.{numbers_of, tallied}
use Rattle.files.specs.declared.Numbers.{Numbers}
use Rattle.files.proofs.Blocks.{tally_is}
use Rattle.files.proofs.Accepted.{behind}
use Rattle.opening.specs.Opened.{is_whole, usable_in, file_numbers, open_or, opening_in}
use Rattle.opening.specs.declared.FileNumbers.{FileNumbers}

-- a byte of a label that is a space, and one that is not, said of the label
byte_told : (s h : List ℕ) (i x : ℕ) → s ≡ h → x ≡ at s i → x ≡ at h i
byte_told s h i x e f = f ∙ ap (λ (u : List ℕ). at u i) e

pub space_told : (s h : List ℕ) (i x : ℕ) → s ≡ h → x ≡ at s i → x ≡ 32 → not (is_space (at h i)) ≡ false
space_told s h i x e f q = ap not (eq-eqb (at h i) 32 (sym (byte_told s h i x e f) ∙ q))

pub other_told : (s h : List ℕ) (i x : ℕ) → s ≡ h → x ≡ at s i → (x ≡ 32 → ⊥) → not (is_space (at h i)) ≡ true
other_told s h i x e f q = ap not (ne_eqb (at h i) 32 (λ k. q (byte_told s h i x e f ∙ k)))

module _ (g : Geometry) (image : List ℕ) (slot : ℕ) where
  abbrev h : List ℕ
  h = label_at g image slot

  -- 13 and 14; then 15 and 16 behind them, by the tests as they are made
  pub usable_stopped : (r : Refusal) → known_file g image slot ≡ Err r → Err r ≡ usable_in g image slot
  unfolding usable_in
  usable_stopped r k = sym (known_stops g image slot r _ k)

  module _ (k : known_file g image slot ≡ Ok tt) where
    pub usable_15 : not (is_space (at h 42)) ≡ true → Err (refuse 15 slot) ≡ usable_in g image slot
    unfolding usable_in given_when in_order
    usable_15 d = rw (known_passes g image slot _ k, d)

    module _ (d : not (is_space (at h 42)) ≡ false) where
      pub usable_16 : not (is_space (at h 45)) ≡ true → Err (refuse 16 slot) ≡ usable_in g image slot
      unfolding usable_in given_when in_order
      usable_16 e = rw (known_passes g image slot _ k, d, e)

      pub usable_all : not (is_space (at h 45)) ≡ false → Ok tt ≡ usable_in g image slot
      unfolding usable_in given_when in_order
      usable_all e = rw (known_passes g image slot _ k, d, e)

  -- what a slot that passed them has
  pub usable_facts : usable_in g image slot ≡ Ok tt
      → (has_label g image slot ≡ true) × (known_level h ≡ true) × (is_space (at h 42) ≡ true) × (is_space (at h 45) ≡ true)
  unfolding usable_in
  usable_facts p =
      let (r13, (r14, (r15, (r16, _)))) = order_each _ p in (
        not-false _ (not_given (not (has_label g image slot)) _ r13),
        not-false _ (not_given (not (known_level h)) _ r14),
        not-false _ (not_given (not (is_space (at h 42))) _ r15),
        not-false _ (not_given (not (is_space (at h 45))) _ r16),
      )

  -- opening behind them: shut by one, or 17 and 18 decide
  abbrev rest : Result ⊤ Refusal
  rest = in_order (refusal17 g image h ∷ refusal18 g image h slot ∷ [])

  open_behind : open_refusal g image slot ≡ or_else (usable_in g image slot) rest
  unfolding open_refusal usable_in
  open_behind =
      order_append (refusal13 g image slot ∷ refusal14 h slot ∷ refusal15 h slot ∷ refusal16 h slot ∷ [])
      (refusal17 g image h ∷ refusal18 g image h slot ∷ [])

  pub open_stopped : (r : Refusal) → usable_in g image slot ≡ Err r → Err r ≡ opening_in g image slot
  unfolding opening_in or_else
  open_stopped r u = rw (open_behind, u)

  pub open_usable : usable_in g image slot ≡ Ok tt → open_or rest (file_numbers g image slot) ≡ opening_in g image slot
  unfolding opening_in or_else
  open_usable u = rw (open_behind, u)

-- what a count says of the refusals before it
abbrev refusal_in : Result ℕ Refusal → Refusal → Refusal
refusal_in (Err r) s = r
refusal_in (Ok n) s = s

abbrev number_in : Result ℕ Refusal → ℕ
number_in (Err r) = 0
number_in (Ok n) = n

uncounted_shut : (c : Result ⊤ Refusal) (n : ℕ) (f : FileNumbers) (r : Refusal) → count_or c n ≡ Err r → Err r ≡ open_or c f
uncounted_shut (Ok _) n f r e = never (cc)
uncounted_shut (Err s) n f r e = ap Err (ap (λ (k : Result ℕ Refusal). refusal_in k r) (sym e))

counted_open : (c : Result ⊤ Refusal) (n k : ℕ) → count_or c n ≡ Ok k → (c ≡ Ok tt) × (k ≡ n)
counted_open (Ok _) n k e = (refl, ap number_in (sym e))
counted_open (Err s) n k e = never (cc)

-- a label that passed 13 and 14, by what a tally says of it
module _ (image : List ℕ) (g : Geometry) (slot : ℕ) (j : judged image ≡ Ok g) (l : has_label g image slot ≡ true) (kn : known_level (label_at g image slot) ≡ true)
    (n : Numbers) (e : n ≡ numbers_of g (label_at g image slot)) where
  abbrev the_label : List ℕ
  the_label = label_at g image slot

  abbrev the_last : Result ⊤ Refusal
  the_last = rest g image slot

  tallied_is : count_or the_last (block_count g image the_label) ≡ tallied g image n slot
  tallied_is =
      tally_is g image the_label (label_in_range image g slot j l) (behind image g slot j l kn) slot ∙ ap (λ (m : Numbers). tallied g image m slot) (sym e)

  pub shut_by : (r : Refusal) → tallied g image n slot ≡ Err r → Err r ≡ open_or the_last (file_numbers g image slot)
  shut_by r t = uncounted_shut the_last (block_count g image the_label) (file_numbers g image slot) r (tallied_is ∙ t)

  module _ (whole : Bool) (form : Form) (blocked : Bool) (count : ℕ)
      (w : whole ≡ is_whole (surveyed g image false (addresses_from g n.size n.start))) (f : form ≡ form_in (format_of the_label)) (b : blocked ≡ is_blocked the_label) where
    abbrev the_numbers : FileNumbers
    the_numbers =
        record {
          g = g;
          slot = slot;
          first = record { at = n.start; left = n.size };
          whole = whole;
          form = form;
          blocked = blocked;
          m = n.m;
          B = n.B;
          R = n.R;
          U = n.U;
          count = count;
        }

    numbers_are : count ≡ block_count g image the_label → the_numbers ≡ file_numbers g image slot
    unfolding file_numbers numbers_of extent
    numbers_are k = rw (w, f, b, k, e)

    pub open_by : tallied g image n slot ≡ Ok count → Ok the_numbers ≡ open_or the_last (file_numbers g image slot)
    open_by t =
        let o = counted_open the_last (block_count g image the_label) count (tallied_is ∙ t) in
        ap Ok (numbers_are o.1) ∙ sym (ap (λ (c : Result ⊤ Refusal). open_or c (file_numbers g image slot)) o.0)
