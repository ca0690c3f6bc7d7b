-- What is asked of a slot first: each way out of it, what a slot that passed it has, and the lists that begin with it.
-- Assumes nothing.
use Rattle.std.specs.Prelude.{Result, Ok, Err, ⊤}
use Prim.Native.Nat.{ℕ}
use mathlib.Core.Path.{◌≡◌, ◌∙◌}
use mathlib.Core.Bool.{true, false, not}
use mathlib.Core.List.{List, [], ◌∷◌}
use borrow.Author.Tests.{not-false, eq-eqb, ne_eqb}
use Rattle.standard.specs.Characters.{at}
use Rattle.standard.specs.Refusals.{refuse, given_when, in_order, or_else}
use Rattle.standard.specs.Layout.{label_at}
use Rattle.standard.specs.Labels.{known_level}
use Rattle.standard.specs.Slots.{has_label}
use Rattle.standard.specs.Files.{refusal13, refusal14}
use Rattle.standard.specs.Writing.{refusal24}
use Rattle.standard.specs.declared.Geometry.{Geometry}
use Rattle.standard.specs.declared.Refusal.{Refusal}
use Rattle.promises.specs.Volumes.Judging.{order_each, order_append, not_given}
use Rattle.layout.specs.Room.{Room}
use Rattle.index.specs.Whole.{Slotted}
use Rattle.finding.specs.Slot.{known_file}
use Rattle.finding.proofs.FindLaws.{room_there}

module _ (g : Geometry) (image : List ℕ) (slot : ℕ) where
  abbrev h : List ℕ
  h = label_at g image slot

  -- 13 and 14, by the tests as they are made
  pub known_13 : not (has_label g image slot) ≡ true → Err (refuse 13 0) ≡ known_file g image slot
  unfolding known_file given_when in_order
  known_13 a = simp a

  module _ (a : not (has_label g image slot) ≡ false) where
    pub known_14 : not (known_level h) ≡ true → Err (refuse 14 slot) ≡ known_file g image slot
    unfolding known_file given_when in_order
    known_14 b = simp (a, b)

    pub known_both : not (known_level h) ≡ false → Ok tt ≡ known_file g image slot
    unfolding known_file given_when in_order
    known_both b = simp (a, b)

  -- a slot that passed them
  pub known_facts : known_file g image slot ≡ Ok tt → (has_label g image slot ≡ true) × (known_level h ≡ true)
  unfolding known_file
  known_facts p =
      let (r13, (r14, _)) = order_each _ p in
      (not-false _ (not_given (not (has_label g image slot)) _ r13), not-false _ (not_given (not (known_level h)) _ r14))

  -- there is room where its label is read
  pub known_room : Slotted g image → known_file g image slot ≡ Ok tt → Room g image slot
  known_room s p = room_there g image slot s (known_facts p).0

  -- a list that begins with them
  pub known_first : (more : List (Result ⊤ Refusal)) → in_order (refusal13 g image slot ∷ refusal14 h slot ∷ more) ≡ or_else (known_file g image slot) (in_order more)
  unfolding known_file
  known_first more = order_append (refusal13 g image slot ∷ refusal14 h slot ∷ []) more

  pub known_stops : (r : Refusal) (more : List (Result ⊤ Refusal)) → known_file g image slot ≡ Err r → in_order (refusal13 g image slot ∷ refusal14 h slot ∷ more) ≡ Err r
  unfolding or_else
  known_stops r more e = known_first more ∙ rw e

  pub known_passes : (more : List (Result ⊤ Refusal)) → known_file g image slot ≡ Ok tt → in_order (refusal13 g image slot ∷ refusal14 h slot ∷ more) ≡ in_order more
  unfolding or_else
  known_passes more e = known_first more ∙ rw e

  -- 24 behind what was asked before it
  pub stopped_before : (asked : Result ⊤ Refusal) (r : Refusal) → asked ≡ Err r → Err r ≡ or_else asked (refusal24 h slot)
  unfolding or_else
  stopped_before asked r e = rw e

  module _ (asked : Result ⊤ Refusal) (e : asked ≡ Ok tt) where
    pub protected : at h 43 ≡ 80 → Err (refuse 24 slot) ≡ or_else asked (refusal24 h slot)
    unfolding given_when or_else
    protected p = rw (e, eq-eqb (at h 43) 80 p)

    pub not_protected : (at h 43 ≡ 80 → ⊥) → Ok tt ≡ or_else asked (refusal24 h slot)
    unfolding given_when or_else
    not_protected p = rw (e, ne_eqb (at h 43) 80 p)
