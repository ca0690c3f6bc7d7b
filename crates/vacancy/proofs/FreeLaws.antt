-- The free records: the sizes of the extents, summed up slot by slot, taken from all data addresses.
-- Assumes nothing.
use Rattle.std.specs.Prelude.{Ok, Err}
use Prim.Native.Nat.{ℕ, suc, ◌+◌, ◌-◌, ◌≤◌}
use mathlib.Core.Path.{◌≡◌, refl, sym, ap, ◌∙◌}
use mathlib.Core.Bool.{Bool, true, false, cond}
use mathlib.Core.List.{List}
use native.Mathlib.Numerals.{add-one}
use native.Mathlib.Omega.{arith}
use Rattle.standard.specs.Layout.{slot_count, label_at}
use Rattle.standard.specs.Addresses.{rank, address_count}
use Rattle.standard.specs.Labels.{start_of, end_of}
use Rattle.standard.specs.Slots.{is_label}
use Rattle.standard.specs.Files.{extent_size}
use Rattle.standard.specs.Judgement.{judged}
use Rattle.standard.specs.Free.{free_records, free_count}
use Rattle.standard.specs.declared.Geometry.{Geometry}
use Rattle.standard.specs.declared.Refusal.{Refusal}
use Rattle.promises.specs.Volumes.FreeLaws.{extents_below, free_counted, free_is}
use Rattle.index.specs.Extents.{start_in, end_in}

-- a slot with no label has the size 0
module _ (g : Geometry) (image : List ℕ) where
  abbrev pub size_in : ℕ → ℕ
  size_in slot = cond (is_label g image slot) (extent_size g (label_at g image slot)) 0

  sizes : (t : Bool) (a b : ℕ) → cond t b 0 + 1 - cond t a 4294967295 ≡ cond t (suc b - a) 0
  sizes true a b = omega arith
  sizes false a b = refl

  pub size_is : (slot r e s : ℕ) → r ≡ e + 1 - s → e ≡ end_in g image slot → s ≡ start_in g image slot → r ≡ size_in slot
  unfolding start_in end_in extent_size
  size_is slot r e s h p q =
      h ∙ rw (p, q) (sizes (is_label g image slot) (rank g (start_of (label_at g image slot))) (rank g (end_of (label_at g image slot))))

  pub extents_none : extents_below g image 0 ≡ 0
  unfolding extents_below
  extents_none = refl

  pub extents_more : (i : ℕ) → extents_below g image (i + 1) ≡ size_in (i + 1) + extents_below g image i
  unfolding extents_below
  extents_more i = rw (add-one i)

-- the answer
module _ (image : List ℕ) (g : Geometry) (j : judged image ≡ Ok g) where
  pub used_most : (a u : ℕ) → a ≡ address_count g → u ≡ extents_below g image (slot_count g) → u ≤ a
  used_most a u p q = omega (arith, free_is image g j)

  pub free_left : (a u : ℕ) → a ≡ address_count g → u ≡ extents_below g image (slot_count g) → a - u ≡ free_records g image
  free_left a u p q = omega (arith, free_is image g j)

  pub free_answer : (n : ℕ) → n ≡ free_records g image → Ok n ≡ free_count image
  free_answer n e = ap Ok e ∙ sym (free_counted image g j)

pub free_refused : (image : List ℕ) (r : Refusal) → judged image ≡ Err r → Err r ≡ free_count image
unfolding free_count
free_refused image r j = rw j
