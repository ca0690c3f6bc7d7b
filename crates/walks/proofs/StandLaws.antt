-- A segment met, in numbers and in bytes.
-- Assumes nothing.
use Rattle.std.specs.Prelude.{Ok}
use Prim.Native.Nat.{ℕ, ◌+◌, ◌-◌, ◌<◌, ◌≤◌}
use mathlib.Core.Path.{◌≡◌, refl, sym, ap, subst, ◌∙◌}
use mathlib.Core.Bool.{Bool, true, false, cond}
use mathlib.Core.List.{List, [], ◌∷◌, ◌++◌}
use lib.ListN.{length, take, length-append}
use native.Mathlib.Omega.{arith}
use Rattle.standard.specs.Labels.{Format, fixed, variable, spanned, Params}
use Rattle.standard.specs.Records.{within, deliver, carry, breach, over_in, over, meet}
use Rattle.standard.specs.Places.{next_block, after_gap}
use Rattle.standard.specs.declared.Place.{Place}
use Rattle.promises.specs.Ground.Basics.{cond_elim}
use Rattle.promises.proofs.Reading.GoingOn.{next_inside}
use Rattle.labels.specs.Forms.{format_for}
use Rattle.labels.specs.declared.Form.{Form}
use Rattle.blocks.specs.Roles.{role_for, begins_by, completes_by}
use Rattle.blocks.specs.declared.Role.{Role}
use Rattle.blocks.specs.declared.Role.TheVariants.{Whole, First, Middle, Last}
use Rattle.pieces.specs.Looks.{head_of}
use Rattle.walks.specs.declared.Mode.{Mode}
use Rattle.walks.specs.declared.Mode.TheVariants.{Salvage}
use Rattle.walks.specs.Stands.{length_of, state_with, limit_in, limit_of, joined_by, dropped_by, meet_by, move_with, lost_by}
use Rattle.walks.specs.declared.Measured.TheVariants.{Lost}
use Rattle.walks.specs.declared.Stand.{Stand}
use Rattle.walks.specs.declared.Stand.TheVariants.{Fresh, Marked, Within}
use Rattle.walks.specs.declared.Move.{Move}
use Rattle.walks.specs.declared.Move.TheVariants.{Deliver, Carry, Breach}

-- F and V have no limit
over_is : (f : Format) (R n : ℕ) → over_in f R n ≡ over_in spanned (limit_in f R) n
over_is fixed R n = refl
over_is variable R n = refl
over_is spanned R n = refl

nothing : (s : List ℕ) → length s ≡ 0 → s ≡ []
nothing [] e = refl
nothing (x ∷ s) e = absurd (omega (arith, e))

ends : (t : Bool) (body : List ℕ) (n f : ℕ) → cond t breach (deliver body f) ≡ move_with body (cond t Breach (cond true (Deliver n f) (Carry (Within n f))))
ends true body n f = refl
ends false body n f = refl

goes : (t : Bool) (body : List ℕ) (n f : ℕ) → cond t breach (carry (within body f)) ≡ move_with body (cond t Breach (cond false (Deliver n f) (Carry (Within n f))))
goes true body n f = refl
goes false body n f = refl

-- MEETING A SEGMENT: what the numbers say is what the definition says, with the bytes
module _ (p : Params) (acc body : List ℕ) (b : ℕ) where
  joins : (n : ℕ) → length acc + length body ≡ n → over p (length (acc ++ body)) ≡ over_in spanned (limit_of p) n
  joins n e = over_is p.format p.R (length (acc ++ body)) ∙ ap (over_in spanned (limit_of p)) (length-append acc body ∙ e)

  pub meet_with : (s : Stand) (k : Role) → length acc ≡ length_of s
      → meet p (state_with acc s) (role_for k) body b ≡ move_with (acc ++ body) (meet_by (limit_of p) s k (length body) b)
  unfolding meet_by joined_by
  meet_with Fresh Whole e = rw (nothing acc e, over_is p.format p.R (length body)) (ends (over_in spanned (limit_of p) (length body)) body (length body) b)
  meet_with Fresh First e = rw (nothing acc e, over_is p.format p.R (length body)) (goes (over_in spanned (limit_of p) (length body)) body (length body) b)
  meet_with Fresh Middle e = refl
  meet_with Fresh Last e = refl
  meet_with Marked Whole e = rw (nothing acc e, over_is p.format p.R (length body)) (ends (over_in spanned (limit_of p) (length body)) body (length body) b)
  meet_with Marked First e = rw (nothing acc e, over_is p.format p.R (length body)) (goes (over_in spanned (limit_of p) (length body)) body (length body) b)
  meet_with Marked Middle e = refl
  meet_with Marked Last e = refl
  meet_with (Within n f) Whole e = refl
  meet_with (Within n f) First e = refl
  meet_with (Within n f) Middle e =
      let z : length acc + length body ≡ n + length body = ap (λ (k : ℕ). k + length body) e in
      rw (joins (n + length body) z) (goes (over_in spanned (limit_of p) (n + length body)) (acc ++ body) (n + length body) f)
  meet_with (Within n f) Last e =
      let z : length acc + length body ≡ n + length body = ap (λ (k : ℕ). k + length body) e in
      rw (joins (n + length body) z) (ends (over_in spanned (limit_of p) (n + length body)) (acc ++ body) (n + length body) f)

-- HOW LONG A BODY IS BEHIND A SEGMENT of so many bytes
abbrev StandSays : Stand → ℕ → Stand → Type 0
StandSays s n Fresh = length_of s ≡ 0
StandSays s n Marked = length_of s ≡ 0
StandSays s n (Within k f) = k ≡ length_of s + n

abbrev MoveSays : Stand → ℕ → Move → Type 0
MoveSays s n (Deliver k f) = k ≡ length_of s + n
MoveSays s n (Carry t) = StandSays s n t
MoveSays s n Breach = Unit {0}

joined_says : (limit : ℕ) (s : Stand) (n k f : ℕ) (completes : Bool) → k ≡ length_of s + n → MoveSays s n (joined_by limit k f completes)
unfolding joined_by
joined_says limit s n k f completes e =
    cond_elim (MoveSays s n) (over_in spanned limit k) (λ _. tt) (λ _. cond_elim (MoveSays s n) completes (λ _. e) (λ _. e))

dropped_says : (s : Stand) (n : ℕ) (k : Role) → length_of s ≡ 0 → MoveSays s n (dropped_by k)
dropped_says s n Whole e = e
dropped_says s n First e = e
dropped_says s n Middle e = e
dropped_says s n Last e = e

meet_says : (limit : ℕ) (s : Stand) (k : Role) (n b : ℕ) → MoveSays s n (meet_by limit s k n b)
unfolding meet_by
meet_says limit Fresh k n b =
    cond_elim (MoveSays Fresh n) (begins_by k) (λ _. joined_says limit Fresh n n b (completes_by k) (omega arith)) (λ _. tt)
meet_says limit Marked k n b =
    cond_elim (MoveSays Marked n) (begins_by k) (λ _. joined_says limit Marked n n b (completes_by k) (omega arith)) (λ _. dropped_says Marked n k refl)
meet_says limit (Within len f) k n b =
    cond_elim (MoveSays (Within len f) n) (begins_by k) (λ _. tt) (λ _. joined_says limit (Within len f) n (len + n) f (completes_by k) refl)

pub deliver_says : (limit : ℕ) (s : Stand) (k : Role) (n b len f : ℕ) → Deliver len f ≡ meet_by limit s k n b → len ≡ length_of s + n
deliver_says limit s k n b len f e = subst (MoveSays s n) (sym e) (meet_says limit s k n b)

carry_says : (limit : ℕ) (s : Stand) (k : Role) (n b : ℕ) (t : Stand) → Carry t ≡ meet_by limit s k n b → StandSays s n t
carry_says limit s k n b t e = subst (MoveSays s n) (sym e) (meet_says limit s k n b)

-- what a reader has then: the bytes so far and those of the segment, where it is inside a record; nothing else
pub carry_length : (limit : ℕ) (s : Stand) (k : Role) (n b : ℕ) (t : Stand) → Carry t ≡ meet_by limit s k n b → (length_of s ≤ length_of t) × (length_of t ≤ length_of s + n)
carry_length limit s k n b t e = go t (carry_says limit s k n b t e)
  where
    go : (t : Stand) → StandSays s n t → (length_of s ≤ length_of t) × (length_of t ≤ length_of s + n)
    go Fresh h = (omega (arith, h), omega arith)
    go Marked h = (omega (arith, h), omega arith)
    go (Within k f) h = (omega (arith, h), omega (arith, h))

pub carry_state : (limit : ℕ) (s : Stand) (k : Role) (n b : ℕ) (t : Stand) (acc more : List ℕ) → Carry t ≡ meet_by limit s k n b
    → state_with (acc ++ take n more) t ≡ state_with (acc ++ take (length_of t - length_of s) more) t
carry_state limit s k n b t acc more e = go t (carry_says limit s k n b t e)
  where
    go : (t : Stand) → StandSays s n t → state_with (acc ++ take n more) t ≡ state_with (acc ++ take (length_of t - length_of s) more) t
    go Fresh h = refl
    go Marked h = refl
    go (Within k f) h = let z : n ≡ k - length_of s = omega (arith, h) in ap (λ (i : ℕ). within (acc ++ take i more) f) z

-- a lost block, and the next one
pub lost_salvage : (s : Mode) (pl q r : Place) (count : ℕ) → s ≡ Salvage → pl.block < count → q ≡ next_block count pl → r ≡ after_gap q → Ok (Lost r) ≡ lost_by s pl.block
lost_salvage s pl q r count e l n g = rw (e, g, n, next_inside count pl l)

pub entered_next : (q pl : Place) (count : ℕ) → q ≡ next_block count pl → pl.block < count → (q.block ≡ pl.block + 1) × (q.offset ≡ 0)
entered_next q pl count n l = rw (n, next_inside count pl l) (omega arith, refl)

-- the numbers that the code asks with
pub meet_as : (form : Form) (R : ℕ) (s : Stand) (k : Role) (size b l n h : ℕ) (mv : Move) → l ≡ limit_in (format_for form) R → h ≡ head_of form → n ≡ size - h
    → mv ≡ meet_by l s k n b → mv ≡ meet_by (limit_in (format_for form) R) s k (size - head_of form) b
meet_as form R s k size b l n h mv p q r e =
    e ∙ (ap (λ (i : ℕ). meet_by i s k n b) p ∙ ap (λ (i : ℕ). meet_by (limit_in (format_for form) R) s k i b) (r ∙ ap (λ (i : ℕ). size - i) q))
