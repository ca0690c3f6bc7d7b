-- The same file in a slot of two accepted images: a write to it is answered alike.
-- Assumes nothing.
use Rattle.std.specs.Prelude.{ℕ, ◌<◌, ◌≡◌, refl, List, length, Result, Ok, Err, ⊤}
use Rattle.std.proofs.Common.{sym, ap, ◌∙◌}
use Rattle.standard.specs.Layout.{label_at}
use Rattle.standard.specs.Slots.{has_label}
use Rattle.standard.specs.Judgement.{judged, on_volume}
use Rattle.standard.specs.Writing.{Outcome, packing, image_with, unless, write_refusal, outcome, written}
use Rattle.standard.specs.declared.Geometry.{Geometry}
use Rattle.promises.specs.Ground.Basics.{by_test}
use Rattle.standard.specs.declared.Refusal.{Refusal}
use Rattle.promises.proofs.Locality.{SameFile, write_same, write_13}

abbrev done : Geometry → List ℕ → ℕ → List ℕ → List ℕ → Outcome
done g image slot bodies lengths =
    record {
      answer = Ok (length (packing (label_at g image slot) bodies lengths).contents);
      image = image_with g image slot (packing (label_at g image slot) bodies lengths);
    }

abbrev outcome_on : Result Geometry Refusal → List ℕ → ℕ → List ℕ → List ℕ → Outcome
outcome_on v image slot bodies lengths =
    on_volume v (λ r. record { answer = Err r; image = image })
    (λ g. unless (write_refusal g image slot bodies lengths) image (done g image slot bodies lengths))

written_on : (image : List ℕ) (g : Geometry) (slot : ℕ) (bodies lengths : List ℕ) → judged image ≡ Ok g
    → written image slot bodies lengths ≡ (unless (write_refusal g image slot bodies lengths) image (done g image slot bodies lengths)).answer
unfolding outcome
written_on image g slot bodies lengths j = ap (λ (v : Result Geometry Refusal). (outcome_on v image slot bodies lengths).answer) j

unless_same : (c : Result ⊤ Refusal) (i i' : List ℕ) (o o' : Outcome) → o.answer ≡ o'.answer → (unless c i o).answer ≡ (unless c i' o').answer
unless_same (Ok _) i i' o o' e = e
unless_same (Err r) i i' o o' e = refl

pub written_same : (g : Geometry) (image image' : List ℕ) (slot : ℕ) → 0 < g.P → SameFile g image image' slot → judged image ≡ Ok g → judged image' ≡ Ok g
    → (bodies lengths : List ℕ) → written image slot bodies lengths ≡ written image' slot bodies lengths
written_same g image image' slot p same j j' bodies lengths =
    let refusal = write_same g image image' slot p same bodies lengths in
    let d = done g image slot bodies lengths in
    let d' = done g image' slot bodies lengths in
    written_on image g slot bodies lengths j
    ∙ by_test (has_label g image slot)
    (λ l.
    unless_same (write_refusal g image slot bodies lengths) image image' d d' (ap (λ (h : List ℕ). Ok (length (packing h bodies lengths).contents)) (same.label l))
    ∙ ap (λ (c : Result ⊤ Refusal). (unless c image' d').answer) refusal)
    (λ l.
    ap (λ (c : Result ⊤ Refusal). (unless c image d).answer) (write_13 g image slot bodies lengths l)
    ∙ sym (ap (λ (c : Result ⊤ Refusal). (unless c image' d').answer) (sym refusal ∙ write_13 g image slot bodies lengths l)))
    ∙ sym (written_on image' g slot bodies lengths j')
