-- Request 2026-02: where 3 is given, which positions it names, and when it names 80.
-- Assumes nothing.
use Rattle.std.specs.Prelude.{ℕ, ◌<◌, ◌≡◌, refl, Bool, true, false, cond, List, [], ◌∷◌, take, drop, eqb, ltb, Result, Ok, Err, ⊤}
use Rattle.std.proofs.Common.{sym, ap, subst, ◌∙◌, inr, arith, eqb-true, ne_eqb, ltb-true, lt-ltb}
use Rattle.standard.specs.Characters.{bytes, byte, one_of, at}
use Rattle.standard.specs.Refusals.{refuse}
use Rattle.standard.specs.Rules.{Row, lowest_fault}
use Rattle.standard.specs.Layout.{vol1_of}
use Rattle.standard.specs.Volume.{vol1_rules}
use Rattle.standard.specs.Judgement.{volume_of, volume_list, judged, refusal1, refusal2, refusal3}
use Rattle.standard.specs.declared.Geometry.{Geometry}
use Rattle.standard.specs.declared.Refusal.{Refusal}
use Rattle.promises.specs.Ground.Basics.{by_test, true_not_false, or_rest}
use Rattle.promises.specs.Ground.Lists.{Every}
use Rattle.promises.specs.Volumes.Judging.{accepted, rows_each}
use Rattle.promises.specs.Volumes.VolumeNumbers.{vol1_right}
use Rattle.promises.specs.Refusals.Refusing.{Exactly, volume_first}
use Rattle.promises.specs.Refusals.PlacesNamed.{given_exactly, held_named}
use Rattle.promises.specs.Bounds.Sizes.{VolumeFault, of_vol1, of_another, volume_fault}

-- ---- 3 IS VOL1'S, behind 1 and 2: no other refusal of the volume has that number
three_of_vol1 : (image : List ℕ) (r : Refusal) → r.number ≡ 3 → judged image ≡ Err r
    → (refusal1 image ≡ Ok tt) × (refusal2 image ≡ Ok tt) × (refusal3 (vol1_of image) ≡ Err r)
three_of_vol1 image r three j = go (volume_fault image r j)
  where
    go : VolumeFault image r → (refusal1 image ≡ Ok tt) × (refusal2 image ≡ Ok tt) × (refusal3 (vol1_of image) ≡ Err r)
    go (of_vol1 long readable here) = (long, readable, here)
    go (of_another other) = absurd (other.0 three)

-- ---- WHICH POSITIONS
vol1_names : (v : List ℕ) → one_of (0 ∷ 1 ∷ 5 ∷ 11 ∷ 38 ∷ 72 ∷ 76 ∷ 77 ∷ 80 ∷ 81 ∷ 83 ∷ 85 ∷ 89 ∷ []) (lowest_fault (vol1_rules v)) ≡ true
unfolding one_of vol1_rules
vol1_names v =
    held_named (1 ∷ 5 ∷ 11 ∷ 38 ∷ 72 ∷ 76 ∷ 77 ∷ 80 ∷ 81 ∷ 83 ∷ 85 ∷ 89 ∷ []) (vol1_rules v)
    (inr refl, (inr refl, (inr refl, (inr refl, (inr refl, (inr refl, (inr refl, (inr refl, (inr refl, (inr refl, (inr refl, (inr refl, tt))))))))))))

not_zero : (ps : List ℕ) (n : ℕ) → 0 < n → one_of (0 ∷ ps) n ≡ true → one_of ps n ≡ true
unfolding one_of
not_zero ps n l h = or_rest (eqb n 0) _ (ne_eqb n 0 (λ q. omega (arith, q))) h

-- what is given for VOL1 names the lowest fault
fault_given : (v : List ℕ) (r : Refusal) → refusal3 v ≡ Err r → (0 < lowest_fault (vol1_rules v)) × (r.first ≡ lowest_fault (vol1_rules v))
fault_given v r h =
    let t = (given_exactly (ltb 0 (lowest_fault (vol1_rules v))) (refuse 3 (lowest_fault (vol1_rules v))) r).0 h in
    (ltb-true 0 (lowest_fault (vol1_rules v)) t.0, ap (λ (x : Refusal). x.first) t.1)

pub three_names : (image : List ℕ) (r : Refusal) → r.number ≡ 3 → judged image ≡ Err r
    → one_of (1 ∷ 5 ∷ 11 ∷ 38 ∷ 72 ∷ 76 ∷ 77 ∷ 80 ∷ 81 ∷ 83 ∷ 85 ∷ 89 ∷ []) r.first ≡ true
three_names image r three j =
    let f = fault_given (vol1_of image) r (three_of_vol1 image r three j).2 in
    rw f.1 (not_zero _ (lowest_fault (vol1_rules (vol1_of image))) f.0 (vol1_names (vol1_of image)))

-- ---- 80
only_one : (c x : ℕ) → one_of (x ∷ []) c ≡ true → c ≡ x
unfolding one_of
only_one c x h = eqb-true c x (by_test (eqb c x) (λ t. t) (λ f. absurd (true_not_false false (rw f at h) refl)))

pub version_is : (image : List ℕ) (g : Geometry) → judged image ≡ Ok g → at (vol1_of image) 80 ≡ byte "3"
unfolding vol1_rules
version_is image g j =
    let v = vol1_of image in
    let (r1, (r5, (r11, (r38, (r72, (r76, (r77, (r80, _)))))))) = rows_each (vol1_rules v) (vol1_right v (accepted image g j).vol1) refl in
    only_one (at v 80) 51 r80

-- a row of another position than the fault's holds, and the fault is behind it
past : (x : Row) (rows : List Row) (p : ℕ) → (x.position ≡ p → ⊥) → lowest_fault (x ∷ rows) ≡ p → (x.holds ≡ true) × (lowest_fault rows ≡ p)
unfolding lowest_fault
past x rows p ne e = go x.holds refl e
  where
    go : (t : Bool) → x.holds ≡ t → cond t (lowest_fault rows) x.position ≡ p → (x.holds ≡ true) × (lowest_fault rows ≡ p)
    go true h k = (h, k)
    go false h k = absurd (ne k)

-- the rules of the positions below 80 hold
abbrev pub HoldBelow80 : List ℕ → Type 0
HoldBelow80 v = Every (λ r. r.holds ≡ true) (take 7 (vol1_rules v))

-- the rest of the table, of which no row is of 80
not_later : (v : List ℕ) → lowest_fault (drop 8 (vol1_rules v)) ≡ 80 → ⊥
unfolding one_of vol1_rules
not_later v e =
    true_not_false (one_of (0 ∷ 81 ∷ 83 ∷ 85 ∷ 89 ∷ []) 80)
    (subst (λ (n : ℕ). one_of (0 ∷ 81 ∷ 83 ∷ 85 ∷ 89 ∷ []) n ≡ true) e
    (held_named (81 ∷ 83 ∷ 85 ∷ 89 ∷ []) (drop 8 (vol1_rules v)) (inr refl, (inr refl, (inr refl, (inr refl, tt))))))
    refl

held_past : (x : Row) (rows : List Row) → x.holds ≡ true → lowest_fault (x ∷ rows) ≡ lowest_fault rows
unfolding lowest_fault
held_past x rows h = rw h

is_three : (c : ℕ) → c ≡ byte "3" → one_of (bytes "3") c ≡ true
unfolding one_of
is_three c e = rw e

named_80 : (v : List ℕ) → lowest_fault (vol1_rules v) ≡ 80 → HoldBelow80 v × (at v 80 ≡ byte "3" → ⊥)
unfolding vol1_rules
named_80 v e =
    let (h1, e1) = past _ _ 80 (λ q. omega (arith, q)) e in
    let (h5, e5) = past _ _ 80 (λ q. omega (arith, q)) e1 in
    let (h11, e11) = past _ _ 80 (λ q. omega (arith, q)) e5 in
    let (h38, e38) = past _ _ 80 (λ q. omega (arith, q)) e11 in
    let (h72, e72) = past _ _ 80 (λ q. omega (arith, q)) e38 in
    let (h76, e76) = past _ _ 80 (λ q. omega (arith, q)) e72 in
    let (h77, e77) = past _ _ 80 (λ q. omega (arith, q)) e76 in
    ((h1, (h5, (h11, (h38, (h72, (h76, (h77, tt))))))), (λ c. not_later v (sym (held_past _ _ (is_three (at v 80) c)) ∙ e77)))

fault_80 : (v : List ℕ) → HoldBelow80 v → (at v 80 ≡ byte "3" → ⊥) → lowest_fault (vol1_rules v) ≡ 80
unfolding vol1_rules lowest_fault one_of
fault_80 v (h1, (h5, (h11, (h38, (h72, (h76, (h77, _))))))) ne = rw (h1, h5, h11, h38, h72, h76, h77, ne_eqb (at v 80) 51 ne)

pub three_at_80 : (image : List ℕ) → Exactly (judged image ≡ Err (refuse 3 80))
    ((refusal1 image ≡ Ok tt) × (refusal2 image ≡ Ok tt) × HoldBelow80 (vol1_of image) × (at (vol1_of image) 80 ≡ byte "3" → ⊥))
three_at_80 image = (
  (λ j.
      let s = three_of_vol1 image (refuse 3 80) refl j in
      let n = named_80 (vol1_of image) (sym (fault_given (vol1_of image) (refuse 3 80) s.2).1) in
      (s.0, s.1, n.0, n.1)),
  (λ f.
      let e = fault_80 (vol1_of image) f.2 f.3 in
      let here : refusal3 (vol1_of image) ≡ Err (refuse 3 80) =
      (given_exactly (ltb 0 (lowest_fault (vol1_rules (vol1_of image)))) (refuse 3 (lowest_fault (vol1_rules (vol1_of image)))) (refuse 3 80)).1
      (lt-ltb 0 (lowest_fault (vol1_rules (vol1_of image))) (omega (arith, e)), ap (refuse 3) (sym e)) in
      (volume_first image (refuse 3 80)).1
      (record {
        earlier = refusal1 image ∷ refusal2 image ∷ [];
        later = drop 3 (volume_list image (volume_of image));
        stands = ap (λ (c : Result ⊤ Refusal). refusal1 image ∷ refusal2 image ∷ c ∷ drop 3 (volume_list image (volume_of image))) here;
        none_earlier = (f.0, (f.1, tt));
      })),
)
