-- Records packed under a label's rules: the sizes of the blocks, U, and the reading of them.
-- Assumes nothing.
use Rattle.std.specs.Prelude.{ℕ, zero, suc, ◌+◌, ◌-◌, ◌*◌, ◌/◌, ◌%◌, ◌<◌, ◌≤◌, ◌≡◌, refl, Bool, true, false, not, ◌&&◌, length, drop, leb, ltb, eqb, Ok}
use Rattle.std.proofs.Common.{sym, ap, subst, ◌∙◌, length-append, length-drop, length-take-le, arith, not-suc-le-zero, le_refl, div-add-mod', leb-true, leb-false, ltb-false, le-leb, eqb-true, ne_eqb}
use mathlib.Core.List.{List, [], ◌∷◌, map}
use Rattle.std.proofs.lemmas.List.{length-replicate}
use Rattle.std.proofs.Math.Nat.{mul-mod_left}
use Rattle.std.proofs.lemmas.Bool.{eqb-false, not-false}
use Rattle.standard.specs.Labels.{is_variable, is_spanned, format_of, block_length, record_length, is_blocked, Format, fixed, variable, spanned}
use Rattle.standard.specs.Records.{plain}
use Rattle.standard.specs.Listed.{read_all}
use Rattle.standard.specs.Packing.{Packing, unused_in, lay_f, record_v, lay_one, Laid, spread, least, lay_s, pack, file_of}
use Rattle.standard.specs.Refusals.{refuse}
use Rattle.standard.specs.Writing.{total, parted, wrong_in, wrong_length, lengths_from}
use Rattle.standard.specs.declared.Geometry.{Geometry}
use Rattle.promises.specs.Ground.Basics.{either, lt_or_le, true_not_false, or_l, or_r, or_right}
use Rattle.promises.specs.Ground.Lists.{Every, every_map}
use Rattle.promises.specs.Images.Tiling.{lengths}
use Rattle.promises.specs.Volumes.Judging.{stop_first, stop_rest}
use Rattle.promises.specs.Volumes.LabelRules.{Rules, Shape, is_f, is_v, is_s, shape, fixed_low, fixed_high, fixed_one, fixed_whole, variable_low, variable_high, block_most, spanned_low, spanned_blocked}
use Rattle.promises.specs.Reading.ReadingLaws.{Reads}
use Rattle.promises.specs.Writing.Laying.{lay, Sizes, lay_size, within_f, laid_f, laid_v}
use Rattle.promises.specs.Writing.WritingLaws.{goes_on_lem, FitS, write_read_s, record_v_length, FitV, within_v, write_read_v, write_read_v1, FitF, Multiple, multiple_less, multiple_short, write_read_f}
use Rattle.promises.specs.Writing.PackedSizes.{lay_s_size}

-- the blocks have B bytes, and the last B-U
abbrev pub Sized : ℕ → ℕ → List (List ℕ) → Type 0
Sized B U [] = U ≡ 0
Sized B U (c ∷ cs) = Sizes B B c cs U

-- ---- records that lie whole in a block
abbrev Within : ℕ → List (List ℕ) → Type 0
Within B es = Every (λ e. length e ≤ B) es

abbrev Filling : List (List ℕ) → Type 0
Filling es = Every (λ e. 1 ≤ length e) es

lay_below : (B : ℕ) (es : List (List ℕ)) → Within B es → Filling es → (room : ℕ) → room < B → (lay B room es).unused < B
unfolding lay
lay_below B [] v f room h = h
lay_below B (e ∷ es) v f room h = go (leb (length e) room) refl (λ r k. lay_below B es v.1 f.1 r k)
  where
    go : (t : Bool) → leb (length e) room ≡ t → ((r : ℕ) → r < B → (lay B r es).unused < B) → (lay B room (e ∷ es)).unused < B
    go true q k = rw q (k (room - length e) (omega arith))
    go false q k = rw q (k (B - length e) (omega (arith, v.0, f.0)))

lay_first : (B : ℕ) (e : List ℕ) (es : List (List ℕ)) → Within B (e ∷ es) → Filling (e ∷ es) → (lay B B (e ∷ es)).unused < B
unfolding lay
lay_first B e es v f = rw (le-leb (length e) B v.0) (lay_below B es v.1 f.1 (B - length e) (omega (arith, v.0, f.0)))

-- F: U is a multiple of R
lay_multiple : (R B : ℕ) → 1 ≤ R → R ≤ B → Multiple R B → (es : List (List ℕ)) → FitF R es → (room : ℕ) → Multiple R room → Multiple R (lay B room es).unused
unfolding lay
lay_multiple R B r rb mb [] v room m = m
lay_multiple R B r rb mb (e ∷ es) v room m = go (leb (length e) room) refl (λ n k. lay_multiple R B r rb mb es v.1 n k)
  where
    go : (t : Bool) → leb (length e) room ≡ t → ((n : ℕ) → Multiple R n → Multiple R (lay B n es).unused) → Multiple R (lay B room (e ∷ es)).unused
    go true q k =
        let l = leb-true (length e) room q in
        rw q (k (room - length e) (rw v.0 (multiple_less R room m.0 m.1 (omega (arith, v.0)) r)))
    go false q k = rw q (k (B - length e) (rw v.0 (multiple_less R B mb.0 mb.1 rb r)))

-- ---- S
spread_below : (B : ℕ) (more : ℕ → Laid) → ((r : ℕ) → r < B → (more r).unused < B) → (n : ℕ) (begun : Bool) (room : ℕ) (body : List ℕ)
    → length body < n → least body ≤ room → room ≤ B → (spread n B begun room body more).unused < B
unfolding spread
spread_below B more k zero begun room body hn hl hr = absurd (not-suc-le-zero hn)
spread_below B more k (suc n) begun room body hn hl hr =
    go (leb (5 + length body) room) refl (λ rest h₁ h₂. spread_below B more k n true B rest h₁ h₂ (le_refl B))
  where
    go : (t : Bool) → leb (5 + length body) room ≡ t → ((rest : List ℕ) → length rest < n → least rest ≤ B → (spread n B true B rest more).unused < B)
        → (spread (suc n) B begun room body more).unused < B
    go true q ih =
        let fits = leb-true (5 + length body) room q in
        rw q (k (room - (5 + length body)) (omega arith))
    go false q ih =
        let on = goes_on_lem room body (leb-false (5 + length body) room q) hl in
        rw q (ih (drop (room - 5) body) (omega arith) (omega arith))

one_below : (B : ℕ) (x : List ℕ) (xs : List (List ℕ)) (room : ℕ) → room ≤ B → least x ≤ B → ((r : ℕ) → r < B → (lay_s B r xs).unused < B)
    → (lay_s B room (x ∷ xs)).unused < B
unfolding lay_s
one_below B x xs room h hx k = go (leb (least x) room) refl
  where
    go : (t : Bool) → leb (least x) room ≡ t → (lay_s B room (x ∷ xs)).unused < B
    go true q = rw q (spread_below B (λ r. lay_s B r xs) k (suc (length x)) false room x (le_refl (suc (length x))) (leb-true (least x) room q) h)
    go false q = rw q (spread_below B (λ r. lay_s B r xs) k (suc (length x)) false B x (le_refl (suc (length x))) hx (le_refl B))

lay_s_below : (B : ℕ) (xs : List (List ℕ)) → Every (λ x. least x ≤ B) xs → (room : ℕ) → room < B → (lay_s B room xs).unused < B
lay_s_below B [] v room h = unfold lay_s in h
lay_s_below B (x ∷ xs) v room h = one_below B x xs room (omega arith) v.0 (λ r k. lay_s_below B xs v.1 r k)

-- ---- V unblocked
one_sizes : (B : ℕ) (e : List ℕ) (es : List (List ℕ)) → Within B (e ∷ es) → Sized B 0 (lay_one B (e ∷ es))
unfolding lay_one
one_sizes B e [] v = simp (length-append, length-replicate) (omega (arith, v.0))
one_sizes B e (x ∷ es) v = (simp (length-append, length-replicate) (omega (arith, v.0)), one_sizes B x es v.1)

-- ---- WHAT A PACKING IS
pub record Right (f : Format) (R : ℕ) (bl : Bool) (B : ℕ) (xs : List (List ℕ)) : Type 0 where
  pub sized : Sized B (pack (record { format = f; R = R; blocked = bl }) B xs).U (pack (record { format = f; R = R; blocked = bl }) B xs).contents
  pub below : (pack (record { format = f; R = R; blocked = bl }) B xs).U < B
  pub unblocked : bl ≡ false → (pack (record { format = f; R = R; blocked = bl }) B xs).U ≡ 0
  pub multiple : f ≡ fixed → (pack (record { format = f; R = R; blocked = bl }) B xs).U % R ≡ 0
  pub reads : Reads (read_all plain (file_of (record { format = f; R = R; blocked = bl }) (pack (record { format = f; R = R; blocked = bl }) B xs).contents)) xs

fit_filling : (R : ℕ) → 1 ≤ R → (xs : List (List ℕ)) → FitF R xs → Filling xs
fit_filling R h = every_map (λ x. length x ≡ R) (λ x. 1 ≤ length x) (λ x e. omega arith)

multiple_mod : (R n : ℕ) → Multiple R n → n % R ≡ 0
multiple_mod R n m = ap (λ (k : ℕ). k % R) m.1 ∙ mul-mod_left m.0 R

right_f : (R : ℕ) (bl : Bool) (B : ℕ) → 1 ≤ R → R ≤ B → B ≡ B / R * R → (bl ≡ false → R ≡ B) → (xs : List (List ℕ)) → FitF R xs → Right fixed R bl B xs
unfolding pack lay_f unused_in
right_f R bl B r rb q one [] v =
    record {
      sized = refl;
      below = omega arith;
      unblocked = λ _. refl;
      multiple = λ _. multiple_mod R 0 (0, omega arith);
      reads = write_read_f R bl B r rb q [] v;
    }
right_f R bl B r rb q one (x ∷ xs) v =
    let k = laid_f R bl B r rb q x xs v in
    let same = ap (λ (p : Packing). p.U) k in
    let u = lay_multiple R B r rb (B / R, q) (x ∷ xs) v B (B / R, q) in
    let b = lay_first B x xs (within_f R B rb (x ∷ xs) v) (fit_filling R r (x ∷ xs) v) in
    record {
      sized = subst (λ (p : Packing). Sized B p.U p.contents) (sym k) (lay_size B (x ∷ xs) (within_f R B rb (x ∷ xs) v) B);
      below = omega (arith, same, b);
      unblocked = λ e. same ∙ multiple_short R _ u.0 u.1 (omega (arith, one e));
      multiple = λ _. ap (λ (n : ℕ). n % R) same ∙ multiple_mod R _ u;
      reads = write_read_f R bl B r rb q (x ∷ xs) v;
    }

filling_v : (xs : List (List ℕ)) → Filling (map record_v xs)
filling_v [] = tt
filling_v (x ∷ xs) = (omega (arith, record_v_length x), filling_v xs)

not_fixed_v : {A : Type 0} → variable ≡ fixed → A
not_fixed_v e = let z : ◌≡◌ {A = ℕ} 0 1 = cc in absurd (omega (arith, z))

not_fixed_s : {A : Type 0} → spanned ≡ fixed → A
not_fixed_s e = let z : ◌≡◌ {A = ℕ} 0 1 = cc in absurd (omega (arith, z))

not_false_true : {A : Type 0} → true ≡ false → A
not_false_true e = absurd (true_not_false true refl e)

right_v : (R : ℕ) (bl : Bool) (B : ℕ) → 4 ≤ R → R ≤ B → B ≤ 9999 → (xs : List (List ℕ)) → FitV R xs → Right variable R bl B xs
unfolding pack unused_in
right_v R true B r rb most [] v =
    record { sized = refl; below = omega arith; unblocked = not_false_true; multiple = not_fixed_v; reads = write_read_v R B (omega arith) rb [] v }
right_v R true B r rb most (x ∷ xs) v =
    let k = laid_v R B x xs (within_v R B rb (x ∷ xs) v) in
    let b = lay_first B (record_v x) (map record_v xs) (within_v R B rb (x ∷ xs) v) (filling_v (x ∷ xs)) in
    record {
      sized = subst (λ (p : Packing). Sized B p.U p.contents) (sym k) (lay_size B (map record_v (x ∷ xs)) (within_v R B rb (x ∷ xs) v) B);
      below = omega (arith, ap (λ (p : Packing). p.U) k, b);
      unblocked = not_false_true;
      multiple = not_fixed_v;
      reads = write_read_v R B (omega arith) rb (x ∷ xs) v;
    }
right_v R false B r rb most [] v =
    record { sized = unfold lay_one in refl; below = omega arith; unblocked = λ _. refl; multiple = not_fixed_v; reads = write_read_v1 R B (omega arith) [] v }
right_v R false B r rb most (x ∷ xs) v =
    record {
      sized = one_sizes B (record_v x) (map record_v xs) (within_v R B rb (x ∷ xs) v);
      below = omega arith;
      unblocked = λ _. refl;
      multiple = not_fixed_v;
      reads = write_read_v1 R B (omega arith) (x ∷ xs) v;
    }

fit_s : (R : ℕ) (bl : Bool) (B : ℕ) (xs : List (List ℕ)) → FitS R bl B xs → Every (λ x. least x ≤ B) xs
fit_s R bl B = every_map _ (λ x. least x ≤ B) (λ x v. v.1)

right_s : (R : ℕ) (bl : Bool) (B : ℕ) → bl ≡ true → 5 ≤ B → B ≤ 9999 → (xs : List (List ℕ)) → FitS R bl B xs → Right spanned R bl B xs
unfolding pack
right_s R bl B e low most [] v =
    record {
      sized = refl;
      below = omega arith;
      unblocked = λ f. absurd (true_not_false bl e f);
      multiple = not_fixed_s;
      reads = write_read_s R bl B (omega arith) [] v;
    }
right_s R bl B e low most (x ∷ xs) v =
    record {
      sized = lay_s_size B (x ∷ xs) (fit_s R bl B (x ∷ xs) v) B (le_refl B);
      below = one_below B x xs B (le_refl B) v.0.1 (λ r k. lay_s_below B xs (fit_s R bl B xs v.1) r k);
      unblocked = λ f. absurd (true_not_false bl e f);
      multiple = not_fixed_s;
      reads = write_read_s R bl B (omega arith) (x ∷ xs) v;
    }

-- ---- refusals 25 and 26 not given
lengths_fit : (h : List ℕ) (i : ℕ) (lengths bodies : List ℕ) → lengths_from h i lengths ≡ Ok tt → total lengths ≡ length bodies
    → Every (λ x. wrong_length h (length x) ≡ false) (parted bodies lengths)
unfolding lengths_from total parted
lengths_fit h i [] bodies p e = tt
lengths_fit h i (n ∷ lengths) bodies p e =
    let l = length-take-le n bodies (omega arith) in (
      rw l (stop_first (wrong_length h n) _ (lengths_from h (i + 1) lengths) p),
      lengths_fit h (i + 1) lengths (drop n bodies) (stop_rest (wrong_length h n) (refuse 26 i) (lengths_from h (i + 1) lengths) p) (omega (arith, length-drop n bodies)),
    )

fits_f : (B R : ℕ) (xs : List (List ℕ)) → Every (λ x. wrong_in fixed B R (length x) ≡ false) xs → FitF R xs
fits_f B R = every_map _ (λ x. length x ≡ R) (λ x v. eqb-true (length x) R (not-false _ v))

fits_v : (B R : ℕ) (xs : List (List ℕ)) → Every (λ x. wrong_in variable B R (length x) ≡ false) xs → FitV R xs
fits_v B R = every_map _ (λ x. 4 + length x ≤ R) (λ x v. omega (arith, ltb-false R (length x + 4) v))

-- 26, "or not 0 with B = 5": where a record has a byte, a block has room for it
pub six_fits : (B n : ℕ) → 5 ≤ B → (eqb B 5 && not (eqb (suc n) 0)) ≡ false → 6 ≤ B
six_fits B n l e = go (eqb B 5) refl
  where
    go : (t : Bool) → eqb B 5 ≡ t → 6 ≤ B
    go true q = absurd (true_not_false (eqb B 5 && not (eqb (suc n) 0)) (rw (q, ne_eqb (suc n) 0 (λ (z : suc n ≡ 0). omega arith))) e)
    go false q = let d = eqb-false B 5 q in either (lt_or_le 5 B) (λ (k : 5 < B). k) (λ (k : B ≤ 5). absurd (d (omega arith)))

least_fits : (B : ℕ) → 5 ≤ B → (x : List ℕ) → (eqb B 5 && not (eqb (length x) 0)) ≡ false → least x ≤ B
least_fits B l [] e = l
least_fits B l (y ∷ x) e = six_fits B (length x) l e

fits_s : (B R : ℕ) (bl : Bool) → 5 ≤ B → (xs : List (List ℕ)) → Every (λ x. wrong_in spanned B R (length x) ≡ false) xs → FitS R bl B xs
fits_s B R bl l =
    every_map _ (λ x. ((ltb 0 R && ltb R (length x)) ≡ false) × (least x ≤ B))
    (λ x v. (or_l (ltb 0 R && ltb R (length x)) _ v, least_fits B l x (or_r (ltb 0 R && ltb R (length x)) _ v)))

-- WHAT IS PACKED UNDER A LABEL'S RULES
pub packed_right : (g : Geometry) (h bodies lengths : List ℕ) → Rules g h → lengths_from h 0 lengths ≡ Ok tt → total lengths ≡ length bodies
    → Right (format_of h) (record_length h) (is_blocked h) (block_length h) (parted bodies lengths)
unfolding wrong_length
packed_right g h bodies lengths r p e = go (shape h r.r40) (lengths_fit h 0 lengths bodies p e)
  where
    go : Shape h → Every (λ x. wrong_length h (length x) ≡ false) (parted bodies lengths)
        → Right (format_of h) (record_length h) (is_blocked h) (block_length h) (parted bodies lengths)
    go (is_f f t) v =
        let q : block_length h ≡ block_length h / record_length h * record_length h = omega (arith, div-add-mod' (block_length h) (record_length h), fixed_whole g h r t) in
        rw f (right_f (record_length h) (is_blocked h) (block_length h) (fixed_low g h r t) (fixed_high g h r t) q (fixed_one g h r t) (parted bodies lengths)
        (fits_f (block_length h) (record_length h) (parted bodies lengths) (rw f at v)))
    go (is_v f t) v =
        rw f (right_v (record_length h) (is_blocked h) (block_length h) (variable_low g h r t) (variable_high g h r t) (block_most g h r (rw t)) (parted bodies lengths)
        (fits_v (block_length h) (record_length h) (parted bodies lengths) (rw f at v)))
    go (is_s f t) v =
        rw f (right_s (record_length h) (is_blocked h) (block_length h) (spanned_blocked g h r t) (spanned_low g h r t) (block_most g h r (or_right (is_variable h) (is_spanned h) t)) (parted bodies lengths)
        (fits_s (block_length h) (record_length h) (is_blocked h) (spanned_low g h r t) (parted bodies lengths) (rw f at v)))
