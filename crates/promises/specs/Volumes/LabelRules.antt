-- What the rules of a label say of its numbers.
-- Assumes nothing.
use Rattle.std.specs.Prelude.{◌/◌, ℕ, ◌*◌, ◌%◌, ◌<◌, ◌≤◌, ◌≡◌, Bool, ◌&&◌, ◌||◌, List, leb, Ok}
use Rattle.std.proofs.Math.Path.{refl, ap}
use Rattle.std.proofs.Common.{◌∙◌, arith}
use Rattle.std.proofs.Math.Bool.{true, false, cond, not}
use Rattle.std.proofs.Math.Dec.{ltb, eqb}
use Rattle.std.proofs.Math.Nat.{div-add-mod', mod_self}
use borrow.Author.Tests.{ltb-false, ltb-true, leb-true, eqb-true, lt-ltb, not-true}
use Rattle.standard.specs.Files.{records_to_block}
use Rattle.standard.specs.Characters.{bytes, one_of, at, between, a_set, field}
use Rattle.standard.specs.Addresses.{rank, before, is_data_end}
use Rattle.standard.specs.Labels.{level, known_level, another_level, format_of, is_fixed, is_variable, is_spanned, block_length, record_length, unused_count, is_blocked, start_of, data_end_of, rule29, rule40, rule23, rule63, rule54, rule58, rule75, hdr1_rules, label_fault, Format, fixed, variable, spanned}
use Rattle.standard.specs.Layout.{label_at}
use Rattle.standard.specs.Slots.{has_label}
use Rattle.standard.specs.Judgement.{judged}
use Rattle.standard.specs.declared.Geometry.{Geometry}
use Rattle.promises.specs.Ground.Basics.{by_test, true_not_false, and_l, and_r, or_rest, applies, applies_both}
use Rattle.promises.specs.Volumes.Judging.{rows_each}
use Rattle.promises.specs.Volumes.AcceptedLaws.{label_faultless}

pub record Rules (g : Geometry) (h : List ℕ) : Type 0 where
  pub r23 : rule23 g h ≡ true
  pub r40 : rule40 h ≡ true
  pub r54 : rule54 g h ≡ true
  pub r58 : rule58 g h ≡ true
  pub r63 : rule63 h ≡ true

no_other : (h : List ℕ) → known_level h ≡ true → another_level h ≡ false
unfolding another_level
no_other h e = go (a_set (level h)) (known_level h) e
  where
    go : (a b : Bool) → b ≡ true → (a && not b) ≡ false
    go true b e = rw e
    go false b e = refl

pub rules : (g : Geometry) (h : List ℕ) → label_fault g h ≡ 0 → known_level h ≡ true → Rules g h
unfolding label_fault hdr1_rules
rules g h z kn =
    let o = no_other h kn in
    let (r1, (r6, (r23, (r29, (r35, (r40, (r41, (r42, (r43, (r44, (r45, (r46, (r48, (r54, (r58, (r63, _)))))))))))))))) = rows_each _ z refl in
    record {
      r23 = or_rest (another_level h) (rule23 g h) o r23;
      r40 = or_rest (another_level h) (rule40 h) o r40;
      r54 = or_rest (another_level h) (rule54 g h) o r54;
      r58 = or_rest (another_level h) (rule58 g h) o r58;
      r63 = or_rest (another_level h) (rule63 h) o r63;
    }

-- of a label of an accepted image that refusals 13 and 14 pass
pub label_rules : (image : List ℕ) (g : Geometry) (slot : ℕ) → judged image ≡ Ok g → has_label g image slot ≡ true → known_level (label_at g image slot) ≡ true
    → Rules g (label_at g image slot)
label_rules image g slot j l kn = rules g (label_at g image slot) (label_faultless image g slot j l) kn

-- "75-79 data end: not before start"
pub data_end_behind : (g : Geometry) (h : List ℕ) → label_fault g h ≡ 0 → known_level h ≡ true → rank g (start_of h) ≤ rank g (data_end_of h)
unfolding label_fault hdr1_rules rule75 before
data_end_behind g h z kn =
    let o = no_other h kn in
    let (r1, (r6, (r23, (r29, (r35, (r40, (r41, (r42, (r43, (r44, (r45, (r46, (r48, (r54, (r58, (r63, (r64, (r67, (r73, (r75, _)))))))))))))))))))) = rows_each _ z refl in
    let k = or_rest (another_level h) (is_data_end g (field h 75 79) && (not (rule29 g h) || not (ltb (rank g (data_end_of h)) (rank g (start_of h))))) o r75 in
    let n : not (ltb (rank g (data_end_of h)) (rank g (start_of h))) ≡ true = rw r29 at (and_r (is_data_end g (field h 75 79)) _ k) in
    ltb-false (rank g (data_end_of h)) (rank g (start_of h)) (not-true _ n)

-- the three formats
pub data Shape (h : List ℕ) : Type 0 where
  is_f : format_of h ≡ fixed → is_fixed h ≡ true → Shape h
  is_v : format_of h ≡ variable → is_variable h ≡ true → Shape h
  is_s : format_of h ≡ spanned → is_spanned h ≡ true → Shape h

pub shape : (h : List ℕ) → rule40 h ≡ true → Shape h
unfolding format_of rule40 one_of
shape h r = go (eqb (at h 40) 86) (eqb (at h 40) 83) refl refl
  where
    go : (v s : Bool) → eqb (at h 40) 86 ≡ v → eqb (at h 40) 83 ≡ s → Shape h
    go true s e f = is_v (rw e) (rw e)
    go false true e f = is_s (rw (e, f)) (rw f)
    go false false e f = is_f (rw (e, f)) (rw (e, f) at (and_l (one_of (bytes " FVS") (at h 40)) _ r))

module _ (g : Geometry) (h : List ℕ) (r : Rules g h) where
  blocks_whole : g.P < block_length h → block_length h % g.P ≡ 0
  unfolding rule23
  blocks_whole l =
      let q = r.r23 in
      let e : (not (ltb g.P (block_length h)) || eqb (block_length h % g.P) 0) ≡ true = search (and_l, and_r) depth 9 in
      eqb-true (block_length h % g.P) 0 (applies (ltb g.P (block_length h)) _ (lt-ltb g.P (block_length h) l) e)

  -- the records of a block have room for it
  pub block_fits : block_length h ≤ records_to_block g h * g.P
  unfolding records_to_block
  block_fits = go (ltb g.P (block_length h)) refl
    where
      go : (t : Bool) → ltb g.P (block_length h) ≡ t → block_length h ≤ cond t (block_length h / g.P) 1 * g.P
      go true e =
          let z = blocks_whole (ltb-true g.P (block_length h) e) in
          omega (arith, div-add-mod' (block_length h) g.P)
      go false e = omega (arith, ltb-false g.P (block_length h) e)

  pub blocks_most : block_length h ≤ g.D * g.P
  unfolding rule23
  blocks_most =
      let q = r.r23 in
      leb-true (block_length h) (g.D * g.P) (search (and_l, and_r) depth 9)

  -- "58-62 unused count U, spaces meaning 0, below B"
  pub unused_below : unused_count h < block_length h
  unfolding rule58
  unused_below =
      let q = r.r58 in
      let e : (not (rule23 g h) || ltb (unused_count h) (block_length h)) ≡ true = search (and_l, and_r) depth 9 in
      ltb-true (unused_count h) (block_length h) (applies (rule23 g h) _ r.r23 e)

  both : (rule23 g h && rule40 h) ≡ true
  both = rw (r.r23, r.r40)

  all : (rule23 g h && rule40 h && rule63 h) ≡ true
  all = rw (r.r23, r.r40, r.r63)

  module _ (f : is_fixed h ≡ true) where
    between_f : between 1 (block_length h) (record_length h) ≡ true
    unfolding rule54
    between_f =
        let q = r.r54 in
        applies_both (rule23 g h && rule40 h) (is_fixed h) (between 1 (block_length h) (record_length h)) both f (search (and_l, and_r) depth 9)

    pub fixed_low : 1 ≤ record_length h
    fixed_low = leb-true 1 (record_length h) (and_l (leb 1 (record_length h)) _ between_f)

    pub fixed_high : record_length h ≤ block_length h
    fixed_high = leb-true (record_length h) (block_length h) (and_r (leb 1 (record_length h)) _ between_f)

    pub fixed_one : is_blocked h ≡ false → record_length h ≡ block_length h
    unfolding rule54
    fixed_one b =
        let q = r.r54 in
        eqb-true (record_length h) (block_length h)
        (applies_both (rule23 g h && rule40 h && rule63 h) (is_fixed h && not (is_blocked h)) (eqb (record_length h) (block_length h)) all (rw (f, b))
        (search (and_l, and_r) depth 9))

    pub fixed_whole : block_length h % record_length h ≡ 0
    unfolding rule54
    fixed_whole = by_test (is_blocked h) blocked (λ b. ap (λ (n : ℕ). block_length h % n) (fixed_one b) ∙ mod_self (block_length h))
      where
        blocked : is_blocked h ≡ true → block_length h % record_length h ≡ 0
        blocked b =
            let q = r.r54 in
            eqb-true (block_length h % record_length h) 0
            (applies_both (rule23 g h && rule40 h && rule63 h) (is_fixed h && is_blocked h) (eqb (block_length h % record_length h) 0) all (rw (f, b))
            (search (and_l, and_r) depth 9))

  module _ (f : is_variable h ≡ true) where
    between_v : between 4 (block_length h) (record_length h) ≡ true
    unfolding rule54
    between_v =
        let q = r.r54 in
        applies_both (rule23 g h && rule40 h) (is_variable h) (between 4 (block_length h) (record_length h)) both f (search (and_l, and_r) depth 9)

    pub variable_low : 4 ≤ record_length h
    variable_low = leb-true 4 (record_length h) (and_l (leb 4 (record_length h)) _ between_v)

    pub variable_high : record_length h ≤ block_length h
    variable_high = leb-true (record_length h) (block_length h) (and_r (leb 4 (record_length h)) _ between_v)

  pub block_most : (is_variable h || is_spanned h) ≡ true → block_length h ≤ 9999
  unfolding rule23
  block_most f =
      let q = r.r23 in
      leb-true (block_length h) 9999
      (applies_both (rule40 h) (is_variable h || is_spanned h) (leb (block_length h) 9999) r.r40 f (search (and_l, and_r) depth 9))

  module _ (f : is_spanned h ≡ true) where
    pub spanned_low : 5 ≤ block_length h
    unfolding rule23
    spanned_low =
        let q = r.r23 in
        leb-true 5 (block_length h) (applies_both (rule40 h) (is_spanned h) (leb 5 (block_length h)) r.r40 f (search (and_l, and_r) depth 9))

    pub spanned_blocked : is_blocked h ≡ true
    unfolding rule63
    spanned_blocked =
        let q = r.r63 in
        applies_both (rule40 h) (is_spanned h) (is_blocked h) r.r40 f (search (and_l, and_r) depth 9)

-- F is read as F
pub fixed_format : (h : List ℕ) → is_fixed h ≡ true → format_of h ≡ fixed
unfolding format_of one_of
fixed_format h f = go (eqb (at h 40) 32) (eqb (at h 40) 70) refl refl
  where
    read : ℕ → Format
    read c = cond (eqb c 86) variable (cond (eqb c 83) spanned fixed)

    go : (t u : Bool) → eqb (at h 40) 32 ≡ t → eqb (at h 40) 70 ≡ u → format_of h ≡ fixed
    go true u e k = ap read (eqb-true (at h 40) 32 e)
    go false true e k = ap read (eqb-true (at h 40) 70 k)
    go false false e k = absurd (true_not_false (is_fixed h) f (rw (e, k)))
