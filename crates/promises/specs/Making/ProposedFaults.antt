-- Request 2026-01: the positions at which a proposal can be at fault. "10 for the proposed label": 6, 23, 35, 40, 44, 54 and 63, no others.
-- Assumes nothing.
use Rattle.std.specs.Prelude.{ℕ, ◌%◌, ◌<◌, ◌≡◌, Bool, false, cond, not, ◌&&◌, ◌||◌, ◌⊎◌, List, [], ◌∷◌, length, get_or, leb, ltb, eqb}
use Rattle.std.proofs.Math.Path.{refl, ap}
use Rattle.std.proofs.Common.{subst, ◌∙◌, arith}
use Rattle.std.proofs.Math.Bool.{true}
use Rattle.std.proofs.Math.Logic.{inl, inr}
use Rattle.std.proofs.Math.Nat.{zero-mod}
use borrow.Author.Tests.{lt-ltb, leb-true, eq-eqb, eqb-true, le-ltb}
use Rattle.standard.specs.Characters.{bytes, one_of, same, every, a_set, at, field, spaces_or_number, padded, is_digit, digit_value, spaces}
use Rattle.standard.specs.Rules.{Row, row, lowest_fault}
use Rattle.standard.specs.Addresses.{first_address, five_digits, address_in, legal, rank, before, is_address, is_data_end}
use Rattle.standard.specs.Labels.{known_level, another_level, is_fixed, is_variable, is_spanned, is_blocked, block_length, record_length, unused_count, rule6, rule29, rule35, rule40, rule41, rule42, rule43, rule45, rule46, spaces_or_date, rule48, rule54, rule58, rule63, rule64, rule67, rule73, rule75, rule23, hdr1_rules, label_fault}
use Rattle.standard.specs.Creating.{proposed, draft, proposal_fault}
use Rattle.standard.specs.declared.Geometry.{Geometry}
use Rattle.promises.specs.Ground.Basics.{either, by_test, true_not_false, and_l, and_r, or_right, or_rest, applies_both}
use Rattle.promises.specs.Images.AddressLaws.{from_parts}
use Rattle.promises.specs.Volumes.VolumeNumbers.{Numbers}
use Rattle.promises.specs.Refusals.PlacesNamed.{held_named}
use Rattle.promises.specs.Making.Drafts.{spelled, spelled_29}
use Rattle.promises.specs.Making.AddedRows.{added, proposal_is, wrong_length}

-- the rules of the fields that are spaces, and of 01001
pub record Blanks (g : Geometry) (h : List ℕ) : Type 0 where
  pub b1 : same (field h 1 4) (bytes "HDR1") ≡ true
  pub b29 : rule29 g h ≡ true
  pub b35 : rule35 g h ≡ true
  pub b41 : rule41 h ≡ true
  pub b42 : rule42 h ≡ true
  pub b43 : rule43 h ≡ true
  pub b45 : rule45 h ≡ true
  pub b46 : rule46 h ≡ true
  pub b48 : rule48 h ≡ true
  pub b64 : rule64 h ≡ true
  pub b67 : rule67 h ≡ true
  pub b73 : rule73 h ≡ true
  pub b75 : rule75 g h ≡ true
  pub u_blank : spaces (field h 58 62) ≡ true

spelled_blanks : (g : Geometry) → legal g first_address ≡ true → (f : ℕ → ℕ) → Blanks g (draft (spelled 29 f))
unfolding proposed padded same one_of every a_set is_digit digit_value spaces_or_number spaces_or_date five_digits address_in is_address is_data_end before rule29 rule35 rule41 rule42 rule43 rule45 rule46 rule48 rule64 rule67 rule73 rule75
spelled_blanks g l f =
    let o = le-ltb (rank g first_address) (rank g first_address) (omega arith) in
    record {
      b1 = refl;
      b29 = l;
      b35 = rw (l, o);
      b41 = refl;
      b42 = refl;
      b43 = refl;
      b45 = refl;
      b46 = refl;
      b48 = refl;
      b64 = refl;
      b67 = refl;
      b73 = refl;
      b75 = rw (l, o);
      u_blank = refl;
    }

draft_blanks : (g : Geometry) → Numbers g → (w : List ℕ) → length w ≡ 29 → Blanks g (draft w)
draft_blanks g n w l =
    let first : legal g first_address ≡ true =
    from_parts g first_address
    (record { cylinder_low = omega arith; cylinder_high = n.cylinders_low; side_low = n.side_low; sector_low = omega arith; sector_high = n.sectors_low }) in
    subst (λ (v : List ℕ). Blanks g (draft v)) (spelled_29 w l) (spelled_blanks g first (λ i. get_or w i 0))

-- 58: U is spaces, so 0, and with a right format and a right B no part of its rule is broken
formats : (c : ℕ) → one_of (bytes " FVS") c ≡ true → (one_of (bytes " F") c ≡ true) ⊎ ((one_of (bytes "V") c ≡ true) ⊎ (one_of (bytes "S") c ≡ true))
unfolding one_of
formats c h = go (eqb c 32) (eqb c 70) (eqb c 86) (eqb c 83) h
  where
    go : (a b v s : Bool) → (a || (b || (v || (s || false)))) ≡ true
        → ((a || (b || false)) ≡ true) ⊎ (((v || false) ≡ true) ⊎ ((s || false) ≡ true))
    go true b v s k = inl refl
    go false true v s k = inl refl
    go false false true s k = inr (inl refl)
    go false false false true k = inr (inr refl)
    go false false false false k = absurd (true_not_false false k refl)

block_some : (g : Geometry) (h : List ℕ) → rule23 g h ≡ true → rule40 h ≡ true → 0 < block_length h
unfolding rule23
block_some g h r23 r40 =
    either (formats (at h 40) (unfold rule40 in and_l (one_of (bytes " FVS") (at h 40)) _ r40))
    (λ (f : is_fixed h ≡ true).
    leb-true 1 (block_length h) (applies_both (rule40 h) (is_fixed h) (leb 1 (block_length h)) r40 f (search (and_l, and_r) depth 12)))
    (λ (o : (is_variable h ≡ true) ⊎ (is_spanned h ≡ true)).
    either o
    (λ (f : is_variable h ≡ true).
    omega (arith, leb-true 4 (block_length h) (applies_both (rule40 h) (is_variable h) (leb 4 (block_length h)) r40 f (search (and_l, and_r) depth 12))))
    (λ (f : is_spanned h ≡ true).
    omega (arith, leb-true 5 (block_length h) (applies_both (rule40 h) (is_spanned h) (leb 5 (block_length h)) r40 f (search (and_l, and_r) depth 12)))))

blank_58 : (g : Geometry) (h : List ℕ) → spaces (field h 58 62) ≡ true → rule40 h ≡ true → rule58 g h ≡ true
unfolding rule58 unused_count
blank_58 g h u r40 =
    let c2 : (not (rule23 g h) || ltb 0 (block_length h)) ≡ true = go (rule23 g h) refl in
    let c3 : (not (rule63 h) || (not (not (is_blocked h)) || eqb 0 0)) ≡ true =
    or_right (not (rule63 h)) (not (not (is_blocked h)) || eqb 0 0) (or_right (not (not (is_blocked h))) (eqb 0 0) refl) in
    let c4 : (not (rule23 g h && rule40 h && rule54 g h) || (not (is_fixed h) || eqb (0 % record_length h) 0)) ≡ true =
    or_right (not (rule23 g h && rule40 h && rule54 g h)) (not (is_fixed h) || eqb (0 % record_length h) 0)
    (or_right (not (is_fixed h)) (eqb (0 % record_length h) 0) (eq-eqb (0 % record_length h) 0 (zero-mod (record_length h)))) in
    rw (u, c2, c3, c4)
  where
    go : (t : Bool) → rule23 g h ≡ t → (not t || ltb 0 (block_length h)) ≡ true
    go true e = lt-ltb 0 (block_length h) (block_some g h e r40)
    go false e = refl

-- THE DRAFT
abbrev pub places : List ℕ
places = 6 ∷ 23 ∷ 35 ∷ 40 ∷ 44 ∷ 54 ∷ 63 ∷ []

module _ (g : Geometry) (h : List ℕ) (b : Blanks g h) where
  abbrev blank_row : (rule : Bool) → rule ≡ true → (another_level h || rule) ≡ true
  blank_row rule e = or_right (another_level h) rule e

  with_format : (another_level h || rule40 h) ≡ true → one_of (0 ∷ places) (label_fault g h) ≡ true
  unfolding label_fault hdr1_rules one_of
  with_format e =
      let r58 : (another_level h || rule58 g h) ≡ true =
      by_test (another_level h) (λ y. rw y) (λ y. or_right (another_level h) (rule58 g h) (blank_58 g h b.u_blank (or_rest (another_level h) (rule40 h) y e))) in
      held_named places (hdr1_rules g h) (
        inl b.b1,
        (
          inr refl,
          (
            inr refl,
            (
              inl b.b29,
              (
                inl b.b35,
                (
                  inr refl,
                  (
                    inl (blank_row _ b.b41),
                    (
                      inl (blank_row _ b.b42),
                      (
                        inl (blank_row _ b.b43),
                        (
                          inr refl,
                          (
                            inl (blank_row _ b.b45),
                            (
                              inl (blank_row _ b.b46),
                              (
                                inl (blank_row _ b.b48),
                                (
                                  inr refl,
                                  (
                                    inl r58,
                                    (
                                      inr refl,
                                      (
                                        inl (blank_row _ b.b64),
                                        (
                                          inl (blank_row _ b.b67),
                                          (
                                            inl (blank_row _ b.b73),
                                            (inl (blank_row _ b.b75), tt),
                                          ),
                                        ),
                                      ),
                                    ),
                                  ),
                                ),
                              ),
                            ),
                          ),
                        ),
                      ),
                    ),
                  ),
                ),
              ),
            ),
          ),
        ),
      )

  -- the rows up to 40, where 40 is at fault
  abbrev front : List Row
  front =
      row 1 (same (field h 1 4) (bytes "HDR1"))
      ∷ row 6 (another_level h || rule6 h)
      ∷ row 23 (another_level h || rule23 g h)
      ∷ row 29 (rule29 g h)
      ∷ row 35 (rule35 g h)
      ∷ row 40 false
      ∷ []

  up_to_40 : (another_level h || rule40 h) ≡ false → label_fault g h ≡ lowest_fault front
  unfolding label_fault hdr1_rules lowest_fault
  up_to_40 e = rw e

  no_format : (another_level h || rule40 h) ≡ false → one_of (0 ∷ places) (label_fault g h) ≡ true
  unfolding one_of
  no_format e =
      ap (one_of (0 ∷ places)) (up_to_40 e)
      ∙ held_named places front (inl b.b1, (inr refl, (inr refl, (inl b.b29, (inl b.b35, (inr refl, tt))))))

  draft_named : one_of (0 ∷ places) (label_fault g h) ≡ true
  draft_named = by_test (another_level h || rule40 h) with_format no_format

-- THE PROPOSAL IS AT FAULT NOWHERE, OR AT ONE OF 6, 23, 35, 40, 44, 54, 63
added_named : (q : ℕ) (test : Bool) (p : ℕ) → one_of (0 ∷ places) q ≡ true → one_of (0 ∷ places) p ≡ true → one_of (0 ∷ places) (added q test p) ≡ true
added_named q test p a b = go test (eqb p 0) (ltb q p)
  where
    go : (t z l : Bool) → one_of (0 ∷ places) (cond t p (cond z q (cond l q p))) ≡ true
    go true z l = b
    go false true l = a
    go false false true = a
    go false false false = b

pub proposal_places : (g : Geometry) → Numbers g → (w : List ℕ) (n : ℕ) → one_of (0 ∷ places) (proposal_fault g w n) ≡ true
unfolding one_of
proposal_places g numbers w n =
    by_test (eqb (length w) 29)
    (λ e.
    let f = draft_named g (draft w) (draft_blanks g numbers w (eqb-true (length w) 29 e)) in
    ap (one_of (0 ∷ places)) (proposal_is g w n)
    ∙ added_named 6 (eqb (length w) 29) _ refl (added_named 35 (ltb 0 n) _ refl (added_named 44 (known_level (draft w)) (label_fault g (draft w)) refl f)))
    (λ e. ap (one_of (0 ∷ places)) (wrong_length g w n e))
