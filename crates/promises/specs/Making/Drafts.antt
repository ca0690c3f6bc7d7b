-- Request 2026-01: the label to be made. Its fields; and where the proposal has no fault, the label has none with any start and end that are legal and in order.
-- Assumes nothing.
use Rattle.std.specs.Prelude.{ℕ, zero, suc, ◌<◌, ◌≤◌, ◌≡◌, refl, Bool, true, false, cond, not, ◌&&◌, ◌||◌, List, [], ◌∷◌, map, length, get_or, take, drop, ltb, eqb}
use Rattle.std.proofs.Common.{sym, ap, subst, ◌∙◌, arith}
use borrow.Author.Tests.{eqb-true, ltb-true, le-ltb}
use Rattle.standard.specs.Characters.{byte, bytes, at, field, padded}
use Rattle.standard.specs.Rules.{Row}
use Rattle.standard.specs.Addresses.{first_address, five_bytes, address_in, legal, rank, before, is_address, is_data_end}
use Rattle.standard.specs.Labels.{known_level, another_level, start_of, end_of, data_end_of, rule6, rule29, rule35, rule44, rule58, rule75, hdr1_rules, label_fault}
use Rattle.standard.specs.Writing.{splice}
use Rattle.standard.specs.Creating.{blank, proposed, name_in, also, bracket, draft, proposed_rules, proposal_fault}
use Rattle.standard.specs.declared.Geometry.{Geometry}
use Rattle.standard.specs.declared.Address.{Address}
use Rattle.promises.specs.Ground.Basics.{and_l, and_r, or_right}
use Rattle.promises.specs.Ground.Lists.{Every}
use Rattle.promises.specs.Images.AddressLaws.{parts}
use Rattle.promises.specs.Volumes.Judging.{rows_each, rows_all}
use Rattle.promises.specs.Volumes.LabelRules.{rules}
use Rattle.promises.specs.Volumes.VolumeNumbers.{Numbers}
use Rattle.promises.specs.Ground.Digits.{five_digits_lem, address_back_lem}
use Rattle.promises.specs.Writing.AlikeLabels.{Shared, shared_known, shared_58, right_again}

-- so many bytes, spelled out: a list of that length is its bytes
abbrev pub spelled : ℕ → (ℕ → ℕ) → List ℕ
spelled zero f = []
spelled (suc n) f = f 0 ∷ spelled n (λ i. f (suc i))

spelled_all : (w : List ℕ) → spelled (length w) (λ i. get_or w i 0) ≡ w
spelled_all [] = refl
spelled_all (x ∷ w) = ap (λ (t : List ℕ). x ∷ t) (spelled_all w)

pub spelled_29 : (w : List ℕ) → length w ≡ 29 → spelled 29 (λ i. get_or w i 0) ≡ w
spelled_29 w l = subst (λ (n : ℕ). spelled n (λ i. get_or w i 0) ≡ w) l (spelled_all w)

-- THE FIELDS
pub record Fields (w : List ℕ) (start end : Address) (h : List ℕ) : Type 0 where
  pub whole : length h ≡ 128
  pub tag : field h 1 4 ≡ bytes "HDR1"
  pub name : field h 6 22 ≡ name_in w
  pub from : field h 29 33 ≡ five_bytes start
  pub to : field h 35 39 ≡ five_bytes end
  pub at42 : at h 42 ≡ byte " "
  pub at43 : at h 43 ≡ byte " "
  pub at45 : at h 45 ≡ byte " "
  pub unused : field h 58 62 ≡ blank 5
  pub data_end : field h 75 79 ≡ five_bytes start

spelled_fields : (f : ℕ → ℕ) (start end : Address) → Fields (spelled 29 f) start end (proposed (spelled 29 f) start end)
unfolding proposed padded
spelled_fields f start end =
    record { whole = refl; tag = refl; name = refl; from = refl; to = refl; at42 = refl; at43 = refl; at45 = refl; unused = refl; data_end = refl }

spelled_shared : (f : ℕ → ℕ) (a b start end : Address) → Shared (proposed (spelled 29 f) a b) (proposed (spelled 29 f) start end)
unfolding proposed padded
spelled_shared f a b start end =
    record {
      p1 = refl;
      p6 = refl;
      p14 = refl;
      p23 = refl;
      p40 = refl;
      p41 = refl;
      p42 = refl;
      p43 = refl;
      p44 = refl;
      p45 = refl;
      p46 = refl;
      p48 = refl;
      p54 = refl;
      p63 = refl;
      p64 = refl;
      p67 = refl;
      p73 = refl;
    }

-- the label as fields laid over spaces, one after another: `HDR1` and those given, and then the extent
abbrev pub given_laid : List ℕ → List ℕ → List ℕ
given_laid w h =
    splice 62 (take 1 (drop 28 w))
    (splice 53 (take 4 (drop 24 w))
    (splice 43 (take 1 (drop 23 w))
    (splice 39 (take 1 (drop 22 w))
    (splice 5 (take 22 w)
    (splice 0 (bytes "HDR1") h)))))

abbrev pub extent_laid : Address → Address → List ℕ → List ℕ
extent_laid start end h = splice 74 (five_bytes start) (splice 34 (five_bytes end) (splice 28 (five_bytes start) h))

abbrev pub laid_out : List ℕ → Address → Address → List ℕ
laid_out w start end = extent_laid start end (given_laid w (blank 128))

spelled_laid : (f : ℕ → ℕ) (start end : Address) → laid_out (spelled 29 f) start end ≡ proposed (spelled 29 f) start end
unfolding proposed padded splice
spelled_laid f start end = refl

module _ (w : List ℕ) (l : length w ≡ 29) where
  pub proposed_laid : (start end : Address) → laid_out w start end ≡ proposed w start end
  proposed_laid start end =
      subst (λ (v : List ℕ). laid_out v start end ≡ proposed v start end) (spelled_29 w l) (spelled_laid (λ i. get_or w i 0) start end)

  pub proposed_fields : (start end : Address) → Fields w start end (proposed w start end)
  proposed_fields start end =
      subst (λ (v : List ℕ). Fields v start end (proposed v start end)) (spelled_29 w l) (spelled_fields (λ i. get_or w i 0) start end)

  -- start, end and data end apart, the label is the draft that was judged
  pub proposed_shared : (start end : Address) → Shared (draft w) (proposed w start end)
  proposed_shared start end =
      subst (λ (v : List ℕ). Shared (draft v) (proposed v start end)) (spelled_29 w l) (spelled_shared (λ i. get_or w i 0) first_address first_address start end)

-- NO FAULT IN THE PROPOSAL: 29 bytes, n above 0, a known level, and none in the draft
also_holds : (position : ℕ) (test : Bool) (r : Row) → (also position test r).holds ≡ true → r.holds ≡ true
also_holds position test r h = go (eqb r.position position) h
  where
    go : (t : Bool) → (cond t (record { position = r.position; holds = r.holds && test }) r).holds ≡ true → r.holds ≡ true
    go true e = and_l r.holds test e
    go false e = e

bracket_holds : (w : List ℕ) (n : ℕ) (h : List ℕ) (rows : List Row) → Every (λ r. r.holds ≡ true) (map (bracket w n h) rows) → Every (λ r. r.holds ≡ true) rows
bracket_holds w n h [] e = tt
bracket_holds w n h (r ∷ rows) e = (
  also_holds 44 (known_level h) r
      (also_holds 35 (ltb 0 n) (also 44 (known_level h) r) (also_holds 6 (eqb (length w) 29) (also 35 (ltb 0 n) (also 44 (known_level h) r)) e.0)),
  bracket_holds w n h rows e.1,
)

pub record Right (g : Geometry) (w : List ℕ) (n : ℕ) : Type 0 where
  pub bytes29 : length w ≡ 29
  pub some : 0 < n
  pub known : known_level (draft w) ≡ true
  pub faultless : label_fault g (draft w) ≡ 0

pub proposal_right : (g : Geometry) (w : List ℕ) (n : ℕ) → proposal_fault g w n ≡ 0 → Right g w n
unfolding proposal_fault proposed_rules hdr1_rules label_fault
proposal_right g w n z =
    let every = rows_each _ z refl in
    let (r1, (r6, (r23, (r29, (r35, (r40, (r41, (r42, (r43, (r44, _)))))))))) = every in
    record {
      bytes29 = eqb-true (length w) 29 (and_r (another_level (draft w) || rule6 (draft w)) _ r6);
      some = ltb-true 0 n (and_r (rule35 g (draft w)) _ r35);
      known = and_r (rule44 (draft w)) _ r44;
      faultless = rows_all _ (bracket_holds w n (draft w) (hdr1_rules g (draft w)) every);
    }

-- THE LABEL BREAKS NO RULE
module _ (g : Geometry) (numbers : Numbers g) (w : List ℕ) (n : ℕ) (z : proposal_fault g w n ≡ 0) (start end : Address) (ls : legal g start ≡ true)
    (le : legal g end ≡ true) (ordered : rank g start ≤ rank g end) where
  abbrev h : List ℕ
  h = proposed w start end

  r : Right g w n
  r = proposal_right g w n z

  fields : Fields w start end h
  fields = proposed_fields w r.bytes29 start end

  address_again : (a : Address) → legal g a ≡ true → address_in (five_bytes a) ≡ a
  address_again a l =
      let p = parts g a l in
      address_back_lem a (omega (arith, p.cylinder_high, numbers.cylinders)) (omega (arith, p.side_low, numbers.side_high)) (omega (arith, p.sector_high, numbers.sectors))

  pub draft_known : known_level h ≡ true
  draft_known = shared_known (draft w) h (proposed_shared w r.bytes29 start end) ∙ r.known

  pub draft_start : start_of h ≡ start
  draft_start = ap address_in fields.from ∙ address_again start ls

  pub draft_end : end_of h ≡ end
  draft_end = ap address_in fields.to ∙ address_again end le

  pub draft_data_end : data_end_of h ≡ start
  draft_data_end = ap address_in fields.data_end ∙ address_again start ls

  new29 : rule29 g h ≡ true
  unfolding rule29 is_address
  new29 = rw (fields.from, five_digits_lem start, address_again start ls, ls)

  new35 : rule35 g h ≡ true
  unfolding rule35 is_address before
  new35 =
      rw (fields.to, five_digits_lem end, address_again end le, le)
      (or_right (not (rule29 g h)) _ (rw (draft_start, le-ltb (rank g end) (rank g start) ordered)))

  new58 : rule58 g h ≡ true
  new58 =
      let o = proposed_fields w r.bytes29 first_address first_address in
      shared_58 (draft w) h (proposed_shared w r.bytes29 start end) g (fields.unused ∙ sym o.unused) ∙ (rules g (draft w) r.faultless r.known).r58

  new75 : rule75 g h ≡ true
  unfolding rule75 is_data_end before
  new75 =
      rw (fields.data_end, five_digits_lem start, address_again start ls, ls)
      (or_right (not (rule29 g h)) _ (rw (draft_start, le-ltb (rank g start) (rank g start) (omega arith))))

  pub draft_right : label_fault g h ≡ 0
  draft_right = right_again (draft w) h (proposed_shared w r.bytes29 start end) g r.faultless new29 new35 new58 new75
