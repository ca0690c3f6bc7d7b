-- Two images that are equal but for the bodies of check-failed sectors, and for positions that are not judged, are judged alike: the same refusal with the same
-- place, or the same numbers.
-- Assumes nothing.
use Prim.Native.Nat.{ℕ, zero, suc, ◌+◌, ◌-◌, ◌<◌, ◌≤◌}
use Rattle.std.specs.Prelude.{◌≡◌, Bool, true, false, not, ◌&&◌, List, [], ◌∷◌, length, Result, Ok, Err, ⊤}
use Rattle.std.proofs.Math.Path.{refl, sym}
use Rattle.std.proofs.Common.{ap, subst, ◌∙◌, inl, inr, arith, eq-or-lt_of_le, eqb-true}
use Rattle.std.proofs.Math.ListN.{get_or-eq_default}
use Rattle.std.proofs.Math.Dec.{eqb}
use Rattle.std.proofs.lemmas.Bool.{not-false}
use Rattle.standard.specs.Characters.{byte}
use Rattle.standard.specs.Refusals.{given_when, in_order, or_else}
use Rattle.standard.specs.Layout.{sector_count, index_sectors, image_length, kind_offset, kind_at, valid_mark, index_kind, index_body, vol1_of, ermap_of, slot_count, slot_ordinal, label_at}
use Rattle.standard.specs.Volume.{volume_name}
use Rattle.standard.specs.Defects.{ermap_rules}
use Rattle.standard.specs.Slots.{is_label, is_deleted, is_unreadable, slot_refusal, slots_from}
use Rattle.standard.specs.Judgement.{volume_of, legal_kind, refusal1, refusal2, refusal6, refusal7, refusal8to10, refusal11, refusal12, kinds_from, overlap, same_name, shares, namesake, volume_refusal, verdict, judged}
use Rattle.standard.specs.declared.Geometry.{Geometry}
use Rattle.standard.specs.declared.Refusal.{Refusal}
use Rattle.promises.specs.Ground.Basics.{either, lt_or_le, by_test, and_l}
use Rattle.promises.specs.Images.Tiling.{sectors_apart, last_sector}
use Rattle.promises.specs.Images.SectorLaws.{sector_from_bytes, kind_legal, index_kind_lem}
use Rattle.promises.specs.Images.Unjudged.{SameBut}
use Rattle.promises.proofs.Images.Unjudged.{vol1_rules_same, access_same, volume_name_same, vol1_numbers_same, ermap_rules_same, ermap_numbers_same}
use Rattle.promises.proofs.Images.Alike.{Loose, NoneJudged, SameOrFailed, SameOrLoose, or_failed, FrontAlike, layout_list, SectorsKnown, EqualBut, swap_sector, alike_valid, alike_failed, alike_legal_kind, alike_marked, valid_same}
use Rattle.promises.specs.Volumes.Judging.{order_each, order_append, not_given, clashes_same}
use Rattle.promises.specs.Volumes.VolumeNumbers.{Numbers, of_rules, vol1_right, index_sectors_lem, slot_in_index}
use Rattle.promises.specs.Volumes.IndexLaws.{same_label}

-- ---- 6 TO 12, which look at sectors and slots: of images with the same numbers
module _ (g : Geometry) (image image' : List ℕ) (numbers : Numbers g) (kinds : (n : ℕ) → n < 7 → kind_at g image n ≡ kind_at g image' n)
    (alike : (n : ℕ) → 7 ≤ n → n < sector_count g → SameOrFailed g image image' n) where
  kind_alike : (n : ℕ) → n < sector_count g → legal_kind g image n ≡ legal_kind g image' n
  kind_alike n l =
      either (lt_or_le n 7)
      (λ (f : n < 7). kind_legal g image image' n (kinds n f))
      (λ (f : 7 ≤ n). alike_legal_kind g image image' n (alike n f l))

  kinds_alike : (left first : ℕ) → first + left ≤ sector_count g → kinds_from g image left first ≡ kinds_from g image' left first
  unfolding kinds_from
  kinds_alike zero first l = refl
  kinds_alike (suc left) first l =
      rw (kind_alike first (omega arith), kinds_alike left (first + 1) (omega arith))

  -- a slot. A label is looked at only behind the valid mark
  module _ (slot : ℕ) (low : 1 ≤ slot) (l : slot ≤ slot_count g) where
    slot_alike : SameOrFailed g image image' (slot_ordinal slot)
    unfolding sector_count slot_ordinal
    slot_alike = alike (slot_ordinal slot) (omega arith) (omega (arith, slot_in_index g slot numbers l))

    valid_label : valid_mark g image (slot_ordinal slot) ≡ true → label_at g image slot ≡ label_at g image' slot
    valid_label v = same_label g image image' numbers slot l (valid_same g image image' (slot_ordinal slot) slot_alike v)

    label_alike : is_label g image slot ≡ true → label_at g image slot ≡ label_at g image' slot
    unfolding is_label
    label_alike h = valid_label (and_l (valid_mark g image (slot_ordinal slot)) _ h)

    is_label_alike : is_label g image slot ≡ is_label g image' slot
    unfolding is_label
    is_label_alike =
        let same = alike_valid g image image' (slot_ordinal slot) slot_alike in
        by_test (valid_mark g image (slot_ordinal slot))
        (λ (v : valid_mark g image (slot_ordinal slot) ≡ true). rw (same, valid_label v))
        (λ (v : valid_mark g image (slot_ordinal slot) ≡ false). rw (v, sym same ∙ v))

    is_deleted_alike : is_deleted g image slot ≡ is_deleted g image' slot
    unfolding is_deleted
    is_deleted_alike = alike_marked g image image' (slot_ordinal slot) slot_alike numbers.size_low (λ b. eqb b (byte "D"))

    is_unreadable_alike : is_unreadable g image slot ≡ is_unreadable g image' slot
    unfolding is_unreadable
    is_unreadable_alike =
        rw (
          alike_failed g image image' (slot_ordinal slot) slot_alike,
          alike_marked g image image' (slot_ordinal slot) slot_alike numbers.size_low (λ b. eqb b (byte "F")),
        )

    slot_refusal_alike : slot_refusal g image slot ≡ slot_refusal g image' slot
    unfolding slot_refusal given_when
    slot_refusal_alike =
        by_test (is_label g image slot)
        (λ (h : is_label g image slot ≡ true). rw (is_unreadable_alike, is_deleted_alike, is_label_alike, label_alike h))
        (λ (h : is_label g image slot ≡ false). rw (is_unreadable_alike, is_deleted_alike, h, sym is_label_alike ∙ h))

  slots_alike : (left slot : ℕ) → 1 ≤ slot → slot + left ≤ slot_count g + 1 → slots_from g image left slot ≡ slots_from g image' left slot
  unfolding slots_from
  slots_alike zero slot low l = refl
  slots_alike (suc left) slot low l = rw (slot_refusal_alike slot low (omega arith), slots_alike left (slot + 1) (omega arith) (omega arith))

  -- two slots
  module _ (s k : ℕ) (low : 1 ≤ s) (ls : s ≤ slot_count g) (lowk : 1 ≤ k) (lk : k ≤ slot_count g) where
    labels_alike : (ask : List ℕ → List ℕ → Bool)
        → (is_label g image s && is_label g image k && ask (label_at g image s) (label_at g image k))
        ≡ (is_label g image' s && is_label g image' k && ask (label_at g image' s) (label_at g image' k))
    labels_alike ask =
        by_test (is_label g image s)
        (λ (a : is_label g image s ≡ true).
        by_test (is_label g image k)
        (λ (b : is_label g image k ≡ true). rw (is_label_alike s low ls, is_label_alike k lowk lk, label_alike s low ls a, label_alike k lowk lk b))
        (λ (b : is_label g image k ≡ false). rw (a, sym (is_label_alike s low ls) ∙ a, b, sym (is_label_alike k lowk lk) ∙ b)))
        (λ (a : is_label g image s ≡ false). rw (a, sym (is_label_alike s low ls) ∙ a))

    shares_alike : shares g image s k ≡ shares g image' s k
    unfolding shares
    shares_alike = labels_alike (overlap g)

    namesake_alike : namesake g image s k ≡ namesake g image' s k
    unfolding namesake
    namesake_alike = labels_alike same_name

-- the rest of the volume's list
abbrev later_list : Geometry → List ℕ → List (Result ⊤ Refusal)
later_list g image = refusal6 g image ∷ refusal7 g.L (ermap_of image) ∷ refusal8to10 g image ∷ refusal11 g image ∷ refusal12 g image ∷ []

later_alike : (g : Geometry) (image image' : List ℕ) → Numbers g → ((n : ℕ) → n < 7 → kind_at g image n ≡ kind_at g image' n)
    → ((n : ℕ) → 7 ≤ n → n < sector_count g → SameOrFailed g image image' n)
    → ermap_rules g.L (ermap_of image) ≡ ermap_rules g.L (ermap_of image') → in_order (later_list g image) ≡ in_order (later_list g image')
later_alike g image image' numbers kinds alike e =
    let share = shares_alike g image image' numbers kinds alike in
    let name = namesake_alike g image image' numbers kinds alike in
    rw (
      kinds_alike g image image' numbers kinds alike (sector_count g) 0 (omega arith),
      e,
      slots_alike g image image' numbers kinds alike (slot_count g) 1 (omega arith) (omega arith),
      clashes_same (shares g image) (shares g image') (slot_count g) share 11 (slot_count g) 1 (omega arith) (omega arith),
      clashes_same (namesake g image) (namesake g image') (slot_count g) name 12 (slot_count g) 1 (omega arith) (omega arith),
    )

-- a volume whose sector 05 or 07 cannot be read is not looked at further
unreadable_stops : (c c' d d' : Result ⊤ Refusal) (r : Refusal) (xs ys : List (Result ⊤ Refusal)) (g g' : Geometry) → c ≡ c' → d ≡ Err r → d' ≡ Err r
    → verdict (in_order (c ∷ d ∷ xs)) g ≡ verdict (in_order (c' ∷ d' ∷ ys)) g'
unfolding in_order
unreadable_stops c (Ok _) d d' r xs ys g g' q e e' = rw (q, e, e')
unreadable_stops c (Err x) d d' r xs ys g g' q e e' = rw q

stopped_alike : (a a' b b' : Result ⊤ Refusal) (r : Refusal) (g g' : Geometry) → a ≡ Err r → a' ≡ Err r → verdict (or_else a b) g ≡ verdict (or_else a' b') g'
unfolding or_else
stopped_alike a a' b b' r g g' e e' = rw (e, e')

in_two : (image : List ℕ) → judged image ≡ verdict (or_else (in_order (layout_list image)) (in_order (later_list (volume_of image) image))) (volume_of image)
unfolding judged volume_refusal
in_two image = ap (λ (c : Result ⊤ Refusal). verdict c (volume_of image)) (order_append (layout_list image) (later_list (volume_of image) image))

-- where the sectors are known the numbers are in range, and the sectors fill the image
module _ (image : List ℕ) (known : SectorsKnown image) where
  pub known_numbers : Numbers (volume_of image)
  known_numbers = of_rules image (vol1_right (vol1_of image) (order_each _ known).1.1.0)

  pub known_whole : length image ≡ image_length (volume_of image)
  known_whole =
      eqb-true (length image) (image_length (volume_of image))
      (not-false _ (not_given (not (eqb (length image) (image_length (volume_of image)))) _ (order_each _ known).1.1.1.1.0))

  behind_last : (n : ℕ) → sector_count (volume_of image) ≤ n → length image ≤ kind_offset (volume_of image) n
  behind_last n l =
      let g = volume_of image in
      either (eq-or-lt_of_le l)
      (λ (q : sector_count g ≡ n). omega (arith, known_whole, last_sector g, ap (kind_offset g) q))
      (λ (m : sector_count g < n). omega (arith, known_whole, last_sector g, sectors_apart g (sector_count g) n m))

module _ (loose : Loose) (u : NoneJudged loose) (image image' : List ℕ) (e : EqualBut loose image image') where
  -- ---- SECTORS 05 AND 07
  kind_of : (sector : ℕ) → FrontAlike loose image image' sector → index_kind image sector ≡ index_kind image' sector
  kind_of sector (inl s) = s.0
  kind_of sector (inr f) = f.0 ∙ sym f.1

  body_of : (sector : ℕ) → FrontAlike loose image image' sector → index_kind image sector ≡ 0
      → SameBut (loose.positions sector) (index_body image sector) (index_body image' sector)
  body_of sector (inl s) z = s.1
  body_of sector (inr f) z = absurd (omega (arith, f.0, z))

  front5 : FrontAlike loose image image' 5
  front5 = e.front 5 (omega arith) (omega arith)

  front7 : FrontAlike loose image image' 7
  front7 = e.front 7 (omega arith) (omega arith)

  readable_alike : refusal2 image ≡ refusal2 image'
  readable_alike = rw (kind_of 5 front5, kind_of 7 front7)

  module _ (r : refusal2 image ≡ Ok tt) where
    pub kind5 : index_kind image 5 ≡ 0
    kind5 = eqb-true (index_kind image 5) 0 (not-false _ (not_given (not (eqb (index_kind image 5) 0)) _ (order_each _ r).0))

    pub kind7 : index_kind image 7 ≡ 0
    kind7 = eqb-true (index_kind image 7) 0 (not-false _ (not_given (not (eqb (index_kind image 7) 0)) _ (order_each _ r).1.0))

    ermap_but : SameBut (loose.positions 5) (ermap_of image) (ermap_of image')
    ermap_but = body_of 5 front5 kind5

    vol1_but : SameBut (loose.positions 7) (vol1_of image) (vol1_of image')
    vol1_but = body_of 7 front7 kind7

    pub name_alike : volume_name (vol1_of image) ≡ volume_name (vol1_of image')
    name_alike = volume_name_same (loose.positions 7) (u 7) (vol1_of image) (vol1_of image') vol1_but

    ermap_alike : (L : ℕ) → ermap_rules L (ermap_of image) ≡ ermap_rules L (ermap_of image')
    ermap_alike = ermap_rules_same (loose.positions 5) (u 5) (ermap_of image) (ermap_of image') ermap_but

    numbers_alike : volume_of image ≡ volume_of image'
    numbers_alike =
        vol1_numbers_same (loose.positions 7) (u 7) (vol1_of image) (vol1_of image') vol1_but (ermap_of image)
        ∙ ermap_numbers_same (loose.positions 5) (u 5) (ermap_of image) (ermap_of image') ermap_but (vol1_of image')

    layout_alike : in_order (layout_list image) ≡ in_order (layout_list image')
    layout_alike =
        rw (
          numbers_alike,
          e.same_length,
          kind_of 5 front5,
          kind_of 7 front7,
          vol1_rules_same (loose.positions 7) (u 7) (vol1_of image) (vol1_of image') vol1_but,
          access_same (loose.positions 7) (u 7) (vol1_of image) (vol1_of image') vol1_but,
        )

  -- ---- THE SECTORS, where they are known
  module _ (known : SectorsKnown image) where
    readable : refusal2 image ≡ Ok tt
    readable = (order_each _ known).1.0

    -- behind the last sector there is nothing
    pub all_alike : (n : ℕ) → 7 ≤ n → SameOrLoose loose (volume_of image) image image' n
    all_alike n behind =
        let g = volume_of image in
        either (lt_or_le n (sector_count g))
        (λ (l : n < sector_count g). e.sectors known n behind l)
        (λ (l : sector_count g ≤ n).
        inl (sector_from_bytes g image image' n e.same_length
        (λ i lo hi.
        get_or-eq_default image 0 (omega (arith, behind_last image known n l))
        ∙ sym (get_or-eq_default image' 0 (omega (arith, behind_last image known n l, e.same_length))))))

    front_kinds : (n : ℕ) → n < 7 → kind_at (volume_of image) image n ≡ kind_at (volume_of image) image' n
    front_kinds n l =
        let g = volume_of image in
        let i : n + 1 - 1 < index_sectors g = omega (arith, index_sectors_lem g (known_numbers image known)) in
        let q : n + 1 - 1 ≡ n = omega arith in
        subst (λ (k : ℕ). kind_at g image k ≡ kind_at g image' k) q
        (index_kind_lem g image (n + 1) i ∙ kind_of (n + 1) (e.front (n + 1) (omega arith) (omega arith)) ∙ sym (index_kind_lem g image' (n + 1) i))

    later : in_order (later_list (volume_of image) image) ≡ in_order (later_list (volume_of image') image')
    later =
        later_alike (volume_of image) image image' (known_numbers image known) front_kinds (λ n behind l. or_failed loose (volume_of image) image image' n (e.sectors known n behind l)) (ermap_alike readable (volume_of image).L)
        ∙ ap (λ (g : Geometry). in_order (later_list g image')) (numbers_alike readable)

  -- THE JUDGEMENT
  readable_judged : refusal2 image ≡ Ok tt → judged image ≡ judged image'
  readable_judged r = in_two image ∙ go (in_order (layout_list image)) refl ∙ sym (in_two image')
    where
      go : (c : Result ⊤ Refusal) → in_order (layout_list image) ≡ c
          → verdict (or_else (in_order (layout_list image)) (in_order (later_list (volume_of image) image))) (volume_of image)
          ≡ verdict (or_else (in_order (layout_list image')) (in_order (later_list (volume_of image') image'))) (volume_of image')
      go (Ok _) known = rw (layout_alike r, later known, numbers_alike r)
      go (Err x) q =
          stopped_alike (in_order (layout_list image)) (in_order (layout_list image')) _ _ x (volume_of image) (volume_of image') q (sym (layout_alike r) ∙ q)

  pub judged_alike : judged image ≡ judged image'
  unfolding judged volume_refusal
  judged_alike = go (refusal2 image) refl
    where
      go : (c : Result ⊤ Refusal) → refusal2 image ≡ c → judged image ≡ judged image'
      go (Ok _) r = readable_judged r
      go (Err x) r =
          unreadable_stops (refusal1 image) (refusal1 image') (refusal2 image) (refusal2 image') x _ _ (volume_of image) (volume_of image')
          (rw e.same_length) r (sym readable_alike ∙ r)

-- THE OTHER WAY ROUND
pub equal_swap : (loose : Loose) → NoneJudged loose → (image image' : List ℕ) → EqualBut loose image image' → EqualBut loose image' image
equal_swap loose u image image' e =
    record {
      same_length = sym e.same_length;
      front = λ sector l m. swap sector (e.front sector l m);
      sectors = λ known n behind l.
          let r : refusal2 image ≡ Ok tt = readable_alike loose u image image' e ∙ (order_each _ known).1.0 in
          let q = numbers_alike loose u image image' e r in
          subst (λ (g : Geometry). SameOrLoose loose g image' image n) q
          (swap_sector loose (volume_of image) image image' n
          (e.sectors (layout_alike loose u image image' e r ∙ known) n behind (subst (λ (g : Geometry). n < sector_count g) (sym q) l)));
    }
  where
    swap : (sector : ℕ) → FrontAlike loose image image' sector → FrontAlike loose image' image sector
    swap sector (inl s) = inl (sym s.0, record { same_length = sym s.1.same_length; same_at = λ i f. sym (s.1.same_at i f) })
    swap sector (inr f) = inr (f.1, f.0, f.2)
