-- What storing records does to an image.
-- Assumes nothing.
use Prim.Native.Nat.{ℕ, suc, ◌+◌, ◌*◌, ◌<◌, ◌≤◌}
use Rattle.std.specs.Prelude.{◌≡◌, refl, true, false, drop}
use Rattle.std.proofs.Math.Path.{sym}
use Rattle.std.proofs.Common.{ap, ◌∙◌, inl, inr}
use mathlib.Core.List.{List, [], ◌∷◌, ◌++◌}
use Rattle.std.proofs.Math.ListN.{length, get_or, take, length-take}
use Rattle.std.proofs.Math.Seq.{take-add}
use native.Mathlib.Omega.{arith}
use borrow.Author.Tests.{eq-eqb}
use Rattle.standard.specs.Layout.{k_at, kind_offset, body_offset, image_length, kind_at, body_at, valid_mark, incorrect_mark, check_failed}
use Rattle.standard.specs.Addresses.{legal, ordinal}
use Rattle.standard.specs.Judgement.{legal_kind}
use Rattle.standard.specs.Files.{is_defective, is_wrong}
use Rattle.standard.specs.Writing.{splice, filled_to, store_record, store_block, store_blocks}
use Rattle.standard.specs.declared.Geometry.{Geometry}
use Rattle.standard.specs.declared.Address.{Address}
use Rattle.promises.specs.Ground.Basics.{either, eq_or_not}
use Rattle.promises.specs.Ground.Lists.{Every, every_left, every_right}
use Rattle.promises.specs.Ground.Splices.{Outside, splice_length, splice_before, splice_at, splice_part, splice_behind, filled_length}
use Rattle.promises.specs.Images.AddressLaws.{Legal}
use Rattle.promises.specs.Images.Tiling.{sector_outside, address_size, address_room}
use Rattle.promises.specs.Images.Sectors.{sector_at}
use Rattle.promises.specs.Images.SectorLaws.{valid_correct, valid_sound, same_legal_kind, sector_from_bytes}
use Rattle.promises.proofs.Extents.ExtentReads.{same_defect, same_wrong}

module _ (g : Geometry) where
  abbrev pub WholeImage : List ℕ → Type 0
  WholeImage s = length s ≡ image_length g

  -- one record
  module _ (a : Address) (c s : List ℕ) (la : legal g a ≡ true) (lc : length c ≤ g.P) (ls : WholeImage s) where
    abbrev n : ℕ
    n = ordinal g a

    abbrev marked : List ℕ
    marked = splice (kind_offset g n) (k_at g n ∷ []) s

    marked_room : kind_offset g n + 1 ≤ length s
    unfolding body_offset
    marked_room = omega (arith, address_room g a la)

    marked_length : length marked ≡ length s
    marked_length = splice_length (kind_offset g n) (k_at g n ∷ []) s marked_room

    body_room : kind_offset g n + 1 + length (filled_to g.P c) ≤ length marked
    unfolding body_offset
    body_room = rw (filled_length g.P c lc, marked_length) (omega (arith, address_room g a la))

    pub store_length : length (store_record g n c s) ≡ length s
    unfolding store_record body_offset
    store_length = splice_length (kind_offset g n + 1) (filled_to g.P c) marked body_room ∙ marked_length

    pub store_outside : (i : ℕ) → Outside i (kind_offset g n) (g.P + 1) → get_or (store_record g n c s) i 0 ≡ get_or s i 0
    unfolding store_record body_offset
    store_outside i (inl k) =
        splice_before (kind_offset g n + 1) (filled_to g.P c) marked body_room i (omega arith)
        ∙ splice_before (kind_offset g n) (k_at g n ∷ []) s marked_room i k
    store_outside i (inr k) =
        let l = filled_length g.P c lc in
        splice_behind (kind_offset g n + 1) (filled_to g.P c) marked body_room i (omega arith)
        ∙ splice_behind (kind_offset g n) (k_at g n ∷ []) s marked_room i (omega arith)

    pub store_kind : kind_at g (store_record g n c s) n ≡ k_at g n
    unfolding store_record body_offset kind_at
    store_kind =
        splice_before (kind_offset g n + 1) (filled_to g.P c) marked body_room (kind_offset g n) (omega arith)
        ∙ (ap (λ (i : ℕ). get_or marked i 0) (omega arith) ∙ splice_at (kind_offset g n) (k_at g n ∷ []) s marked_room 0 (omega arith))

    pub store_body : body_at g (store_record g n c s) n ≡ filled_to g.P c
    unfolding store_record body_offset body_at
    store_body =
        let l = filled_length g.P c lc in
        rw (address_size g a la) (rw l at (splice_part (kind_offset g n + 1) (filled_to g.P c) marked body_room))

    pub store_valid : valid_mark g (store_record g n c s) n ≡ true
    unfolding valid_mark
    store_valid = eq-eqb (kind_at g (store_record g n c s) n) (k_at g n) store_kind

    pub store_correct : incorrect_mark g (store_record g n c s) n ≡ false
    store_correct = valid_correct g (store_record g n c s) n store_valid

    pub store_sound : check_failed g (store_record g n c s) n ≡ false
    store_sound = valid_sound g (store_record g n c s) n store_valid

    pub store_other : (k : ℕ) → (k ≡ n → ⊥) → sector_at g s k ≡ sector_at g (store_record g n c s) k
    store_other k ne =
        sector_from_bytes g s (store_record g n c s) k (sym store_length)
        (λ i lo hi. sym (store_outside i (rw (address_size g a la) at (sector_outside g k n i ne lo hi))))

  -- what every store keeps, storing blocks keeps
  module _ (Q : List ℕ → Type 0) (C : Address → Type 0)
      (step : (a : Address) (c s : List ℕ) → C a → length c ≤ g.P → Q s → Q (store_record g (ordinal g a) c s)) where
    pub keep_block : (xs : List Address) (c s : List ℕ) → Every C xs → Q s → Q (store_block g xs c s)
    unfolding store_block
    keep_block [] c s h q = q
    keep_block (a ∷ xs) c s h q =
        keep_block xs (drop g.P c) (store_record g (ordinal g a) (take g.P c) s) h.1
        (step a (take g.P c) s h.0 (omega (arith, length-take g.P c)) q)

    pub keep_blocks : (m : ℕ) (cs : List (List ℕ)) (more : List Address) (s : List ℕ) → Every C (take (length cs * m) more) → Q s → Q (store_blocks g m cs more s)
    unfolding store_blocks
    keep_blocks m [] more s h q = q
    keep_blocks m (c ∷ cs) more s h q =
        let e : suc (length cs) * m ≡ m + length cs * m = omega arith in
        let k : Every C (take m more ++ take (length cs * m) (drop m more)) = rw (e, take-add m (length cs * m) more) at h in
        keep_blocks m cs (drop m more) (store_block g (take m more) c s) (every_right C (take m more) _ k)
        (keep_block (take m more) c s (every_left C (take m more) _ k) q)

  -- the length
  module _ (s : List ℕ) (l : WholeImage s) where
    pub block_length_lem : (xs : List Address) (c : List ℕ) → Every (Legal g) xs → WholeImage (store_block g xs c s)
    block_length_lem xs c h =
        keep_block WholeImage (Legal g) (λ a c t la lc lt. store_length a c t la lc lt ∙ lt) xs c s h l

    pub blocks_length : (m : ℕ) (cs : List (List ℕ)) (more : List Address) → Every (Legal g) (take (length cs * m) more)
        → WholeImage (store_blocks g m cs more s)
    blocks_length m cs more h =
        keep_blocks WholeImage (Legal g) (λ a c t la lc lt. store_length a c t la lc lt ∙ lt) m cs more s h l

  -- an offset outside the sectors
  abbrev pub Away : ℕ → Address → Type 0
  Away i a = (legal g a ≡ true) × Outside i (kind_offset g (ordinal g a)) (g.P + 1)

  Unmoved : List ℕ → ℕ → List ℕ → Type 0
  Unmoved s i t = WholeImage t × (get_or t i 0 ≡ get_or s i 0)

  unmoved_step : (s : List ℕ) (i : ℕ) (a : Address) (c t : List ℕ) → Away i a → length c ≤ g.P → Unmoved s i t → Unmoved s i (store_record g (ordinal g a) c t)
  unfolding Unmoved
  unmoved_step s i a c t h lc q = (store_length a c t h.0 lc q.0 ∙ q.0, store_outside a c t h.0 lc q.0 i h.1 ∙ q.1)

  pub blocks_outside : (m : ℕ) (cs : List (List ℕ)) (more : List Address) (s : List ℕ) → WholeImage s → (i : ℕ) → Every (Away i) (take (length cs * m) more)
      → get_or (store_blocks g m cs more s) i 0 ≡ get_or s i 0
  unfolding Unmoved
  blocks_outside m cs more s l i h = (keep_blocks (Unmoved s i) (Away i) (unmoved_step s i) m cs more s h (l, refl)).1

  -- a sector that is none of them
  abbrev pub NotOf : ℕ → Address → Type 0
  NotOf n a = (legal g a ≡ true) × (n ≡ ordinal g a → ⊥)

  Kept : List ℕ → ℕ → List ℕ → Type 0
  Kept s n t = WholeImage t × (sector_at g s n ≡ sector_at g t n)

  kept_step : (s : List ℕ) (n : ℕ) (a : Address) (c t : List ℕ) → NotOf n a → length c ≤ g.P → Kept s n t → Kept s n (store_record g (ordinal g a) c t)
  unfolding Kept
  kept_step s n a c t h lc q = (store_length a c t h.0 lc q.0 ∙ q.0, q.1 ∙ store_other a c t h.0 lc q.0 n h.1)

  module _ (s : List ℕ) (l : WholeImage s) (n : ℕ) where
    pub block_other : (xs : List Address) (c : List ℕ) → Every (NotOf n) xs → sector_at g s n ≡ sector_at g (store_block g xs c s) n
    unfolding Kept
    block_other xs c h = (keep_block (Kept s n) (NotOf n) (kept_step s n) xs c s h (l, refl)).1

    pub blocks_other : (m : ℕ) (cs : List (List ℕ)) (more : List Address) → Every (NotOf n) (take (length cs * m) more)
        → sector_at g s n ≡ sector_at g (store_blocks g m cs more s) n
    unfolding Kept
    blocks_other m cs more h = (keep_blocks (Kept s n) (NotOf n) (kept_step s n) m cs more s h (l, refl)).1

  -- a fact of one sector that every store of a record into it gives, and that the others do not touch
  module _ (n : ℕ) (Q : List ℕ → Type 0)
      (into : (a : Address) (c t : List ℕ) → legal g a ≡ true → length c ≤ g.P → WholeImage t → n ≡ ordinal g a → Q t → Q (store_record g (ordinal g a) c t))
      (past : (t u : List ℕ) → sector_at g t n ≡ sector_at g u n → Q t → Q u) where
    fact_step : (a : Address) (c t : List ℕ) → legal g a ≡ true → length c ≤ g.P → WholeImage t × Q t
        → WholeImage (store_record g (ordinal g a) c t) × Q (store_record g (ordinal g a) c t)
    fact_step a c t la lc q = (
      store_length a c t la lc q.0 ∙ q.0,
      either (eq_or_not n (ordinal g a))
          (λ (e : n ≡ ordinal g a). into a c t la lc q.0 e q.1)
          (λ (ne : n ≡ ordinal g a → ⊥). past t (store_record g (ordinal g a) c t) (store_other a c t la lc q.0 n ne) q.1),
    )

    blocks_fact : (m : ℕ) (cs : List (List ℕ)) (more : List Address) (s : List ℕ) → Every (Legal g) (take (length cs * m) more) → WholeImage s
        → Q s → Q (store_blocks g m cs more s)
    blocks_fact m cs more s h l q = (keep_blocks (λ t. WholeImage t × Q t) (Legal g) fact_step m cs more s h (l, q)).1

  -- the kind stays legal
  pub blocks_legal : (n m : ℕ) (cs : List (List ℕ)) (more : List Address) (s : List ℕ) → Every (Legal g) (take (length cs * m) more) → WholeImage s
      → legal_kind g s n ≡ true → legal_kind g (store_blocks g m cs more s) n ≡ true
  unfolding legal_kind
  blocks_legal n =
      blocks_fact n (λ t. legal_kind g t n ≡ true)
      (λ a c t la lc lt e q. rw (e, store_valid a c t la lc lt))
      (λ t u e q. sym (same_legal_kind g t u n e) ∙ q)

  -- a record that is not wrong stays so
  pub blocks_right : 0 < g.P → (b : Address) (m : ℕ) (cs : List (List ℕ)) (more : List Address) (s : List ℕ)
      → Every (Legal g) (take (length cs * m) more) → WholeImage s → is_wrong g s b ≡ false → is_wrong g (store_blocks g m cs more s) b ≡ false
  unfolding is_wrong
  blocks_right p b =
      blocks_fact (ordinal g b) (λ t. is_wrong g t b ≡ false)
      (λ a c t la lc lt e q. rw (e, store_correct a c t la lc lt))
      (λ t u e q. sym (same_wrong g t u p b e) ∙ q)

  -- good records are stored into, and no record becomes defective or good
  module _ (p : 0 < g.P) (b : Address) where
    Sound : List ℕ → Address → Type 0
    Sound s a = (legal g a ≡ true) × (is_defective g s a ≡ false)

    AsBefore : List ℕ → List ℕ → Type 0
    AsBefore s t = WholeImage t × (is_defective g s b ≡ is_defective g t b)

    defective_step : (s : List ℕ) (a : Address) (c t : List ℕ) → Sound s a → length c ≤ g.P → AsBefore s t → AsBefore s (store_record g (ordinal g a) c t)
    unfolding Sound AsBefore is_defective
    defective_step s a c t h lc q = (
      store_length a c t h.0 lc q.0 ∙ q.0,
      either (eq_or_not (ordinal g b) (ordinal g a))
          (λ (e : ordinal g b ≡ ordinal g a). rw (e, store_correct a c t h.0 lc q.0) h.1)
          (λ (ne : ordinal g b ≡ ordinal g a → ⊥).
          q.1 ∙ same_defect g t (store_record g (ordinal g a) c t) p b (store_other a c t h.0 lc q.0 (ordinal g b) ne)),
    )

    pub blocks_defective : (m : ℕ) (cs : List (List ℕ)) (more : List Address) (s : List ℕ)
        → Every (λ a. (legal g a ≡ true) × (is_defective g s a ≡ false)) (take (length cs * m) more) → WholeImage s
        → is_defective g s b ≡ is_defective g (store_blocks g m cs more s) b
    unfolding Sound AsBefore
    blocks_defective m cs more s h l = (keep_blocks (AsBefore s) (Sound s) (defective_step s) m cs more s h (l, refl)).1
