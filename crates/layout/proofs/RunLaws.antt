-- Refusal 6 by runs: a walk at equal distances finds the first sector whose kind is none of its three.
-- Assumes nothing.
use Rattle.std.specs.Prelude.{Ok, Err, Some, None}
use Prim.Native.Nat.{ℕ, zero, suc, ◌+◌, ◌-◌, ◌*◌, ◌<◌, ◌≤◌}
use mathlib.Core.Path.{◌≡◌, refl, sym, ap, ◌∙◌}
use mathlib.Core.Bool.{Bool, true, false, cond}
use mathlib.Core.List.{List}
use lib.ListN.{length, get_or}
use lib.Dec.{ltb}
use native.Mathlib.Omega.{arith}
use native.Mathlib.Nat.{add-mul}
use borrow.Author.Tests.{lt-ltb, le-ltb, ltb-true, ltb-false}
use Rattle.standard.specs.Layout.{index_sectors, sector_count, image_length, k_at, kind_offset, kind_at, valid_mark, incorrect_mark, check_failed}
use Rattle.standard.specs.Refusals.{refuse}
use Rattle.standard.specs.Judgement.{legal_kind, kinds_from, refusal6}
use Rattle.standard.specs.declared.Geometry.{Geometry}
use Rattle.promises.specs.Ground.Basics.{by_test, never}
use Rattle.layout.specs.Runs.{kind_of, legal_run, below}
use Rattle.layout.proofs.Laws.{offset_first, offset_later, k_first, k_later}

module _ (image : List ℕ) (size k : ℕ) where
  run_go : (left m at : ℕ) → left ≡ suc m → legal_run image size k left at ≡ cond (kind_of k (get_or image at 0)) (suc (legal_run image size k m (at + size))) 0
  unfolding legal_run
  run_go left m at e = rw e

  run_by : (t : Bool) (left at : ℕ) → 0 < left → kind_of k (get_or image at 0) ≡ t
      → legal_run image size k left at ≡ cond t (suc (legal_run image size k (left - 1) (at + size))) 0
  run_by t left at h e =
      run_go left (left - 1) at (omega arith) ∙ ap (λ (b : Bool). cond b (suc (legal_run image size k (left - 1) (at + size))) 0) e

  run_none : (at : ℕ) → legal_run image size k 0 at ≡ 0
  unfolding legal_run
  run_none at = refl

  -- behind i of n sectors, all of them legal
  module _ (n first i : ℕ) (w : legal_run image size k n first ≡ i + legal_run image size k (n - i) (first + i * size)) where
    turn : (i + 1) * size ≡ i * size + size
    turn = add-mul i 1 size ∙ ap (λ (x : ℕ). i * size + x) (omega arith)

    pub run_on : i < n → kind_of k (get_or image (first + i * size) 0) ≡ true
        → legal_run image size k n first ≡ i + 1 + legal_run image size k (n - (i + 1)) (first + (i + 1) * size)
    run_on h t =
        let r = run_by true (n - i) (first + i * size) (omega (arith, h)) t in
        let e : n - i - 1 ≡ n - (i + 1) = omega arith in
        let f : first + i * size + size ≡ first + (i + 1) * size = omega (arith, turn) in
        w ∙ ap (λ (x : ℕ). i + x) (r ∙ ap (λ (x : ℕ). suc (legal_run image size k x (first + i * size + size))) e ∙ ap (λ (x : ℕ). suc (legal_run image size k (n - (i + 1)) x)) f) ∙ omega arith

    pub run_stops : i < n → kind_of k (get_or image (first + i * size) 0) ≡ false → Some i ≡ below n (legal_run image size k n first)
    unfolding below
    run_stops h t =
        let r : legal_run image size k n first ≡ i = omega (arith, w, run_by false (n - i) (first + i * size) (omega (arith, h)) t) in
        rw (r, lt-ltb i n h)

    pub run_over : n ≤ i → i ≤ n → None ≡ below n (legal_run image size k n first)
    unfolding below
    run_over h l =
        let e : n - i ≡ 0 = omega arith in
        let r : legal_run image size k n first ≡ n = omega (arith, w ∙ ap (λ (x : ℕ). i + legal_run image size k x (first + i * size)) e, run_none (first + i * size)) in
        rw (r, le-ltb n n (omega arith))

-- sectors from `ordinal` on whose kinds stand at `at`, `at + size`, .. and are those of one k
module _ (g : Geometry) (image : List ℕ) (size k : ℕ) where
  abbrev pub Run : ℕ → ℕ → ℕ → Type 0
  Run left at ordinal = (i : ℕ) → i < left → legal_kind g image (ordinal + i) ≡ kind_of k (get_or image (at + i * size) 0)

  run_next : (left at ordinal : ℕ) → Run (suc left) at ordinal → Run left (at + size) (ordinal + 1)
  run_next left at ordinal h i l =
      let e : ordinal + 1 + i ≡ ordinal + suc i = omega arith in
      let f : at + suc i * size ≡ at + size + i * size = omega arith in
      ap (legal_kind g image) e ∙ h (suc i) (omega arith) ∙ ap (λ (n : ℕ). kind_of k (get_or image n 0)) f

  run_here : (left at ordinal : ℕ) → Run (suc left) at ordinal → legal_kind g image ordinal ≡ kind_of k (get_or image at 0)
  run_here left at ordinal h =
      let e : ordinal ≡ ordinal + 0 = omega arith in
      let f : at + 0 * size ≡ at = omega arith in
      ap (legal_kind g image) e ∙ h 0 (omega arith) ∙ ap (λ (n : ℕ). kind_of k (get_or image n 0)) f

  kinds_on : (left rest ordinal : ℕ) → legal_kind g image ordinal ≡ true → kinds_from g image (suc left + rest) ordinal ≡ kinds_from g image (left + rest) (ordinal + 1)
  unfolding kinds_from
  kinds_on left rest ordinal t = let e : suc left + rest ≡ suc (left + rest) = omega arith in rw e (simp t)

  kinds_out : (left rest ordinal : ℕ) → legal_kind g image ordinal ≡ false → kinds_from g image (suc left + rest) ordinal ≡ Err (refuse 6 ordinal)
  unfolding kinds_from
  kinds_out left rest ordinal t = let e : suc left + rest ≡ suc (left + rest) = omega arith in rw e (simp t)

  abbrev found : ℕ → ℕ → ℕ
  found left at = legal_run image size k left at

  found_more : (left at : ℕ) → kind_of k (get_or image at 0) ≡ true → found (suc left) at ≡ suc (found left (at + size))
  unfolding legal_run
  found_more left at t = simp t

  found_here : (left at : ℕ) → kind_of k (get_or image at 0) ≡ false → found (suc left) at ≡ 0
  unfolding legal_run
  found_here left at t = simp t

  found_none : (at : ℕ) → found 0 at ≡ 0
  unfolding legal_run
  found_none at = refl

  -- THE WALK IS THE DEFINITION'S: where it stops inside the run, there is the first sector at fault
  pub run_finds : (left rest at ordinal : ℕ) → Run left at ordinal → found left at < left
      → kinds_from g image (left + rest) ordinal ≡ Err (refuse 6 (ordinal + found left at))
  run_finds zero rest at ordinal h l = absurd (omega (arith, found_none at))
  run_finds (suc left) rest at ordinal h l =
      by_test (kind_of k (get_or image at 0))
      (λ t.
      let f = found_more left at t in
      let e : ordinal + 1 + found left (at + size) ≡ ordinal + found (suc left) at = omega arith in
      kinds_on left rest ordinal (run_here left at ordinal h ∙ t)
      ∙ run_finds left rest (at + size) (ordinal + 1) (run_next left at ordinal h) (omega arith)
      ∙ ap (λ (n : ℕ). Err (refuse 6 n)) e)
      (λ t.
      let e : ordinal ≡ ordinal + found (suc left) at = omega (arith, found_here left at t) in
      kinds_out left rest ordinal (run_here left at ordinal h ∙ t) ∙ ap (λ (n : ℕ). Err (refuse 6 n)) e)

  -- and where it does not, what is left is what stands behind the run
  pub run_passes : (left rest at ordinal : ℕ) → Run left at ordinal → left ≤ found left at
      → kinds_from g image (left + rest) ordinal ≡ kinds_from g image rest (ordinal + left)
  run_passes zero rest at ordinal h l =
      let e : 0 + rest ≡ rest = omega arith in
      let f : ordinal ≡ ordinal + 0 = omega arith in
      ap (λ (n : ℕ). kinds_from g image n ordinal) e ∙ ap (kinds_from g image rest) f
  run_passes (suc left) rest at ordinal h l =
      by_test (kind_of k (get_or image at 0))
      (λ t.
      let f = found_more left at t in
      let e : ordinal + 1 + left ≡ ordinal + suc left = omega arith in
      kinds_on left rest ordinal (run_here left at ordinal h ∙ t)
      ∙ run_passes left rest (at + size) (ordinal + 1) (run_next left at ordinal h) (omega arith)
      ∙ ap (kinds_from g image rest) e)
      (λ t. absurd (omega (arith, found_here left at t)))

-- the two runs of an image: the index cylinder with k = 0, and the cylinders behind it
kind_legal : (g : Geometry) (image : List ℕ) (n k at : ℕ) → k ≡ k_at g n → at ≡ kind_offset g n → legal_kind g image n ≡ kind_of k (get_or image at 0)
unfolding legal_kind valid_mark incorrect_mark check_failed kind_at kind_of
kind_legal g image n k at e f = rw (e, f)

module _ (g : Geometry) (image : List ℕ) where
  abbrev pub later : ℕ
  later = (g.L + 3) * g.S * g.D

  run_first : Run g image 129 0 (index_sectors g) 0 0
  run_first i l = kind_legal g image (0 + i) 0 (0 + i * 129) (k_first g (0 + i) 0 (omega arith) refl) (offset_first g (0 + i) (0 + i * 129) (omega arith) (omega arith))

  run_behind : Run g image (g.P + 1) g.k later (index_sectors g * 129) (index_sectors g)
  run_behind i l =
      let e : index_sectors g + i - index_sectors g ≡ i = omega arith in
      kind_legal g image (index_sectors g + i) g.k (index_sectors g * 129 + i * (g.P + 1))
      (k_later g (index_sectors g + i) g.k (omega arith) refl)
      (offset_later g (index_sectors g + i) (index_sectors g * 129 + i * (g.P + 1)) (omega arith) (rw e))

  pub kinds_first : (i : ℕ) → i ≡ legal_run image 129 0 (index_sectors g) 0 → i < index_sectors g → Err (refuse 6 i) ≡ refusal6 g image
  unfolding sector_count
  kinds_first i e l =
      let f : 0 + legal_run image 129 0 (index_sectors g) 0 ≡ i = omega arith in
      sym (run_finds g image 129 0 (index_sectors g) later 0 0 run_first (omega arith) ∙ ap (λ (n : ℕ). Err (refuse 6 n)) f)

  behind : (i : ℕ) → i ≡ legal_run image 129 0 (index_sectors g) 0 → index_sectors g ≤ i → refusal6 g image ≡ kinds_from g image (later + 0) (index_sectors g)
  unfolding sector_count
  behind i e l =
      let f : later ≡ later + 0 = omega arith in
      let z : 0 + index_sectors g ≡ index_sectors g = omega arith in
      run_passes g image 129 0 (index_sectors g) later 0 0 run_first (omega arith)
      ∙ ap (λ (n : ℕ). kinds_from g image later n) z ∙ ap (λ (n : ℕ). kinds_from g image n (index_sectors g)) f

  abbrev pub found_behind : ℕ
  found_behind = legal_run image (g.P + 1) g.k later (index_sectors g * 129)

  pub kinds_behind : (i j n : ℕ) → i ≡ legal_run image 129 0 (index_sectors g) 0 → index_sectors g ≤ i → j ≡ found_behind → j < later → n ≡ index_sectors g + j
      → Err (refuse 6 n) ≡ refusal6 g image
  kinds_behind i j n e l f m q =
      let z : index_sectors g + found_behind ≡ n = omega arith in
      sym (behind i e l ∙ run_finds g image (g.P + 1) g.k later 0 (index_sectors g * 129) (index_sectors g) run_behind (omega arith)
      ∙ ap (λ (x : ℕ). Err (refuse 6 x)) z)

  pub kinds_none : (i j : ℕ) → i ≡ legal_run image 129 0 (index_sectors g) 0 → index_sectors g ≤ i → j ≡ found_behind → later ≤ j → Ok tt ≡ refusal6 g image
  unfolding kinds_from
  kinds_none i j e l f m =
      sym (behind i e l ∙ run_passes g image (g.P + 1) g.k later 0 (index_sectors g * 129) (index_sectors g) run_behind (omega arith))

-- what is below, and none
pub below_some : (n x i : ℕ) → below n x ≡ Some i → (i ≡ x) × (x < n)
unfolding below
below_some n x i h = go (ltb x n) refl h
  where
    go : (t : Bool) → ltb x n ≡ t → cond t (Some x) None ≡ Some i → (i ≡ x) × (x < n)
    go true e k = (cc, ltb-true x n e)
    go false e k = never (cc)

pub below_none : (n x : ℕ) → below n x ≡ None → n ≤ x
unfolding below
below_none n x h = go (ltb x n) refl h
  where
    go : (t : Bool) → ltb x n ≡ t → cond t (Some x) None ≡ None → n ≤ x
    go true e k = never (cc)
    go false e k = ltb-false x n e

-- as the code has them: n sectors in the index cylinder, m behind it, of p + 1 bytes and with k; i and j are where the walks end
module _ (g : Geometry) (image : List ℕ) (n : ℕ) (en : n ≡ index_sectors g) where
  abbrev found_first : ℕ
  found_first = legal_run image 129 0 n 0

  first_is : found_first ≡ legal_run image 129 0 (index_sectors g) 0
  first_is = ap (λ (x : ℕ). legal_run image 129 0 x 0) en

  pub first_fits : length image ≡ image_length g → 0 + n * 129 ≤ length image
  unfolding image_length
  first_fits h = omega (arith, h, en)

  pub stops_first : (i : ℕ) → Some i ≡ below n found_first → Err (refuse 6 i) ≡ refusal6 g image
  stops_first i e =
      let f = below_some n found_first i (sym e) in
      kinds_first g image i (f.0 ∙ first_is) (omega (arith, f))

  pub passes_first : None ≡ below n found_first → index_sectors g ≤ found_first
  passes_first e = omega (arith, below_none n found_first (sym e), en)

  module _ (m p k : ℕ) (em : m ≡ later g image) (ep : p ≡ g.P) (ek : k ≡ g.k) (whole : length image ≡ image_length g) where
    abbrev behind_them : ℕ
    behind_them = legal_run image (p + 1) k m (n * 129)

    all : n * 129 + m * (p + 1) ≡ length image
    unfolding image_length
    all = rw (en, em, ep) (sym whole)

    pub behind_fits : n * 129 + m * (p + 1) ≤ length image
    behind_fits = omega (arith, all)

    behind_is : behind_them ≡ found_behind g image
    behind_is = rw (en, em, ep, ek)

    pub stops_behind : None ≡ below n found_first → (i : ℕ) → Some i ≡ below m behind_them → Err (refuse 6 (n + i)) ≡ refusal6 g image
    stops_behind f i e =
        let h = below_some m behind_them i (sym e) in
        kinds_behind g image found_first i (n + i) first_is (passes_first f) (h.0 ∙ behind_is) (omega (arith, h, em)) (omega (arith, en))

    pub stops_nowhere : None ≡ below n found_first → None ≡ below m behind_them → Ok tt ≡ refusal6 g image
    stops_nowhere f e = kinds_none g image found_first behind_them first_is (passes_first f) behind_is (omega (arith, below_none m behind_them (sym e), em))
