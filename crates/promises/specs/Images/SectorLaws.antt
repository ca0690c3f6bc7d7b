-- What is read of a sector is read of its bytes.
-- Assumes nothing.
use Rattle.std.specs.Prelude.{◌≤◌, ℕ, suc, ◌+◌, ◌-◌, ◌<◌, ◌≡◌, refl, true, false, length, take, drop, eqb, ltb}
use Rattle.std.proofs.Math.Path.{sym, ap}
use Rattle.std.proofs.Common.{◌∙◌, get_or-take, get_or-drop, drop-drop, arith, eqb-true, ne_eqb, lt-ltb}
use mathlib.Core.List.{List, [], ◌∷◌}
use Rattle.std.proofs.Math.ListN.{get_or}
use Rattle.std.proofs.Math.Seq.{take-nil}
use Rattle.standard.specs.Layout.{k_at, body_size, kind_offset, body_offset, kind_at, body_at, first_byte, valid_mark, incorrect_mark, check_failed, index_sectors, index_kind, index_body, slot_ordinal, label_offset, label_at}
use Rattle.standard.specs.Judgement.{legal_kind}
use Rattle.standard.specs.declared.Geometry.{Geometry}
use Rattle.promises.specs.Ground.Basics.{cond_elim}
use Rattle.promises.specs.Ground.Splices.{part_same}
use Rattle.promises.specs.Images.Sectors.{sector_at}

start_of : (k o : ℕ) (s : List ℕ) → 0 < k → get_or (take k (drop o s)) 0 0 ≡ get_or s o 0
start_of k o s h =
    let z : o + 0 ≡ o = omega arith in
    get_or-take k (drop o s) 0 0 h ∙ get_or-drop o s 0 0 ∙ ap (λ (i : ℕ). get_or s i 0) z

behind_first : (k : ℕ) (l : List ℕ) → drop 1 (take (suc k) l) ≡ take k (drop 1 l)
behind_first k [] = sym (take-nil k)
behind_first k (x ∷ l) = refl

rest_of : (k o : ℕ) (s : List ℕ) → drop 1 (take (suc k) (drop o s)) ≡ take k (drop (o + 1) s)
rest_of k o s = behind_first k (drop o s) ∙ ap (take k) (drop-drop 1 o s)

body_size_pos : (g : Geometry) (n : ℕ) → 0 < g.P → 0 < body_size g n
unfolding body_size
body_size_pos g n h = cond_elim (λ k. 0 < k) (ltb n (index_sectors g)) (λ _. omega arith) (λ _. h)

-- a sector has one kind
kind_once : (x a b : ℕ) → (a ≡ b → ⊥) → eqb x a ≡ true → eqb x b ≡ false
kind_once x a b ne h = ne_eqb x b (λ (e : x ≡ b). ne (omega (arith, eqb-true x a h)))

module _ (g : Geometry) (image : List ℕ) (n : ℕ) where
  pub valid_correct : valid_mark g image n ≡ true → incorrect_mark g image n ≡ false
  unfolding valid_mark incorrect_mark
  valid_correct h = kind_once (kind_at g image n) (k_at g n) (16 + k_at g n) (λ (e : k_at g n ≡ 16 + k_at g n). omega arith) h

  pub valid_sound : valid_mark g image n ≡ true → check_failed g image n ≡ false
  unfolding valid_mark check_failed
  valid_sound h = kind_once (kind_at g image n) (k_at g n) (32 + k_at g n) (λ (e : k_at g n ≡ 32 + k_at g n). omega arith) h

  pub failed_correct : check_failed g image n ≡ true → incorrect_mark g image n ≡ false
  unfolding check_failed incorrect_mark
  failed_correct h = kind_once (kind_at g image n) (32 + k_at g n) (16 + k_at g n) (λ (e : 32 + k_at g n ≡ 16 + k_at g n). omega arith) h

pub kind_legal : (g : Geometry) (image image' : List ℕ) (n : ℕ) → kind_at g image n ≡ kind_at g image' n → legal_kind g image n ≡ legal_kind g image' n
unfolding legal_kind valid_mark incorrect_mark check_failed
kind_legal g image image' n e = rw e

-- two images with the same bytes in sector n
module _ (g : Geometry) (image image' : List ℕ) (n : ℕ) (e : sector_at g image n ≡ sector_at g image' n) where
  pub same_kind : kind_at g image n ≡ kind_at g image' n
  unfolding kind_at sector_at
  same_kind =
      sym (start_of (suc (body_size g n)) (kind_offset g n) image (omega arith))
      ∙ ap (λ (l : List ℕ). get_or l 0 0) e
      ∙ start_of (suc (body_size g n)) (kind_offset g n) image' (omega arith)

  pub same_body : body_at g image n ≡ body_at g image' n
  unfolding body_at sector_at body_offset
  same_body =
      sym (rest_of (body_size g n) (kind_offset g n) image) ∙ ap (drop 1) e ∙ rest_of (body_size g n) (kind_offset g n) image'

  pub same_first : 0 < g.P → first_byte g image n ≡ first_byte g image' n
  unfolding first_byte body_at
  same_first h =
      sym (start_of (body_size g n) (body_offset g n) image (body_size_pos g n h))
      ∙ ap (λ (l : List ℕ). get_or l 0 0) same_body
      ∙ start_of (body_size g n) (body_offset g n) image' (body_size_pos g n h)

  pub same_valid : valid_mark g image n ≡ valid_mark g image' n
  unfolding valid_mark
  same_valid = rw same_kind

  pub same_incorrect : incorrect_mark g image n ≡ incorrect_mark g image' n
  unfolding incorrect_mark
  same_incorrect = rw same_kind

  pub same_failed : check_failed g image n ≡ check_failed g image' n
  unfolding check_failed
  same_failed = rw same_kind

  pub same_legal_kind : legal_kind g image n ≡ legal_kind g image' n
  same_legal_kind = kind_legal g image image' n same_kind

-- images of one length with the same bytes over a sector's range have the same sector
pub sector_from_bytes : (g : Geometry) (image image' : List ℕ) (n : ℕ) → length image ≡ length image'
    → ((i : ℕ) → kind_offset g n ≤ i → i < kind_offset g n + (1 + body_size g n) → get_or image i 0 ≡ get_or image' i 0) → sector_at g image n ≡ sector_at g image' n
unfolding sector_at
sector_from_bytes g image image' n l h = part_same (kind_offset g n) (suc (body_size g n)) image' image l (λ i a b. h i a (omega arith))

-- sectors of the index cylinder
pub index_kind_lem : (g : Geometry) (image : List ℕ) (sector : ℕ) → sector - 1 < index_sectors g → kind_at g image (sector - 1) ≡ index_kind image sector
unfolding kind_at kind_offset index_kind
index_kind_lem g image sector h = simp (lt-ltb (sector - 1) (index_sectors g) h)

pub index_body_lem : (g : Geometry) (image : List ℕ) (sector : ℕ) → sector - 1 < index_sectors g → body_at g image (sector - 1) ≡ index_body image sector
unfolding body_at body_size body_offset kind_offset index_body
index_body_lem g image sector h = simp (lt-ltb (sector - 1) (index_sectors g) h)

pub slot_body : (g : Geometry) (image : List ℕ) (slot : ℕ) → slot_ordinal slot < index_sectors g → body_at g image (slot_ordinal slot) ≡ label_at g image slot
unfolding body_at body_size label_at label_offset
slot_body g image slot h = simp (lt-ltb (slot_ordinal slot) (index_sectors g) h)
