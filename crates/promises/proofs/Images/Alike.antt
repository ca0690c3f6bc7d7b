-- "Kind 32+k: check failed, body not trusted." What it is for two images to be equal but for the bodies of check-failed sectors, and for positions that are not
-- judged; and what is then the same of a sector.
-- Assumes nothing.
use Rattle.std.specs.Prelude.{ℕ, ◌+◌, ◌<◌, ◌≤◌, ◌≡◌, Bool, true, false, ◌&&◌, ◌⊎◌, List, [], ◌∷◌, length, Result, Ok, ⊤}
use Rattle.std.proofs.Math.Path.{sym}
use Rattle.std.proofs.Common.{◌∙◌, inl, inr}
use borrow.Author.Tests.{eqb-true}
use Rattle.standard.specs.Refusals.{in_order}
use Rattle.standard.specs.Layout.{k_at, sector_count, kind_at, first_byte, valid_mark, incorrect_mark, check_failed, index_kind, index_body, vol1_of}
use Rattle.standard.specs.Judgement.{volume_of, refusal1, refusal2, refusal3, refusal4, refusal5, legal_kind}
use Rattle.standard.specs.declared.Geometry.{Geometry}
use Rattle.promises.specs.Ground.Basics.{by_test, true_not_false}
use Rattle.promises.specs.Images.Sectors.{sector_at}
use Rattle.promises.specs.Images.Unjudged.{Unjudged, SameBut}
use Rattle.standard.specs.declared.Refusal.{Refusal}
use Rattle.promises.specs.Images.SectorLaws.{valid_sound, failed_correct, same_kind, same_first, same_failed, kind_legal}

-- WHAT IS LOOSE, so that two images may differ there: positions of sectors 01 to 07, by the sector; and, or not, the bodies of check-failed sectors
pub record Loose : Type 1 where
  pub positions : ℕ → ℕ → Type 0
  pub bodies : Type 0

-- no rule judges a position that is loose
abbrev pub NoneJudged : Loose → Type 0
NoneJudged loose = (sector p : ℕ) → loose.positions sector p → Unjudged sector p

-- one position of one sector, and no body
abbrev pub Only : ℕ → ℕ → Loose
Only sector p = record { positions = λ s q. (s ≡ sector) × (q ≡ p); bodies = ⊥ }

-- A SECTOR has the same bytes in both images, or it is check-failed in both, and any bytes stand behind its kind.
abbrev pub SameOrFailed : Geometry → List ℕ → List ℕ → ℕ → Type 0
SameOrFailed g image image' n =
    (sector_at g image n ≡ sector_at g image' n) ⊎ ((check_failed g image n ≡ true) × (check_failed g image' n ≡ true))

-- the second only where bodies are loose
abbrev pub SameOrLoose : Loose → Geometry → List ℕ → List ℕ → ℕ → Type 0
SameOrLoose loose g image image' n =
    (sector_at g image n ≡ sector_at g image' n) ⊎ ((check_failed g image n ≡ true) × (check_failed g image' n ≡ true) × loose.bodies)

pub or_failed : (loose : Loose) (g : Geometry) (image image' : List ℕ) (n : ℕ) → SameOrLoose loose g image image' n → SameOrFailed g image image' n
or_failed loose g image image' n (inl e) = inl e
or_failed loose g image image' n (inr f) = inr (f.0, f.1)

-- The same of sectors 01 to 07. They have 129 bytes and k = 0 on every volume, so they are known before its numbers are.
abbrev pub FrontAlike : Loose → List ℕ → List ℕ → ℕ → Type 0
FrontAlike loose image image' sector =
    ((index_kind image sector ≡ index_kind image' sector) × SameBut (loose.positions sector) (index_body image sector) (index_body image' sector))
    ⊎ ((index_kind image sector ≡ 32) × (index_kind image' sector ≡ 32) × loose.bodies)

-- Where the other sectors lie is known if none of the refusals 1 to 5 is given: sectors 05 and 07 can be read, VOL1 is right, the length is the one that it gives.
abbrev pub layout_list : List ℕ → List (Result ⊤ Refusal)
layout_list image =
    refusal1 image
    ∷ refusal2 image
    ∷ refusal3 (vol1_of image)
    ∷ refusal4 (vol1_of image)
    ∷ refusal5 (volume_of image) image
    ∷ []

abbrev pub SectorsKnown : List ℕ → Type 0
SectorsKnown image = in_order (layout_list image) ≡ Ok tt

-- TWO IMAGES, accepted or not, ARE EQUAL BUT FOR WHAT IS LOOSE. (Bytes of which nobody can say in which sector they are may differ too: they are not looked at.)
pub record EqualBut (loose : Loose) (image image' : List ℕ) : Type 0 where
  pub same_length : length image ≡ length image'
  pub front : (sector : ℕ) → 1 ≤ sector → sector ≤ 7 → FrontAlike loose image image' sector
  pub sectors : SectorsKnown image → (n : ℕ) → 7 ≤ n → n < sector_count (volume_of image) → SameOrLoose loose (volume_of image) image image' n

-- equal but for the bodies of check-failed sectors
abbrev pub failed_bodies : Loose
failed_bodies = record { positions = λ sector p. ⊥; bodies = Unit {0} }

pub swap_sector : (loose : Loose) (g : Geometry) (image image' : List ℕ) (n : ℕ) → SameOrLoose loose g image image' n → SameOrLoose loose g image' image n
swap_sector loose g image image' n (inl e) = inl (sym e)
swap_sector loose g image image' n (inr f) = inr (f.1, f.0, f.2)

-- ---- WHAT IS THE SAME: the kind, and all that is read of a body whose mark is trusted
module _ (g : Geometry) (image image' : List ℕ) (n : ℕ) where
  pub alike_kind : SameOrFailed g image image' n → kind_at g image n ≡ kind_at g image' n
  unfolding check_failed
  alike_kind (inl e) = same_kind g image image' n e
  alike_kind (inr f) = eqb-true (kind_at g image n) (32 + k_at g n) f.0 ∙ sym (eqb-true (kind_at g image' n) (32 + k_at g n) f.1)

  pub unfailed_same : SameOrFailed g image image' n → check_failed g image n ≡ false → sector_at g image n ≡ sector_at g image' n
  unfailed_same (inl e) h = e
  unfailed_same (inr f) h = absurd (true_not_false (check_failed g image n) f.0 h)

module _ (g : Geometry) (image image' : List ℕ) (n : ℕ) (s : SameOrFailed g image image' n) where
  pub alike_valid : valid_mark g image n ≡ valid_mark g image' n
  unfolding valid_mark
  alike_valid = rw (alike_kind g image image' n s)

  pub alike_incorrect : incorrect_mark g image n ≡ incorrect_mark g image' n
  unfolding incorrect_mark
  alike_incorrect = rw (alike_kind g image image' n s)

  pub alike_failed : check_failed g image n ≡ check_failed g image' n
  unfolding check_failed
  alike_failed = rw (alike_kind g image image' n s)

  pub alike_legal_kind : legal_kind g image n ≡ legal_kind g image' n
  alike_legal_kind = kind_legal g image image' n (alike_kind g image image' n s)

  pub valid_same : valid_mark g image n ≡ true → sector_at g image n ≡ sector_at g image' n
  valid_same v = unfailed_same g image image' n s (valid_sound g image n v)

  pub incorrect_same : incorrect_mark g image n ≡ true → sector_at g image n ≡ sector_at g image' n
  incorrect_same i =
      unfailed_same g image image' n s
      (by_test (check_failed g image n) (λ f. absurd (true_not_false (incorrect_mark g image n) i (failed_correct g image n f))) (λ f. f))

  -- what the first byte of a sector with the incorrect mark is asked
  pub alike_marked : 0 < g.P → (test : ℕ → Bool)
      → (incorrect_mark g image n && test (first_byte g image n)) ≡ (incorrect_mark g image' n && test (first_byte g image' n))
  alike_marked p test =
      by_test (incorrect_mark g image n)
      (λ (i : incorrect_mark g image n ≡ true).
      rw (alike_incorrect, same_first g image image' n (incorrect_same i) p))
      (λ (i : incorrect_mark g image n ≡ false). rw (i, sym alike_incorrect ∙ i))

-- sectors that are as in two images alike are alike
pub alike_through : (loose : Loose) (g : Geometry) (s s' t t' : List ℕ) (n : ℕ) → sector_at g s n ≡ sector_at g t n → sector_at g s' n ≡ sector_at g t' n
    → SameOrLoose loose g s s' n → SameOrLoose loose g t t' n
alike_through loose g s s' t t' n e e' (inl x) = inl (sym e ∙ x ∙ e')
alike_through loose g s s' t t' n e e' (inr f) = inr (sym (same_failed g s t n e) ∙ f.0, sym (same_failed g s' t' n e') ∙ f.1, f.2)
