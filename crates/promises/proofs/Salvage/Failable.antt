-- Sectors can fail: the image in which the kinds of some sectors are set to "check failed". So what is promised of failed sectors is promised of something.
-- Assumes nothing.
use Rattle.std.specs.Prelude.{ℕ, ◌+◌, ◌<◌, ◌≤◌, ◌≡◌, refl, Bool, true, false, ◌||◌, List, [], ◌∷◌, length, get_or, set, eqb}
use Rattle.std.proofs.Common.{sym, subst, ◌∙◌, length-set, get_or-set_other, get_or-set_same, arith, eqb-true, eq-eqb}
use Rattle.std.proofs.lemmas.Bool.{eqb-false}
use Rattle.standard.specs.Layout.{k_at, body_size, kind_offset, kind_at, check_failed}
use Rattle.standard.specs.declared.Geometry.{Geometry}
use Rattle.promises.specs.Ground.Basics.{either, true_not_false, or_l, or_r}
use Rattle.promises.specs.Ground.Lists.{Every}
use Rattle.promises.specs.Images.Tiling.{sector_outside}
use Rattle.promises.specs.Images.SectorLaws.{same_failed, sector_from_bytes}
use Rattle.promises.specs.Salvage.Failing.{Failed}

-- the kind byte of a sector set to 32 + k; of all sectors in a list
unfoldable pub failed_at : Geometry → ℕ → List ℕ → List ℕ
failed_at g n image = set image (kind_offset g n) (32 + k_at g n)

unfoldable pub failed_in : Geometry → List ℕ → List ℕ → List ℕ
failed_in g [] image = image
failed_in g (n ∷ ns) image = failed_at g n (failed_in g ns image)

unfoldable pub among : List ℕ → ℕ → Bool
among [] n = false
among (m ∷ ms) n = among ms n || eqb m n

one_fails : (g : Geometry) (n : ℕ) (image : List ℕ) → kind_offset g n < length image → Failed g (λ k. eqb n k) image (failed_at g n image)
unfolding failed_at check_failed kind_at
one_fails g n image l =
    record {
      same_length = sym (length-set image (kind_offset g n) (32 + k_at g n));
      others = λ k e.
          sector_from_bytes g image (failed_at g n image) k (sym (length-set image (kind_offset g n) (32 + k_at g n)))
          (λ i lo hi.
          sym (get_or-set_other image (kind_offset g n) i (32 + k_at g n) 0
          (λ (q : i ≡ kind_offset g n).
          either (sector_outside g k n i (λ (z : k ≡ n). eqb-false n k e (sym z)) lo hi)
          (λ (b : i < kind_offset g n). omega arith)
          (λ (b : kind_offset g n + (body_size g n + 1) ≤ i). omega arith))));
      failed = λ k e.
          subst (λ (x : ℕ). eqb (get_or (set image (kind_offset g n) (32 + k_at g n)) (kind_offset g x) 0) (32 + k_at g x) ≡ true) (eqb-true n k e)
          (eq-eqb _ (32 + k_at g n) (get_or-set_same image (kind_offset g n) (32 + k_at g n) 0 l));
    }

-- one failure after another
fails_too : (g : Geometry) (hit hit' : ℕ → Bool) (a b c : List ℕ) → Failed g hit a b → Failed g hit' b c → Failed g (λ n. hit n || hit' n) a c
fails_too g hit hit' a b c f f' =
    record {
      same_length = f.same_length ∙ f'.same_length;
      others = λ n e. f.others n (or_l (hit n) (hit' n) e) ∙ f'.others n (or_r (hit n) (hit' n) e);
      failed = λ n e. go n (hit n) (hit' n) refl refl e;
    }
  where
    go : (n : ℕ) (t u : Bool) → hit n ≡ t → hit' n ≡ u → (t || u) ≡ true → check_failed g c n ≡ true
    go n t true p q e = f'.failed n q
    go n true false p q e = sym (same_failed g b c n (f'.others n q)) ∙ f.failed n p
    go n false false p q e = absurd (true_not_false false e refl)

none_fails : (g : Geometry) (image : List ℕ) → Failed g (λ n. false) image image
none_fails g image = record { same_length = refl; others = λ n e. refl; failed = λ n e. absurd (true_not_false false e refl) }

pub some_fail : (g : Geometry) (ns image : List ℕ) → Every (λ n. kind_offset g n < length image) ns → Failed g (among ns) image (failed_in g ns image)
unfolding failed_in among
some_fail g [] image h = none_fails g image
some_fail g (n ∷ ns) image h =
    let f = some_fail g ns image h.1 in
    let l : kind_offset g n < length (failed_in g ns image) = subst (λ (x : ℕ). kind_offset g n < x) f.same_length h.0 in
    fails_too g (among ns) (λ k. eqb n k) image (failed_in g ns image) (failed_at g n (failed_in g ns image)) f (one_fails g n (failed_in g ns image) l)
