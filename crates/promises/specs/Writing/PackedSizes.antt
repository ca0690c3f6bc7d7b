-- The sizes of the blocks of S: each has B bytes, and the last B-U.
-- Assumes nothing.
use Rattle.std.specs.Prelude.{ℕ, zero, suc, ◌+◌, ◌-◌, ◌≤◌, ◌<◌, ◌≡◌, refl, Bool, true, false, List, [], ◌∷◌, length, take, drop, leb}
use Rattle.std.proofs.lemmas.List.{length-replicate}
use Rattle.std.proofs.Common.{arith, not-suc-le-zero, le_refl, leb-true, leb-false}
use Rattle.standard.specs.Packing.{Laid, segment, segment_role, spread, least, lay_s}
use Rattle.promises.specs.Ground.Lists.{Every}
use Rattle.promises.specs.Writing.Laying.{SizesOf, sizes_then}
use Rattle.promises.specs.Writing.WritingLaws.{segment_length, goes_on_lem}

spread_size : (B : ℕ) (more : ℕ → Laid) → ((r : ℕ) → r ≤ B → SizesOf B r (more r)) → (n : ℕ) (begun : Bool) (room : ℕ) (body : List ℕ)
    → length body < n → least body ≤ room → room ≤ B → SizesOf B room (spread n B begun room body more)
unfolding spread
spread_size B more k zero begun room body hn hl hr = absurd (not-suc-le-zero hn)
spread_size B more k (suc n) begun room body hn hl hr =
    go (leb (5 + length body) room) refl (λ rest h₁ h₂. spread_size B more k n true B rest h₁ h₂ (le_refl B))
  where
    go : (t : Bool) → leb (5 + length body) room ≡ t → ((rest : List ℕ) → length rest < n → least rest ≤ B → SizesOf B B (spread n B true B rest more))
        → SizesOf B room (spread (suc n) B begun room body more)
    go true q ih =
        let fits : 5 + length body ≤ room = leb-true (5 + length body) room q in
        let l : length (segment (segment_role begun true) body) ≡ 5 + length body = segment_length (segment_role begun true) body in
        rw q (sizes_then B room (5 + length body) (segment (segment_role begun true) body) (more (room - (5 + length body))) l fits (k (room - (5 + length body)) (omega arith)))
    go false q ih =
        let on = goes_on_lem room body (leb-false (5 + length body) room q) hl in
        let l : length (segment (segment_role begun false) (take (room - 5) body)) ≡ 5 + length (take (room - 5) body) = segment_length (segment_role begun false) (take (room - 5) body) in
        rw q (omega arith, ih (drop (room - 5) body) (omega arith) (omega arith))

pub lay_s_size : (B : ℕ) (xs : List (List ℕ)) → Every (λ x. least x ≤ B) xs → (room : ℕ) → room ≤ B → SizesOf B room (lay_s B room xs)
unfolding lay_s
lay_s_size B [] v room h = omega arith
lay_s_size B (x ∷ xs) v room h = go (leb (least x) room) refl (λ r. lay_s_size B xs v.1 r)
  where
    go : (t : Bool) → leb (least x) room ≡ t → ((r : ℕ) → r ≤ B → SizesOf B r (lay_s B r xs)) → SizesOf B room (lay_s B room (x ∷ xs))
    go true q k = rw q (spread_size B (λ r. lay_s B r xs) k (suc (length x)) false room x (le_refl (suc (length x))) (leb-true (least x) room q) h)
    go false q k = rw q (length-replicate room 0, spread_size B (λ r. lay_s B r xs) k (suc (length x)) false B x (le_refl (suc (length x))) v.0 (le_refl B))
