-- An extent has exactly the addresses from its start to its end, each once; and refusal 11, "extent shares a record with a lower slot's", is not given
-- without such a record.
-- Assumes nothing.
use Rattle.std.specs.Prelude.{ℕ, zero, suc, ◌+◌, ◌-◌, ◌*◌, ◌<◌, ◌≤◌, ◌≡◌, refl, Bool, true, false, ◌&&◌, length, leb, Ok, Err}
use Rattle.std.proofs.Common.{sym, ap, arith, le_refl, eq-or-lt_of_le, leb-true, le-leb}
use mathlib.Core.List.{List, Memᴰ}
use Rattle.standard.specs.Addresses.{legal, rank, stepped}
use Rattle.standard.specs.Labels.{start_of, end_of}
use Rattle.standard.specs.Files.{addresses_from, extent_size, extent}
use Rattle.standard.specs.Free.{in_extent}
use Rattle.standard.specs.Refusals.{refuse}
use Rattle.standard.specs.Layout.{slot_count, label_at}
use Rattle.standard.specs.Slots.{is_label, has_label}
use Rattle.standard.specs.Judgement.{overlap, shares, refusal8to10, refusal11}
use Rattle.standard.specs.declared.Geometry.{Geometry}
use Rattle.standard.specs.declared.Address.{Address}
use Rattle.standard.specs.declared.Refusal.{Refusal}
use Rattle.promises.specs.Ground.Basics.{either, lt_or_le, and_l, and_r}
use Rattle.promises.specs.Images.AddressLaws.{digit_inj, parts, address_eq, rank_lt, step_rank, step_legal}
use Rattle.promises.specs.Volumes.AcceptedLaws.{InRange, fault_none, extent_bounds, bounds_extent, no_overlap}
use Rattle.promises.specs.Volumes.Judging.{slots_each, label_right}
use Rattle.promises.specs.Volumes.VolumePromises.{in_extent_lem}
use Rattle.promises.specs.Refusals.Refusing.{Exactly}
use Rattle.promises.specs.Refusals.PlacesNamed.{place_11}

-- two addresses have two ranks
pub rank_inj : (g : Geometry) (a b : Address) → legal g a ≡ true → legal g b ≡ true → rank g a ≡ rank g b → a ≡ b
unfolding rank
rank_inj g a b ha hb e =
    let p = parts g a ha in
    let q = parts g b hb in
    let ca = a.cylinder - 1 in
    let cb = b.cylinder - 1 in
    let f : (ca * g.S + a.side) * g.D + (a.sector - 1) ≡ (cb * g.S + b.side) * g.D + (b.sector - 1) = e in
    let t = digit_inj (ca * g.S + a.side) (cb * g.S + b.side) (a.sector - 1) (b.sector - 1) g.D (omega (arith, p)) (omega (arith, q)) f in
    let c = digit_inj ca cb a.side b.side g.S p.side_low q.side_low t in
    let cyl : a.cylinder ≡ b.cylinder = omega (arith, c, p.cylinder_low, q.cylinder_low) in
    let sd : a.side ≡ b.side = omega (arith, t, ap (λ (x : ℕ). x * g.S) c) in
    let sc : a.sector ≡ b.sector = omega (arith, f, ap (λ (x : ℕ). x * g.D) t, p.sector_low, q.sector_low) in
    address_eq a b cyl sd sc

pub from_length : (g : Geometry) (left : ℕ) (a : Address) → length (addresses_from g left a) ≡ left
unfolding addresses_from
from_length g zero a = refl
from_length g (suc left) a = ap suc (from_length g left (stepped g a))

-- AS MANY ADDRESSES as from start to end
pub extent_length : (g : Geometry) (h : List ℕ) → length (extent g h) ≡ extent_size g h
unfolding extent
extent_length g h = from_length g (extent_size g h) (start_of h)

from_mem : (g : Geometry) (left : ℕ) (a b : Address) → legal g a ≡ true → legal g b ≡ true → rank g a ≤ rank g b → rank g b < rank g a + left
    → Memᴰ b (addresses_from g left a)
unfolding addresses_from
from_mem g zero a b la lb lo hi = absurd (omega arith)
from_mem g (suc left) a b la lb lo hi =
    either (eq-or-lt_of_le lo)
    (λ (e : rank g a ≡ rank g b). Memᴰ.head (sym (rank_inj g a b la lb e)))
    (λ (l : rank g a < rank g b).
    let s = step_rank g a la in
    let n = rank_lt g b lb in
    Memᴰ.tail (from_mem g left (stepped g a) b (step_legal g a la (omega arith)) lb (omega arith) (omega arith)))

-- EVERY ADDRESS from start to end is one of the extent
pub extent_has : (g : Geometry) (h : List ℕ) (a : Address) → InRange g h → legal g a ≡ true → in_extent g h (rank g a) ≡ true → Memᴰ a (extent g h)
unfolding extent extent_size
extent_has g h a r la i =
    let b = extent_bounds g h (rank g a) i in
    from_mem g (suc (rank g (end_of h)) - rank g (start_of h)) (start_of h) a r.start_legal la b.0 (omega (arith, b.1, r.ordered))

pub extent_exactly : (g : Geometry) (h : List ℕ) (a : Address) → InRange g h
    → Exactly (Memᴰ a (extent g h)) ((legal g a ≡ true) × (in_extent g h (rank g a) ≡ true))
extent_exactly g h a r = ((λ m. in_extent_lem g h a r m), (λ k. extent_has g h a r k.0 k.1))

-- WHERE TWO EXTENTS CLASH, an address is in both
pub clash_shares : (g : Geometry) (h k : List ℕ) → InRange g h → InRange g k → overlap g h k ≡ true
    → (a : Address) × Memᴰ a (extent g h) × Memᴰ a (extent g k)
unfolding overlap
clash_shares g h k r s o =
    let x : rank g (start_of h) ≤ rank g (end_of k) = leb-true (rank g (start_of h)) (rank g (end_of k)) (and_l (leb (rank g (start_of h)) (rank g (end_of k))) _ o) in
    let y : rank g (start_of k) ≤ rank g (end_of h) = leb-true (rank g (start_of k)) (rank g (end_of h)) (and_r (leb (rank g (start_of h)) (rank g (end_of k))) _ o) in
    either (lt_or_le (rank g (start_of h)) (rank g (start_of k)))
    (λ (l : rank g (start_of h) < rank g (start_of k)). (
      start_of k,
      extent_has g h (start_of k) r s.start_legal (bounds_extent g h (rank g (start_of k)) (omega arith) y),
      extent_has g k (start_of k) s s.start_legal (bounds_extent g k (rank g (start_of k)) (le_refl (rank g (start_of k))) s.ordered),
    ))
    (λ (l : rank g (start_of k) ≤ rank g (start_of h)). (
      start_of h,
      extent_has g h (start_of h) r r.start_legal (bounds_extent g h (rank g (start_of h)) (le_refl (rank g (start_of h))) r.ordered),
      extent_has g k (start_of h) s r.start_legal (bounds_extent g k (rank g (start_of h)) l x),
    ))

-- EXACTLY THEN
pub clash_exactly : (g : Geometry) (h k : List ℕ) → InRange g h → InRange g k
    → Exactly (overlap g h k ≡ true) ((a : Address) × Memᴰ a (extent g h) × Memᴰ a (extent g k))
clash_exactly g h k r s = (
  clash_shares g h k r s,
  λ m. go (overlap g h k) refl (rank g m.0) (in_extent_lem g h m.0 r m.1).1 (in_extent_lem g k m.0 s m.2).1,
)
  where
    go : (t : Bool) → overlap g h k ≡ t → (i : ℕ) → in_extent g h i ≡ true → in_extent g k i ≡ true → overlap g h k ≡ true
    go true e i a b = e
    go false e i a b = absurd (no_overlap g h k i e a b)

-- REFUSAL 11 IS GIVEN ONLY WHERE A RECORD IS SHARED, with a lower slot's label. (The labels have passed 10: it comes first.)
pub refused_shares : (g : Geometry) (image : List ℕ) (r : Refusal) → refusal8to10 g image ≡ Ok tt → refusal11 g image ≡ Err r
    → (slot lower : ℕ) × (r ≡ refuse 11 slot) × (lower < slot) × (has_label g image slot ≡ true) × (has_label g image lower ≡ true)
    × (a : Address) × Memᴰ a (extent g (label_at g image slot)) × Memᴰ a (extent g (label_at g image lower))
unfolding shares has_label
refused_shares g image r ok h =
    let x = (place_11 g image r).0 h in
    let s = x.place in
    let l = x.is_so.0.lower in
    let clashes = x.is_so.0.they_clash in
    let both = and_l (is_label g image s && is_label g image l) _ clashes in
    let ls : is_label g image s ≡ true = and_l (is_label g image s) _ both in
    let ll : is_label g image l ≡ true = and_r (is_label g image s) _ both in
    let o : overlap g (label_at g image s) (label_at g image l) ≡ true = and_r (is_label g image s && is_label g image l) _ clashes in
    let s1 : 1 ≤ s = x.low in
    let s2 : s ≤ slot_count g = omega (arith, x.high) in
    let l1 : 1 ≤ l = x.is_so.0.low in
    let lower : l < s = omega (arith, x.is_so.0.high) in
    let rs = fault_none g (label_at g image s) (label_right g image s (slots_each g image ok s s1 s2) ls) in
    let rl = fault_none g (label_at g image l) (label_right g image l (slots_each g image ok l l1 (omega arith)) ll) in
    let m = clash_shares g (label_at g image s) (label_at g image l) rs rl o in (
      s,
      l,
      x.is_so.1,
      lower,
      rw (le-leb 1 s s1, le-leb s (slot_count g) s2, ls),
      rw (le-leb 1 l l1, le-leb l (slot_count g) (omega arith), ll),
      m.0,
      m.1,
      m.2,
    )
