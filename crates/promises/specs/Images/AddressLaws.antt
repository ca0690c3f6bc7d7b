-- Addresses and sectors: the step, the order, and the map from data addresses to sectors of the image.
-- Assumes nothing.
use Rattle.std.specs.Prelude.{ℕ, suc, ◌+◌, ◌-◌, ◌*◌, ◌/◌, ◌%◌, ◌<◌, ◌≤◌, ◌≡◌, refl, Bool, true, false, cond, ◌&&◌, leb, ltb}
use Rattle.std.proofs.Common.{sym, ap, ◌∙◌, arith, eq-or-lt_of_le, mul-le-mul_right, mod-lt, div-add-mod', div-lt_iff_lt-mul, ltb-true, ltb-false, leb-true, lt-ltb, le-ltb, le-leb, ne_eqb}
use Rattle.std.proofs.Math.Arith.{digits_div, digits_mod}
use Rattle.std.proofs.lemmas.Bool.{lt-leb}
use Rattle.standard.specs.Characters.{between}
use Rattle.standard.specs.Layout.{ordinal_at, index_sectors}
use Rattle.standard.specs.Defects.{present, skip_one, physical}
use Rattle.standard.specs.Addresses.{legal, rank, address_of, address_count, stepped, ordinal}
use Rattle.standard.specs.declared.Geometry.{Geometry}
use Rattle.standard.specs.declared.Address.{Address}
use Rattle.promises.specs.Ground.Basics.{either, lt_or_le, by_test, and_l, and_r}

-- numbers written in two mixed digits
pub mixed_lt : (x s y L S D : ℕ) → x < L → s < S → y < D → (x * S + s) * D + y < L * S * D
mixed_lt x s y L S D hx hs hy =
    let h : x * S + s + 1 ≤ L * S = omega (arith, mul-le-mul_right S hx) in
    omega (arith, mul-le-mul_right D h)

digit_lt : (x x' y y' D : ℕ) → y < D → x * D + y ≡ x' * D + y' → x < x' → ⊥
digit_lt x x' y y' D hy e l = omega (arith, mul-le-mul_right D l)

pub digit_inj : (x x' y y' D : ℕ) → y < D → y' < D → x * D + y ≡ x' * D + y' → x ≡ x'
digit_inj x x' y y' D hy hy' e =
    either (lt_or_le x x')
    (λ (l : x < x'). absurd (digit_lt x x' y y' D hy e l))
    (λ (r : x' ≤ x). either (eq-or-lt_of_le r) (λ (q : x' ≡ x). sym q) (λ (l : x' < x). absurd (digit_lt x' x y' y D hy' (sym e) l)))

abbrev pub Legal : Geometry → Address → Type 0
Legal g a = legal g a ≡ true

-- the parts of a legal address
pub record Parts (g : Geometry) (a : Address) : Type 0 where
  pub cylinder_low : 1 ≤ a.cylinder
  pub cylinder_high : a.cylinder ≤ g.L
  pub side_low : a.side < g.S
  pub sector_low : 1 ≤ a.sector
  pub sector_high : a.sector ≤ g.D

pub parts : (g : Geometry) (a : Address) → legal g a ≡ true → Parts g a
unfolding legal
parts g a h =
    let cs = and_l (between 1 g.L a.cylinder && ltb a.side g.S) _ h in
    let c = and_l (between 1 g.L a.cylinder) _ cs in
    let n = and_r (between 1 g.L a.cylinder && ltb a.side g.S) _ h in
    record {
      cylinder_low = leb-true 1 a.cylinder (and_l (leb 1 a.cylinder) _ c);
      cylinder_high = leb-true a.cylinder g.L (and_r (leb 1 a.cylinder) _ c);
      side_low = ltb-true a.side g.S (and_r (between 1 g.L a.cylinder) _ cs);
      sector_low = leb-true 1 a.sector (and_l (leb 1 a.sector) _ n);
      sector_high = leb-true a.sector g.D (and_r (leb 1 a.sector) _ n);
    }

pub from_parts : (g : Geometry) (a : Address) → Parts g a → legal g a ≡ true
unfolding legal
from_parts g a p =
    simp (
      le-leb 1 a.cylinder p.cylinder_low,
      le-leb a.cylinder g.L p.cylinder_high,
      lt-ltb a.side g.S p.side_low,
      le-leb 1 a.sector p.sector_low,
      le-leb a.sector g.D p.sector_high,
    )

pub rank_lt : (g : Geometry) (a : Address) → legal g a ≡ true → rank g a < address_count g
unfolding rank
rank_lt g a h =
    let p = parts g a h in
    mixed_lt (a.cylinder - 1) a.side (a.sector - 1) g.L g.S g.D (omega arith) p.side_low (omega arith)

-- ---- one defective cylinder d, 0 where there is none: where a number n is to it
-- how many cylinders up to n it takes away: 1 "if d is present and d ≤ n"
abbrev pub taken : ℕ → ℕ → ℕ
taken d n = cond (present d && leb d n) 1 0

pub taken_none : (d n : ℕ) → d ≤ 0 → taken d n ≡ 0
taken_none d n h = simp (le-ltb 0 d h)

pub taken_not : (d n : ℕ) → n < d → taken d n ≡ 0
taken_not d n h = simp (lt-ltb 0 d (omega arith), lt-leb d n h)

pub taken_one : (d n : ℕ) → 0 < d → d ≤ n → taken d n ≡ 1
taken_one d n h l = simp (lt-ltb 0 d h, le-leb d n l)

-- there is none; it is above n; it is not
pub by_place : {C : Type 0} (d n : ℕ) → (taken d n ≡ 0 → d ≤ 0 → C) → (taken d n ≡ 0 → n < d → C) → (taken d n ≡ 1 → 0 < d → d ≤ n → C) → C
by_place d n none above below =
    either (lt_or_le 0 d)
    (λ (h : 0 < d). either (lt_or_le n d) (λ (l : n < d). above (taken_not d n l) l) (λ (r : d ≤ n). below (taken_one d n h r) h r))
    (λ (z : d ≤ 0). none (taken_none d n z) z)

pub skip_adds : (d n : ℕ) → skip_one d n ≡ n + taken d n
unfolding skip_one
skip_adds d n = by_test (present d && leb d n) (λ e. rw e (omega arith)) (λ e. rw e (omega arith))

-- the skip of defective cylinders keeps the order
pub skip_strict : (d c c' : ℕ) → c < c' → skip_one d c < skip_one d c'
skip_strict d c c' l =
    let e = skip_adds d c in
    let e' = skip_adds d c' in
    by_place d c (λ z none. omega arith) (λ z above. omega arith) (λ one h below. omega (arith, taken_one d c' h (omega arith)))

pub skip_low : (d c : ℕ) → c ≤ skip_one d c
skip_low d c = omega (arith, skip_adds d c)

pub skip_high : (d c : ℕ) → skip_one d c ≤ c + 1
skip_high d c = let e = skip_adds d c in by_place d c (λ z none. omega arith) (λ z above. omega arith) (λ one h below. omega arith)

-- "data skip them": none moves onto a defective one
skip_onto : (d c : ℕ) → 0 < d → skip_one d c ≡ d → ⊥
skip_onto d c h q = let e = skip_adds d c in by_place d c (λ z none. omega arith) (λ z above. omega arith) (λ one p below. omega arith)

pub skips_first : (g : Geometry) (c : ℕ) → (0 < g.d2 → g.d1 < g.d2) → 0 < g.d1 → physical g c ≡ g.d1 → ⊥
unfolding physical
skips_first g c later h e =
    let q = skip_one g.d1 c in
    let f = skip_adds g.d2 q in
    by_place g.d2 q
    (λ z none. skip_onto g.d1 c h (omega arith))
    (λ z above. skip_onto g.d1 c h (omega arith))
    (λ one p below. omega (arith, later p))

pub skips_second : (g : Geometry) (c : ℕ) → 0 < g.d2 → physical g c ≡ g.d2 → ⊥
unfolding physical
skips_second g c h e = skip_onto g.d2 (skip_one g.d1 c) h e

pub physical_strict : (g : Geometry) (c c' : ℕ) → c < c' → physical g c < physical g c'
unfolding physical
physical_strict g c c' l = skip_strict g.d2 _ _ (skip_strict g.d1 c c' l)

pub physical_low : (g : Geometry) (c : ℕ) → c ≤ physical g c
unfolding physical
physical_low g c = omega (arith, skip_low g.d1 c, skip_low g.d2 (skip_one g.d1 c))

pub physical_high : (g : Geometry) (c : ℕ) → physical g c ≤ c + 2
unfolding physical
physical_high g c = omega (arith, skip_high g.d1 c, skip_high g.d2 (skip_one g.d1 c))

physical_inj : (g : Geometry) (c c' : ℕ) → physical g c ≡ physical g c' → c ≡ c'
physical_inj g c c' e =
    either (lt_or_le c c')
    (λ (l : c < c'). absurd (omega (arith, physical_strict g c c' l)))
    (λ (r : c' ≤ c). either (eq-or-lt_of_le r) (λ (q : c' ≡ c). sym q) (λ (l : c' < c). absurd (omega (arith, physical_strict g c' c l))))

-- the ordinal of a sector behind the index cylinder
pub ordinal_at_lem : (g : Geometry) (c s n : ℕ) → 1 ≤ c → ordinal_at g c s n ≡ g.S * g.I + ((c - 1) * g.S + s) * g.D + (n - 1)
unfolding ordinal_at
ordinal_at_lem g c s n h = simp (ne_eqb c 0 (λ (z : c ≡ 0). omega arith))

-- a side and a sector on it that a cylinder has
pub record On (g : Geometry) (s n : ℕ) : Type 0 where
  pub side : s < g.S
  pub low : 1 ≤ n
  pub high : n ≤ g.D

-- BEHIND THE INDEX CYLINDER EACH SECTOR HAS ITS OWN ORDINAL
pub sector_inj : (g : Geometry) (c c' s s' n n' : ℕ) → 1 ≤ c → 1 ≤ c' → On g s n → On g s' n' → ordinal_at g c s n ≡ ordinal_at g c' s' n'
    → (c ≡ c') × (s ≡ s') × (n ≡ n')
sector_inj g c c' s s' n n' h h' o o' e =
    let f = sym (ordinal_at_lem g c s n h) ∙ (e ∙ ordinal_at_lem g c' s' n' h') in
    let f' : ((c - 1) * g.S + s) * g.D + (n - 1) ≡ ((c' - 1) * g.S + s') * g.D + (n' - 1) = omega (arith, f) in
    let t = digit_inj ((c - 1) * g.S + s) ((c' - 1) * g.S + s') (n - 1) (n' - 1) g.D (omega (arith, o)) (omega (arith, o')) f' in
    let q = digit_inj (c - 1) (c' - 1) s s' g.S o.side o'.side t in
    (omega (arith, q), omega (arith, t, ap (λ (x : ℕ). x * g.S) q), omega (arith, o, o', f', ap (λ (x : ℕ). x * g.D) t))

-- the ordinal of a data address
pub ordinal_is : (g : Geometry) (a : Address) → legal g a ≡ true
    → ordinal g a ≡ g.S * g.I + ((physical g a.cylinder - 1) * g.S + a.side) * g.D + (a.sector - 1)
unfolding ordinal
ordinal_is g a h = ordinal_at_lem g (physical g a.cylinder) a.side a.sector (omega (arith, physical_low g a.cylinder, (parts g a h).cylinder_low))

pub on_legal : (g : Geometry) (a : Address) → legal g a ≡ true → On g a.side a.sector
on_legal g a h = let p = parts g a h in record { side = p.side_low; low = p.sector_low; high = p.sector_high }

-- A DATA ADDRESS IS IN A SECTOR OF THE IMAGE BEHIND THE INDEX CYLINDER, and not in the last cylinder
pub ordinal_lt : (g : Geometry) (a : Address) → legal g a ≡ true → ordinal g a < index_sectors g + (g.L + 2) * g.S * g.D
ordinal_lt g a h =
    let p = parts g a h in
    let m = mixed_lt (physical g a.cylinder - 1) a.side (a.sector - 1) (g.L + 2) g.S g.D
    (omega (arith, physical_high g a.cylinder)) p.side_low (omega arith) in
    rw (ordinal_is g a h) (omega arith)

pub ordinal_ge : (g : Geometry) (a : Address) → legal g a ≡ true → index_sectors g ≤ ordinal g a
ordinal_ge g a h = rw (ordinal_is g a h) (omega arith)

abbrev pub address : ℕ → ℕ → ℕ → Address
address c s n = record { cylinder = c; side = s; sector = n }

same_address : (c c' s s' n n' : ℕ) → c ≡ c' → s ≡ s' → n ≡ n' → address c s n ≡ address c' s' n'
same_address c c' s s' n n' e f h = cc

pub address_eq : (a b : Address) → a.cylinder ≡ b.cylinder → a.side ≡ b.side → a.sector ≡ b.sector → a ≡ b
address_eq a b c s n = same_address a.cylinder b.cylinder a.side b.side a.sector b.sector c s n

-- TWO DATA ADDRESSES ARE IN TWO SECTORS
pub ordinal_inj : (g : Geometry) (a b : Address) → legal g a ≡ true → legal g b ≡ true → ordinal g a ≡ ordinal g b → a ≡ b
unfolding ordinal
ordinal_inj g a b ha hb e =
    let ca = a.cylinder in
    let cb = b.cylinder in
    let (c, s, n) = sector_inj g (physical g ca) (physical g cb) _ _ _ _
    (omega (arith, physical_low g ca, (parts g a ha).cylinder_low)) (omega (arith, physical_low g cb, (parts g b hb).cylinder_low))
    (on_legal g a ha) (on_legal g b hb) e in
    address_eq a b (physical_inj g ca cb c) s n

-- the step: to the next sector, the next side, or the next cylinder
pub data Step (g : Geometry) (a : Address) : Address → Type 0 where
  sector_on : a.sector < g.D → Step g a (address a.cylinder a.side (a.sector + 1))
  side_on : g.D ≤ a.sector → a.side + 1 < g.S → Step g a (address a.cylinder (a.side + 1) 1)
  cylinder_on : g.D ≤ a.sector → g.S ≤ a.side + 1 → Step g a (address (a.cylinder + 1) 0 1)

pub step_is : (g : Geometry) (a : Address) → legal g a ≡ true → Step g a (stepped g a)
unfolding stepped
step_is g a h = go (ltb a.sector g.D) (ltb (a.side + 1) g.S) refl refl
  where
    go : (t u : Bool) → ltb a.sector g.D ≡ t → ltb (a.side + 1) g.S ≡ u
        → Step g a
        (cond t (address a.cylinder a.side (a.sector + 1))
        (cond u (address a.cylinder (a.side + 1) 1)
        (cond (leb a.cylinder g.L) (address (a.cylinder + 1) 0 1) a)))
    go true u e f = sector_on (ltb-true a.sector g.D e)
    go false true e f = side_on (ltb-false a.sector g.D e) (ltb-true (a.side + 1) g.S f)
    go false false e f =
        rw (le-leb a.cylinder g.L (parts g a h).cylinder_high)
        (cylinder_on (ltb-false a.sector g.D e) (ltb-false (a.side + 1) g.S f))

-- it goes on by one
cylinder_step : (x s n S D : ℕ) → s + 1 ≡ S → n ≡ D → 1 ≤ n → ((x + 1) * S + 0) * D + 0 ≡ suc ((x * S + s) * D + (n - 1))
cylinder_step x s n S D e f l =
    let h : (x + 1) * S ≡ x * S + s + 1 = omega arith in
    omega (arith, ap (λ (y : ℕ). y * D) h)

to_number : (g : Geometry) (a b : Address) → Step g a b → Parts g a → rank g b ≡ suc (rank g a)
unfolding rank
to_number g a b (sector_on l) p = omega (arith, p)
to_number g a b (side_on l m) p = omega (arith, p)
to_number g a b (cylinder_on l m) p =
    let x = a.cylinder - 1 in
    let k = cylinder_step x a.side a.sector g.S g.D (omega (arith, p)) (omega (arith, p)) p.sector_low in
    let c : a.cylinder + 1 - 1 ≡ x + 1 = omega (arith, p) in
    rw c k

pub step_rank : (g : Geometry) (a : Address) → legal g a ≡ true → rank g (stepped g a) ≡ suc (rank g a)
step_rank g a h = to_number g a (stepped g a) (step_is g a h) (parts g a h)

-- it is legal where its cylinder is, and that it is from every address but the last
pub step_parts : (g : Geometry) (a b : Address) → Step g a b → Parts g a → b.cylinder ≤ g.L → Parts g b
step_parts g a b (sector_on l) p k =
    record { cylinder_low = p.cylinder_low; cylinder_high = k; side_low = p.side_low; sector_low = omega arith; sector_high = omega arith }
step_parts g a b (side_on l m) p k =
    record { cylinder_low = p.cylinder_low; cylinder_high = k; side_low = m; sector_low = omega arith; sector_high = omega (arith, p) }
step_parts g a b (cylinder_on l m) p k =
    record { cylinder_low = omega arith; cylinder_high = k; side_low = omega (arith, p); sector_low = omega arith; sector_high = omega (arith, p) }

not_last : (x s n L S D : ℕ) → x < L → s + 1 ≡ S → n ≡ D → 1 ≤ n → suc ((x * S + s) * D + (n - 1)) < L * S * D → x + 1 < L
not_last x s n L S D l e f m h =
    either (lt_or_le (x + 1) L)
    (λ (k : x + 1 < L). k)
    (λ (k : L ≤ x + 1).
    let q : L ≡ x + 1 = omega arith in
    let w = cylinder_step x s n S D e f m in
    absurd (omega (arith, ap (λ (y : ℕ). y * S * D) q)))

cylinder_left : (g : Geometry) (a b : Address) → Step g a b → Parts g a → suc (rank g a) < address_count g → b.cylinder ≤ g.L
unfolding rank
cylinder_left g a b (sector_on l) p h = p.cylinder_high
cylinder_left g a b (side_on l m) p h = p.cylinder_high
cylinder_left g a b (cylinder_on l m) p h =
    omega (arith, p, not_last (a.cylinder - 1) a.side a.sector g.L g.S g.D (omega (arith, p)) (omega (arith, p)) (omega (arith, p)) p.sector_low h)

pub step_legal : (g : Geometry) (a : Address) → legal g a ≡ true → suc (rank g a) < address_count g → legal g (stepped g a) ≡ true
step_legal g a h l =
    let s = step_is g a h in
    let p = parts g a h in
    from_parts g (stepped g a) (step_parts g a (stepped g a) s p (cylinder_left g a (stepped g a) s p l))

-- THE ADDRESS OF A RANK: it has that rank, and it is legal
some_factor : (a b : ℕ) → 0 < a * b → 0 < b
some_factor a b h =
    either (lt_or_le 0 b)
    (λ (l : 0 < b). l)
    (λ (m : b ≤ 0). let z : b ≡ 0 = omega arith in absurd (omega (arith, ap (λ (x : ℕ). a * x) z)))

some_front : (a b : ℕ) → 0 < a * b → 0 < a
some_front a b h =
    either (lt_or_le 0 a)
    (λ (l : 0 < a). l)
    (λ (m : a ≤ 0). let z : a ≡ 0 = omega arith in absurd (omega (arith, ap (λ (x : ℕ). x * b) z)))

pub rank_of : (g : Geometry) (r : ℕ) → rank g (address_of g r) ≡ r
unfolding rank address_of
rank_of g r =
    let q = r / g.D in
    let a : q / g.S + 1 - 1 ≡ q / g.S = omega arith in
    let b : r % g.D + 1 - 1 ≡ r % g.D = omega arith in
    rw (a, b, div-add-mod' q g.S) (div-add-mod' r g.D)

pub legal_of : (g : Geometry) (r : ℕ) → r < address_count g → legal g (address_of g r) ≡ true
unfolding address_of
legal_of g r l =
    let d = some_factor (g.L * g.S) g.D (omega arith) in
    let s = some_factor g.L g.S (some_front (g.L * g.S) g.D (omega arith)) in
    let q : r / g.D < g.L * g.S = (div-lt_iff_lt-mul d).1 l in
    let c : r / g.D / g.S < g.L = (div-lt_iff_lt-mul s).1 q in
    from_parts g (address_of g r)
    (record {
      cylinder_low = omega arith;
      cylinder_high = omega arith;
      side_low = mod-lt (r / g.D) s;
      sector_low = omega arith;
      sector_high = omega (arith, mod-lt r d);
    })

-- and an address is that of its rank
pub of_rank : (g : Geometry) (a : Address) → legal g a ≡ true → address_of g (rank g a) ≡ a
unfolding address_of rank
of_rank g a h =
    let p = parts g a h in
    let c = a.cylinder - 1 in
    let t = c * g.S + a.side in
    let n = a.sector - 1 in
    let low : n < g.D = omega (arith, p.sector_low, p.sector_high) in
    let q = digits_div t low in
    address_eq _ a
    (ap (λ (x : ℕ). x / g.S + 1) q ∙ ap (λ (x : ℕ). x + 1) (digits_div c p.side_low) ∙ back a.cylinder p.cylinder_low)
    (ap (λ (x : ℕ). x % g.S) q ∙ digits_mod c p.side_low)
    (ap (λ (x : ℕ). x + 1) (digits_mod t low) ∙ back a.sector p.sector_low)
  where
    back : (m : ℕ) → 1 ≤ m → m - 1 + 1 ≡ m
    back m h = omega arith
