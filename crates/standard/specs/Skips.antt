-- Request 2026-03, "Cylinder skip readable beside the paper": the walk beside the two comparisons of `physical` (Defects). No contract cites it. `Requested` (promises) says
-- that it stops where they say, for every cylinder and every pair of defects that ERMAP lets pass.
-- Assumes nothing.
use Rattle.std.specs.Prelude.{ℕ, zero, suc, ◌+◌, ◌-◌, ◌≤◌, ◌≡◌, Bool, true, cond, not, ◌&&◌, eqb}
use Rattle.standard.specs.Layout.{ordinal_at}
use Rattle.standard.specs.Defects.{present}
use Rattle.standard.specs.declared.Geometry.{Geometry}
use Rattle.standard.specs.declared.Address.{Address}

-- "the code walks cylinders counting good ones": a physical cylinder is good if it is neither d1 nor d2
abbrev pub is_defect : ℕ → ℕ → Bool
is_defect d n = present d && eqb n d

unfoldable pub good_cylinder : Geometry → ℕ → Bool
good_cylinder g n = not (is_defect g.d1 n) && not (is_defect g.d2 n)

-- how many of the physical cylinders 1 to n are good
unfoldable pub good_up_to : Geometry → ℕ → ℕ
good_up_to g zero = 0
good_up_to g (suc n) = cond (good_cylinder g (suc n)) (suc (good_up_to g n)) (good_up_to g n)

-- WHERE A WALK STOPS, however it is written: data cylinder c stands on the c-th good one, counted from physical cylinder 1 upward
abbrev pub StopsAt : Geometry → ℕ → ℕ → Type 0
StopsAt g c n = (1 ≤ n) × (good_cylinder g n ≡ true) × (good_up_to g n ≡ c)

-- THE WALK, cylinder by cylinder: n are behind it, `left` good ones are still to be counted, and it goes over `most` more at most
unfoldable pub walk_on : Geometry → ℕ → ℕ → ℕ → ℕ
walk_on g zero n left = n
walk_on g (suc most) n left = cond (eqb left 0) n (walk_on g most (suc n) (cond (good_cylinder g (suc n)) (left - 1) left))

-- from before cylinder 1 till c good ones are counted; two at most are not good, so it goes over c + 2 at most
unfoldable pub walked : Geometry → ℕ → ℕ
walked g c = walk_on g (c + 2) 0 c

-- the ordinal of the sector that has a data address, by the walk (`ordinal`, in Addresses, goes by the two comparisons)
abbrev pub walked_ordinal : Geometry → Address → ℕ
walked_ordinal g a = ordinal_at g (walked g a.cylinder) a.side a.sector
