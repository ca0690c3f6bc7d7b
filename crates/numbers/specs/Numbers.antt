-- A volume's numbers: what VOL1 gives, before ERMAP is judged; and what ERMAP adds.
-- Assumes nothing.
use Rattle.std.specs.Prelude.{ℕ, ◌≡◌, refl, List}
use Rattle.standard.specs.Volume.{volume_l, volume_i, volume_d, volume_k, volume_p, volume_s}
use Rattle.standard.specs.Defects.{defect1, defect2}
use Rattle.standard.specs.Judgement.{numbers_in}
use Rattle.standard.specs.declared.Geometry.{Geometry}

-- "81-82 hex L", "83-84 hex I", "85-86 hex D", "89 hex S", "76 space, 1, 2, 3 for P"; no defective cylinder yet
unfoldable pub bare : List ℕ → Geometry
bare v =
    record {
      L = volume_l v;
      I = volume_i v;
      D = volume_d v;
      k = volume_k v;
      P = volume_p v;
      S = volume_s v;
      d1 = 0;
      d2 = 0;
    }

-- "7-9 spaces, or a cylinder d1"; "11-13 spaces, or d2"
unfoldable pub defected : Geometry → List ℕ → Geometry
defected g e =
    record {
      L = g.L;
      I = g.I;
      D = g.D;
      k = g.k;
      P = g.P;
      S = g.S;
      d1 = defect1 e;
      d2 = defect2 e;
    }

-- both together are the volume's numbers
pub numbers_both : (v e : List ℕ) → defected (bare v) e ≡ numbers_in v e
unfolding defected bare numbers_in
numbers_both v e = refl
