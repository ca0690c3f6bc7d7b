-- The judgement in stages.
-- Assumes nothing.
use Rattle.std.specs.Prelude.{ℕ, List, drop, Result, Ok, Err}
use Rattle.standard.specs.Refusals.{refuse, in_order}
use Rattle.standard.specs.Judgement.{volume_list, verdict}
use Rattle.standard.specs.declared.Geometry.{Geometry}
use Rattle.standard.specs.declared.Refusal.{Refusal}

-- "Volume order is 1 to 12": the judgement behind the first n of its ten stages
unfoldable pub judged_from : ℕ → List ℕ → Geometry → Result Geometry Refusal
judged_from n image g = verdict (in_order (drop n (volume_list image g))) g

-- the refusal of a refused volume
abbrev pub refusal_of : Result Geometry Refusal → Refusal
refusal_of (Err r) = r
refusal_of (Ok g) = refuse 0 0
