-- What a create is to do, once nothing can be refused any more.
-- Assumes nothing.
use Rattle.std.specs.Prelude.{ℕ, ◌≡◌, List, [], ◌∷◌, Result, Ok, Err, ⊤}
use Rattle.standard.specs.Refusals.{in_order}
use Rattle.standard.specs.Judgement.{judged}
use Rattle.standard.specs.Creating.{refusal28, refusal29, run_start, lowest_run, lowest_deleted, create_refusal}
use Rattle.standard.specs.declared.Geometry.{Geometry}
use Rattle.standard.specs.declared.Refusal.{Refusal}
use Rattle.creating.specs.declared.Plan.{Plan}

-- a refusal, or the slot and the first address's number
abbrev pub plan_or : Result ⊤ Refusal → Geometry → List ℕ → ℕ → Result Plan Refusal
plan_or (Ok _) g image n = Ok (record { slot = lowest_deleted g image; first = run_start (lowest_run g image n) })
plan_or (Err r) g image n = Err r

-- 28 and 29
unfoldable pub room_in : Geometry → List ℕ → ℕ → Result Plan Refusal
room_in g image n = plan_or (in_order (refusal28 g image ∷ refusal29 g image n ∷ [])) g image n

-- all of the list
unfoldable pub plan_in : Geometry → List ℕ → List ℕ → ℕ → Result Plan Refusal
plan_in g image w n = plan_or (create_refusal g image w n) g image n

-- the plan of a create that is accepted
abbrev pub Accepted : Geometry → List ℕ → List ℕ → ℕ → ℕ → ℕ → Type 0
Accepted g image w n slot i =
    (judged image ≡ Ok g) × (create_refusal g image w n ≡ Ok tt) × (slot ≡ lowest_deleted g image) × (i ≡ run_start (lowest_run g image n))
