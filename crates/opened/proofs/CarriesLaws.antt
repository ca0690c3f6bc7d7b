-- What a carried file's stage says, and what it carries behind an answer.
-- Assumes nothing.
use Rattle.std.specs.Prelude.{Ok, Err}
use Prim.Native.Nat.{ℕ}
use mathlib.Core.Path.{◌≡◌}
use mathlib.Core.List.{List}
use Rattle.standard.specs.declared.Refusal.{Refusal}
use Rattle.opening.specs.Opened.{Seated, opening_of}
use Rattle.opening.specs.declared.FileNumbers.{FileNumbers}
use Rattle.opening.specs.declared.Seat.{Seat}
use Rattle.opening.proofs.OpenedLaws.{staged_closed, staged_going}
use Rattle.opened.specs.Carries.{Carries}
use Rattle.opened.specs.declared.Carried.{Carried}

pub carries_going : (image : List ℕ) (slot : ℕ) (f : FileNumbers) (s : Seat) → opening_of image slot ≡ Ok f → Seated image f s.block s.at
    → Carries image (record { slot = slot; stage = Ok (record { file = f; seat = s }) })
unfolding Carries
carries_going image slot f s e h = (e, h)

pub closed_of : (image : List ℕ) (c : Carried) (r : Refusal) → Carries image c → c.stage ≡ Err r → opening_of image c.slot ≡ Err r
unfolding Carries
closed_of image c r h e = staged_closed image c.slot c.stage r h e

pub going_of : (image : List ℕ) (c : Carried) (f : FileNumbers) (s : Seat) → Carries image c → c.stage ≡ Ok (record { file = f; seat = s })
    → (opening_of image c.slot ≡ Ok f) × (Seated image f s.block s.at)
unfolding Carries
going_of image c f s h e = staged_going image c.slot c.stage f s h e
