-- `decimal_in` meets its contract. The invariant: the digits still to come decide, the number so far goes on with them, and it has no more digits than were passed.
use Prim.Native.Nat.{◌<◌, ◌^◌}
use mathlib.Core.Path.{◌≡◌}
use lib.ListN.{drop}
use Rattle.standard.specs.Characters.{digits, number, number_from}
use Rattle.fields.proofs.decimal_in.Given as goal

abbrev pub invariant-loop-b : goal.invariant-loop-b
invariant-loop-b l =
    (l.n < 10 ^ l.b-index) × (digits l.f ≡ digits (drop l.b-index l.f)) × (number l.f ≡ number_from l.n (drop l.b-index l.f))
