-- `number_in` meets its contract. The invariant: the number so far goes on with the characters still to come, and its bound holds of any bytes.
use Prim.Native.Nat.{◌+◌, ◌*◌, ◌≤◌, ◌^◌}
use mathlib.Core.Path.{◌≡◌}
use lib.ListN.{drop}
use Rattle.standard.specs.Characters.{number, number_from}
use Rattle.fields.proofs.number_in.Given as goal

abbrev pub invariant-loop-c : goal.invariant-loop-c
invariant-loop-c l =
    (l.n + 29 ≤ 29 * 10 ^ l.c-index) × (number l.f ≡ number_from l.n (drop l.c-index l.f))
