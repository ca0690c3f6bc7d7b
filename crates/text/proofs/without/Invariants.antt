-- Digit after digit is taken off.
use Prim.Native.Nat.{◌-◌}
use mathlib.Core.Path.{◌≡◌}
use Rattle.text.specs.Laid.{without}
use Rattle.text.proofs.without.Given as goal

abbrev pub invariant-loop : goal.invariant-loop
invariant-loop l = without l.digits l.n ≡ without (l.digits - l.counter) l.m
