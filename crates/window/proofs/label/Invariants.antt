-- `label`: a divided l times by k, and the remainder.
use Prim.Native.Nat.{◌/◌, ◌^◌, ◌≤◌}
use mathlib.Core.Path.{◌≡◌}
use Rattle.window.proofs.label.Given as goal

abbrev pub invariant-loop : goal.invariant-loop
invariant-loop l = (l.counter ≤ l.l) × (l.rest ≡ l.a / l.k ^ l.counter)
