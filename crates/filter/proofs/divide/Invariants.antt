-- `divide` meets its contract: each weight over the likelihood, place by place.
use Prim.Native.Nat.{◌≤◌}
use mathlib.Core.Path.{◌≡◌}
use Rattle.number.specs.Number.{◌⊘◌}
use Rattle.number.specs.Table.{◌!◌, fill_at}
use Rattle.filter.proofs.divide.Given as goal

abbrev pub invariant-loop-a : goal.invariant-loop-a
invariant-loop-a l = (l.a ≤ l.m) × (l.weights ≡ fill_at 0 (λ i. l.initial.weights ! i ⊘ l.likelihood) l.a l.initial.weights)
