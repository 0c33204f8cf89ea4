-- `columns`: 14 at the first column whose sum is too far from one, or none.
use mathlib.Core.Path.{◌≡◌}
use Prim.Native.Nat.{◌≤◌}
use Rattle.refusal.specs.Checks.{Passed, each}
use Rattle.params.specs.Checks.{column_check}
use Rattle.params.proofs.checks.columns.Given as goal

abbrev pub invariant-loop-j : goal.invariant-loop-j
invariant-loop-j l = (l.j ≤ l.n) × (each l.j (column_check l.q) ≡ Passed)
