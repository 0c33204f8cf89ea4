-- `column_sum`: so far the sum of i entries of column j.
use mathlib.Core.Path.{◌≡◌}
use Prim.Native.Nat.{◌≤◌}
use Rattle.number.specs.Sums.{sum_up}
use Rattle.params.specs.Parameters.{P}
use Rattle.params.proofs.checks.column_sum.Given as goal

abbrev pub invariant-loop-i : goal.invariant-loop-i
invariant-loop-i l = (l.i ≤ l.n) × (l.sum ≡ sum_up (λ m. P l.q m l.j) l.i)
