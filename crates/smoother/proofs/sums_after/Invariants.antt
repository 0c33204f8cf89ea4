-- `sums_after` meets its contract: the shared sums, one after another.
use Prim.Native.Nat.{◌%◌}
use mathlib.Core.Path.{◌≡◌}
use Rattle.number.specs.Table.{fill_at}
use Rattle.smoother.specs.Steps.{shared_sum}
use Rattle.smoother.proofs.sums_after.Given as goal

abbrev pub invariant-loop-c : goal.invariant-loop-c
invariant-loop-c l = (l.s ≡ l.c % l.k) × (l.sums ≡ fill_at 0 (shared_sum l.k l.shared.stride l.transition l.smoothed l.predicted) l.c l.initial.sums)
