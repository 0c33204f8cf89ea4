-- No more cases are far than there were.
use Rattle.std.proofs.Common.{◌≤◌}
use Rattle.run_order_zero.proofs.main.Given as goal

abbrev pub invariant-loop-cases : goal.invariant-loop-cases
invariant-loop-cases l = (l.far_one ≤ l.cases) × (l.far_two ≤ l.cases)
