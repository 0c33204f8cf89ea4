-- `weights` meets its contract: 9^15 at most for each group so far.
use Rattle.std.proofs.Common.{◌≤◌, ◌*◌}
use Rattle.msar_start_groups.proofs.sizes.Sizes.weights.Given as goal

abbrev pub invariant-loop-g : goal.invariant-loop-g
invariant-loop-g l = (l.g ≤ l.groups) × (l.passed ≤ 205891132094649 * l.g)
