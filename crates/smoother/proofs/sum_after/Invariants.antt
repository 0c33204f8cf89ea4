-- `sum_after` meets its contract: the sum over the successors, one term further at each turn.
use mathlib.Core.Path.{◌≡◌}
use Rattle.number.specs.Sums.{sum_where}
use Rattle.smoother.specs.Steps.{seen_at, term_at}
use Rattle.smoother.proofs.sum_after.Given as goal

abbrev pub invariant-loop-r : goal.invariant-loop-r
invariant-loop-r l = l.acc ≡ sum_where (seen_at l.predicted l.base) (term_at l.k l.transition l.smoothed l.predicted l.base l.s) l.r
