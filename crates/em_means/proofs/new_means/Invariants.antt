-- The new means: all rows summed.
use Rattle.em_means.specs.Steps.{RowsSummed}
use Rattle.em_means.proofs.new_means.Given as goal

abbrev pub invariant-loop-i : goal.invariant-loop-i
invariant-loop-i l = RowsSummed l.smoothed l.phis l.variances l.i l.equations
