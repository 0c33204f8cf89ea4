-- The new variances: all rows summed, then divided block by block.
use Rattle.em_variances.specs.Steps.{RowsSummed}
use Rattle.em_variances.proofs.new_variances.Given as goal

abbrev pub invariant-loop-i : goal.invariant-loop-i
invariant-loop-i l = RowsSummed l.q l.phis l.smoothed l.i l.sums
