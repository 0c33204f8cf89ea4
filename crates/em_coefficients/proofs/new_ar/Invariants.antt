-- The new coefficients: all rows summed, then solved block by block.
use Rattle.em_coefficients.specs.Steps.{RowsSummed}
use Rattle.em_coefficients.proofs.new_ar.Given as goal

abbrev pub invariant-loop-i : goal.invariant-loop-i
invariant-loop-i l = RowsSummed l.q l.variances l.smoothed l.i l.equations
