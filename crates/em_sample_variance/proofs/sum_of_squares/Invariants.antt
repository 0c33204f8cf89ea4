-- The squares about the mean, summed reading by reading.
use mathlib.Core.Path.{◌≡◌}
use Rattle.em_sample_variance.specs.Series.{square_at}
use Rattle.number.specs.Sums.{sum_up}
use Rattle.em_sample_variance.proofs.sum_of_squares.Given as goal

abbrev pub invariant-loop-x : goal.invariant-loop-x
invariant-loop-x l = l.acc ≡ sum_up (square_at l.y l.mean) l.x-index
